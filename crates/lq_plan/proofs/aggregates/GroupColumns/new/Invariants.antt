use Rattle.std.proofs.Common.{◌≡◌, ◌≤◌, Some, take}
use Rattle.lq_plan.specs.Aggregates.{AreColumnsOf}
use Rattle.lq_plan.proofs.aggregates.GroupColumns.new.Given as goal

-- the columns of the key and of the tallies so far
abbrev pub invariant-loop-tally : goal.invariant-loop-tally
invariant-loop-tally l =
    record {
      table : l.fn.key.table ≡ l.columns.table;
      key : l.fn.key.place ≡ Some l.columns.key;
      most : l.columns.key ≤ l.columns.most;
      tallies : AreColumnsOf l.columns.table l.columns.most (take l.tally-index l.tallies) l.columns.places.items;
    }
