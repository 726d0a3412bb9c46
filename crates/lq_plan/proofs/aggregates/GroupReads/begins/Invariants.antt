use Rattle.std.proofs.Common.{◌≡◌, take}
use Rattle.lq_plan.specs.Aggregates.{begins_in}
use Rattle.lq_plan.proofs.aggregates.GroupReads.begins.Given as goal

-- the tallies so far, as they begin
abbrev pub invariant-loop-tally : goal.invariant-loop-tally
invariant-loop-tally l = l.begins ≡ begins_in (take l.tally-index l.tally-items)
