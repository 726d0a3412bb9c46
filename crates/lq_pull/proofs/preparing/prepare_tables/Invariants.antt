use Rattle.std.proofs.Common.{◌≡◌, ◌≤◌, ◌-◌, length}
use Rattle.lq_pull.specs.Readers.{ArePrepared}
use Rattle.lq_pull.specs.Views.{sight_of}
use Rattle.lq_pull.proofs.preparing.prepare_tables.Given as goal

-- so many tables are prepared
abbrev pub invariant-loop-table : goal.invariant-loop-table
invariant-loop-table l = ArePrepared (sight_of l.fn.view) l.all.items × (length l.all.items ≡ l.table) × (l.table ≤ length l.fn.view.store.now)

abbrev pub decreases-loop-table : goal.decreases-loop-table
decreases-loop-table l = length l.fn.view.store.now - l.table
