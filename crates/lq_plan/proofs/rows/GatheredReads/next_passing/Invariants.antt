use Rattle.std.proofs.Common.{length}
use Rattle.lq_guard.specs.Handing.{Drops}
use Rattle.lq_plan.specs.Gathering.{gathered}
use Rattle.lq_plan.specs.PlannedRows.{row_verdict}
use Rattle.lq_plan.proofs.rows.GatheredReads.next_passing.Given as goal

-- the rows that are left are those behind dropped ones, which are counted
abbrev pub invariant-loop-row : goal.invariant-loop-row
invariant-loop-row g l =
    Drops (row_verdict g.R.TableRow.table_of g.R.RowRef.shown l.fn.plan) (gathered l.fn.self) l.fn.handed (gathered l.self) l.handed

abbrev pub decreases-loop-row : goal.decreases-loop-row
decreases-loop-row g l = length (gathered l.self)
