use Rattle.std.proofs.Common.{◌≡◌, length}
use Rattle.lq_plan.specs.Pipes.{items_left}
use Rattle.lq_plan.specs.PlannedRows.{kept_stream}
use Rattle.lq_plan.specs.Slots.{values_in}
use Rattle.lq_pipe.specs.Runs.{HasTaken, world}
use Rattle.lq_pipe.proofs.running.Running.next_in_place.Given as goal

-- What is left is what was left, the log has grown by calls about what was taken, and fewer items are to come.
abbrev pub invariant-loop-row : goal.invariant-loop-row
invariant-loop-row g l =
    record {
      meant : items_left (world l.fn.self) (values_in l.fn.slots) l.fn.pipe l.base ≡ items_left (world l.fn.self) (values_in l.fn.slots) l.fn.pipe l.fn.base;
      pulled : HasTaken l.fn.self l.fn.slots l.fn.pipe l.fn.base l.fn.log l.base l.log;
    }

abbrev pub decreases-loop-row : goal.decreases-loop-row
decreases-loop-row g l = length (kept_stream g.R.TableRow.table_of g.R.RowRef.shown l.fn.pipe.plan l.base).0
