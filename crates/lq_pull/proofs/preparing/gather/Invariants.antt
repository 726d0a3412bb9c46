use Rattle.std.proofs.Common.{◌≡◌, ◌++◌, length}
use Rattle.lq_guard.specs.SeenRows.{rows_left}
use Rattle.lq_pull.proofs.preparing.gather.Given as goal

-- the rows so far, with those that are left
abbrev pub invariant-loop-row : goal.invariant-loop-row
invariant-loop-row l = l.rows.items ++ rows_left l.scan ≡ rows_left l.fn.scan

abbrev pub decreases-loop-row : goal.decreases-loop-row
decreases-loop-row l = length (rows_left l.scan)
