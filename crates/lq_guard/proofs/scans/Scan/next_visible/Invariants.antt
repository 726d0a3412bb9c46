use Rattle.std.proofs.Common.{◌≡◌, length}
use Rattle.lq_guard.specs.SeenRows.{rows_left}
use Rattle.lq_guard.proofs.scans.Scan.next_visible.Given as goal

-- what is left of the rows is what was left before
abbrev pub invariant-loop-self : goal.invariant-loop-self
invariant-loop-self l = rows_left l.self ≡ rows_left l.fn.self

abbrev pub decreases-loop-self : goal.decreases-loop-self
decreases-loop-self l = length l.self.rows.now
