use Rattle.std.proofs.Common.{length}
use Rattle.lq_guard.specs.Handing.{Drops}
use Rattle.lq_guard.specs.SeenRows.{cells_of, rows_left}
use Rattle.lq_guard.proofs.scans.Scan.find_passing.Given as goal

-- the rows that are left are those behind dropped ones, which are counted
abbrev pub invariant-loop-row : goal.invariant-loop-row
invariant-loop-row g l =
    Drops (λ row. g.T.RowTest.verdict_of l.fn.test (cells_of row)) (rows_left l.fn.self) l.fn.handed (rows_left l.self) l.handed

abbrev pub decreases-loop-row : goal.decreases-loop-row
decreases-loop-row g l = length (rows_left l.self)
