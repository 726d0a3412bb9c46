-- A row that fails is dropped behind the others.
use Rattle.std.proofs.Common.{◌≡◌, false, Some, rules}
use Rattle.lq_guard.proofs.HandingLaws.{drops_more}
use Rattle.lq_guard.proofs.scans.Scan.find_passing.Goals as goal

pub loop-row-preserved : goal.loop-row-preserved
loop-row-preserved g c =
    let fails : g.T.RowTest.verdict_of c.args.test.now c.in-Some.row.now.cells ≡ Some false = search rules in
    drops_more _ _ _ _ _ _ _ _ c.loop-row.invariant c.in-Some.ensures.rows c.saturating_add.ensures fails
