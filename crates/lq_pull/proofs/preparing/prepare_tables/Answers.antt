use Rattle.std.proofs.Common.{arith}
use Rattle.lq_pull.specs.Views.{sight_of}
use Rattle.lq_pull.proofs.PreparingLemmas.{longer_by_one, prepared_more}
use Rattle.lq_pull.proofs.preparing.prepare_tables.Goals as goal

pub loop-table-preserved : goal.loop-table-preserved
loop-table-preserved c = (
  prepared_more (sight_of c.args.view.now) c.loop-table.table c.loop-table.all.items c.push.new.self.items _ c.loop-table.invariant.0 c.loop-table.invariant.1
      c.in_ok-push.ensures.items c.in_ok-prepare.ensures,
  longer_by_one c.loop-table.table c.loop-table.all.items c.push.new.self.items _ c.loop-table.invariant.1 c.in_ok-push.ensures.items,
  omega (arith, c.loop-table-test.true, c.len-in-loop-table.ensures.value),
)

pub returns-clause-many : goal.returns-clause-many
returns-clause-many c =
    omega (arith, c.loop-table-test.false, c.len-in-loop-table.ensures.value, c.loop-table.invariant.1, c.loop-table.invariant.2)
