use Rattle.std.proofs.Common.{subst}
use Rattle.lq_plan.specs.Prepared.{Decides}
use Rattle.lq_plan.specs.Plans.{world}
use Rattle.lq_plan.proofs.SlotLaws.{no_values}
use Rattle.lq_plan.proofs.sources.Sources.plan_rows.Goals as goal

pub returns : goal.returns
returns g c =
    let w = world c.args.self.now in
    subst (λ vs. Decides g.R.TableRow.table_of g.R.RowRef.shown w vs c.args.table c.args.condition.now c.in_ok-condition.condition) no_values c.in_ok-condition.ensures
