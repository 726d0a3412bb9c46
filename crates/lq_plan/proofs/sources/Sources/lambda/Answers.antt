use Rattle.lq_plan.specs.Slots.{values_in}
use Rattle.lq_plan.proofs.SlotLaws.{none_more}
use Rattle.lq_plan.proofs.sources.Sources.lambda.Goals as goal

pub returns-clause-cell : goal.returns-clause-cell
returns-clause-cell g c = c.lambda_past.ensures.cell (values_in c.args.slots.now) (none_more (values_in c.args.slots.now))
