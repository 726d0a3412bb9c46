use Rattle.std.proofs.Common.{◌∷◌, ◌++◌, []}
use Rattle.lq_plan.specs.Slots.{values_in}
use Rattle.lq_plan.proofs.SlotLaws.{one_behind}
use Rattle.lq_plan.proofs.sources.Sources.lambda_behind.Goals as goal

pub returns-clause-cell : goal.returns-clause-cell
returns-clause-cell g c = λ v. c.lambda_past.ensures.cell (values_in c.args.slots.now ++ v ∷ []) (one_behind (values_in c.args.slots.now) v)
