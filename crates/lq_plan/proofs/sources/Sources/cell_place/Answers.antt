use Rattle.lq_plan.specs.Slots.{values_in}
use Rattle.lq_plan.proofs.SlotLaws.{none_more}
use Rattle.lq_plan.proofs.sources.Sources.cell_place.Goals as goal

pub returns : goal.returns
returns g c = c.cell_place_behind.ensures (values_in c.args.slots.now) (none_more (values_in c.args.slots.now))
