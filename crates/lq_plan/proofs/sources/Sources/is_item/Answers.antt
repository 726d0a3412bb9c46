use Rattle.lq_plan.specs.Slots.{values_in}
use Rattle.lq_plan.proofs.SlotLaws.{none_more}
use Rattle.lq_plan.proofs.sources.Sources.is_item.Goals as goal

pub returns : goal.returns
returns g c = c.is_item_behind.ensures (values_in c.args.slots.now) (none_more (values_in c.args.slots.now))
