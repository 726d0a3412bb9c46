use Rattle.std.proofs.Common.{◌∙◌, sym}
use Rattle.lq_plan.specs.Plans.{world}
use Rattle.lq_plan.proofs.PreparedLemmas.{next_item}
use Rattle.lq_plan.proofs.sources.Sources.is_item_behind.Goals as goal

pub returns-in-Slot : goal.returns-in-Slot
returns-in-Slot g c = λ values so_many next.
    next_item g.R.TableRow.table_of g.R.RowRef.shown values (world c.args.self.now) c.args.of.now c.in-Slot.slot c.in-Slot.is (c.is_behind.ensures next ∙ sym so_many)
