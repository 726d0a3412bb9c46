-- What is handed out for an item is what was needed for it.
use Rattle.std.proofs.Common.{List, subst}
use Rattle.lq_value.specs.declared.value.Value.{Value}
use Rattle.lq_plan.specs.Plans.{world}
use Rattle.lq_plan.specs.Prepared as prepared
use Rattle.lq_plan.specs.Watching.{facts}
use Rattle.lq_plan.proofs.SlotLaws.{no_values}
use Rattle.lq_pipeline.proofs.ReadingLemmas.{takes}
use Rattle.lq_pipeline.proofs.reading.pull.Goals as goal

pub next_item-requires-clause-planned : goal.next_item-requires-clause-planned
next_item-requires-clause-planned g c =
    subst (λ (vs : List (Value _)). prepared.IsPlanned g.R.TableRow.table_of g.R.RowRef.shown (world c.args.sources.now) vs c.args.pipe.now.stage c.args.pipe.now.source.now c.args.pipe.now.plan)
    no_values c.requires.planned

pub returns-clause-takes : goal.returns-clause-takes
returns-clause-takes g c =
    takes (world c.args.sources.now) (facts c.args.sources.now) c.args.pipe.now g.R.TableRow.table_of g.R.RowRef.shown c.args.base.now c.next_item.new.base c.requires.rows
    (c.next_item.ensures.alone c.requires.rows) c.args.log.now c.next_item.new.log c.next_item.result c.next_item.ensures.calls c.next_item.ensures.hands c.next_item.ensures.within
