-- The tables and host predicates are those of the sources, and nothing is in the slots.
use Rattle.std.proofs.Common.{List, [], IfOk, subst, sym}
use Rattle.lq_value.specs.declared.value.Value.{Value}
use Rattle.lq_language.specs.Worlds.{World}
use Rattle.lq_tree.specs.Watches.{HasPulled}
use Rattle.lq_plan.specs.Handing.{handed_out, rows_to_come}
use Rattle.lq_plan.specs.Pipes.{items_left}
use Rattle.lq_plan.specs.PlannedRows.{kept_stream}
use Rattle.lq_plan.specs.Plans as plans
use Rattle.lq_plan.specs.Prepared as prepared
use Rattle.lq_plan.specs.Watching.{facts_of, is_covered_pipe}
use Rattle.lq_plan.specs.declared.slots.Slots.TheVariants as slots
use Rattle.lq_plan.proofs.SlotLaws.{no_values}
use Rattle.lq_pipe.specs.Handing.{HandsAtMost, HandsUpTo}
use Rattle.lq_pipe.specs.Steps.{Steps}
use Rattle.lq_pipe.proofs.pulls.next_item.Goals as goal

pub next-requires : goal.next-requires
next-requires g c =
    subst (λ (vs : List (Value _)). prepared.IsPlanned g.R.TableRow.table_of g.R.RowRef.shown (plans.world c.new-sources.result) vs c.args.pipe.now.stage c.args.pipe.now.source.now c.args.pipe.now.plan)
    (sym no_values)
    (subst (λ (w : World _). prepared.IsPlanned g.R.TableRow.table_of g.R.RowRef.shown w [] c.args.pipe.now.stage c.args.pipe.now.source.now c.args.pipe.now.plan)
    (sym c.new-sources.ensures) c.requires.planned)

pub returns-clause-meant : goal.returns-clause-meant
returns-clause-meant g c =
    subst (λ (w : World _). IfOk c.next.result (λ step. Steps (items_left w [] c.args.pipe.now c.args.base.now) step (items_left w [] c.args.pipe.now c.next.new.base)))
    c.new-sources.ensures
    (subst (λ (vs : List (Value _)). IfOk c.next.result (λ step. Steps (items_left (plans.world c.new-sources.result) vs c.args.pipe.now c.args.base.now) step (items_left (plans.world c.new-sources.result) vs c.args.pipe.now c.next.new.base)))
    no_values c.next.ensures.meant)

pub returns-clause-calls : goal.returns-clause-calls
returns-clause-calls g c =
    let facts = facts_of g.R.TableRow.table_of g.R.TableRow.number_of g.R.RowRef.shown in
    let kept_before = (kept_stream g.R.TableRow.table_of g.R.RowRef.shown c.args.pipe.now.plan c.args.base.now).0 in
    let kept_after = (kept_stream g.R.TableRow.table_of g.R.RowRef.shown c.args.pipe.now.plan c.next.new.base).0 in
    subst (λ (w : World _). HasPulled w facts (λ watch. is_covered_pipe w watch [] c.args.pipe.now) kept_before c.args.log.now kept_after c.next.new.log)
    c.new-sources.ensures
    (subst (λ (vs : List (Value _)). HasPulled (plans.world c.new-sources.result) facts (λ watch. is_covered_pipe (plans.world c.new-sources.result) watch vs c.args.pipe.now) kept_before c.args.log.now kept_after c.next.new.log)
    no_values c.next.ensures.pulled)

pub returns-clause-hands : goal.returns-clause-hands
returns-clause-hands g c =
    subst (λ (w : World _). IfOk c.next.result (λ step. HandsUpTo w [] c.args.pipe.now (rows_to_come c.args.base.now) (handed_out c.args.base.now) step (rows_to_come c.next.new.base) (handed_out c.next.new.base)))
    c.new-sources.ensures
    (subst (λ (vs : List (Value _)). IfOk c.next.result (λ step. HandsUpTo (plans.world c.new-sources.result) vs c.args.pipe.now (rows_to_come c.args.base.now) (handed_out c.args.base.now) step (rows_to_come c.next.new.base) (handed_out c.next.new.base)))
    no_values c.next.ensures.hands)

pub returns-clause-within : goal.returns-clause-within
returns-clause-within g c =
    subst (λ (w : World _). HandsAtMost w [] c.args.pipe.now (rows_to_come c.args.base.now) (handed_out c.args.base.now) (rows_to_come c.next.new.base) (handed_out c.next.new.base))
    c.new-sources.ensures
    (subst (λ (vs : List (Value _)). HandsAtMost (plans.world c.new-sources.result) vs c.args.pipe.now (rows_to_come c.args.base.now) (handed_out c.args.base.now) (rows_to_come c.next.new.base) (handed_out c.next.new.base))
    no_values c.next.ensures.within)
