use Rattle.std.proofs.Common.{◌≡◌, [], IfErr, IfOk, Ok, Err, ap, refl, subst, sym, true, ◌∙◌}
use Rattle.lq_language.specs.Enumerable.{in_front}
use Rattle.lq_language.specs.Stream.{Stream, one}
use Rattle.lq_tree.specs.Watches.{is_covered}
use Rattle.lq_tree.proofs.LogLaws.{pulled_more, pulled_none, pulled_over}
use Rattle.lq_tree.proofs.WatchedValueLaws.{row_passes}
use Rattle.lq_plan.specs.PlannedRows.{IsPulled, kept_stream, pulled_value}
use Rattle.lq_plan.specs.Pulling.{outcome_stream}
use Rattle.lq_plan.specs.Slots.{values_in}
use Rattle.lq_plan.specs.Watching.{facts, is_covered_pipe}
use Rattle.lq_plan.proofs.PlanLaws.{row_says}
use Rattle.lq_plan.proofs.WatchLaws.{slots_pass, source_covered, stage_covered}
use Rattle.lq_pipe.specs.Runs.{world}
use Rattle.lq_pipe.specs.Steps.{GivesStep}
use Rattle.lq_pipe.proofs.PullLaws.{comes, next_dropped, next_ended, next_fault, next_given, next_item, pulled}
use Rattle.lq_value.specs.declared.value.Value.{Value}
use Rattle.lq_value.specs.declared.value.Value.TheVariants as value
use Rattle.lq_pipe.proofs.running.Running.next_in_place.Goals as goal

pub returns-in-Ok-Row-clause-meant : goal.returns-in-Ok-Row-clause-meant
returns-in-Ok-Row-clause-meant g c =
    next_given g.R.TableRow.table_of g.R.RowRef.shown (world c.args.self.now) (values_in c.args.slots.now) c.args.pipe.now c.args.base.now c.loop-row.base c.pull.new.self (value.Row c.in-Ok-Row.row) c.pass_row.result c.requires c.loop-row.invariant.meant
    (subst (λ r. IfOk r (λ p. (kept_stream g.R.TableRow.table_of g.R.RowRef.shown c.args.pipe.now.plan c.loop-row.base) ≡ in_front (pulled_value p) (kept_stream g.R.TableRow.table_of g.R.RowRef.shown c.args.pipe.now.plan c.pull.new.self))) (c.in-Ok-Row.is ∙ ap (λ p. Ok p) c.in-Ok-Row.field-0-is) c.pull.ensures.item)
    (subst (λ (s : Stream (Value _)). IfOk c.pass_row.result (GivesStep s)) (sym (row_says g.R.TableRow.table_of g.R.RowRef.shown (world c.args.self.now) (values_in c.args.slots.now) c.args.pipe.now.stage c.args.pipe.now.source.now c.args.pipe.now.plan c.requires c.in-Ok-Row.row true (subst (λ r. IfOk r (IsPulled g.R.TableRow.table_of g.R.RowRef.shown c.args.pipe.now.plan)) (c.in-Ok-Row.is ∙ ap (λ p. Ok p) c.in-Ok-Row.field-0-is) c.pull.ensures.planned))) c.pass_row.ensures.meant)

pub returns-in-Ok-Row-clause-pulled : goal.returns-in-Ok-Row-clause-pulled
returns-in-Ok-Row-clause-pulled g c =
    pulled_more (world c.args.self.now) (facts c.args.self.now.sources) (λ w. is_covered_pipe (world c.args.self.now) w (values_in c.args.slots.now) c.args.pipe.now) _ (kept_stream g.R.TableRow.table_of g.R.RowRef.shown c.args.pipe.now.plan c.loop-row.base) (kept_stream g.R.TableRow.table_of g.R.RowRef.shown c.args.pipe.now.plan c.pull.new.self) _ _ _ (value.Row c.in-Ok-Row.row)
    c.loop-row.invariant.pulled
    (subst (λ r. IfOk r (λ p. (kept_stream g.R.TableRow.table_of g.R.RowRef.shown c.args.pipe.now.plan c.loop-row.base) ≡ in_front (pulled_value p) (kept_stream g.R.TableRow.table_of g.R.RowRef.shown c.args.pipe.now.plan c.pull.new.self))) (c.in-Ok-Row.is ∙ ap (λ p. Ok p) c.in-Ok-Row.field-0-is) c.pull.ensures.item)
    (λ w start h i gr. c.pass_row.ensures.grows w start (stage_covered g.R.TableRow.table_of g.R.RowRef.shown (world c.args.self.now) w (values_in c.args.slots.now) c.args.pipe.now h) (slots_pass g.R.TableRow.table_of g.R.RowRef.shown (world c.args.self.now) w (values_in c.args.slots.now) c.args.pipe.now h) (row_passes w (value.Row c.in-Ok-Row.row) c.in-Ok-Row.row refl i) gr)

pub returns-in-Item-clause-meant : goal.returns-in-Item-clause-meant
returns-in-Item-clause-meant g c =
    next_item g.R.TableRow.table_of g.R.RowRef.shown (world c.args.self.now) (values_in c.args.slots.now) c.args.pipe.now c.args.base.now c.loop-row.base c.pull.new.self c.in-Ok-Item.item c.in-Item.item c.requires c.loop-row.invariant.meant
    (subst (λ r. IfOk r (λ p. (kept_stream g.R.TableRow.table_of g.R.RowRef.shown c.args.pipe.now.plan c.loop-row.base) ≡ in_front (pulled_value p) (kept_stream g.R.TableRow.table_of g.R.RowRef.shown c.args.pipe.now.plan c.pull.new.self))) (c.in-Ok-Item.is ∙ ap (λ p. Ok p) c.in-Ok-Item.field-0-is) c.pull.ensures.item)
    (subst (λ o. outcome_stream o ≡ comes g.R.TableRow.table_of g.R.RowRef.shown (world c.args.self.now) (values_in c.args.slots.now) c.args.pipe.now c.in-Ok-Item.item) c.in-Item.is c.in_ok-item-in-Ok-Item.ensures.meant)

pub returns-in-Item-clause-pulled : goal.returns-in-Item-clause-pulled
returns-in-Item-clause-pulled g c =
    pulled_more (world c.args.self.now) (facts c.args.self.now.sources) (λ w. is_covered_pipe (world c.args.self.now) w (values_in c.args.slots.now) c.args.pipe.now) _ (kept_stream g.R.TableRow.table_of g.R.RowRef.shown c.args.pipe.now.plan c.loop-row.base) (kept_stream g.R.TableRow.table_of g.R.RowRef.shown c.args.pipe.now.plan c.pull.new.self) _ _ _ c.in-Ok-Item.item
    c.loop-row.invariant.pulled
    (subst (λ r. IfOk r (λ p. (kept_stream g.R.TableRow.table_of g.R.RowRef.shown c.args.pipe.now.plan c.loop-row.base) ≡ in_front (pulled_value p) (kept_stream g.R.TableRow.table_of g.R.RowRef.shown c.args.pipe.now.plan c.pull.new.self))) (c.in-Ok-Item.is ∙ ap (λ p. Ok p) c.in-Ok-Item.field-0-is) c.pull.ensures.item)
    (λ w start h i gr. c.pass_item.ensures.grows w start (stage_covered g.R.TableRow.table_of g.R.RowRef.shown (world c.args.self.now) w (values_in c.args.slots.now) c.args.pipe.now h) (source_covered g.R.TableRow.table_of g.R.RowRef.shown (world c.args.self.now) w (values_in c.args.slots.now) c.args.pipe.now h) (slots_pass g.R.TableRow.table_of g.R.RowRef.shown (world c.args.self.now) w (values_in c.args.slots.now) c.args.pipe.now h) i gr)

pub returns-in-Fault-clause-meant : goal.returns-in-Fault-clause-meant
returns-in-Fault-clause-meant g c =
    next_fault g.R.TableRow.table_of g.R.RowRef.shown (world c.args.self.now) (values_in c.args.slots.now) c.args.pipe.now c.args.base.now c.loop-row.base c.pull.new.self c.in-Ok-Item.item c.in-Fault.fault c.requires c.loop-row.invariant.meant
    (subst (λ r. IfOk r (λ p. (kept_stream g.R.TableRow.table_of g.R.RowRef.shown c.args.pipe.now.plan c.loop-row.base) ≡ in_front (pulled_value p) (kept_stream g.R.TableRow.table_of g.R.RowRef.shown c.args.pipe.now.plan c.pull.new.self))) (c.in-Ok-Item.is ∙ ap (λ p. Ok p) c.in-Ok-Item.field-0-is) c.pull.ensures.item)
    (subst (λ o. outcome_stream o ≡ comes g.R.TableRow.table_of g.R.RowRef.shown (world c.args.self.now) (values_in c.args.slots.now) c.args.pipe.now c.in-Ok-Item.item) c.in-Fault.is c.in_ok-item-in-Ok-Item.ensures.meant)

pub returns-in-Fault-clause-pulled : goal.returns-in-Fault-clause-pulled
returns-in-Fault-clause-pulled g c =
    pulled_more (world c.args.self.now) (facts c.args.self.now.sources) (λ w. is_covered_pipe (world c.args.self.now) w (values_in c.args.slots.now) c.args.pipe.now) _ (kept_stream g.R.TableRow.table_of g.R.RowRef.shown c.args.pipe.now.plan c.loop-row.base) (kept_stream g.R.TableRow.table_of g.R.RowRef.shown c.args.pipe.now.plan c.pull.new.self) _ _ _ c.in-Ok-Item.item
    c.loop-row.invariant.pulled
    (subst (λ r. IfOk r (λ p. (kept_stream g.R.TableRow.table_of g.R.RowRef.shown c.args.pipe.now.plan c.loop-row.base) ≡ in_front (pulled_value p) (kept_stream g.R.TableRow.table_of g.R.RowRef.shown c.args.pipe.now.plan c.pull.new.self))) (c.in-Ok-Item.is ∙ ap (λ p. Ok p) c.in-Ok-Item.field-0-is) c.pull.ensures.item)
    (λ w start h i gr. c.pass_item.ensures.grows w start (stage_covered g.R.TableRow.table_of g.R.RowRef.shown (world c.args.self.now) w (values_in c.args.slots.now) c.args.pipe.now h) (source_covered g.R.TableRow.table_of g.R.RowRef.shown (world c.args.self.now) w (values_in c.args.slots.now) c.args.pipe.now h) (slots_pass g.R.TableRow.table_of g.R.RowRef.shown (world c.args.self.now) w (values_in c.args.slots.now) c.args.pipe.now h) i gr)

pub returns-in_err-item-in-Ok-Item-clause-pulled : goal.returns-in_err-item-in-Ok-Item-clause-pulled
returns-in_err-item-in-Ok-Item-clause-pulled g c =
    pulled_more (world c.args.self.now) (facts c.args.self.now.sources) (λ w. is_covered_pipe (world c.args.self.now) w (values_in c.args.slots.now) c.args.pipe.now) _ (kept_stream g.R.TableRow.table_of g.R.RowRef.shown c.args.pipe.now.plan c.loop-row.base) (kept_stream g.R.TableRow.table_of g.R.RowRef.shown c.args.pipe.now.plan c.pull.new.self) _ _ _ c.in-Ok-Item.item
    c.loop-row.invariant.pulled
    (subst (λ r. IfOk r (λ p. (kept_stream g.R.TableRow.table_of g.R.RowRef.shown c.args.pipe.now.plan c.loop-row.base) ≡ in_front (pulled_value p) (kept_stream g.R.TableRow.table_of g.R.RowRef.shown c.args.pipe.now.plan c.pull.new.self))) (c.in-Ok-Item.is ∙ ap (λ p. Ok p) c.in-Ok-Item.field-0-is) c.pull.ensures.item)
    (λ w start h i gr. c.pass_item.ensures.grows w start (stage_covered g.R.TableRow.table_of g.R.RowRef.shown (world c.args.self.now) w (values_in c.args.slots.now) c.args.pipe.now h) (source_covered g.R.TableRow.table_of g.R.RowRef.shown (world c.args.self.now) w (values_in c.args.slots.now) c.args.pipe.now h) (slots_pass g.R.TableRow.table_of g.R.RowRef.shown (world c.args.self.now) w (values_in c.args.slots.now) c.args.pipe.now h) i gr)

pub returns-in-Err-clause-meant : goal.returns-in-Err-clause-meant
returns-in-Err-clause-meant g c =
    next_ended g.R.TableRow.table_of g.R.RowRef.shown (world c.args.self.now) (values_in c.args.slots.now) c.args.pipe.now c.args.base.now c.loop-row.base _ c.requires c.loop-row.invariant.meant
    (subst (λ r. IfErr r (λ e. (kept_stream g.R.TableRow.table_of g.R.RowRef.shown c.args.pipe.now.plan c.loop-row.base) ≡ ([], e))) c.in-Err.is c.pull.ensures.end)

pub returns-in-Err-clause-pulled : goal.returns-in-Err-clause-pulled
returns-in-Err-clause-pulled g c =
    pulled_over (world c.args.self.now) (facts c.args.self.now.sources) (λ w. is_covered_pipe (world c.args.self.now) w (values_in c.args.slots.now) c.args.pipe.now) _ (kept_stream g.R.TableRow.table_of g.R.RowRef.shown c.args.pipe.now.plan c.loop-row.base) (kept_stream g.R.TableRow.table_of g.R.RowRef.shown c.args.pipe.now.plan c.pull.new.self) _ _ c.in-Err.end c.loop-row.invariant.pulled
    (subst (λ r. IfErr r (λ e. (kept_stream g.R.TableRow.table_of g.R.RowRef.shown c.args.pipe.now.plan c.loop-row.base) ≡ ([], e))) c.in-Err.is c.pull.ensures.end)
    (subst (λ r. IfErr r (λ e. (kept_stream g.R.TableRow.table_of g.R.RowRef.shown c.args.pipe.now.plan c.pull.new.self).0 ≡ [])) c.in-Err.is c.pull.ensures.over)

pub loop-row-init : goal.loop-row-init
loop-row-init g c =
    record {
      meant = refl;
      pulled = pulled_none (world c.args.self.now) (facts c.args.self.now.sources) (λ w. is_covered_pipe (world c.args.self.now) w (values_in c.args.slots.now) c.args.pipe.now) _ _;
    }

pub loop-row-preserved : goal.loop-row-preserved
loop-row-preserved g c =
    record {
      meant = next_dropped g.R.TableRow.table_of g.R.RowRef.shown (world c.args.self.now) (values_in c.args.slots.now) c.args.pipe.now c.args.base.now c.loop-row.base c.pull.new.self c.in-Ok-Item.item c.requires c.loop-row.invariant.meant
          (subst (λ r. IfOk r (λ p. (kept_stream g.R.TableRow.table_of g.R.RowRef.shown c.args.pipe.now.plan c.loop-row.base) ≡ in_front (pulled_value p) (kept_stream g.R.TableRow.table_of g.R.RowRef.shown c.args.pipe.now.plan c.pull.new.self))) (c.in-Ok-Item.is ∙ ap (λ p. Ok p) c.in-Ok-Item.field-0-is) c.pull.ensures.item)
          (subst (λ o. outcome_stream o ≡ comes g.R.TableRow.table_of g.R.RowRef.shown (world c.args.self.now) (values_in c.args.slots.now) c.args.pipe.now c.in-Ok-Item.item) c.in-Dropped.is c.in_ok-item-in-Ok-Item.ensures.meant);
      pulled = pulled_more (world c.args.self.now) (facts c.args.self.now.sources) (λ w. is_covered_pipe (world c.args.self.now) w (values_in c.args.slots.now) c.args.pipe.now) _ (kept_stream g.R.TableRow.table_of g.R.RowRef.shown c.args.pipe.now.plan c.loop-row.base) (kept_stream g.R.TableRow.table_of g.R.RowRef.shown c.args.pipe.now.plan c.pull.new.self) _ _ _ c.in-Ok-Item.item
          c.loop-row.invariant.pulled
          (subst (λ r. IfOk r (λ p. (kept_stream g.R.TableRow.table_of g.R.RowRef.shown c.args.pipe.now.plan c.loop-row.base) ≡ in_front (pulled_value p) (kept_stream g.R.TableRow.table_of g.R.RowRef.shown c.args.pipe.now.plan c.pull.new.self))) (c.in-Ok-Item.is ∙ ap (λ p. Ok p) c.in-Ok-Item.field-0-is) c.pull.ensures.item)
          (λ w start h i gr. c.pass_item.ensures.grows w start (stage_covered g.R.TableRow.table_of g.R.RowRef.shown (world c.args.self.now) w (values_in c.args.slots.now) c.args.pipe.now h) (source_covered g.R.TableRow.table_of g.R.RowRef.shown (world c.args.self.now) w (values_in c.args.slots.now) c.args.pipe.now h) (slots_pass g.R.TableRow.table_of g.R.RowRef.shown (world c.args.self.now) w (values_in c.args.slots.now) c.args.pipe.now h) i gr);
    }
