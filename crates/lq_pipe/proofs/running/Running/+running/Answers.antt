use Rattle.std.proofs.Common.{false, ◌≡◌, [], None, Some, IfErr, IfOk, Ok, Err, ap, refl, rules, subst, sym, true, ◌∙◌, ◌∷◌, length, IfSome, map}
use Rattle.lq_value.specs.SameAndOrder.{same_values}
use Rattle.lq_grammar.specs.declared.syntax.Field.{Field}
use Rattle.lq_grammar.specs.declared.syntax.SortKey.{SortKey}
use Rattle.lq_operators.specs.Answers.{IsAnswer}
use Rattle.lq_operators.specs.Matching.{pairs_of}
use Rattle.lq_operators.specs.Tallies.{tallied}
use Rattle.lq_language.specs.Arrangement.{all_of}
use Rattle.lq_language.specs.Enumerable.{in_front}
use Rattle.lq_language.specs.Stream.{Stream, both, one, then_stream, select_by, then_ending, first_keys, groups_of}
use Rattle.lq_language.specs.Meaning.{given_meaning, simple_meaning}
use Rattle.lq_language.specs.OperandMeaning.{as_value, sequence}
use Rattle.lq_tree.specs.FormMeaning.{form_meaning, with_item}
use Rattle.lq_tree.specs.Watches.{are_covered_fields, are_covered_keys, has_watched_rows, have_watched_rows, is_covered, is_covered_join}
use Rattle.lq_tree.specs.declared.tree.Form.{Form}
use Rattle.lq_tree.proofs.LogLaws.{pulled_more, pulled_none, pulled_over}
use Rattle.lq_tree.proofs.WatchLaws.{stream_passes, value_passes}
use Rattle.lq_tree.proofs.WatchedValueLaws.{passing_row, row_passes, slot_more}
use Rattle.lq_plan.specs.Arrangements.{column_of, columns_of, key_at}
use Rattle.lq_plan.specs.Meanings.{Answers, holds_of, items_meant, value_of_item, scalar_in, truth_in}
use Rattle.lq_plan.specs.Pipes.{all_items, items_left}
use Rattle.lq_plan.specs.PlannedRows.{IsPulled, kept_stream, pulled_value}
use Rattle.lq_plan.specs.Pulling.{base_stream, item_at, outcome_stream, through_select, through_stage, last}
use Rattle.lq_plan.specs.Slots.{values_in}
use Rattle.lq_plan.specs.Watching.{facts, is_covered_pipe, is_covered_stage, matches_pass}
use Rattle.lq_plan.proofs.PlanLaws.{row_says}
use Rattle.lq_plan.proofs.PullLaws.{left_opened, passes_stage, table_opened, bare_item, stage_items}
use Rattle.lq_plan.proofs.WatchLaws.{slots_pass, source_covered, stage_covered}
use Rattle.lq_tree.proofs.CoveredLaws.{covered_all_body, covered_all_source, covered_and_left, covered_and_right, covered_binary_left, covered_binary_right, covered_coalesce_left, covered_coalesce_right, covered_column, covered_conditional_condition, covered_conditional_first, covered_conditional_second, covered_first, covered_given_argument, covered_given_source, covered_group_by_element, covered_group_by_key, covered_group_by_source, covered_host, covered_is_null, covered_join_parts, covered_join_source, covered_key, covered_member, covered_or_left, covered_or_right, covered_order_keys, covered_order_source, covered_pair_first, covered_pair_second, covered_record, covered_second, covered_select_body, covered_select_many_inner, covered_select_many_result, covered_select_many_source, covered_select_source, covered_sequence, covered_simple, covered_unary, covered_where_body, covered_where_source, host_passes, join_inner, join_inner_key, join_outer_key, join_result}
use Rattle.lq_plan.specs.Handing.{HandsOut, handed_out, rows_to_come}
use Rattle.lq_pipe.proofs.HandingLemmas.{at_most, at_most_end, hands_end, hands_fault, hands_given, hands_item, passes_dropped, passes_none}
use Rattle.lq_operators.specs.Firsts.{firsts_in}
use Rattle.lq_operators.specs.Groups.{groups_in}
use Rattle.lq_operators.proofs.NumberLaws.{scalar_on}
use Rattle.lq_pipe.specs.Items.{AreGrouped, item_expansion, item_join, key_and_element, keys_and_elements}
use Rattle.lq_pipe.specs.Joins.{sought}
use Rattle.lq_pipe.specs.Runs.{Grown, world}
use Rattle.lq_pipe.specs.Steps.{GivesStep, Steps}
use Rattle.lq_pipe.proofs.AnswerLemmas.{all_answer, given_answer, members_goes, record_ended, record_stopped, select_answer, where_answer}
use Rattle.lq_pipe.proofs.CountLaws.{Tallies, tally_answers, all_begins, cell_of_row, contains_begins, contains_on, given_read, simple_read, staged_ends, staged_goes, tally_begins, tally_on, tally_over}
use Rattle.lq_pipe.proofs.ItemLemmas.{expansion_is, group_by_done, group_by_stops, join_answer, join_stops, select_many_answer}
use Rattle.lq_pipe.proofs.KeyLemmas.{all_goes, all_stops, counted_answer, key_answer, key_by, key_cell, order_by_done, order_by_stops}
use Rattle.lq_pipe.proofs.LogLemmas.{Covers, above_source, above_stage, all_on, all_there, asked, covered_as, covers_pipe, items_read, next_passes, opened, pairs_match, passed_item, source_of, stage_as, took, went_on, pipe_covered, stage_over}
use Rattle.lq_pipe.proofs.PullLaws.{begins_read, comes, comes_begins, comes_on, fewer, next_dropped, next_ended, next_fault, next_given, next_item, pulled, read_ended, read_on, selects_begin, selects_on, selects_stopped}
use Rattle.lq_value.specs.declared.value.Value.{Value}
use Rattle.lq_pipe.proofs.JoinLemmas.{behind_on, behind_stopped, given_ended, given_on, given_stopped, group_passes, joined_by, joined_unmet, met_group, met_there, none_there, watched_at, watched_there}
use Rattle.lq_pipe.proofs.GatherLemmas.{came_watched, cell_comes, firsts_answered, gathered_begins, gathered_ended, gathered_on, gathered_stopped, gathers_as, pairs_end, pairs_none, pairs_as, pairs_then, scalar_comes, took_asked}
use Rattle.lq_pipe.specs.Gathering.{AddsFirsts, AddsPairs}
use Rattle.lq_pipe.proofs.StepLemmas.{alone, given_last, given_select, given_stage}
use Rattle.lq_plan.specs.Counts.{read_first}
use Rattle.lq_plan.specs.Leading.{bodies_of, forms_of}
use Rattle.lq_pipe.specs.Leading.{Leads, LeadsOn}
use Rattle.lq_pipe.proofs.GroupRecordLemmas.{groups_stopped, groups_until, selects_covered, tallies_begin, tallies_ended, tallies_pulled, tallies_stopped, tallies_with}
use Rattle.lq_pipe.specs.SelectedGroups.{TalliesOn}
use Rattle.lq_pipe.proofs.LeadingLemmas.{so_if_ok, first_pass, leads_begin, leads_ended, leads_pulled, leads_stopped, leads_with, left_first, row_comes, sorted_first, sorted_stops}
use Rattle.lq_operators.specs.declared.error.RunError.TheVariants as error
use Rattle.lq_language.specs.declared.methods.Given.TheVariants as of_given
use Rattle.lq_plan.specs.declared.stages.Stage.TheVariants as of_stage
use Rattle.lq_value.specs.declared.value.End.TheVariants as end
use Rattle.lq_value.specs.declared.value.Value.TheVariants as value
use Rattle.lq_plan.specs.declared.bases.Pulled.TheVariants as of_pulled
use Rattle.lq_tree.specs.declared.tree.Form.TheVariants as form
use Rattle.lq_pipe.proofs.running.Running.+running.Goals as goal
use Rattle.lq_pipe.proofs.running.Running.+running.Goals.{sequence-in-Select+in_ok-selected+in-Some+in_ok-grouped+in_ok-records+in_default-3, sequence-in-Select+in_ok-selected+in_default-2, sequence-in_default}

pub scalar-returns-in_ok-evaluate-in-None-clause-meant : goal.scalar-returns-in_ok-evaluate-in-None-clause-meant
scalar-returns-in_ok-evaluate-in-None-clause-meant g t c =
    subst (λ m. Answers (scalar_in (world c.args.self.now) m) c.scalar.result) (sym c.in_ok-evaluate-in-None.ensures.meant)
    (c.scalar.ensures (world c.args.self.now) refl)

pub value_of_item-returns-in-None-clause-meant : goal.value_of_item-returns-in-None-clause-meant
value_of_item-returns-in-None-clause-meant g t c =
    c.value_or_fault.ensures (value_of_item (world c.args.self.now) c.args.body.now c.args.slots.now c.args.item.now)
    (subst (λ vs. IsAnswer (form_meaning (world c.args.self.now) c.args.body.now vs) c.evaluate.result) c.with-deeper.ensures
    c.evaluate.ensures.meant)

pub holds-returns-clause-meant : goal.holds-returns-clause-meant
holds-returns-clause-meant g t c =
    c.truth_or_fault.ensures (holds_of (world c.args.self.now) c.args.condition.now c.args.slots.now c.args.item.now)
    (subst (λ vs. Answers (truth_in (world c.args.self.now) (form_meaning (world c.args.self.now) c.args.condition.now vs)) c.truth.result) c.with.ensures
    c.truth.ensures.meant)

pub record-returns-clause-meant : goal.record-returns-clause-meant
record-returns-clause-meant g t c =
    record_ended (world c.args.self.now) c.args.fields.now _ (values_in c.args.slots.now) c.loop-field.members _ c.as_slice-field-items.ensures c.loop-field-test.false
    c.loop-field.invariant.meant

pub record-returns-in_err-value-clause-meant : goal.record-returns-in_err-value-clause-meant
record-returns-in_err-value-clause-meant g t c =
    let stops = record_stopped (world c.args.self.now) c.args.fields.now _ (values_in c.args.slots.now) c.loop-field.members _ _ c.as_slice-field-items.ensures
    c.field-item.is c.loop-field-test.true c.loop-field.invariant.meant c.in_err-value.field-0.0 c.in_err-value.ensures.meant in
    let same : c.from_residual.result ≡ Err c.in_err-value.field-0.0 = search rules in
    subst (λ r. IsAnswer (form_meaning (world c.args.self.now) (form.Record c.args.fields.now) (values_in c.args.slots.now)) r) (sym same) stops

pub value_by-returns-in_ok-copy_cell-in-Some-clause-meant : goal.value_by-returns-in_ok-copy_cell-in-Some-clause-meant
value_by-returns-in_ok-copy_cell-in-Some-clause-meant g t c =
    sym (c.in-Some.ensures (world c.args.self.now) (values_in c.args.slots.now) c.requires ∙ ap (λ s. Ok (value.Scalar s)) (sym c.in_ok-copy_cell-in-Some.ensures))

pub tally_by-returns-in-Some-clause-meant : goal.tally_by-returns-in-Some-clause-meant
tally_by-returns-in-Some-clause-meant g t c =
    λ ty rest.
    ap (λ (s : Stream (Value _)). tallied ty c.args.tally (then_stream s rest)) (ap (λ m. then_stream (one m) ([], end.Done)) (c.in-Some.ensures (world c.args.self.now) (values_in c.args.slots.now) c.requires))
    ∙ scalar_on c.args.tally _ _ c.with_scalar.ensures ty rest

pub tally_lambda-loop-item-preserved : goal.tally_lambda-loop-item-preserved
tally_lambda-loop-item-preserved g t c =
    record {
      meant = staged_goes (world c.args.self.now) (values_in c.args.slots.now) (of_stage.Select c.args.lambda.now.body) c.args.of.now c.loop-item.tally _ (Ok c.in-Ok.next) _ c.args.items.now _ c.args.end _ c.item-item.is c.loop-item-test.true c.in_ok-next.ensures.meant c.in-Ok.is c.loop-item.invariant.meant;
      grows = λ w start h s a gr. c.tally_by.ensures.grows w start h s (all_there (has_watched_rows w) _ _ _ a c.item-item.is c.loop-item-test.true) (c.loop-item.invariant.grows w start h s a gr);
    }

pub tally_lambda-returns-in-Err-clause-meant : goal.tally_lambda-returns-in-Err-clause-meant
tally_lambda-returns-in-Err-clause-meant g t c =
    ap as_value (sym (staged_goes (world c.args.self.now) (values_in c.args.slots.now) (of_stage.Select c.args.lambda.now.body) c.args.of.now c.loop-item.tally _ (Err c.in-Err.fault) _ c.args.items.now _ c.args.end _ c.item-item.is c.loop-item-test.true c.in_ok-next.ensures.meant c.in-Err.is c.loop-item.invariant.meant))

pub tally_lambda-returns-clause-meant : goal.tally_lambda-returns-clause-meant
tally_lambda-returns-clause-meant g t c =
    subst (λ m. IsAnswer (as_value m) c.answer.result)
    (staged_ends (world c.args.self.now) (values_in c.args.slots.now) (of_stage.Select c.args.lambda.now.body) c.args.of.now c.loop-item.tally c.args.items.now _ c.args.end _ c.loop-item-test.false c.loop-item.invariant.meant) c.answer.ensures

pub tally_lambda-returns-in-Err-clause-grows : goal.tally_lambda-returns-in-Err-clause-grows
tally_lambda-returns-in-Err-clause-grows g t c =
    λ w start h s a gr.
    c.tally_by.ensures.grows w start h s (all_there (has_watched_rows w) _ _ _ a c.item-item.is c.loop-item-test.true) (c.loop-item.invariant.grows w start h s a gr)

pub tally_lambda-returns-in_err-next-clause-grows : goal.tally_lambda-returns-in_err-next-clause-grows
tally_lambda-returns-in_err-next-clause-grows g t c =
    λ w start h s a gr.
    c.tally_by.ensures.grows w start h s (all_there (has_watched_rows w) _ _ _ a c.item-item.is c.loop-item-test.true) (c.loop-item.invariant.grows w start h s a gr)

pub tally_lambda-returns-clause-grows : goal.tally_lambda-returns-clause-grows
tally_lambda-returns-clause-grows g t c =
    λ w start h s a gr.
    c.loop-item.invariant.grows w start h s a gr

pub tally_items-returns-in-Select-clause-meant : goal.tally_items-returns-in-Select-clause-meant
tally_items-returns-in-Select-clause-meant g t c =
    subst (λ st. IsAnswer (as_value (tallied c.args.of.now c.args.tally (through_stage (world c.args.self.now) (values_in c.args.slots.now) st (c.args.items.now, c.args.end)))) c.tally_lambda.result) (sym c.in-Select.is)
    (subst (λ f. IsAnswer (as_value (tallied c.args.of.now c.args.tally (through_select (world c.args.self.now) (values_in c.args.slots.now) f (c.args.items.now, c.args.end)))) c.tally_lambda.result) c.lambda-lambda.ensures.body c.tally_lambda.ensures.meant)

pub tally_items-returns-in-Select-clause-grows : goal.tally_items-returns-in-Select-clause-grows
tally_items-returns-in-Select-clause-grows g t c =
    λ w start h s a gr.
    c.tally_lambda.ensures.grows w start (covered_as (world c.args.self.now) w _ _ c.lambda-lambda.ensures.body (subst (λ st. is_covered_stage (world c.args.self.now) w st ≡ true) c.in-Select.is h)) s a gr

pub key_of-returns-in_ok-copy_cell-in-Some-clause-meant : goal.key_of-returns-in_ok-copy_cell-in-Some-clause-meant
key_of-returns-in_ok-copy_cell-in-Some-clause-meant g t c =
    key_cell (world c.args.self.now) (values_in c.args.slots.now) c.args.item.now c.args.key.now.body.now _ _ (c.in-Some.ensures (world c.args.self.now) (values_in c.args.slots.now) c.requires) c.in_ok-copy_cell-in-Some.ensures

pub key_of-returns-in-None-clause-meant : goal.key_of-returns-in-None-clause-meant
key_of-returns-in-None-clause-meant g t c =
    key_answer (world c.args.self.now) (values_in c.args.slots.now) _ _ c.args.key.now.body.now c.scalar.result c.with.ensures c.scalar.ensures.meant

pub key_of-returns-in-None-clause-grows : goal.key_of-returns-in-None-clause-grows
key_of-returns-in-None-clause-grows g t c =
    λ w start h s i gr.
    c.scalar.ensures.grows w start h (slot_more w (values_in c.args.slots.now) _ _ c.with.ensures s i) gr

pub key_column-returns-in_err-scalar-clause-meant : goal.key_column-returns-in_err-scalar-clause-meant
key_column-returns-in_err-scalar-clause-meant g t c =
    let stops = all_stops (key_at (world c.args.self.now) (values_in c.args.slots.now) c.args.key.now) c.args.items.now _ c.loop-item.column _ _
    c.item-item.is c.loop-item-test.true c.loop-item.invariant.meant c.in_err-scalar.field-0.0
    (key_by (world c.args.self.now) (values_in c.args.slots.now) _ _ c.args.key.now (Err c.in_err-scalar.field-0.0) c.lambda-lambda.ensures.body c.in_err-scalar.ensures.meant) in
    let same : c.from_residual-in_err-scalar.result ≡ Err c.in_err-scalar.field-0.0 = search rules in
    subst (λ r. Answers (all_of (key_at (world c.args.self.now) (values_in c.args.slots.now) c.args.key.now) c.args.items.now) r) (sym same) stops

pub key_column-returns-in_err-scalar-clause-grows : goal.key_column-returns-in_err-scalar-clause-grows
key_column-returns-in_err-scalar-clause-grows g t c =
    λ w start h s a gr.
    c.key_of.ensures.grows w start (covered_as (world c.args.self.now) w _ _ c.lambda-lambda.ensures.body h) s (all_there (has_watched_rows w) _ _ _ a c.item-item.is c.loop-item-test.true) (c.loop-item.invariant.grows w start h s a gr)

pub key_column-returns-in_err-push-clause-grows : goal.key_column-returns-in_err-push-clause-grows
key_column-returns-in_err-push-clause-grows g t c =
    λ w start h s a gr.
    c.key_of.ensures.grows w start (covered_as (world c.args.self.now) w _ _ c.lambda-lambda.ensures.body h) s (all_there (has_watched_rows w) _ _ _ a c.item-item.is c.loop-item-test.true) (c.loop-item.invariant.grows w start h s a gr)

pub key_column-returns-clause-grows : goal.key_column-returns-clause-grows
key_column-returns-clause-grows g t c =
    λ w start h s a gr.
    c.loop-item.invariant.grows w start h s a gr

pub key_column-loop-item-preserved : goal.key_column-loop-item-preserved
key_column-loop-item-preserved g t c =
    record {
      meant = all_goes (key_at (world c.args.self.now) (values_in c.args.slots.now) c.args.key.now) c.args.items.now _ c.loop-item.column _ _ _ _
          c.item-item.is c.loop-item-test.true
          (key_by (world c.args.self.now) (values_in c.args.slots.now) _ _ c.args.key.now (Ok c.in_ok-scalar.scalar) c.lambda-lambda.ensures.body c.in_ok-scalar.ensures.meant)
          c.in_ok-push.ensures.ok c.loop-item.invariant.meant;
      grows = λ w start h s a gr. c.key_of.ensures.grows w start (covered_as (world c.args.self.now) w _ _ c.lambda-lambda.ensures.body h) s (all_there (has_watched_rows w) _ _ _ a c.item-item.is c.loop-item-test.true) (c.loop-item.invariant.grows w start h s a gr);
    }

pub grouped-returns-in-Err-clause-grows : goal.grouped-returns-in-Err-clause-grows
grouped-returns-in-Err-clause-grows g t c =
    λ w start a b hk he s gr.
    c.loop-pulled.invariant.log.grows w start (covers_pipe (world c.args.self.now) (values_in c.args.slots.now) c.args.pipe.now w a b s, hk, he) gr

pub grouped-returns-in-Err-clause-meant : goal.grouped-returns-in-Err-clause-meant
grouped-returns-in-Err-clause-meant g t c =
    gathered_ended (groups_of same_values) (keys_and_elements (world c.args.self.now) (values_in c.args.slots.now) c.args.key.now.body.now (Some c.args.element.now.body) (items_left (world c.args.self.now) (values_in c.args.slots.now) c.args.pipe.now c.loop-pulled.base)) _ (groups_in c.loop-pulled.grouping) c.in-Err.end (ap (λ (s : Stream (Value _)). keys_and_elements (world c.args.self.now) (values_in c.args.slots.now) c.args.key.now.body.now (Some c.args.element.now.body) s) (next_ended g.R.TableRow.table_of g.R.RowRef.shown (world c.args.self.now) (values_in c.args.slots.now) c.args.pipe.now c.loop-pulled.base c.loop-pulled.base c.in-Err.end c.requires.planned refl (subst (λ r. IfErr r (λ e. kept_stream g.R.TableRow.table_of g.R.RowRef.shown c.args.pipe.now.plan c.loop-pulled.base ≡ ([], e))) c.in-Err.is c.pull.ensures.end))) c.loop-pulled.invariant.meant

pub grouped-returns-in-Fault-clause-grows : goal.grouped-returns-in-Fault-clause-grows
grouped-returns-in-Fault-clause-grows g t c =
    λ w start a b hk he s gr.
    (took_asked (world c.args.self.now) (facts c.args.self.now.sources) g.R.TableRow.table_of g.R.RowRef.shown (values_in c.args.slots.now) c.args.pipe.now (λ w. Covers (world c.args.self.now) (values_in c.args.slots.now) c.args.pipe.now w × (is_covered (world c.args.self.now) w c.args.key.now.body.now ≡ true) × (is_covered (world c.args.self.now) w c.args.element.now.body.now ≡ true)) (λ w p. p.0) _ _ _ c.loop-pulled.base c.pull.new.self (pulled_value c.in-Ok.pulled) c.loop-pulled.invariant.log (subst (λ r. IfOk r (λ p. kept_stream g.R.TableRow.table_of g.R.RowRef.shown c.args.pipe.now.plan c.loop-pulled.base ≡ in_front (pulled_value p) (kept_stream g.R.TableRow.table_of g.R.RowRef.shown c.args.pipe.now.plan c.pull.new.self))) c.in-Ok.is c.pull.ensures.item)
    (λ w start p i gr. c.group_next.ensures.grows w start (pipe_covered (world c.args.self.now) (values_in c.args.slots.now) c.args.pipe.now w p.0) p.1 p.2 i gr)).grows w start (covers_pipe (world c.args.self.now) (values_in c.args.slots.now) c.args.pipe.now w a b s, hk, he) gr

pub grouped-returns-in_err-group_next-in-Ok-clause-grows : goal.grouped-returns-in_err-group_next-in-Ok-clause-grows
grouped-returns-in_err-group_next-in-Ok-clause-grows g t c =
    λ w start a b hk he s gr.
    (took_asked (world c.args.self.now) (facts c.args.self.now.sources) g.R.TableRow.table_of g.R.RowRef.shown (values_in c.args.slots.now) c.args.pipe.now (λ w. Covers (world c.args.self.now) (values_in c.args.slots.now) c.args.pipe.now w × (is_covered (world c.args.self.now) w c.args.key.now.body.now ≡ true) × (is_covered (world c.args.self.now) w c.args.element.now.body.now ≡ true)) (λ w p. p.0) _ _ _ c.loop-pulled.base c.pull.new.self (pulled_value c.in-Ok.pulled) c.loop-pulled.invariant.log (subst (λ r. IfOk r (λ p. kept_stream g.R.TableRow.table_of g.R.RowRef.shown c.args.pipe.now.plan c.loop-pulled.base ≡ in_front (pulled_value p) (kept_stream g.R.TableRow.table_of g.R.RowRef.shown c.args.pipe.now.plan c.pull.new.self))) c.in-Ok.is c.pull.ensures.item)
    (λ w start p i gr. c.group_next.ensures.grows w start (pipe_covered (world c.args.self.now) (values_in c.args.slots.now) c.args.pipe.now w p.0) p.1 p.2 i gr)).grows w start (covers_pipe (world c.args.self.now) (values_in c.args.slots.now) c.args.pipe.now w a b s, hk, he) gr

pub group_by-returns-in_err-grouping-clause-grows : goal.group_by-returns-in_err-grouping-clause-grows
group_by-returns-in_err-grouping-clause-grows g t c =
    λ w start h hk he s gr.
    c.grouped.ensures.grows w start (covered_as (world c.args.self.now) w _ _ c.in_ok-pipe.ensures.source h) (stage_as (world c.args.self.now) w _ _ c.in_ok-pipe.ensures.stage refl) (covered_as (world c.args.self.now) w _ _ c.lambda-key.ensures.body hk) (covered_as (world c.args.self.now) w _ _ c.lambda-element.ensures.body he) s gr

pub group_by-returns-in_err-groups-in-Done-clause-grows : goal.group_by-returns-in_err-groups-in-Done-clause-grows
group_by-returns-in_err-groups-in-Done-clause-grows g t c =
    λ w start h hk he s gr.
    c.grouped.ensures.grows w start (covered_as (world c.args.self.now) w _ _ c.in_ok-pipe.ensures.source h) (stage_as (world c.args.self.now) w _ _ c.in_ok-pipe.ensures.stage refl) (covered_as (world c.args.self.now) w _ _ c.lambda-key.ensures.body hk) (covered_as (world c.args.self.now) w _ _ c.lambda-element.ensures.body he) s gr

pub group_by-returns-in-Done-clause-grows : goal.group_by-returns-in-Done-clause-grows
group_by-returns-in-Done-clause-grows g t c =
    λ w start h hk he s gr.
    c.grouped.ensures.grows w start (covered_as (world c.args.self.now) w _ _ c.in_ok-pipe.ensures.source h) (stage_as (world c.args.self.now) w _ _ c.in_ok-pipe.ensures.stage refl) (covered_as (world c.args.self.now) w _ _ c.lambda-key.ensures.body hk) (covered_as (world c.args.self.now) w _ _ c.lambda-element.ensures.body he) s gr

pub group_by-returns-clause-grows : goal.group_by-returns-clause-grows
group_by-returns-clause-grows g t c =
    λ w start h hk he s gr.
    c.grouped.ensures.grows w start (covered_as (world c.args.self.now) w _ _ c.in_ok-pipe.ensures.source h) (stage_as (world c.args.self.now) w _ _ c.in_ok-pipe.ensures.stage refl) (covered_as (world c.args.self.now) w _ _ c.lambda-key.ensures.body hk) (covered_as (world c.args.self.now) w _ _ c.lambda-element.ensures.body he) s gr

pub group_by-returns-in-Done-clause-meant : goal.group_by-returns-in-Done-clause-meant
group_by-returns-in-Done-clause-meant g t c =
    group_by_done (world c.args.self.now) (values_in c.args.slots.now) c.args.source.now c.args.key.now c.args.element.now _ c.lambda-element.result.body c.lambda-key.ensures.body c.lambda-element.ensures.body c.in_ok-grouping.grouping c.in_ok-grouping.end _
    (subst (λ s. AreGrouped c.in_ok-grouping.grouping c.in_ok-grouping.end (keys_and_elements (world c.args.self.now) (values_in c.args.slots.now) c.lambda-key.result.body.now (Some c.lambda-element.result.body) s)) c.in_ok-pipe.ensures.items c.in_ok-grouping.ensures.meant) c.in-Done.is c.in_ok-groups-in-Done.ensures

pub group_by-returns-clause-meant : goal.group_by-returns-clause-meant
group_by-returns-clause-meant g t c =
    group_by_stops (world c.args.self.now) (values_in c.args.slots.now) c.args.source.now c.args.key.now c.args.element.now _ c.lambda-element.result.body c.lambda-key.ensures.body c.lambda-element.ensures.body c.in_ok-grouping.grouping c.in_ok-grouping.end _ _
    (subst (λ s. AreGrouped c.in_ok-grouping.grouping c.in_ok-grouping.end (keys_and_elements (world c.args.self.now) (values_in c.args.slots.now) c.lambda-key.result.body.now (Some c.lambda-element.result.body) s)) c.in_ok-pipe.ensures.items c.in_ok-grouping.ensures.meant) c.in-Fault.is c.fault_sequence.ensures

pub key_pairs-loop-pairs-init : goal.key_pairs-loop-pairs-init
key_pairs-loop-pairs-init g t c =
    record {
      meant = selects_begin (key_and_element (world c.args.self.now) (values_in c.args.slots.now) c.args.key.now None) _ _ _ c.new-pairs.ensures (left_opened (world c.args.self.now) (values_in c.args.slots.now) _ _ c.in_ok-base.base c.in_ok-base.ensures.meant ∙ c.in_ok-pipe.ensures.items);
      log = opened (world c.args.self.now) (facts c.args.self.now.sources) g.R.TableRow.table_of g.R.RowRef.shown (values_in c.args.slots.now) c.in_ok-pipe.pipe (λ w. Covers (world c.args.self.now) (values_in c.args.slots.now) c.in_ok-pipe.pipe w × (is_covered (world c.args.self.now) w c.args.key.now ≡ true)) _ _ c.in_ok-base.base (λ w start p gr. c.open.ensures.grows w start p.0.source_in p.0.slots_in gr) (λ w p. c.in_ok-base.ensures.from w p.0.source_in p.0.slots_in);
    }

pub key_pairs-returns-in_err-item-clause-grows : goal.key_pairs-returns-in_err-item-clause-grows
key_pairs-returns-in_err-item-clause-grows g t c =
    λ w start a hk s gr.
    (went_on (world c.args.self.now) (facts c.args.self.now.sources) g.R.TableRow.table_of g.R.RowRef.shown (values_in c.args.slots.now) c.in_ok-pipe.pipe (λ w. Covers (world c.args.self.now) (values_in c.args.slots.now) c.in_ok-pipe.pipe w × (is_covered (world c.args.self.now) w c.args.key.now ≡ true)) (λ w p. p.0) _ _ _ c.loop-pairs.base c.next.new.base c.loop-pairs.invariant.log c.next.ensures.pulled).grows w start (covers_pipe (world c.args.self.now) (values_in c.args.slots.now) c.in_ok-pipe.pipe w (covered_as (world c.args.self.now) w _ _ c.in_ok-pipe.ensures.source a) (stage_as (world c.args.self.now) w _ _ c.in_ok-pipe.ensures.stage refl) s, hk) gr

pub key_pairs-returns-in-Err-clause-grows : goal.key_pairs-returns-in-Err-clause-grows
key_pairs-returns-in-Err-clause-grows g t c =
    λ w start a hk s gr.
    (went_on (world c.args.self.now) (facts c.args.self.now.sources) g.R.TableRow.table_of g.R.RowRef.shown (values_in c.args.slots.now) c.in_ok-pipe.pipe (λ w. Covers (world c.args.self.now) (values_in c.args.slots.now) c.in_ok-pipe.pipe w × (is_covered (world c.args.self.now) w c.args.key.now ≡ true)) (λ w p. p.0) _ _ _ c.loop-pairs.base c.next.new.base c.loop-pairs.invariant.log c.next.ensures.pulled).grows w start (covers_pipe (world c.args.self.now) (values_in c.args.slots.now) c.in_ok-pipe.pipe w (covered_as (world c.args.self.now) w _ _ c.in_ok-pipe.ensures.source a) (stage_as (world c.args.self.now) w _ _ c.in_ok-pipe.ensures.stage refl) s, hk) gr

pub key_pairs-returns-in_err-key-in-Ok-clause-grows : goal.key_pairs-returns-in_err-key-in-Ok-clause-grows
key_pairs-returns-in_err-key-in-Ok-clause-grows g t c =
    λ w start a hk s gr.
    (asked (world c.args.self.now) (facts c.args.self.now.sources) g.R.TableRow.table_of g.R.RowRef.shown (values_in c.args.slots.now) c.in_ok-pipe.pipe (λ w. Covers (world c.args.self.now) (values_in c.args.slots.now) c.in_ok-pipe.pipe w × (is_covered (world c.args.self.now) w c.args.key.now ≡ true)) _ _ _ _ (went_on (world c.args.self.now) (facts c.args.self.now.sources) g.R.TableRow.table_of g.R.RowRef.shown (values_in c.args.slots.now) c.in_ok-pipe.pipe (λ w. Covers (world c.args.self.now) (values_in c.args.slots.now) c.in_ok-pipe.pipe w × (is_covered (world c.args.self.now) w c.args.key.now ≡ true)) (λ w p. p.0) _ _ _ c.loop-pairs.base c.next.new.base c.loop-pairs.invariant.log c.next.ensures.pulled)
    (λ w start p gr. c.value_by.ensures.grows w start (covered_as (world c.args.self.now) w _ _ c.lambda-lambda.ensures.body p.1) p.0.slots_in (next_passes (world c.args.self.now) (facts c.args.self.now.sources) g.R.TableRow.table_of g.R.RowRef.shown (values_in c.args.slots.now) c.in_ok-pipe.pipe (λ w. Covers (world c.args.self.now) (values_in c.args.slots.now) c.in_ok-pipe.pipe w × (is_covered (world c.args.self.now) w c.args.key.now ≡ true)) (λ w p. p.0) _ _ c.loop-pairs.base _ c.in-Ok.item (items_left (world c.args.self.now) (values_in c.args.slots.now) c.in_ok-pipe.pipe c.next.new.base) c.loop-pairs.invariant.log c.in_ok-pipe.ensures.planned c.in-Ok.is c.in_ok-item.ensures.meant w p) gr)).grows w start (covers_pipe (world c.args.self.now) (values_in c.args.slots.now) c.in_ok-pipe.pipe w (covered_as (world c.args.self.now) w _ _ c.in_ok-pipe.ensures.source a) (stage_as (world c.args.self.now) w _ _ c.in_ok-pipe.ensures.stage refl) s, hk) gr

pub key_pairs-returns-in_err-push-in-Ok-2-clause-grows : goal.key_pairs-returns-in_err-push-in-Ok-2-clause-grows
key_pairs-returns-in_err-push-in-Ok-2-clause-grows g t c =
    λ w start a hk s gr.
    (asked (world c.args.self.now) (facts c.args.self.now.sources) g.R.TableRow.table_of g.R.RowRef.shown (values_in c.args.slots.now) c.in_ok-pipe.pipe (λ w. Covers (world c.args.self.now) (values_in c.args.slots.now) c.in_ok-pipe.pipe w × (is_covered (world c.args.self.now) w c.args.key.now ≡ true)) _ _ _ _ (went_on (world c.args.self.now) (facts c.args.self.now.sources) g.R.TableRow.table_of g.R.RowRef.shown (values_in c.args.slots.now) c.in_ok-pipe.pipe (λ w. Covers (world c.args.self.now) (values_in c.args.slots.now) c.in_ok-pipe.pipe w × (is_covered (world c.args.self.now) w c.args.key.now ≡ true)) (λ w p. p.0) _ _ _ c.loop-pairs.base c.next.new.base c.loop-pairs.invariant.log c.next.ensures.pulled)
    (λ w start p gr. c.value_by.ensures.grows w start (covered_as (world c.args.self.now) w _ _ c.lambda-lambda.ensures.body p.1) p.0.slots_in (next_passes (world c.args.self.now) (facts c.args.self.now.sources) g.R.TableRow.table_of g.R.RowRef.shown (values_in c.args.slots.now) c.in_ok-pipe.pipe (λ w. Covers (world c.args.self.now) (values_in c.args.slots.now) c.in_ok-pipe.pipe w × (is_covered (world c.args.self.now) w c.args.key.now ≡ true)) (λ w p. p.0) _ _ c.loop-pairs.base _ c.in-Ok.item (items_left (world c.args.self.now) (values_in c.args.slots.now) c.in_ok-pipe.pipe c.next.new.base) c.loop-pairs.invariant.log c.in_ok-pipe.ensures.planned c.in-Ok.is c.in_ok-item.ensures.meant w p) gr)).grows w start (covers_pipe (world c.args.self.now) (values_in c.args.slots.now) c.in_ok-pipe.pipe w (covered_as (world c.args.self.now) w _ _ c.in_ok-pipe.ensures.source a) (stage_as (world c.args.self.now) w _ _ c.in_ok-pipe.ensures.stage refl) s, hk) gr

pub key_pairs-returns-in-Err-2-clause-grows : goal.key_pairs-returns-in-Err-2-clause-grows
key_pairs-returns-in-Err-2-clause-grows g t c =
    λ w start a hk s gr.
    (asked (world c.args.self.now) (facts c.args.self.now.sources) g.R.TableRow.table_of g.R.RowRef.shown (values_in c.args.slots.now) c.in_ok-pipe.pipe (λ w. Covers (world c.args.self.now) (values_in c.args.slots.now) c.in_ok-pipe.pipe w × (is_covered (world c.args.self.now) w c.args.key.now ≡ true)) _ _ _ _ (went_on (world c.args.self.now) (facts c.args.self.now.sources) g.R.TableRow.table_of g.R.RowRef.shown (values_in c.args.slots.now) c.in_ok-pipe.pipe (λ w. Covers (world c.args.self.now) (values_in c.args.slots.now) c.in_ok-pipe.pipe w × (is_covered (world c.args.self.now) w c.args.key.now ≡ true)) (λ w p. p.0) _ _ _ c.loop-pairs.base c.next.new.base c.loop-pairs.invariant.log c.next.ensures.pulled)
    (λ w start p gr. c.value_by.ensures.grows w start (covered_as (world c.args.self.now) w _ _ c.lambda-lambda.ensures.body p.1) p.0.slots_in (next_passes (world c.args.self.now) (facts c.args.self.now.sources) g.R.TableRow.table_of g.R.RowRef.shown (values_in c.args.slots.now) c.in_ok-pipe.pipe (λ w. Covers (world c.args.self.now) (values_in c.args.slots.now) c.in_ok-pipe.pipe w × (is_covered (world c.args.self.now) w c.args.key.now ≡ true)) (λ w p. p.0) _ _ c.loop-pairs.base _ c.in-Ok.item (items_left (world c.args.self.now) (values_in c.args.slots.now) c.in_ok-pipe.pipe c.next.new.base) c.loop-pairs.invariant.log c.in_ok-pipe.ensures.planned c.in-Ok.is c.in_ok-item.ensures.meant w p) gr)).grows w start (covers_pipe (world c.args.self.now) (values_in c.args.slots.now) c.in_ok-pipe.pipe w (covered_as (world c.args.self.now) w _ _ c.in_ok-pipe.ensures.source a) (stage_as (world c.args.self.now) w _ _ c.in_ok-pipe.ensures.stage refl) s, hk) gr

pub key_pairs-loop-pairs-preserved : goal.key_pairs-loop-pairs-preserved
key_pairs-loop-pairs-preserved g t c =
    record {
      meant = selects_on (key_and_element (world c.args.self.now) (values_in c.args.slots.now) c.args.key.now None) (items_left (world c.args.self.now) (values_in c.args.slots.now) c.in_ok-pipe.pipe c.loop-pairs.base) (items_left (world c.args.self.now) (values_in c.args.slots.now) c.in_ok-pipe.pipe c.next.new.base) c.in-Ok.item (c.in-Ok-2.key, c.in-Ok.item) _ c.loop-pairs.pairs _ (subst (λ s. Steps (items_left (world c.args.self.now) (values_in c.args.slots.now) c.in_ok-pipe.pipe c.loop-pairs.base) s (items_left (world c.args.self.now) (values_in c.args.slots.now) c.in_ok-pipe.pipe c.next.new.base)) c.in-Ok.is c.in_ok-item.ensures.meant)
          (ap (λ m. both m (Ok c.in-Ok.item)) (sym c.in-Ok-2.is ∙ c.in_ok-key-in-Ok.ensures.meant ∙ ap (λ f. value_of_item (world c.args.self.now) f c.args.slots.now c.in-Ok.item) c.lambda-lambda.ensures.body)) c.in_ok-push-in-Ok-2.ensures.ok c.loop-pairs.invariant.meant;
      log = (asked (world c.args.self.now) (facts c.args.self.now.sources) g.R.TableRow.table_of g.R.RowRef.shown (values_in c.args.slots.now) c.in_ok-pipe.pipe (λ w. Covers (world c.args.self.now) (values_in c.args.slots.now) c.in_ok-pipe.pipe w × (is_covered (world c.args.self.now) w c.args.key.now ≡ true)) _ _ _ _ (went_on (world c.args.self.now) (facts c.args.self.now.sources) g.R.TableRow.table_of g.R.RowRef.shown (values_in c.args.slots.now) c.in_ok-pipe.pipe (λ w. Covers (world c.args.self.now) (values_in c.args.slots.now) c.in_ok-pipe.pipe w × (is_covered (world c.args.self.now) w c.args.key.now ≡ true)) (λ w p. p.0) _ _ _ c.loop-pairs.base c.next.new.base c.loop-pairs.invariant.log c.next.ensures.pulled)
          (λ w start p gr. c.value_by.ensures.grows w start (covered_as (world c.args.self.now) w _ _ c.lambda-lambda.ensures.body p.1) p.0.slots_in (next_passes (world c.args.self.now) (facts c.args.self.now.sources) g.R.TableRow.table_of g.R.RowRef.shown (values_in c.args.slots.now) c.in_ok-pipe.pipe (λ w. Covers (world c.args.self.now) (values_in c.args.slots.now) c.in_ok-pipe.pipe w × (is_covered (world c.args.self.now) w c.args.key.now ≡ true)) (λ w p. p.0) _ _ c.loop-pairs.base _ c.in-Ok.item (items_left (world c.args.self.now) (values_in c.args.slots.now) c.in_ok-pipe.pipe c.next.new.base) c.loop-pairs.invariant.log c.in_ok-pipe.ensures.planned c.in-Ok.is c.in_ok-item.ensures.meant w p) gr));
    }

pub key_pairs-returns-in-Err-2-clause-meant : goal.key_pairs-returns-in-Err-2-clause-meant
key_pairs-returns-in-Err-2-clause-meant g t c =
    selects_stopped (key_and_element (world c.args.self.now) (values_in c.args.slots.now) c.args.key.now None) (items_left (world c.args.self.now) (values_in c.args.slots.now) c.in_ok-pipe.pipe c.loop-pairs.base) (items_left (world c.args.self.now) (values_in c.args.slots.now) c.in_ok-pipe.pipe c.next.new.base) c.in-Ok.item _ _ c.loop-pairs.pairs (subst (λ s. Steps (items_left (world c.args.self.now) (values_in c.args.slots.now) c.in_ok-pipe.pipe c.loop-pairs.base) s (items_left (world c.args.self.now) (values_in c.args.slots.now) c.in_ok-pipe.pipe c.next.new.base)) c.in-Ok.is c.in_ok-item.ensures.meant)
    (ap (λ m. both m (Ok c.in-Ok.item)) (sym c.in-Err-2.is ∙ c.in_ok-key-in-Ok.ensures.meant ∙ ap (λ f. value_of_item (world c.args.self.now) f c.args.slots.now c.in-Ok.item) c.lambda-lambda.ensures.body)) c.loop-pairs.invariant.meant

pub join_item-returns-in-Some-clause-meant : goal.join_item-returns-in-Some-clause-meant
join_item-returns-in-Some-clause-meant g t c =
    joined_by (world c.args.self.now) (values_in c.args.slots.now) c.args.joined.now (pairs_of c.args.matches.now) c.args.item.now _ (value.Scalar c.in-Some.cell.now) c.args.lambdas.now.result.body.now false c.args.values.now c.join_matches.new.values _ c.join_matches.result c.with-deeper.ensures
    (sym (c.in-Some.ensures (world c.args.self.now) (values_in c.args.slots.now) c.requires.key) ∙ ap (λ f. value_of_item (world c.args.self.now) f c.args.slots.now c.args.item.now) c.requires.outer) c.requires.body c.if-not-joined.true c.join_matches.ensures.meant

pub join_item-returns-then-joined-clause-meant : goal.join_item-returns-then-joined-clause-meant
join_item-returns-then-joined-clause-meant g t c =
    joined_by (world c.args.self.now) (values_in c.args.slots.now) c.args.joined.now (pairs_of c.args.matches.now) c.args.item.now _ c.in-Ok.key c.args.joined.now.result true c.args.values.now c.push_met.new.values _ c.push_met.result c.with-deeper.ensures
    (sym c.in-Ok.is ∙ c.in_ok-key.ensures.meant ∙ ap (λ f. value_of_item (world c.args.self.now) f c.args.slots.now c.args.item.now) c.requires.outer) refl c.if-joined.true
    (met_group c.args.matches.now c.in-Ok.key (value_of_item (world c.args.self.now) c.args.joined.now.result _) c.args.values.now (world c.args.self.now) c.in_ok-items-in-Ok.items _ c.push_met.new.values _ c.push_met.result
    c.in_ok-items-in-Ok.ensures c.in_ok-met-in-Ok.ensures.meant c.push_met.ensures)

pub join_item-returns-else-joined-clause-meant : goal.join_item-returns-else-joined-clause-meant
join_item-returns-else-joined-clause-meant g t c =
    joined_by (world c.args.self.now) (values_in c.args.slots.now) c.args.joined.now (pairs_of c.args.matches.now) c.args.item.now _ c.in-Ok.key c.args.lambdas.now.result.body.now false c.args.values.now c.join_matches-in-Ok.new.values _ c.join_matches-in-Ok.result c.with-deeper.ensures
    (sym c.in-Ok.is ∙ c.in_ok-key.ensures.meant ∙ ap (λ f. value_of_item (world c.args.self.now) f c.args.slots.now c.args.item.now) c.requires.outer) c.requires.body c.if-joined.false c.join_matches-in-Ok.ensures.meant

pub join_item-returns-then-joined-clause-grows : goal.join_item-returns-then-joined-clause-grows
join_item-returns-then-joined-clause-grows g t c =
    λ w start h m s i gr.
    c.value_of_item.ensures.grows w start (join_result (world c.args.self.now) w c.args.joined.now h) (slot_more w (values_in c.args.slots.now) _ _ c.with-deeper.ensures s i)
    (group_passes w (world c.args.self.now) c.in-Ok.key (pairs_of c.args.matches.now) c.in_ok-items-in-Ok.items c.in_ok-items-in-Ok.ensures m)
    (c.value_by.ensures.grows w start (covered_as (world c.args.self.now) w _ _ c.requires.outer (join_outer_key (world c.args.self.now) w c.args.joined.now h)) s i gr)

pub join_item-returns-in_err-met-in-Ok-clause-grows : goal.join_item-returns-in_err-met-in-Ok-clause-grows
join_item-returns-in_err-met-in-Ok-clause-grows g t c =
    λ w start h m s i gr.
    c.value_of_item.ensures.grows w start (join_result (world c.args.self.now) w c.args.joined.now h) (slot_more w (values_in c.args.slots.now) _ _ c.with-deeper.ensures s i)
    (group_passes w (world c.args.self.now) c.in-Ok.key (pairs_of c.args.matches.now) c.in_ok-items-in-Ok.items c.in_ok-items-in-Ok.ensures m)
    (c.value_by.ensures.grows w start (covered_as (world c.args.self.now) w _ _ c.requires.outer (join_outer_key (world c.args.self.now) w c.args.joined.now h)) s i gr)

pub join_item-returns-else-joined-clause-grows : goal.join_item-returns-else-joined-clause-grows
join_item-returns-else-joined-clause-grows g t c =
    λ w start h m s i gr.
    c.join_matches-in-Ok.ensures.grows w start (covered_as (world c.args.self.now) w _ _ c.requires.body (join_result (world c.args.self.now) w c.args.joined.now h)) m (slot_more w (values_in c.args.slots.now) _ _ c.with-deeper.ensures s i)
    (c.value_by.ensures.grows w start (covered_as (world c.args.self.now) w _ _ c.requires.outer (join_outer_key (world c.args.self.now) w c.args.joined.now h)) s i gr)

pub join_item-returns-in_err-key-clause-grows : goal.join_item-returns-in_err-key-clause-grows
join_item-returns-in_err-key-clause-grows g t c =
    λ w start h m s i gr.
    c.value_by.ensures.grows w start (covered_as (world c.args.self.now) w _ _ c.requires.outer (join_outer_key (world c.args.self.now) w c.args.joined.now h)) s i gr

pub join_item-returns-in-Err-clause-grows : goal.join_item-returns-in-Err-clause-grows
join_item-returns-in-Err-clause-grows g t c =
    λ w start h m s i gr.
    c.value_by.ensures.grows w start (covered_as (world c.args.self.now) w _ _ c.requires.outer (join_outer_key (world c.args.self.now) w c.args.joined.now h)) s i gr

pub join_item-returns-in-Err-clause-meant : goal.join_item-returns-in-Err-clause-meant
join_item-returns-in-Err-clause-meant g t c =
    joined_unmet (world c.args.self.now) (values_in c.args.slots.now) c.args.joined.now (pairs_of c.args.matches.now) c.args.item.now _ _
    (sym c.in-Err.is ∙ c.in_ok-key.ensures.meant ∙ ap (λ f. value_of_item (world c.args.self.now) f c.args.slots.now c.args.item.now) c.requires.outer)

pub join_matches-loop-place-init : goal.join_matches-loop-place-init
join_matches-loop-place-init g t c =
    record {
      meant = ap (λ l. then_ending c.args.values.now end.Done (select_by (value_of_item (world c.args.self.now) c.args.lambda.now.body.now c.args.slots.now) l end.Done)) c.in_ok-places.ensures;
      grows = λ w start h m s gr. gr;
    }

pub join_matches-returns-clause-meant : goal.join_matches-returns-clause-meant
join_matches-returns-clause-meant g t c =
    given_ended c.args.matches.now (sought c.args.key.now) (value_of_item (world c.args.self.now) c.args.lambda.now.body.now c.args.slots.now) _ _ c.loop-place.values _ c.loop-place-test.false c.loop-place.invariant.meant

pub join_matches-returns-clause-grows : goal.join_matches-returns-clause-grows
join_matches-returns-clause-grows g t c =
    λ w start h m s gr.
    c.loop-place.invariant.grows w start h m s gr

pub join_items-returns-in-Fault-clause-meant : goal.join_items-returns-in-Fault-clause-meant
join_items-returns-in-Fault-clause-meant g t c =
    behind_stopped (item_join (world c.args.self.now) (values_in c.args.slots.now) c.args.joined.now (pairs_of c.args.matches.now)) (items_left (world c.args.self.now) (values_in c.args.slots.now) c.args.pipe.now c.loop-values.base) (items_left (world c.args.self.now) (values_in c.args.slots.now) c.args.pipe.now c.next.new.base) c.in-Ok.item _ c.loop-values.values _ _ _ (subst (λ s. Steps (items_left (world c.args.self.now) (values_in c.args.slots.now) c.args.pipe.now c.loop-values.base) s (items_left (world c.args.self.now) (values_in c.args.slots.now) c.args.pipe.now c.next.new.base)) c.in-Ok.is c.in_ok-item.ensures.meant)
    c.in_ok-ending-in-Ok.ensures.meant c.in-Fault.is c.loop-values.invariant.meant

pub distinct-returns-in-Err-clause-grows : goal.distinct-returns-in-Err-clause-grows
distinct-returns-in-Err-clause-grows g t c =
    λ w start a b s gr.
    c.loop-pulled.invariant.log.grows w start (covers_pipe (world c.args.self.now) (values_in c.args.slots.now) c.args.pipe.now w a b s) gr

pub grouped-loop-pulled-init : goal.grouped-loop-pulled-init
grouped-loop-pulled-init g t c =
    record {
      meant = gathered_begins (groups_of same_values) _ _ _ c.in_ok-grouping.ensures (pairs_as (world c.args.self.now) (values_in c.args.slots.now) c.args.key.now.body.now c.args.element.now.body _ _ (left_opened (world c.args.self.now) (values_in c.args.slots.now) _ _ c.in_ok-base.base c.in_ok-base.ensures.meant));
      log = opened (world c.args.self.now) (facts c.args.self.now.sources) g.R.TableRow.table_of g.R.RowRef.shown (values_in c.args.slots.now) c.args.pipe.now (λ w. Covers (world c.args.self.now) (values_in c.args.slots.now) c.args.pipe.now w × (is_covered (world c.args.self.now) w c.args.key.now.body.now ≡ true) × (is_covered (world c.args.self.now) w c.args.element.now.body.now ≡ true)) _ _ c.in_ok-base.base (λ w start p gr. c.open.ensures.grows w start p.0.source_in p.0.slots_in gr) (λ w p. c.in_ok-base.ensures.from w p.0.source_in p.0.slots_in);
    }

pub grouped-loop-pulled-preserved : goal.grouped-loop-pulled-preserved
grouped-loop-pulled-preserved g t c =
    record {
      meant = gathered_on (groups_of same_values) (keys_and_elements (world c.args.self.now) (values_in c.args.slots.now) c.args.key.now.body.now (Some c.args.element.now.body) (items_left (world c.args.self.now) (values_in c.args.slots.now) c.args.pipe.now c.loop-pulled.base)) (keys_and_elements (world c.args.self.now) (values_in c.args.slots.now) c.args.key.now.body.now (Some c.args.element.now.body) (comes g.R.TableRow.table_of g.R.RowRef.shown (world c.args.self.now) (values_in c.args.slots.now) c.args.pipe.now (pulled_value c.in-Ok.pulled))) (keys_and_elements (world c.args.self.now) (values_in c.args.slots.now) c.args.key.now.body.now (Some c.args.element.now.body) (items_left (world c.args.self.now) (values_in c.args.slots.now) c.args.pipe.now c.pull.new.self)) _ (groups_in c.loop-pulled.grouping) (groups_in c.group_next.new.grouping) (pairs_then (world c.args.self.now) (values_in c.args.slots.now) c.args.key.now.body.now c.args.element.now.body (items_left (world c.args.self.now) (values_in c.args.slots.now) c.args.pipe.now c.loop-pulled.base) (comes g.R.TableRow.table_of g.R.RowRef.shown (world c.args.self.now) (values_in c.args.slots.now) c.args.pipe.now (pulled_value c.in-Ok.pulled)) (items_left (world c.args.self.now) (values_in c.args.slots.now) c.args.pipe.now c.pull.new.self) (pulled g.R.TableRow.table_of g.R.RowRef.shown (world c.args.self.now) (values_in c.args.slots.now) c.args.pipe.now c.loop-pulled.base c.pull.new.self (pulled_value c.in-Ok.pulled) c.requires.planned (subst (λ r. IfOk r (λ p. kept_stream g.R.TableRow.table_of g.R.RowRef.shown c.args.pipe.now.plan c.loop-pulled.base ≡ in_front (pulled_value p) (kept_stream g.R.TableRow.table_of g.R.RowRef.shown c.args.pipe.now.plan c.pull.new.self))) c.in-Ok.is c.pull.ensures.item)))
          (subst (λ e. AddsPairs (groups_in c.loop-pulled.grouping) (groups_in c.group_next.new.grouping) (keys_and_elements (world c.args.self.now) (values_in c.args.slots.now) c.args.key.now.body.now (Some c.args.element.now.body) (comes g.R.TableRow.table_of g.R.RowRef.shown (world c.args.self.now) (values_in c.args.slots.now) c.args.pipe.now (pulled_value c.in-Ok.pulled))) e) c.in-Done.is c.in_ok-group_next-in-Ok.ensures.meant) c.loop-pulled.invariant.meant;
      log = (took_asked (world c.args.self.now) (facts c.args.self.now.sources) g.R.TableRow.table_of g.R.RowRef.shown (values_in c.args.slots.now) c.args.pipe.now (λ w. Covers (world c.args.self.now) (values_in c.args.slots.now) c.args.pipe.now w × (is_covered (world c.args.self.now) w c.args.key.now.body.now ≡ true) × (is_covered (world c.args.self.now) w c.args.element.now.body.now ≡ true)) (λ w p. p.0) _ _ _ c.loop-pulled.base c.pull.new.self (pulled_value c.in-Ok.pulled) c.loop-pulled.invariant.log (subst (λ r. IfOk r (λ p. kept_stream g.R.TableRow.table_of g.R.RowRef.shown c.args.pipe.now.plan c.loop-pulled.base ≡ in_front (pulled_value p) (kept_stream g.R.TableRow.table_of g.R.RowRef.shown c.args.pipe.now.plan c.pull.new.self))) c.in-Ok.is c.pull.ensures.item)
          (λ w start p i gr. c.group_next.ensures.grows w start (pipe_covered (world c.args.self.now) (values_in c.args.slots.now) c.args.pipe.now w p.0) p.1 p.2 i gr));
    }

pub grouped-loop-pulled-smaller : goal.grouped-loop-pulled-smaller
grouped-loop-pulled-smaller g t c =
    fewer (kept_stream g.R.TableRow.table_of g.R.RowRef.shown c.args.pipe.now.plan c.loop-pulled.base) (kept_stream g.R.TableRow.table_of g.R.RowRef.shown c.args.pipe.now.plan c.pull.new.self) (pulled_value c.in-Ok.pulled) (subst (λ r. IfOk r (λ p. kept_stream g.R.TableRow.table_of g.R.RowRef.shown c.args.pipe.now.plan c.loop-pulled.base ≡ in_front (pulled_value p) (kept_stream g.R.TableRow.table_of g.R.RowRef.shown c.args.pipe.now.plan c.pull.new.self))) c.in-Ok.is c.pull.ensures.item)

pub grouped-returns-in-Fault-clause-meant : goal.grouped-returns-in-Fault-clause-meant
grouped-returns-in-Fault-clause-meant g t c =
    gathered_stopped (groups_of same_values) (keys_and_elements (world c.args.self.now) (values_in c.args.slots.now) c.args.key.now.body.now (Some c.args.element.now.body) (items_left (world c.args.self.now) (values_in c.args.slots.now) c.args.pipe.now c.loop-pulled.base)) (keys_and_elements (world c.args.self.now) (values_in c.args.slots.now) c.args.key.now.body.now (Some c.args.element.now.body) (comes g.R.TableRow.table_of g.R.RowRef.shown (world c.args.self.now) (values_in c.args.slots.now) c.args.pipe.now (pulled_value c.in-Ok.pulled))) (keys_and_elements (world c.args.self.now) (values_in c.args.slots.now) c.args.key.now.body.now (Some c.args.element.now.body) (items_left (world c.args.self.now) (values_in c.args.slots.now) c.args.pipe.now c.pull.new.self)) _ (groups_in c.loop-pulled.grouping) (groups_in c.group_next.new.grouping) c.in-Fault.fault (pairs_then (world c.args.self.now) (values_in c.args.slots.now) c.args.key.now.body.now c.args.element.now.body (items_left (world c.args.self.now) (values_in c.args.slots.now) c.args.pipe.now c.loop-pulled.base) (comes g.R.TableRow.table_of g.R.RowRef.shown (world c.args.self.now) (values_in c.args.slots.now) c.args.pipe.now (pulled_value c.in-Ok.pulled)) (items_left (world c.args.self.now) (values_in c.args.slots.now) c.args.pipe.now c.pull.new.self) (pulled g.R.TableRow.table_of g.R.RowRef.shown (world c.args.self.now) (values_in c.args.slots.now) c.args.pipe.now c.loop-pulled.base c.pull.new.self (pulled_value c.in-Ok.pulled) c.requires.planned (subst (λ r. IfOk r (λ p. kept_stream g.R.TableRow.table_of g.R.RowRef.shown c.args.pipe.now.plan c.loop-pulled.base ≡ in_front (pulled_value p) (kept_stream g.R.TableRow.table_of g.R.RowRef.shown c.args.pipe.now.plan c.pull.new.self))) c.in-Ok.is c.pull.ensures.item)))
    (subst (λ e. AddsPairs (groups_in c.loop-pulled.grouping) (groups_in c.group_next.new.grouping) (keys_and_elements (world c.args.self.now) (values_in c.args.slots.now) c.args.key.now.body.now (Some c.args.element.now.body) (comes g.R.TableRow.table_of g.R.RowRef.shown (world c.args.self.now) (values_in c.args.slots.now) c.args.pipe.now (pulled_value c.in-Ok.pulled))) e) c.in-Fault.is c.in_ok-group_next-in-Ok.ensures.meant) c.loop-pulled.invariant.meant

pub distinct-returns-in-Err-clause-meant : goal.distinct-returns-in-Err-clause-meant
distinct-returns-in-Err-clause-meant g t c =
    firsts_answered (firsts_in c.loop-pulled.firsts) _ c.in-Err.end _ c.into_items-in-Err.ensures
    (gathered_ended (first_keys same_values) (items_left (world c.args.self.now) (values_in c.args.slots.now) c.args.pipe.now c.loop-pulled.base) _ (firsts_in c.loop-pulled.firsts) c.in-Err.end (next_ended g.R.TableRow.table_of g.R.RowRef.shown (world c.args.self.now) (values_in c.args.slots.now) c.args.pipe.now c.loop-pulled.base c.loop-pulled.base c.in-Err.end c.requires refl (subst (λ r. IfErr r (λ e. kept_stream g.R.TableRow.table_of g.R.RowRef.shown c.args.pipe.now.plan c.loop-pulled.base ≡ ([], e))) c.in-Err.is c.pull.ensures.end)) c.loop-pulled.invariant.meant)

pub distinct-returns-in-Fault-clause-grows : goal.distinct-returns-in-Fault-clause-grows
distinct-returns-in-Fault-clause-grows g t c =
    λ w start a b s gr.
    (took (world c.args.self.now) (facts c.args.self.now.sources) g.R.TableRow.table_of g.R.RowRef.shown (values_in c.args.slots.now) c.args.pipe.now (Covers (world c.args.self.now) (values_in c.args.slots.now) c.args.pipe.now) (λ w p. p) _ _ _ c.loop-pulled.base c.pull.new.self (pulled_value c.in-Ok.pulled) c.loop-pulled.invariant.log (subst (λ r. IfOk r (λ p. kept_stream g.R.TableRow.table_of g.R.RowRef.shown c.args.pipe.now.plan c.loop-pulled.base ≡ in_front (pulled_value p) (kept_stream g.R.TableRow.table_of g.R.RowRef.shown c.args.pipe.now.plan c.pull.new.self))) c.in-Ok.is c.pull.ensures.item)
    (λ w start h i gr. c.add_next.ensures.grows w start h i gr)).grows w start (covers_pipe (world c.args.self.now) (values_in c.args.slots.now) c.args.pipe.now w a b s) gr

pub distinct-returns-in_err-add_next-in-Ok-clause-grows : goal.distinct-returns-in_err-add_next-in-Ok-clause-grows
distinct-returns-in_err-add_next-in-Ok-clause-grows g t c =
    λ w start a b s gr.
    (took (world c.args.self.now) (facts c.args.self.now.sources) g.R.TableRow.table_of g.R.RowRef.shown (values_in c.args.slots.now) c.args.pipe.now (Covers (world c.args.self.now) (values_in c.args.slots.now) c.args.pipe.now) (λ w p. p) _ _ _ c.loop-pulled.base c.pull.new.self (pulled_value c.in-Ok.pulled) c.loop-pulled.invariant.log (subst (λ r. IfOk r (λ p. kept_stream g.R.TableRow.table_of g.R.RowRef.shown c.args.pipe.now.plan c.loop-pulled.base ≡ in_front (pulled_value p) (kept_stream g.R.TableRow.table_of g.R.RowRef.shown c.args.pipe.now.plan c.pull.new.self))) c.in-Ok.is c.pull.ensures.item)
    (λ w start h i gr. c.add_next.ensures.grows w start h i gr)).grows w start (covers_pipe (world c.args.self.now) (values_in c.args.slots.now) c.args.pipe.now w a b s) gr

pub key_columns-returns-in_err-column-clause-meant : goal.key_columns-returns-in_err-column-clause-meant
key_columns-returns-in_err-column-clause-meant g t c =
    let stops = all_stops (column_of (world c.args.self.now) (values_in c.args.slots.now) c.args.items.now) _ _ c.loop-key.columns _ _
    c.key-item.is c.loop-key-test.true c.loop-key.invariant.meant c.in_err-column.field-0.0 c.in_err-column.ensures.meant in
    let same : c.from_residual.result ≡ Err c.in_err-column.field-0.0 = search rules in
    subst (λ r. Answers (columns_of (world c.args.self.now) (values_in c.args.slots.now) c.args.keys.now c.args.items.now) r) (sym same)
    (subst (λ ks. Answers (columns_of (world c.args.self.now) (values_in c.args.slots.now) ks c.args.items.now) (Err c.in_err-column.field-0.0)) c.as_slice-key-items.ensures stops)

pub truth_of_two-returns-in_ok-binary-in-None-clause-meant : goal.truth_of_two-returns-in_ok-binary-in-None-clause-meant
truth_of_two-returns-in_ok-binary-in-None-clause-meant g t c =
    subst (λ m. Answers (truth_in (world c.args.self.now) m) c.truth_in.result) (sym c.in_ok-binary-in-None.ensures.meant)
    (c.truth_in.ensures (world c.args.self.now) refl)

pub select_many-returns-clause-meant : goal.select_many-returns-clause-meant
select_many-returns-clause-meant g t c =
    select_many_answer (world c.args.self.now) (values_in c.args.slots.now) c.args.source.now c.args.inner.now c.args.body.now _ _ c.in_ok-pipe.ensures.items c.in_ok-values.ensures.meant

pub expand_item-returns-clause-meant : goal.expand_item-returns-clause-meant
expand_item-returns-clause-meant g t c =
    expansion_is (world c.args.self.now) (values_in c.args.slots.now) c.args.item.now _ c.args.inner.now c.args.body.now _ c.read.result c.with-deeper.ensures
    (subst (λ s. IfOk c.read.result (λ items. items ≡ s)) c.in_ok-pipe.ensures.items c.read.ensures.meant)

pub sequence-returns-clause-meant : goal.sequence-returns-clause-meant
sequence-returns-clause-meant g t c = ap (λ s. Ok (sequence s)) (sym (c.in_ok-items.ensures.meant ∙ c.in_ok-pipe.ensures.items))

pub sequence-returns-in-Some-2-clause-grows : goal.sequence-returns-in-Some-2-clause-grows
sequence-returns-in-Some-2-clause-grows g t c =
    λ w start st h s gr.
    c.group_items.ensures.grows w start (selects_covered c.args.self.now.sources w c.args.slots.now c.args.source.now c.in-Select.body.now _ c.in-Some.selected c.in_ok-grouped.grouped.source.now c.in-Some.is c.in_ok-selected.ensures c.in_ok-grouped.ensures.source h)
    (stage_as (world c.args.self.now) w _ _ c.in_ok-grouped.ensures.stage refl) s gr

pub sequence-returns-in_err-records-clause-grows : goal.sequence-returns-in_err-records-clause-grows
sequence-returns-in_err-records-clause-grows g t c =
    λ w start st h s gr.
    c.group_items.ensures.grows w start (selects_covered c.args.self.now.sources w c.args.slots.now c.args.source.now c.in-Select.body.now _ c.in-Some.selected c.in_ok-grouped.grouped.source.now c.in-Some.is c.in_ok-selected.ensures c.in_ok-grouped.ensures.source h)
    (stage_as (world c.args.self.now) w _ _ c.in_ok-grouped.ensures.stage refl) s gr

pub sequence-returns-in_err-pipe-clause-grows : goal.sequence-returns-in_err-pipe-clause-grows
sequence-returns-in_err-pipe-clause-grows g t c =
    λ w start st h s gr.
    let before : Grown c.args.self.now w start c.match-stage.log = elim c.match-stage.branch [
      | sequence-in-Select+in_ok-selected+in-Some+in_ok-grouped+in_ok-records+in_default-3 b ↦ subst (Grown c.args.self.now w start) (sym b.log-is)
          (b.group_items.ensures.grows w start (selects_covered c.args.self.now.sources w c.args.slots.now c.args.source.now b.in-Select.body.now _ b.in-Some.selected b.in_ok-grouped.grouped.source.now b.in-Some.is b.in_ok-selected.ensures b.in_ok-grouped.ensures.source h)
          (stage_as (world c.args.self.now) w _ _ b.in_ok-grouped.ensures.stage refl) s gr)
      | sequence-in-Select+in_ok-selected+in_default-2 b ↦ subst (Grown c.args.self.now w start) (sym b.log-is) gr
      | sequence-in_default b ↦ subst (Grown c.args.self.now w start) (sym b.log-is) gr
    ] in
    before

pub sequence-returns-in_err-items-clause-grows : goal.sequence-returns-in_err-items-clause-grows
sequence-returns-in_err-items-clause-grows g t c =
    λ w start st h s gr.
    let before : Grown c.args.self.now w start c.match-stage.log = elim c.match-stage.branch [
      | sequence-in-Select+in_ok-selected+in-Some+in_ok-grouped+in_ok-records+in_default-3 b ↦ subst (Grown c.args.self.now w start) (sym b.log-is)
          (b.group_items.ensures.grows w start (selects_covered c.args.self.now.sources w c.args.slots.now c.args.source.now b.in-Select.body.now _ b.in-Some.selected b.in_ok-grouped.grouped.source.now b.in-Some.is b.in_ok-selected.ensures b.in_ok-grouped.ensures.source h)
          (stage_as (world c.args.self.now) w _ _ b.in_ok-grouped.ensures.stage refl) s gr)
      | sequence-in-Select+in_ok-selected+in_default-2 b ↦ subst (Grown c.args.self.now w start) (sym b.log-is) gr
      | sequence-in_default b ↦ subst (Grown c.args.self.now w start) (sym b.log-is) gr
    ] in
    c.read.ensures.grows w start (covered_as (world c.args.self.now) w _ _ c.in_ok-pipe.ensures.source h) (stage_as (world c.args.self.now) w _ _ c.in_ok-pipe.ensures.stage st) s before

pub sequence-returns-clause-grows : goal.sequence-returns-clause-grows
sequence-returns-clause-grows g t c =
    λ w start st h s gr.
    let before : Grown c.args.self.now w start c.match-stage.log = elim c.match-stage.branch [
      | sequence-in-Select+in_ok-selected+in-Some+in_ok-grouped+in_ok-records+in_default-3 b ↦ subst (Grown c.args.self.now w start) (sym b.log-is)
          (b.group_items.ensures.grows w start (selects_covered c.args.self.now.sources w c.args.slots.now c.args.source.now b.in-Select.body.now _ b.in-Some.selected b.in_ok-grouped.grouped.source.now b.in-Some.is b.in_ok-selected.ensures b.in_ok-grouped.ensures.source h)
          (stage_as (world c.args.self.now) w _ _ b.in_ok-grouped.ensures.stage refl) s gr)
      | sequence-in-Select+in_ok-selected+in_default-2 b ↦ subst (Grown c.args.self.now w start) (sym b.log-is) gr
      | sequence-in_default b ↦ subst (Grown c.args.self.now w start) (sym b.log-is) gr
    ] in
    c.read.ensures.grows w start (covered_as (world c.args.self.now) w _ _ c.in_ok-pipe.ensures.source h) (stage_as (world c.args.self.now) w _ _ c.in_ok-pipe.ensures.stage st) s before

pub all-returns-clause-meant : goal.all-returns-clause-meant
all-returns-clause-meant g t c =
    all_answer (world c.args.self.now) c.args.source.now c.args.condition.now (values_in c.args.slots.now) _ c.all_hold.result c.in_ok-pipe.ensures.items
    c.all_hold.ensures.meant

pub evaluate-returns-in-Where-clause-meant : goal.evaluate-returns-in-Where-clause-meant
evaluate-returns-in-Where-clause-meant g t c =
    where_answer (world c.args.self.now) c.args.form.now c.in-Where.of c.get-in-Where-2.result.now c.in-Where.test c.get-in-Where.result (values_in c.args.slots.now)
    c.sequence-in-Where.result c.in-Where.is c.get-in-Where-2.ensures c.get-in-Where.ensures c.sequence-in-Where.ensures.meant

pub evaluate-returns-in-Select-clause-meant : goal.evaluate-returns-in-Select-clause-meant
evaluate-returns-in-Select-clause-meant g t c =
    select_answer (world c.args.self.now) c.args.form.now c.in-Select.of c.get-in-Select-2.result.now c.in-Select.body c.get-in-Select.result (values_in c.args.slots.now)
    c.sequence-in-Select.result c.in-Select.is c.get-in-Select-2.ensures c.get-in-Select.ensures c.sequence-in-Select.ensures.meant

pub base_of-returns-in_ok-items-in_default-clause-meant : goal.base_of-returns-in_ok-items-in_default-clause-meant
base_of-returns-in_ok-items-in_default-clause-meant g t c =
    c.of_items.ensures.items ∙ c.in_ok-items-in_default.ensures (world c.args.self.now) _ refl c.evaluate-value.ensures.meant

pub order_by-sort_by-requires : goal.order_by-sort_by-requires
order_by-sort_by-requires g t c =
    counted_answer (world c.args.self.now) (values_in c.args.slots.now) c.args.keys.now _ _ _ _ c.as_slice-in-Done.ensures c.as_slice.ensures c.key_columns-columns.ensures.meant

pub order_by-returns-in-Done-clause-meant : goal.order_by-returns-in-Done-clause-meant
order_by-returns-in-Done-clause-meant g t c =
    order_by_done (world c.args.self.now) (values_in c.args.slots.now) c.args.source.now c.args.keys.now _ _ c.in_ok-items.items _ c.in_ok-items.end c.in_ok-sort_by-in-Done.field-0 _
    c.in_ok-pipe.ensures.items c.in_ok-items.ensures.meant c.in-Done.is c.as_slice-in-Done.ensures c.as_slice.ensures
    c.key_columns-columns.ensures.meant (c.in_ok-sort_by-in-Done.ensures (world c.args.self.now) (values_in c.args.slots.now))

pub order_by-returns-clause-meant : goal.order_by-returns-clause-meant
order_by-returns-clause-meant g t c =
    order_by_stops (world c.args.self.now) (values_in c.args.slots.now) c.args.source.now c.args.keys.now _ c.in_ok-items.items c.in_ok-items.end _ c.fault_sequence.result
    c.in_ok-pipe.ensures.items c.in_ok-items.ensures.meant c.in-Fault.is c.fault_sequence.ensures

pub join-returns-in_ok-values-in-Done-clause-meant : goal.join-returns-in_ok-values-in-Done-clause-meant
join-returns-in_ok-values-in-Done-clause-meant g t c =
    join_answer (world c.args.self.now) (values_in c.args.slots.now) c.args.source.now c.args.joined.now _ _ (c.in_ok-values-in-Done.values, c.in_ok-values-in-Done.end) _ _ _
    c.in_ok-outer-in-Done.ensures.items refl c.in_ok-pairs.ensures.meant c.in-Done.is c.in_ok-matches-in-Done.ensures c.in_ok-values-in-Done.ensures.meant

pub join-returns-in-Fault-clause-meant : goal.join-returns-in-Fault-clause-meant
join-returns-in-Fault-clause-meant g t c =
    join_stops (world c.args.self.now) (values_in c.args.slots.now) c.args.source.now c.args.joined.now _ _ _ _ _ refl c.in_ok-pairs.ensures.meant c.in-Fault.is c.fault_sequence.ensures

pub next-returns-in-Ok-Row-clause-meant : goal.next-returns-in-Ok-Row-clause-meant
next-returns-in-Ok-Row-clause-meant g t c =
    next_given g.R.TableRow.table_of g.R.RowRef.shown (world c.args.self.now) (values_in c.args.slots.now) c.args.pipe.now c.args.base.now c.loop-row.base c.pull.new.self (value.Row c.in-Ok-Row.row) c.pass_row.result c.requires c.loop-row.invariant.meant
    (subst (λ r. IfOk r (λ p. (kept_stream g.R.TableRow.table_of g.R.RowRef.shown c.args.pipe.now.plan c.loop-row.base) ≡ in_front (pulled_value p) (kept_stream g.R.TableRow.table_of g.R.RowRef.shown c.args.pipe.now.plan c.pull.new.self))) (c.in-Ok-Row.is ∙ ap (λ p. Ok p) c.in-Ok-Row.field-0-is) c.pull.ensures.item)
    (subst (λ (s : Stream (Value _)). IfOk c.pass_row.result (GivesStep s)) (sym (row_says g.R.TableRow.table_of g.R.RowRef.shown (world c.args.self.now) (values_in c.args.slots.now) c.args.pipe.now.stage c.args.pipe.now.source.now c.args.pipe.now.plan c.requires c.in-Ok-Row.row true (subst (λ r. IfOk r (IsPulled g.R.TableRow.table_of g.R.RowRef.shown c.args.pipe.now.plan)) (c.in-Ok-Row.is ∙ ap (λ p. Ok p) c.in-Ok-Row.field-0-is) c.pull.ensures.planned))) c.pass_row.ensures.meant)

pub next-returns-in-Ok-Row-clause-pulled : goal.next-returns-in-Ok-Row-clause-pulled
next-returns-in-Ok-Row-clause-pulled g t c =
    pulled_more (world c.args.self.now) (facts c.args.self.now.sources) (λ w. is_covered_pipe (world c.args.self.now) w (values_in c.args.slots.now) c.args.pipe.now) _ (kept_stream g.R.TableRow.table_of g.R.RowRef.shown c.args.pipe.now.plan c.loop-row.base) (kept_stream g.R.TableRow.table_of g.R.RowRef.shown c.args.pipe.now.plan c.pull.new.self) _ _ _ (value.Row c.in-Ok-Row.row)
    c.loop-row.invariant.pulled
    (subst (λ r. IfOk r (λ p. (kept_stream g.R.TableRow.table_of g.R.RowRef.shown c.args.pipe.now.plan c.loop-row.base) ≡ in_front (pulled_value p) (kept_stream g.R.TableRow.table_of g.R.RowRef.shown c.args.pipe.now.plan c.pull.new.self))) (c.in-Ok-Row.is ∙ ap (λ p. Ok p) c.in-Ok-Row.field-0-is) c.pull.ensures.item)
    (λ w start h i gr. c.pass_row.ensures.grows w start (stage_covered g.R.TableRow.table_of g.R.RowRef.shown (world c.args.self.now) w (values_in c.args.slots.now) c.args.pipe.now h) (slots_pass g.R.TableRow.table_of g.R.RowRef.shown (world c.args.self.now) w (values_in c.args.slots.now) c.args.pipe.now h) (row_passes w (value.Row c.in-Ok-Row.row) c.in-Ok-Row.row refl i) gr)

pub next-returns-in-Ok-Row-clause-hands : goal.next-returns-in-Ok-Row-clause-hands
next-returns-in-Ok-Row-clause-hands g t c =
    hands_given g.R.TableRow.table_of g.R.RowRef.shown (world c.args.self.now) (values_in c.args.slots.now) c.args.pipe.now c.requires (rows_to_come c.args.base.now) (handed_out c.args.base.now) (rows_to_come c.loop-row.base) (handed_out c.loop-row.base) (rows_to_come c.pull.new.self) (handed_out c.pull.new.self) c.loop-row.invariant.passes (of_pulled.Row c.in-Ok-Row.row) c.pass_row.result (subst (λ r. HandsOut g.R.TableRow.table_of g.R.RowRef.shown c.args.pipe.now.plan (rows_to_come c.loop-row.base) (handed_out c.loop-row.base) r (rows_to_come c.pull.new.self) (handed_out c.pull.new.self)) (c.in-Ok-Row.is ∙ ap (λ p. Ok p) c.in-Ok-Row.field-0-is) c.pull.ensures.hands)
    (subst (λ (s : Stream (Value _)). IfOk c.pass_row.result (GivesStep s)) (sym (row_says g.R.TableRow.table_of g.R.RowRef.shown (world c.args.self.now) (values_in c.args.slots.now) c.args.pipe.now.stage c.args.pipe.now.source.now c.args.pipe.now.plan c.requires c.in-Ok-Row.row true (subst (λ r. IfOk r (IsPulled g.R.TableRow.table_of g.R.RowRef.shown c.args.pipe.now.plan)) (c.in-Ok-Row.is ∙ ap (λ p. Ok p) c.in-Ok-Row.field-0-is) c.pull.ensures.planned))) c.pass_row.ensures.meant)

pub next-returns-in-Ok-Row-clause-within : goal.next-returns-in-Ok-Row-clause-within
next-returns-in-Ok-Row-clause-within g t c =
    at_most g.R.TableRow.table_of g.R.RowRef.shown (world c.args.self.now) (values_in c.args.slots.now) c.args.pipe.now c.requires (rows_to_come c.args.base.now) (handed_out c.args.base.now) (rows_to_come c.loop-row.base) (handed_out c.loop-row.base) (rows_to_come c.pull.new.self) (handed_out c.pull.new.self) c.loop-row.invariant.passes (of_pulled.Row c.in-Ok-Row.row) (subst (λ r. HandsOut g.R.TableRow.table_of g.R.RowRef.shown c.args.pipe.now.plan (rows_to_come c.loop-row.base) (handed_out c.loop-row.base) r (rows_to_come c.pull.new.self) (handed_out c.pull.new.self)) (c.in-Ok-Row.is ∙ ap (λ p. Ok p) c.in-Ok-Row.field-0-is) c.pull.ensures.hands)

pub next-returns-in-Ok-Row-clause-alone : goal.next-returns-in-Ok-Row-clause-alone
next-returns-in-Ok-Row-clause-alone g t c =
    λ none. c.pull.ensures.alone (c.loop-row.invariant.alone none)

pub next-returns-in-Item-clause-meant : goal.next-returns-in-Item-clause-meant
next-returns-in-Item-clause-meant g t c =
    next_item g.R.TableRow.table_of g.R.RowRef.shown (world c.args.self.now) (values_in c.args.slots.now) c.args.pipe.now c.args.base.now c.loop-row.base c.pull.new.self c.in-Ok-Item.item c.in-Item.item c.requires c.loop-row.invariant.meant
    (subst (λ r. IfOk r (λ p. (kept_stream g.R.TableRow.table_of g.R.RowRef.shown c.args.pipe.now.plan c.loop-row.base) ≡ in_front (pulled_value p) (kept_stream g.R.TableRow.table_of g.R.RowRef.shown c.args.pipe.now.plan c.pull.new.self))) (c.in-Ok-Item.is ∙ ap (λ p. Ok p) c.in-Ok-Item.field-0-is) c.pull.ensures.item)
    (subst (λ o. outcome_stream o ≡ comes g.R.TableRow.table_of g.R.RowRef.shown (world c.args.self.now) (values_in c.args.slots.now) c.args.pipe.now c.in-Ok-Item.item) c.in-Item.is c.in_ok-item-in-Ok-Item.ensures.meant)

pub next-returns-in-Item-clause-pulled : goal.next-returns-in-Item-clause-pulled
next-returns-in-Item-clause-pulled g t c =
    pulled_more (world c.args.self.now) (facts c.args.self.now.sources) (λ w. is_covered_pipe (world c.args.self.now) w (values_in c.args.slots.now) c.args.pipe.now) _ (kept_stream g.R.TableRow.table_of g.R.RowRef.shown c.args.pipe.now.plan c.loop-row.base) (kept_stream g.R.TableRow.table_of g.R.RowRef.shown c.args.pipe.now.plan c.pull.new.self) _ _ _ c.in-Ok-Item.item
    c.loop-row.invariant.pulled
    (subst (λ r. IfOk r (λ p. (kept_stream g.R.TableRow.table_of g.R.RowRef.shown c.args.pipe.now.plan c.loop-row.base) ≡ in_front (pulled_value p) (kept_stream g.R.TableRow.table_of g.R.RowRef.shown c.args.pipe.now.plan c.pull.new.self))) (c.in-Ok-Item.is ∙ ap (λ p. Ok p) c.in-Ok-Item.field-0-is) c.pull.ensures.item)
    (λ w start h i gr. c.pass_item.ensures.grows w start (stage_covered g.R.TableRow.table_of g.R.RowRef.shown (world c.args.self.now) w (values_in c.args.slots.now) c.args.pipe.now h) (source_covered g.R.TableRow.table_of g.R.RowRef.shown (world c.args.self.now) w (values_in c.args.slots.now) c.args.pipe.now h) (slots_pass g.R.TableRow.table_of g.R.RowRef.shown (world c.args.self.now) w (values_in c.args.slots.now) c.args.pipe.now h) i gr)

pub next-returns-in-Item-clause-hands : goal.next-returns-in-Item-clause-hands
next-returns-in-Item-clause-hands g t c =
    hands_item g.R.TableRow.table_of g.R.RowRef.shown (world c.args.self.now) (values_in c.args.slots.now) c.args.pipe.now c.requires (rows_to_come c.args.base.now) (handed_out c.args.base.now) (rows_to_come c.loop-row.base) (handed_out c.loop-row.base) (rows_to_come c.pull.new.self) (handed_out c.pull.new.self) c.loop-row.invariant.passes
    (of_pulled.Item c.in-Ok-Item.item) c.in-Item.item (subst (λ r. HandsOut g.R.TableRow.table_of g.R.RowRef.shown c.args.pipe.now.plan (rows_to_come c.loop-row.base) (handed_out c.loop-row.base) r (rows_to_come c.pull.new.self) (handed_out c.pull.new.self)) (c.in-Ok-Item.is ∙ ap (λ p. Ok p) c.in-Ok-Item.field-0-is) c.pull.ensures.hands)
    (subst (λ o. outcome_stream o ≡ comes g.R.TableRow.table_of g.R.RowRef.shown (world c.args.self.now) (values_in c.args.slots.now) c.args.pipe.now c.in-Ok-Item.item) c.in-Item.is c.in_ok-item-in-Ok-Item.ensures.meant)

pub next-returns-in-Item-clause-within : goal.next-returns-in-Item-clause-within
next-returns-in-Item-clause-within g t c =
    at_most g.R.TableRow.table_of g.R.RowRef.shown (world c.args.self.now) (values_in c.args.slots.now) c.args.pipe.now c.requires (rows_to_come c.args.base.now) (handed_out c.args.base.now) (rows_to_come c.loop-row.base) (handed_out c.loop-row.base) (rows_to_come c.pull.new.self) (handed_out c.pull.new.self) c.loop-row.invariant.passes (of_pulled.Item c.in-Ok-Item.item)
    (subst (λ r. HandsOut g.R.TableRow.table_of g.R.RowRef.shown c.args.pipe.now.plan (rows_to_come c.loop-row.base) (handed_out c.loop-row.base) r (rows_to_come c.pull.new.self) (handed_out c.pull.new.self)) (c.in-Ok-Item.is ∙ ap (λ p. Ok p) c.in-Ok-Item.field-0-is) c.pull.ensures.hands)

pub next-returns-in-Item-clause-alone : goal.next-returns-in-Item-clause-alone
next-returns-in-Item-clause-alone g t c =
    λ none. c.pull.ensures.alone (c.loop-row.invariant.alone none)

pub next-returns-in-Fault-clause-meant : goal.next-returns-in-Fault-clause-meant
next-returns-in-Fault-clause-meant g t c =
    next_fault g.R.TableRow.table_of g.R.RowRef.shown (world c.args.self.now) (values_in c.args.slots.now) c.args.pipe.now c.args.base.now c.loop-row.base c.pull.new.self c.in-Ok-Item.item c.in-Fault.fault c.requires c.loop-row.invariant.meant
    (subst (λ r. IfOk r (λ p. (kept_stream g.R.TableRow.table_of g.R.RowRef.shown c.args.pipe.now.plan c.loop-row.base) ≡ in_front (pulled_value p) (kept_stream g.R.TableRow.table_of g.R.RowRef.shown c.args.pipe.now.plan c.pull.new.self))) (c.in-Ok-Item.is ∙ ap (λ p. Ok p) c.in-Ok-Item.field-0-is) c.pull.ensures.item)
    (subst (λ o. outcome_stream o ≡ comes g.R.TableRow.table_of g.R.RowRef.shown (world c.args.self.now) (values_in c.args.slots.now) c.args.pipe.now c.in-Ok-Item.item) c.in-Fault.is c.in_ok-item-in-Ok-Item.ensures.meant)

pub next-returns-in-Fault-clause-pulled : goal.next-returns-in-Fault-clause-pulled
next-returns-in-Fault-clause-pulled g t c =
    pulled_more (world c.args.self.now) (facts c.args.self.now.sources) (λ w. is_covered_pipe (world c.args.self.now) w (values_in c.args.slots.now) c.args.pipe.now) _ (kept_stream g.R.TableRow.table_of g.R.RowRef.shown c.args.pipe.now.plan c.loop-row.base) (kept_stream g.R.TableRow.table_of g.R.RowRef.shown c.args.pipe.now.plan c.pull.new.self) _ _ _ c.in-Ok-Item.item
    c.loop-row.invariant.pulled
    (subst (λ r. IfOk r (λ p. (kept_stream g.R.TableRow.table_of g.R.RowRef.shown c.args.pipe.now.plan c.loop-row.base) ≡ in_front (pulled_value p) (kept_stream g.R.TableRow.table_of g.R.RowRef.shown c.args.pipe.now.plan c.pull.new.self))) (c.in-Ok-Item.is ∙ ap (λ p. Ok p) c.in-Ok-Item.field-0-is) c.pull.ensures.item)
    (λ w start h i gr. c.pass_item.ensures.grows w start (stage_covered g.R.TableRow.table_of g.R.RowRef.shown (world c.args.self.now) w (values_in c.args.slots.now) c.args.pipe.now h) (source_covered g.R.TableRow.table_of g.R.RowRef.shown (world c.args.self.now) w (values_in c.args.slots.now) c.args.pipe.now h) (slots_pass g.R.TableRow.table_of g.R.RowRef.shown (world c.args.self.now) w (values_in c.args.slots.now) c.args.pipe.now h) i gr)

pub next-returns-in-Fault-clause-hands : goal.next-returns-in-Fault-clause-hands
next-returns-in-Fault-clause-hands g t c =
    hands_fault g.R.TableRow.table_of g.R.RowRef.shown (world c.args.self.now) (values_in c.args.slots.now) c.args.pipe.now c.requires (rows_to_come c.args.base.now) (handed_out c.args.base.now) (rows_to_come c.loop-row.base) (handed_out c.loop-row.base) (rows_to_come c.pull.new.self) (handed_out c.pull.new.self) c.loop-row.invariant.passes
    (of_pulled.Item c.in-Ok-Item.item) c.in-Fault.fault (subst (λ r. HandsOut g.R.TableRow.table_of g.R.RowRef.shown c.args.pipe.now.plan (rows_to_come c.loop-row.base) (handed_out c.loop-row.base) r (rows_to_come c.pull.new.self) (handed_out c.pull.new.self)) (c.in-Ok-Item.is ∙ ap (λ p. Ok p) c.in-Ok-Item.field-0-is) c.pull.ensures.hands)
    (subst (λ o. outcome_stream o ≡ comes g.R.TableRow.table_of g.R.RowRef.shown (world c.args.self.now) (values_in c.args.slots.now) c.args.pipe.now c.in-Ok-Item.item) c.in-Fault.is c.in_ok-item-in-Ok-Item.ensures.meant)

pub next-returns-in-Fault-clause-within : goal.next-returns-in-Fault-clause-within
next-returns-in-Fault-clause-within g t c =
    at_most g.R.TableRow.table_of g.R.RowRef.shown (world c.args.self.now) (values_in c.args.slots.now) c.args.pipe.now c.requires (rows_to_come c.args.base.now) (handed_out c.args.base.now) (rows_to_come c.loop-row.base) (handed_out c.loop-row.base) (rows_to_come c.pull.new.self) (handed_out c.pull.new.self) c.loop-row.invariant.passes (of_pulled.Item c.in-Ok-Item.item)
    (subst (λ r. HandsOut g.R.TableRow.table_of g.R.RowRef.shown c.args.pipe.now.plan (rows_to_come c.loop-row.base) (handed_out c.loop-row.base) r (rows_to_come c.pull.new.self) (handed_out c.pull.new.self)) (c.in-Ok-Item.is ∙ ap (λ p. Ok p) c.in-Ok-Item.field-0-is) c.pull.ensures.hands)

pub next-returns-in-Fault-clause-alone : goal.next-returns-in-Fault-clause-alone
next-returns-in-Fault-clause-alone g t c =
    λ none. c.pull.ensures.alone (c.loop-row.invariant.alone none)

pub next-returns-in_err-item-in-Ok-Item-clause-pulled : goal.next-returns-in_err-item-in-Ok-Item-clause-pulled
next-returns-in_err-item-in-Ok-Item-clause-pulled g t c =
    pulled_more (world c.args.self.now) (facts c.args.self.now.sources) (λ w. is_covered_pipe (world c.args.self.now) w (values_in c.args.slots.now) c.args.pipe.now) _ (kept_stream g.R.TableRow.table_of g.R.RowRef.shown c.args.pipe.now.plan c.loop-row.base) (kept_stream g.R.TableRow.table_of g.R.RowRef.shown c.args.pipe.now.plan c.pull.new.self) _ _ _ c.in-Ok-Item.item
    c.loop-row.invariant.pulled
    (subst (λ r. IfOk r (λ p. (kept_stream g.R.TableRow.table_of g.R.RowRef.shown c.args.pipe.now.plan c.loop-row.base) ≡ in_front (pulled_value p) (kept_stream g.R.TableRow.table_of g.R.RowRef.shown c.args.pipe.now.plan c.pull.new.self))) (c.in-Ok-Item.is ∙ ap (λ p. Ok p) c.in-Ok-Item.field-0-is) c.pull.ensures.item)
    (λ w start h i gr. c.pass_item.ensures.grows w start (stage_covered g.R.TableRow.table_of g.R.RowRef.shown (world c.args.self.now) w (values_in c.args.slots.now) c.args.pipe.now h) (source_covered g.R.TableRow.table_of g.R.RowRef.shown (world c.args.self.now) w (values_in c.args.slots.now) c.args.pipe.now h) (slots_pass g.R.TableRow.table_of g.R.RowRef.shown (world c.args.self.now) w (values_in c.args.slots.now) c.args.pipe.now h) i gr)

pub next-returns-in_err-item-in-Ok-Item-clause-within : goal.next-returns-in_err-item-in-Ok-Item-clause-within
next-returns-in_err-item-in-Ok-Item-clause-within g t c =
    at_most g.R.TableRow.table_of g.R.RowRef.shown (world c.args.self.now) (values_in c.args.slots.now) c.args.pipe.now c.requires (rows_to_come c.args.base.now) (handed_out c.args.base.now) (rows_to_come c.loop-row.base) (handed_out c.loop-row.base) (rows_to_come c.pull.new.self) (handed_out c.pull.new.self) c.loop-row.invariant.passes (of_pulled.Item c.in-Ok-Item.item)
    (subst (λ r. HandsOut g.R.TableRow.table_of g.R.RowRef.shown c.args.pipe.now.plan (rows_to_come c.loop-row.base) (handed_out c.loop-row.base) r (rows_to_come c.pull.new.self) (handed_out c.pull.new.self)) (c.in-Ok-Item.is ∙ ap (λ p. Ok p) c.in-Ok-Item.field-0-is) c.pull.ensures.hands)

pub next-returns-in_err-item-in-Ok-Item-clause-alone : goal.next-returns-in_err-item-in-Ok-Item-clause-alone
next-returns-in_err-item-in-Ok-Item-clause-alone g t c =
    λ none. c.pull.ensures.alone (c.loop-row.invariant.alone none)

pub next-returns-in-Err-clause-meant : goal.next-returns-in-Err-clause-meant
next-returns-in-Err-clause-meant g t c =
    next_ended g.R.TableRow.table_of g.R.RowRef.shown (world c.args.self.now) (values_in c.args.slots.now) c.args.pipe.now c.args.base.now c.loop-row.base _ c.requires c.loop-row.invariant.meant
    (subst (λ r. IfErr r (λ e. (kept_stream g.R.TableRow.table_of g.R.RowRef.shown c.args.pipe.now.plan c.loop-row.base) ≡ ([], e))) c.in-Err.is c.pull.ensures.end)

pub next-returns-in-Err-clause-pulled : goal.next-returns-in-Err-clause-pulled
next-returns-in-Err-clause-pulled g t c =
    pulled_over (world c.args.self.now) (facts c.args.self.now.sources) (λ w. is_covered_pipe (world c.args.self.now) w (values_in c.args.slots.now) c.args.pipe.now) _ (kept_stream g.R.TableRow.table_of g.R.RowRef.shown c.args.pipe.now.plan c.loop-row.base) (kept_stream g.R.TableRow.table_of g.R.RowRef.shown c.args.pipe.now.plan c.pull.new.self) _ _ c.in-Err.end c.loop-row.invariant.pulled
    (subst (λ r. IfErr r (λ e. (kept_stream g.R.TableRow.table_of g.R.RowRef.shown c.args.pipe.now.plan c.loop-row.base) ≡ ([], e))) c.in-Err.is c.pull.ensures.end)
    (subst (λ r. IfErr r (λ e. (kept_stream g.R.TableRow.table_of g.R.RowRef.shown c.args.pipe.now.plan c.pull.new.self).0 ≡ [])) c.in-Err.is c.pull.ensures.over)

pub next-returns-in-Err-clause-hands : goal.next-returns-in-Err-clause-hands
next-returns-in-Err-clause-hands g t c =
    hands_end g.R.TableRow.table_of g.R.RowRef.shown (world c.args.self.now) (values_in c.args.slots.now) c.args.pipe.now c.requires (rows_to_come c.args.base.now) (handed_out c.args.base.now) (rows_to_come c.loop-row.base) (handed_out c.loop-row.base) (rows_to_come c.pull.new.self) (handed_out c.pull.new.self) c.loop-row.invariant.passes c.in-Err.end
    (subst (λ r. HandsOut g.R.TableRow.table_of g.R.RowRef.shown c.args.pipe.now.plan (rows_to_come c.loop-row.base) (handed_out c.loop-row.base) r (rows_to_come c.pull.new.self) (handed_out c.pull.new.self)) c.in-Err.is c.pull.ensures.hands)

pub next-returns-in-Err-clause-within : goal.next-returns-in-Err-clause-within
next-returns-in-Err-clause-within g t c =
    at_most_end g.R.TableRow.table_of g.R.RowRef.shown (world c.args.self.now) (values_in c.args.slots.now) c.args.pipe.now c.requires (rows_to_come c.args.base.now) (handed_out c.args.base.now) (rows_to_come c.loop-row.base) (handed_out c.loop-row.base) (rows_to_come c.pull.new.self) (handed_out c.pull.new.self) c.loop-row.invariant.passes c.in-Err.end
    (subst (λ r. HandsOut g.R.TableRow.table_of g.R.RowRef.shown c.args.pipe.now.plan (rows_to_come c.loop-row.base) (handed_out c.loop-row.base) r (rows_to_come c.pull.new.self) (handed_out c.pull.new.self)) c.in-Err.is c.pull.ensures.hands)

pub next-returns-in-Err-clause-alone : goal.next-returns-in-Err-clause-alone
next-returns-in-Err-clause-alone g t c =
    λ none. c.pull.ensures.alone (c.loop-row.invariant.alone none)

pub next-loop-row-init : goal.next-loop-row-init
next-loop-row-init g t c =
    record {
      meant = refl;
      pulled = pulled_none (world c.args.self.now) (facts c.args.self.now.sources) (λ w. is_covered_pipe (world c.args.self.now) w (values_in c.args.slots.now) c.args.pipe.now) _ _;
      passes = passes_none g.R.TableRow.table_of g.R.RowRef.shown (world c.args.self.now) (values_in c.args.slots.now) c.args.pipe.now (rows_to_come c.args.base.now) (handed_out c.args.base.now);
      alone = λ none. none;
    }

pub next-loop-row-preserved : goal.next-loop-row-preserved
next-loop-row-preserved g t c =
    record {
      meant = next_dropped g.R.TableRow.table_of g.R.RowRef.shown (world c.args.self.now) (values_in c.args.slots.now) c.args.pipe.now c.args.base.now c.loop-row.base c.pull.new.self c.in-Ok-Item.item c.requires c.loop-row.invariant.meant
          (subst (λ r. IfOk r (λ p. (kept_stream g.R.TableRow.table_of g.R.RowRef.shown c.args.pipe.now.plan c.loop-row.base) ≡ in_front (pulled_value p) (kept_stream g.R.TableRow.table_of g.R.RowRef.shown c.args.pipe.now.plan c.pull.new.self))) (c.in-Ok-Item.is ∙ ap (λ p. Ok p) c.in-Ok-Item.field-0-is) c.pull.ensures.item)
          (subst (λ o. outcome_stream o ≡ comes g.R.TableRow.table_of g.R.RowRef.shown (world c.args.self.now) (values_in c.args.slots.now) c.args.pipe.now c.in-Ok-Item.item) c.in-Dropped.is c.in_ok-item-in-Ok-Item.ensures.meant);
      pulled = pulled_more (world c.args.self.now) (facts c.args.self.now.sources) (λ w. is_covered_pipe (world c.args.self.now) w (values_in c.args.slots.now) c.args.pipe.now) _ (kept_stream g.R.TableRow.table_of g.R.RowRef.shown c.args.pipe.now.plan c.loop-row.base) (kept_stream g.R.TableRow.table_of g.R.RowRef.shown c.args.pipe.now.plan c.pull.new.self) _ _ _ c.in-Ok-Item.item
          c.loop-row.invariant.pulled
          (subst (λ r. IfOk r (λ p. (kept_stream g.R.TableRow.table_of g.R.RowRef.shown c.args.pipe.now.plan c.loop-row.base) ≡ in_front (pulled_value p) (kept_stream g.R.TableRow.table_of g.R.RowRef.shown c.args.pipe.now.plan c.pull.new.self))) (c.in-Ok-Item.is ∙ ap (λ p. Ok p) c.in-Ok-Item.field-0-is) c.pull.ensures.item)
          (λ w start h i gr. c.pass_item.ensures.grows w start (stage_covered g.R.TableRow.table_of g.R.RowRef.shown (world c.args.self.now) w (values_in c.args.slots.now) c.args.pipe.now h) (source_covered g.R.TableRow.table_of g.R.RowRef.shown (world c.args.self.now) w (values_in c.args.slots.now) c.args.pipe.now h) (slots_pass g.R.TableRow.table_of g.R.RowRef.shown (world c.args.self.now) w (values_in c.args.slots.now) c.args.pipe.now h) i gr);
      passes = passes_dropped g.R.TableRow.table_of g.R.RowRef.shown (world c.args.self.now) (values_in c.args.slots.now) c.args.pipe.now c.requires (rows_to_come c.args.base.now) (handed_out c.args.base.now) (rows_to_come c.loop-row.base) (handed_out c.loop-row.base) (rows_to_come c.pull.new.self) (handed_out c.pull.new.self) c.loop-row.invariant.passes
          (of_pulled.Item c.in-Ok-Item.item) (subst (λ r. HandsOut g.R.TableRow.table_of g.R.RowRef.shown c.args.pipe.now.plan (rows_to_come c.loop-row.base) (handed_out c.loop-row.base) r (rows_to_come c.pull.new.self) (handed_out c.pull.new.self)) (c.in-Ok-Item.is ∙ ap (λ p. Ok p) c.in-Ok-Item.field-0-is) c.pull.ensures.hands)
          (subst (λ o. outcome_stream o ≡ comes g.R.TableRow.table_of g.R.RowRef.shown (world c.args.self.now) (values_in c.args.slots.now) c.args.pipe.now c.in-Ok-Item.item) c.in-Dropped.is c.in_ok-item-in-Ok-Item.ensures.meant);
      alone = λ none. c.pull.ensures.alone (c.loop-row.invariant.alone none);
    }

pub tally_next-returns-in-Row-clause-meant : goal.tally_next-returns-in-Row-clause-meant
tally_next-returns-in-Row-clause-meant g t c =
    subst (λ p. IfOk c.tally_row.result (Tallies c.args.tally (comes g.R.TableRow.table_of g.R.RowRef.shown (world c.args.self.now) (values_in c.args.slots.now) c.args.pipe.now (pulled_value p)))) (sym c.in-Row.is)
    (subst (λ (s : Stream (Value _)). IfOk c.tally_row.result (Tallies c.args.tally s)) (sym (row_says g.R.TableRow.table_of g.R.RowRef.shown (world c.args.self.now) (values_in c.args.slots.now) c.args.pipe.now.stage c.args.pipe.now.source.now c.args.pipe.now.plan c.requires.planned c.in-Row.row true (subst (λ p. IsPulled g.R.TableRow.table_of g.R.RowRef.shown c.args.pipe.now.plan p) c.in-Row.is c.requires.pulled))) c.tally_row.ensures.meant)

pub tally_next-returns-in-Row-clause-grows : goal.tally_next-returns-in-Row-clause-grows
tally_next-returns-in-Row-clause-grows g t c =
    λ w start h i gr.
    c.tally_row.ensures.grows w start (stage_covered g.R.TableRow.table_of g.R.RowRef.shown (world c.args.self.now) w (values_in c.args.slots.now) c.args.pipe.now h) (slots_pass g.R.TableRow.table_of g.R.RowRef.shown (world c.args.self.now) w (values_in c.args.slots.now) c.args.pipe.now h)
    (row_passes w (pulled_value c.args.pulled) c.in-Row.row (ap pulled_value c.in-Row.is) i) gr

pub tally_pulled-loop-pulled-init : goal.tally_pulled-loop-pulled-init
tally_pulled-loop-pulled-init g t c =
    record {
      meant = tally_begins c.args.of.now c.args.tally _ _ (left_opened (world c.args.self.now) (values_in c.args.slots.now) _ _ c.in_ok-base.base c.in_ok-base.ensures.meant);
      log = opened (world c.args.self.now) (facts c.args.self.now.sources) g.R.TableRow.table_of g.R.RowRef.shown (values_in c.args.slots.now) c.args.pipe.now (Covers (world c.args.self.now) (values_in c.args.slots.now) c.args.pipe.now) _ _ c.in_ok-base.base (λ w start p gr. c.open.ensures.grows w start p.source_in p.slots_in gr) (λ w p. c.in_ok-base.ensures.from w p.source_in p.slots_in);
    }

pub tally_pulled-returns-in_err-next-in-Ok-clause-grows : goal.tally_pulled-returns-in_err-next-in-Ok-clause-grows
tally_pulled-returns-in_err-next-in-Ok-clause-grows g t c =
    λ w start a b s gr.
    (took (world c.args.self.now) (facts c.args.self.now.sources) g.R.TableRow.table_of g.R.RowRef.shown (values_in c.args.slots.now) c.args.pipe.now (Covers (world c.args.self.now) (values_in c.args.slots.now) c.args.pipe.now) (λ w p. p) _ _ _ c.loop-pulled.base c.pull.new.self (pulled_value c.in-Ok.pulled) c.loop-pulled.invariant.log
    (subst (λ r. IfOk r (λ p. (kept_stream g.R.TableRow.table_of g.R.RowRef.shown c.args.pipe.now.plan c.loop-pulled.base) ≡ in_front (pulled_value p) (kept_stream g.R.TableRow.table_of g.R.RowRef.shown c.args.pipe.now.plan c.pull.new.self))) c.in-Ok.is c.pull.ensures.item)
    (λ w start h i gr. c.tally_next.ensures.grows w start h i gr)).grows w start (covers_pipe (world c.args.self.now) (values_in c.args.slots.now) c.args.pipe.now w a b s) gr

pub tally_pulled-loop-pulled-smaller : goal.tally_pulled-loop-pulled-smaller
tally_pulled-loop-pulled-smaller g t c =
    fewer (kept_stream g.R.TableRow.table_of g.R.RowRef.shown c.args.pipe.now.plan c.loop-pulled.base) (kept_stream g.R.TableRow.table_of g.R.RowRef.shown c.args.pipe.now.plan c.pull.new.self) (pulled_value c.in-Ok.pulled) (subst (λ r. IfOk r (λ p. (kept_stream g.R.TableRow.table_of g.R.RowRef.shown c.args.pipe.now.plan c.loop-pulled.base) ≡ in_front (pulled_value p) (kept_stream g.R.TableRow.table_of g.R.RowRef.shown c.args.pipe.now.plan c.pull.new.self))) c.in-Ok.is c.pull.ensures.item)

pub tally_pulled-loop-pulled-preserved : goal.tally_pulled-loop-pulled-preserved
tally_pulled-loop-pulled-preserved g t c =
    record {
      meant = tally_on c.args.of.now c.loop-pulled.tally _ (Ok c.in-Ok-2.next) (items_left (world c.args.self.now) (values_in c.args.slots.now) c.args.pipe.now c.loop-pulled.base) (comes g.R.TableRow.table_of g.R.RowRef.shown (world c.args.self.now) (values_in c.args.slots.now) c.args.pipe.now (pulled_value c.in-Ok.pulled)) (items_left (world c.args.self.now) (values_in c.args.slots.now) c.args.pipe.now c.pull.new.self) _
          (pulled g.R.TableRow.table_of g.R.RowRef.shown (world c.args.self.now) (values_in c.args.slots.now) c.args.pipe.now c.loop-pulled.base c.pull.new.self (pulled_value c.in-Ok.pulled) c.requires (subst (λ r. IfOk r (λ p. (kept_stream g.R.TableRow.table_of g.R.RowRef.shown c.args.pipe.now.plan c.loop-pulled.base) ≡ in_front (pulled_value p) (kept_stream g.R.TableRow.table_of g.R.RowRef.shown c.args.pipe.now.plan c.pull.new.self))) c.in-Ok.is c.pull.ensures.item))
          c.in_ok-next-in-Ok.ensures.meant c.in-Ok-2.is c.loop-pulled.invariant.meant;
      log = took (world c.args.self.now) (facts c.args.self.now.sources) g.R.TableRow.table_of g.R.RowRef.shown (values_in c.args.slots.now) c.args.pipe.now (Covers (world c.args.self.now) (values_in c.args.slots.now) c.args.pipe.now) (λ w p. p) _ _ _ c.loop-pulled.base c.pull.new.self (pulled_value c.in-Ok.pulled) c.loop-pulled.invariant.log
          (subst (λ r. IfOk r (λ p. (kept_stream g.R.TableRow.table_of g.R.RowRef.shown c.args.pipe.now.plan c.loop-pulled.base) ≡ in_front (pulled_value p) (kept_stream g.R.TableRow.table_of g.R.RowRef.shown c.args.pipe.now.plan c.pull.new.self))) c.in-Ok.is c.pull.ensures.item)
          (λ w start h i gr. c.tally_next.ensures.grows w start h i gr);
    }

pub tally_pulled-returns-in-Err-2-clause-meant : goal.tally_pulled-returns-in-Err-2-clause-meant
tally_pulled-returns-in-Err-2-clause-meant g t c =
    ap as_value (sym (tally_on c.args.of.now c.loop-pulled.tally _ (Err c.in-Err-2.fault) (items_left (world c.args.self.now) (values_in c.args.slots.now) c.args.pipe.now c.loop-pulled.base) (comes g.R.TableRow.table_of g.R.RowRef.shown (world c.args.self.now) (values_in c.args.slots.now) c.args.pipe.now (pulled_value c.in-Ok.pulled)) (items_left (world c.args.self.now) (values_in c.args.slots.now) c.args.pipe.now c.pull.new.self) _
    (pulled g.R.TableRow.table_of g.R.RowRef.shown (world c.args.self.now) (values_in c.args.slots.now) c.args.pipe.now c.loop-pulled.base c.pull.new.self (pulled_value c.in-Ok.pulled) c.requires (subst (λ r. IfOk r (λ p. (kept_stream g.R.TableRow.table_of g.R.RowRef.shown c.args.pipe.now.plan c.loop-pulled.base) ≡ in_front (pulled_value p) (kept_stream g.R.TableRow.table_of g.R.RowRef.shown c.args.pipe.now.plan c.pull.new.self))) c.in-Ok.is c.pull.ensures.item))
    c.in_ok-next-in-Ok.ensures.meant c.in-Err-2.is c.loop-pulled.invariant.meant))

pub tally_pulled-returns-in-Err-2-clause-grows : goal.tally_pulled-returns-in-Err-2-clause-grows
tally_pulled-returns-in-Err-2-clause-grows g t c =
    λ w start a b s gr.
    (took (world c.args.self.now) (facts c.args.self.now.sources) g.R.TableRow.table_of g.R.RowRef.shown (values_in c.args.slots.now) c.args.pipe.now (Covers (world c.args.self.now) (values_in c.args.slots.now) c.args.pipe.now) (λ w p. p) _ _ _ c.loop-pulled.base c.pull.new.self (pulled_value c.in-Ok.pulled) c.loop-pulled.invariant.log
    (subst (λ r. IfOk r (λ p. (kept_stream g.R.TableRow.table_of g.R.RowRef.shown c.args.pipe.now.plan c.loop-pulled.base) ≡ in_front (pulled_value p) (kept_stream g.R.TableRow.table_of g.R.RowRef.shown c.args.pipe.now.plan c.pull.new.self))) c.in-Ok.is c.pull.ensures.item)
    (λ w start h i gr. c.tally_next.ensures.grows w start h i gr)).grows w start (covers_pipe (world c.args.self.now) (values_in c.args.slots.now) c.args.pipe.now w a b s) gr

pub tally_items-returns-clause-meant : goal.tally_items-returns-clause-meant
tally_items-returns-clause-meant g t c =
    subst (λ m. IsAnswer (as_value m) c.answer.result)
    (staged_ends (world c.args.self.now) (values_in c.args.slots.now) c.args.stage.now c.args.of.now c.loop-item.tally c.args.items.now _ c.args.end _ c.loop-item-test.false c.loop-item.invariant.meant) c.answer.ensures

pub tally_row-returns-in-Some-clause-meant : goal.tally_row-returns-in-Some-clause-meant
tally_row-returns-in-Some-clause-meant g t c =
    cell_of_row (world c.args.self.now) (values_in c.args.slots.now) c.args.pipe.now c.args.row.now g.R.TableRow.table_of g.R.RowRef.shown c.args.tally _ _ _ c.in-Select.is c.requires.planned c.requires.passes (sym c.in-Some.ensures) c.with_scalar.ensures

pub tally_pulled-returns-in-Err-clause-grows : goal.tally_pulled-returns-in-Err-clause-grows
tally_pulled-returns-in-Err-clause-grows g t c =
    λ w start a b s gr.
    c.loop-pulled.invariant.log.grows w start (covers_pipe (world c.args.self.now) (values_in c.args.slots.now) c.args.pipe.now w a b s) gr

pub tally_pulled-returns-in-Err-clause-meant : goal.tally_pulled-returns-in-Err-clause-meant
tally_pulled-returns-in-Err-clause-meant g t c =
    subst (λ m. IsAnswer (as_value m) c.answer.result) (tally_over g.R.TableRow.table_of g.R.RowRef.shown (world c.args.self.now) (values_in c.args.slots.now) c.args.pipe.now c.loop-pulled.base c.args.of.now c.loop-pulled.tally c.in-Err.end _ c.requires (subst (λ r. IfErr r (λ e. (kept_stream g.R.TableRow.table_of g.R.RowRef.shown c.args.pipe.now.plan c.loop-pulled.base) ≡ ([], e))) c.in-Err.is c.pull.ensures.end) c.loop-pulled.invariant.meant) c.answer.ensures

pub evaluate-returns-in-First-clause-grows : goal.evaluate-returns-in-First-clause-grows
evaluate-returns-in-First-clause-grows g t c =
    λ w start h s gr.
    c.part.ensures.grows w start
    refl
    (covered_first (world c.args.self.now) w c.args.form.now _ _ c.in-First.is c.get.ensures h)
    s gr

pub evaluate-returns-in-Second-clause-grows : goal.evaluate-returns-in-Second-clause-grows
evaluate-returns-in-Second-clause-grows g t c =
    λ w start h s gr.
    c.part-in-Second.ensures.grows w start
    refl
    (covered_second (world c.args.self.now) w c.args.form.now _ _ c.in-Second.is c.get-in-Second.ensures h)
    s gr

pub evaluate-returns-in-Column-clause-grows : goal.evaluate-returns-in-Column-clause-grows
evaluate-returns-in-Column-clause-grows g t c =
    λ w start h s gr.
    c.part-in-Column.ensures.grows w start
    refl
    (covered_column (world c.args.self.now) w c.args.form.now _ _ _ _ c.in-Column.is c.get-in-Column.ensures h)
    s gr

pub evaluate-returns-in-Host-clause-grows : goal.evaluate-returns-in-Host-clause-grows
evaluate-returns-in-Host-clause-grows g t c =
    λ w start h s gr.
    c.part-in-Host.ensures.grows w start
    (host_passes (world c.args.self.now) w c.args.form.now _ _ _ _ c.in-Host.is h)
    (covered_host (world c.args.self.now) w c.args.form.now _ _ _ _ _ c.in-Host.is c.get-in-Host.ensures h)
    s gr

pub evaluate-returns-in-Member-clause-grows : goal.evaluate-returns-in-Member-clause-grows
evaluate-returns-in-Member-clause-grows g t c =
    λ w start h s gr.
    c.part-in-Member.ensures.grows w start
    refl
    (covered_member (world c.args.self.now) w c.args.form.now _ _ _ c.in-Member.is c.get-in-Member.ensures h)
    s gr

pub evaluate-returns-in-Key-clause-grows : goal.evaluate-returns-in-Key-clause-grows
evaluate-returns-in-Key-clause-grows g t c =
    λ w start h s gr.
    c.key.ensures.grows w start
    (covered_key (world c.args.self.now) w c.args.form.now _ _ c.in-Key.is c.get-in-Key.ensures h)
    s gr

pub evaluate-returns-in-Unary-clause-grows : goal.evaluate-returns-in-Unary-clause-grows
evaluate-returns-in-Unary-clause-grows g t c =
    λ w start h s gr.
    c.unary.ensures.grows w start
    (covered_unary (world c.args.self.now) w c.args.form.now _ _ _ c.in-Unary.is c.get-in-Unary.ensures h)
    s gr

pub evaluate-returns-in-Binary-clause-grows : goal.evaluate-returns-in-Binary-clause-grows
evaluate-returns-in-Binary-clause-grows g t c =
    λ w start h s gr.
    c.binary.ensures.grows w start
    (covered_binary_left (world c.args.self.now) w c.args.form.now _ _ _ _ c.in-Binary.is c.get-in-Binary.ensures h)
    (covered_binary_right (world c.args.self.now) w c.args.form.now _ _ _ _ c.in-Binary.is c.get-in-Binary-2.ensures h)
    s gr

pub evaluate-returns-in-And-clause-grows : goal.evaluate-returns-in-And-clause-grows
evaluate-returns-in-And-clause-grows g t c =
    λ w start h s gr.
    c.both.ensures.grows w start
    (covered_and_left (world c.args.self.now) w c.args.form.now _ _ _ c.in-And.is c.get-in-And.ensures h)
    (covered_and_right (world c.args.self.now) w c.args.form.now _ _ _ c.in-And.is c.get-in-And-2.ensures h)
    s gr

pub evaluate-returns-in-Or-clause-grows : goal.evaluate-returns-in-Or-clause-grows
evaluate-returns-in-Or-clause-grows g t c =
    λ w start h s gr.
    c.either.ensures.grows w start
    (covered_or_left (world c.args.self.now) w c.args.form.now _ _ _ c.in-Or.is c.get-in-Or.ensures h)
    (covered_or_right (world c.args.self.now) w c.args.form.now _ _ _ c.in-Or.is c.get-in-Or-2.ensures h)
    s gr

pub evaluate-returns-in-Coalesce-clause-grows : goal.evaluate-returns-in-Coalesce-clause-grows
evaluate-returns-in-Coalesce-clause-grows g t c =
    λ w start h s gr.
    c.coalesce.ensures.grows w start
    (covered_coalesce_left (world c.args.self.now) w c.args.form.now _ _ _ c.in-Coalesce.is c.get-in-Coalesce.ensures h)
    (covered_coalesce_right (world c.args.self.now) w c.args.form.now _ _ _ c.in-Coalesce.is c.get-in-Coalesce-2.ensures h)
    s gr

pub evaluate-returns-in-Conditional-clause-grows : goal.evaluate-returns-in-Conditional-clause-grows
evaluate-returns-in-Conditional-clause-grows g t c =
    λ w start h s gr.
    c.choose.ensures.grows w start
    (covered_conditional_condition (world c.args.self.now) w c.args.form.now _ _ _ _ c.in-Conditional.is c.get-in-Conditional.ensures h)
    (covered_conditional_first (world c.args.self.now) w c.args.form.now _ _ _ _ c.in-Conditional.is c.get-in-Conditional-2.ensures h)
    (covered_conditional_second (world c.args.self.now) w c.args.form.now _ _ _ _ c.in-Conditional.is c.get-in-Conditional-3.ensures h)
    s gr

pub evaluate-returns-in-IsNull-clause-grows : goal.evaluate-returns-in-IsNull-clause-grows
evaluate-returns-in-IsNull-clause-grows g t c =
    λ w start h s gr.
    c.null_test.ensures.grows w start
    (covered_is_null (world c.args.self.now) w c.args.form.now _ _ _ c.in-IsNull.is c.get-in-IsNull.ensures h)
    s gr

pub evaluate-returns-in-Record-clause-grows : goal.evaluate-returns-in-Record-clause-grows
evaluate-returns-in-Record-clause-grows g t c =
    λ w start h s gr.
    c.record.ensures.grows w start
    (covered_record (world c.args.self.now) w c.args.form.now _ _ c.in-Record.is refl h)
    s gr

pub evaluate-returns-in-Pair-clause-grows : goal.evaluate-returns-in-Pair-clause-grows
evaluate-returns-in-Pair-clause-grows g t c =
    λ w start h s gr.
    c.pair.ensures.grows w start
    (covered_pair_first (world c.args.self.now) w c.args.form.now _ _ _ c.in-Pair.is c.get-in-Pair.ensures h)
    (covered_pair_second (world c.args.self.now) w c.args.form.now _ _ _ c.in-Pair.is c.get-in-Pair-2.ensures h)
    s gr

pub evaluate-returns-in-Sequence-clause-grows : goal.evaluate-returns-in-Sequence-clause-grows
evaluate-returns-in-Sequence-clause-grows g t c =
    λ w start h s gr.
    c.sequence.ensures.grows w start
    refl
    (covered_sequence (world c.args.self.now) w c.args.form.now _ _ c.in-Sequence.is c.get-in-Sequence.ensures h)
    s gr

pub evaluate-returns-in-Simple-clause-grows : goal.evaluate-returns-in-Simple-clause-grows
evaluate-returns-in-Simple-clause-grows g t c =
    λ w start h s gr.
    c.simple.ensures.grows w start
    (covered_simple (world c.args.self.now) w c.args.form.now _ _ _ _ c.in-Simple.is c.get-in-Simple.ensures h)
    s gr

pub evaluate-returns-in-Given-clause-grows : goal.evaluate-returns-in-Given-clause-grows
evaluate-returns-in-Given-clause-grows g t c =
    λ w start h s gr.
    c.given.ensures.grows w start
    (covered_given_source (world c.args.self.now) w c.args.form.now _ _ _ _ c.in-Given.is c.get-in-Given.ensures h)
    (covered_given_argument (world c.args.self.now) w c.args.form.now _ _ _ _ c.in-Given.is c.get-in-Given-2.ensures h)
    s gr

pub evaluate-returns-in-Where-clause-grows : goal.evaluate-returns-in-Where-clause-grows
evaluate-returns-in-Where-clause-grows g t c =
    λ w start h s gr.
    c.sequence-in-Where.ensures.grows w start
    (covered_where_body (world c.args.self.now) w c.args.form.now _ _ _ c.in-Where.is c.get-in-Where.ensures h)
    (covered_where_source (world c.args.self.now) w c.args.form.now _ _ _ c.in-Where.is c.get-in-Where-2.ensures h)
    s gr

pub evaluate-returns-in-Select-clause-grows : goal.evaluate-returns-in-Select-clause-grows
evaluate-returns-in-Select-clause-grows g t c =
    λ w start h s gr.
    c.sequence-in-Select.ensures.grows w start
    (covered_select_body (world c.args.self.now) w c.args.form.now _ _ _ c.in-Select.is c.get-in-Select.ensures h)
    (covered_select_source (world c.args.self.now) w c.args.form.now _ _ _ c.in-Select.is c.get-in-Select-2.ensures h)
    s gr

pub evaluate-returns-in-All-clause-grows : goal.evaluate-returns-in-All-clause-grows
evaluate-returns-in-All-clause-grows g t c =
    λ w start h s gr.
    c.all.ensures.grows w start
    (covered_all_source (world c.args.self.now) w c.args.form.now _ _ _ c.in-All.is c.get-in-All.ensures h)
    (covered_all_body (world c.args.self.now) w c.args.form.now _ _ _ c.in-All.is c.get-in-All-2.ensures h)
    s gr

pub evaluate-returns-in-SelectMany-clause-grows : goal.evaluate-returns-in-SelectMany-clause-grows
evaluate-returns-in-SelectMany-clause-grows g t c =
    λ w start h s gr.
    c.select_many.ensures.grows w start
    (covered_select_many_source (world c.args.self.now) w c.args.form.now _ _ _ _ c.in-SelectMany.is c.get-in-SelectMany.ensures h)
    (covered_select_many_inner (world c.args.self.now) w c.args.form.now _ _ _ _ c.in-SelectMany.is c.get-in-SelectMany-2.ensures h)
    (covered_select_many_result (world c.args.self.now) w c.args.form.now _ _ _ _ c.in-SelectMany.is c.get-in-SelectMany-3.ensures h)
    s gr

pub evaluate-returns-in-GroupBy-clause-grows : goal.evaluate-returns-in-GroupBy-clause-grows
evaluate-returns-in-GroupBy-clause-grows g t c =
    λ w start h s gr.
    c.group_by.ensures.grows w start
    (covered_group_by_source (world c.args.self.now) w c.args.form.now _ _ _ _ c.in-GroupBy.is c.get-in-GroupBy.ensures h)
    (covered_group_by_key (world c.args.self.now) w c.args.form.now _ _ _ _ c.in-GroupBy.is c.get-in-GroupBy-2.ensures h)
    (covered_group_by_element (world c.args.self.now) w c.args.form.now _ _ _ _ c.in-GroupBy.is c.get-in-GroupBy-3.ensures h)
    s gr

pub evaluate-returns-in-Join-clause-grows : goal.evaluate-returns-in-Join-clause-grows
evaluate-returns-in-Join-clause-grows g t c =
    λ w start h s gr.
    c.join.ensures.grows w start
    (covered_join_parts (world c.args.self.now) w c.args.form.now _ _ _ c.in-Join.is c.get-in-Join.ensures h)
    (covered_join_source (world c.args.self.now) w c.args.form.now _ _ _ c.in-Join.is c.get-in-Join-2.ensures h)
    s gr

pub evaluate-returns-in-OrderBy-clause-grows : goal.evaluate-returns-in-OrderBy-clause-grows
evaluate-returns-in-OrderBy-clause-grows g t c =
    λ w start h s gr.
    c.order_by.ensures.grows w start
    (covered_order_keys (world c.args.self.now) w c.args.form.now _ _ _ c.in-OrderBy.is refl h)
    (covered_order_source (world c.args.self.now) w c.args.form.now _ _ _ c.in-OrderBy.is c.get-in-OrderBy.ensures h)
    s gr

pub key-returns-clause-grows : goal.key-returns-clause-grows
key-returns-clause-grows g t c = λ w start h s gr. c.part.ensures.grows w start refl h s gr

pub null_test-returns-clause-grows : goal.null_test-returns-clause-grows
null_test-returns-clause-grows g t c = λ w start h s gr. c.part.ensures.grows w start refl h s gr

pub part-returns-in-Some-clause-grows : goal.part-returns-in-Some-clause-grows
part-returns-in-Some-clause-grows g t c =
    λ w start h k s gr.
    c.part.ensures.grows w start h (value_passes (world c.args.self.now) w c.args.form.now (values_in c.args.slots.now) _ (c.in-Some.ensures (world c.args.self.now)) k s) gr

pub part-returns-in_ok-evaluate-in-None-clause-grows : goal.part-returns-in_ok-evaluate-in-None-clause-grows
part-returns-in_ok-evaluate-in-None-clause-grows g t c =
    λ w start h k s gr.
    c.part-in-None.ensures.grows w start h (value_passes (world c.args.self.now) w c.args.form.now (values_in c.args.slots.now) _ c.in_ok-evaluate-in-None.ensures.meant k s) (c.evaluate.ensures.grows w start k s gr)

pub truth-returns-in-And-clause-grows : goal.truth-returns-in-And-clause-grows
truth-returns-in-And-clause-grows g t c =
    λ w start h s gr.
    c.truth_of_both.ensures.grows w start (covered_and_left (world c.args.self.now) w c.args.form.now _ _ _ c.in-And.is c.get.ensures h)
    (covered_and_right (world c.args.self.now) w c.args.form.now _ _ _ c.in-And.is c.get-in-And.ensures h) s gr

pub truth-returns-in-Or-clause-grows : goal.truth-returns-in-Or-clause-grows
truth-returns-in-Or-clause-grows g t c =
    λ w start h s gr.
    c.truth_of_either.ensures.grows w start (covered_or_left (world c.args.self.now) w c.args.form.now _ _ _ c.in-Or.is c.get-in-Or.ensures h)
    (covered_or_right (world c.args.self.now) w c.args.form.now _ _ _ c.in-Or.is c.get-in-Or-2.ensures h) s gr

pub truth-returns-in-Binary-clause-grows : goal.truth-returns-in-Binary-clause-grows
truth-returns-in-Binary-clause-grows g t c =
    λ w start h s gr.
    c.truth_of_two.ensures.grows w start (covered_binary_left (world c.args.self.now) w c.args.form.now _ _ _ _ c.in-Binary.is c.get-in-Binary.ensures h)
    (covered_binary_right (world c.args.self.now) w c.args.form.now _ _ _ _ c.in-Binary.is c.get-in-Binary-2.ensures h) s gr

pub base_of-returns-in-Table-clause-from : goal.base_of-returns-in-Table-clause-from
base_of-returns-in-Table-clause-from g t c =
    λ w h s.
    stream_passes (world c.args.self.now) w c.args.form.now (values_in c.args.slots.now) _
    (subst (λ f. base_stream c.rows_of.result ≡ items_meant (world c.args.self.now) f c.args.slots.now) (sym c.in-Table.is) (table_opened (world c.args.self.now) (values_in c.args.slots.now) _ _ c.rows_of.ensures.items)) h s

pub base_of-returns-in_ok-items-in_default-clause-from : goal.base_of-returns-in_ok-items-in_default-clause-from
base_of-returns-in_ok-items-in_default-clause-from g t c =
    λ w h s.
    stream_passes (world c.args.self.now) w c.args.form.now (values_in c.args.slots.now) _
    (c.of_items.ensures.items ∙ c.in_ok-items-in_default.ensures (world c.args.self.now) _ refl c.evaluate-value.ensures.meant) h s

pub pass-returns-in_ok-pass-in-Some-Plain-default-clause-grows : goal.pass-returns-in_ok-pass-in-Some-Plain-default-clause-grows
pass-returns-in_ok-pass-in-Some-Plain-default-clause-grows g t c =
    λ w start h s i gr.
    c.pass.ensures.grows w start (above_source (world c.args.self.now) w c.in-Some-Plain-default.field-0-0 c.args.form.now c.in-Some-Plain-default.source.now c.in-Some-Plain-default.ensures.stage h) s i gr

pub pass-returns-in_err-pass-in-Some-Plain-default-clause-grows : goal.pass-returns-in_err-pass-in-Some-Plain-default-clause-grows
pass-returns-in_err-pass-in-Some-Plain-default-clause-grows g t c =
    λ w start h s i gr.
    c.pass.ensures.grows w start (above_source (world c.args.self.now) w c.in-Some-Plain-default.field-0-0 c.args.form.now c.in-Some-Plain-default.source.now c.in-Some-Plain-default.ensures.stage h) s i gr

pub pass-returns-in_ok-pass_through-in-Some-clause-meant : goal.pass-returns-in_ok-pass_through-in-Some-clause-meant
pass-returns-in_ok-pass_through-in-Some-clause-meant g t c =
    passes_stage (world c.args.self.now) (values_in c.args.slots.now) c.in-Some.stage c.args.form.now c.in-Some.source.now c.args.item
    (outcome_stream c.in_ok-pass_through-in-Some.field-0) c.in-Some.ensures.stage c.in_ok-pass_through-in-Some.ensures.meant

pub pass-returns-in_ok-pass_through-in-Some-clause-grows : goal.pass-returns-in_ok-pass_through-in-Some-clause-grows
pass-returns-in_ok-pass_through-in-Some-clause-grows g t c =
    λ w start h s i gr.
    c.pass_through.ensures.grows w start (above_stage (world c.args.self.now) w c.in-Some.stage c.args.form.now c.in-Some.source.now c.in-Some.ensures.stage h) (above_source (world c.args.self.now) w c.in-Some.stage c.args.form.now c.in-Some.source.now c.in-Some.ensures.stage h) s i gr

pub pass-returns-in_err-pass_through-in-Some-clause-grows : goal.pass-returns-in_err-pass_through-in-Some-clause-grows
pass-returns-in_err-pass_through-in-Some-clause-grows g t c =
    λ w start h s i gr.
    c.pass_through.ensures.grows w start (above_stage (world c.args.self.now) w c.in-Some.stage c.args.form.now c.in-Some.source.now c.in-Some.ensures.stage h) (above_source (world c.args.self.now) w c.in-Some.stage c.args.form.now c.in-Some.source.now c.in-Some.ensures.stage h) s i gr

pub pass_through-returns-in-Item-clause-grows : goal.pass_through-returns-in-Item-clause-grows
pass_through-returns-in-Item-clause-grows g t c =
    λ w start h a s i gr.
    c.pass_stage-in-Item.ensures.grows w start h s
    (passed_item (world c.args.self.now) w (values_in c.args.slots.now) c.args.source.now c.args.item c.in-Item.item a s i
    (subst (λ o. outcome_stream o ≡ item_at (world c.args.self.now) (values_in c.args.slots.now) c.args.source.now c.args.item) c.in-Item.is c.in_ok-item.ensures.meant))
    (c.pass.ensures.grows w start a s i gr)

pub pass_stage-returns-in-Ok-true-clause-grows : goal.pass_stage-returns-in-Ok-true-clause-grows
pass_stage-returns-in-Ok-true-clause-grows g t c =
    λ w start h s i gr.
    c.holds.ensures.grows w start (subst (λ st. is_covered_stage (world c.args.self.now) w st ≡ true) c.in-Where.is h) s i gr

pub pass_stage-returns-in-Ok-false-clause-grows : goal.pass_stage-returns-in-Ok-false-clause-grows
pass_stage-returns-in-Ok-false-clause-grows g t c =
    λ w start h s i gr.
    c.holds.ensures.grows w start (subst (λ st. is_covered_stage (world c.args.self.now) w st ≡ true) c.in-Where.is h) s i gr

pub pass_stage-returns-in-Err-clause-grows : goal.pass_stage-returns-in-Err-clause-grows
pass_stage-returns-in-Err-clause-grows g t c =
    λ w start h s i gr.
    c.holds.ensures.grows w start (subst (λ st. is_covered_stage (world c.args.self.now) w st ≡ true) c.in-Where.is h) s i gr

pub pass_stage-returns-in_err-holds-in-Where-clause-grows : goal.pass_stage-returns-in_err-holds-in-Where-clause-grows
pass_stage-returns-in_err-holds-in-Where-clause-grows g t c =
    λ w start h s i gr.
    c.holds.ensures.grows w start (subst (λ st. is_covered_stage (world c.args.self.now) w st ≡ true) c.in-Where.is h) s i gr

pub read-loop-less-init : goal.read-loop-less-init
read-loop-less-init g t c =
    record {
      meant = begins_read _ _ _ c.args.limit c.new-items.ensures (left_first (world c.args.self.now) (values_in c.args.slots.now) c.args.pipe.now.stage c.args.limit _ c.args.pipe.now.source.now c.in_ok-base.base c.limit_below-below.ensures c.in_ok-base.ensures.meant);
      log = opened (world c.args.self.now) (facts c.args.self.now.sources) g.R.TableRow.table_of g.R.RowRef.shown (values_in c.args.slots.now) c.args.pipe.now (Covers (world c.args.self.now) (values_in c.args.slots.now) c.args.pipe.now) _ _ c.in_ok-base.base (λ w start p gr. c.open.ensures.grows w start p.source_in p.slots_in gr) (λ w p. c.in_ok-base.ensures.from w p.source_in p.slots_in);
    }

pub read-returns-in_err-item-clause-grows : goal.read-returns-in_err-item-clause-grows
read-returns-in_err-item-clause-grows g t c =
    λ w start a b s gr.
    (went_on (world c.args.self.now) (facts c.args.self.now.sources) g.R.TableRow.table_of g.R.RowRef.shown (values_in c.args.slots.now) c.args.pipe.now (Covers (world c.args.self.now) (values_in c.args.slots.now) c.args.pipe.now) (λ w p. p) _ _ _ c.loop-less.base c.next.new.base c.loop-less.invariant.log c.next.ensures.pulled).grows w start (covers_pipe (world c.args.self.now) (values_in c.args.slots.now) c.args.pipe.now w a b s) gr

pub read-returns-in_err-push-in-Ok-clause-grows : goal.read-returns-in_err-push-in-Ok-clause-grows
read-returns-in_err-push-in-Ok-clause-grows g t c =
    λ w start a b s gr.
    (went_on (world c.args.self.now) (facts c.args.self.now.sources) g.R.TableRow.table_of g.R.RowRef.shown (values_in c.args.slots.now) c.args.pipe.now (Covers (world c.args.self.now) (values_in c.args.slots.now) c.args.pipe.now) (λ w p. p) _ _ _ c.loop-less.base c.next.new.base c.loop-less.invariant.log c.next.ensures.pulled).grows w start (covers_pipe (world c.args.self.now) (values_in c.args.slots.now) c.args.pipe.now w a b s) gr

pub read-returns-in-Err-clause-grows : goal.read-returns-in-Err-clause-grows
read-returns-in-Err-clause-grows g t c =
    λ w start a b s gr.
    (went_on (world c.args.self.now) (facts c.args.self.now.sources) g.R.TableRow.table_of g.R.RowRef.shown (values_in c.args.slots.now) c.args.pipe.now (Covers (world c.args.self.now) (values_in c.args.slots.now) c.args.pipe.now) (λ w p. p) _ _ _ c.loop-less.base c.next.new.base c.loop-less.invariant.log c.next.ensures.pulled).grows w start (covers_pipe (world c.args.self.now) (values_in c.args.slots.now) c.args.pipe.now w a b s) gr

pub read-returns-clause-grows : goal.read-returns-clause-grows
read-returns-clause-grows g t c =
    λ w start a b s gr.
    c.loop-less.invariant.log.grows w start (covers_pipe (world c.args.self.now) (values_in c.args.slots.now) c.args.pipe.now w a b s) gr

pub read-loop-less-preserved : goal.read-loop-less-preserved
read-loop-less-preserved g t c =
    record {
      meant = read_on (items_left (world c.args.self.now) (values_in c.args.slots.now) c.args.pipe.now c.loop-less.base) (items_left (world c.args.self.now) (values_in c.args.slots.now) c.args.pipe.now c.next.new.base) _ c.in-Ok.item c.loop-less.items _ c.loop-less.left c.in-Some.less (subst (λ s. Steps (items_left (world c.args.self.now) (values_in c.args.slots.now) c.args.pipe.now c.loop-less.base) s (items_left (world c.args.self.now) (values_in c.args.slots.now) c.args.pipe.now c.next.new.base)) c.in-Ok.is c.in_ok-item.ensures.meant) c.in_ok-push-in-Ok.ensures.ok (sym c.one_less.ensures ∙ c.in-Some.is) c.loop-less.invariant.meant;
      log = went_on (world c.args.self.now) (facts c.args.self.now.sources) g.R.TableRow.table_of g.R.RowRef.shown (values_in c.args.slots.now) c.args.pipe.now (Covers (world c.args.self.now) (values_in c.args.slots.now) c.args.pipe.now) (λ w p. p) _ _ _ c.loop-less.base c.next.new.base c.loop-less.invariant.log c.next.ensures.pulled;
    }

pub read-returns-in-Err-clause-meant : goal.read-returns-in-Err-clause-meant
read-returns-in-Err-clause-meant g t c =
    read_ended (items_left (world c.args.self.now) (values_in c.args.slots.now) c.args.pipe.now c.loop-less.base) _ c.loop-less.items c.in-Err.end c.loop-less.left c.in-Some.less (subst (λ s. Steps (items_left (world c.args.self.now) (values_in c.args.slots.now) c.args.pipe.now c.loop-less.base) s (items_left (world c.args.self.now) (values_in c.args.slots.now) c.args.pipe.now c.next.new.base)) c.in-Err.is c.in_ok-item.ensures.meant) (sym c.one_less.ensures ∙ c.in-Some.is) c.loop-less.invariant.meant

pub tally_item-returns-in-Ok-true-clause-grows : goal.tally_item-returns-in-Ok-true-clause-grows
tally_item-returns-in-Ok-true-clause-grows g t c =
    λ w start h s i gr.
    c.holds.ensures.grows w start (subst (λ st. is_covered_stage (world c.args.self.now) w st ≡ true) c.in-Where.is h) s i gr

pub tally_item-returns-in-Ok-false-clause-grows : goal.tally_item-returns-in-Ok-false-clause-grows
tally_item-returns-in-Ok-false-clause-grows g t c =
    λ w start h s i gr.
    c.holds.ensures.grows w start (subst (λ st. is_covered_stage (world c.args.self.now) w st ≡ true) c.in-Where.is h) s i gr

pub tally_item-returns-in-Err-clause-grows : goal.tally_item-returns-in-Err-clause-grows
tally_item-returns-in-Err-clause-grows g t c =
    λ w start h s i gr.
    c.holds.ensures.grows w start (subst (λ st. is_covered_stage (world c.args.self.now) w st ≡ true) c.in-Where.is h) s i gr

pub tally_item-returns-in_err-holds-in-Where-clause-grows : goal.tally_item-returns-in_err-holds-in-Where-clause-grows
tally_item-returns-in_err-holds-in-Where-clause-grows g t c =
    λ w start h s i gr.
    c.holds.ensures.grows w start (subst (λ st. is_covered_stage (world c.args.self.now) w st ≡ true) c.in-Where.is h) s i gr

pub tally_items-loop-item-preserved : goal.tally_items-loop-item-preserved
tally_items-loop-item-preserved g t c =
    record {
      meant = staged_goes (world c.args.self.now) (values_in c.args.slots.now) c.args.stage.now c.args.of.now c.loop-item.tally _ (Ok c.in-Ok.next) _ c.args.items.now _ c.args.end _ c.item-item.is c.loop-item-test.true c.in_ok-next.ensures.meant c.in-Ok.is c.loop-item.invariant.meant;
      grows = λ w start h s a gr. c.tally_item.ensures.grows w start h s (all_there (has_watched_rows w) _ _ _ a c.item-item.is c.loop-item-test.true) (c.loop-item.invariant.grows w start h s a gr);
    }

pub tally_items-returns-in-Err-clause-meant : goal.tally_items-returns-in-Err-clause-meant
tally_items-returns-in-Err-clause-meant g t c =
    ap as_value (sym (staged_goes (world c.args.self.now) (values_in c.args.slots.now) c.args.stage.now c.args.of.now c.loop-item.tally _ (Err c.in-Err.fault) _ c.args.items.now _ c.args.end _ c.item-item.is c.loop-item-test.true c.in_ok-next.ensures.meant c.in-Err.is c.loop-item.invariant.meant))

pub tally_items-returns-in-Err-clause-grows : goal.tally_items-returns-in-Err-clause-grows
tally_items-returns-in-Err-clause-grows g t c =
    λ w start h s a gr.
    c.tally_item.ensures.grows w start h s (all_there (has_watched_rows w) _ _ _ a c.item-item.is c.loop-item-test.true) (c.loop-item.invariant.grows w start h s a gr)

pub tally_items-returns-in_err-next-clause-grows : goal.tally_items-returns-in_err-next-clause-grows
tally_items-returns-in_err-next-clause-grows g t c =
    λ w start h s a gr.
    c.tally_item.ensures.grows w start h s (all_there (has_watched_rows w) _ _ _ a c.item-item.is c.loop-item-test.true) (c.loop-item.invariant.grows w start h s a gr)

pub tally_items-returns-clause-grows : goal.tally_items-returns-clause-grows
tally_items-returns-clause-grows g t c =
    λ w start h s a gr.
    c.loop-item.invariant.grows w start h s a gr

pub has_item-loop-base-init : goal.has_item-loop-base-init
has_item-loop-base-init g t c =
    record {
      meant = contains_begins same_values c.args.value.now _ _ (left_opened (world c.args.self.now) (values_in c.args.slots.now) _ _ c.in_ok-base.base c.in_ok-base.ensures.meant);
      log = opened (world c.args.self.now) (facts c.args.self.now.sources) g.R.TableRow.table_of g.R.RowRef.shown (values_in c.args.slots.now) c.args.pipe.now (Covers (world c.args.self.now) (values_in c.args.slots.now) c.args.pipe.now) _ _ c.in_ok-base.base (λ w start p gr. c.open.ensures.grows w start p.source_in p.slots_in gr) (λ w p. c.in_ok-base.ensures.from w p.source_in p.slots_in);
    }

pub has_item-returns-in_err-item-clause-grows : goal.has_item-returns-in_err-item-clause-grows
has_item-returns-in_err-item-clause-grows g t c =
    λ w start a b s gr.
    (went_on (world c.args.self.now) (facts c.args.self.now.sources) g.R.TableRow.table_of g.R.RowRef.shown (values_in c.args.slots.now) c.args.pipe.now (Covers (world c.args.self.now) (values_in c.args.slots.now) c.args.pipe.now) (λ w p. p) _ _ _ c.loop-base.base c.next.new.base c.loop-base.invariant.log c.next.ensures.pulled).grows w start (covers_pipe (world c.args.self.now) (values_in c.args.slots.now) c.args.pipe.now w a b s) gr

pub has_item-returns-then-same-clause-grows : goal.has_item-returns-then-same-clause-grows
has_item-returns-then-same-clause-grows g t c =
    λ w start a b s gr.
    (went_on (world c.args.self.now) (facts c.args.self.now.sources) g.R.TableRow.table_of g.R.RowRef.shown (values_in c.args.slots.now) c.args.pipe.now (Covers (world c.args.self.now) (values_in c.args.slots.now) c.args.pipe.now) (λ w p. p) _ _ _ c.loop-base.base c.next.new.base c.loop-base.invariant.log c.next.ensures.pulled).grows w start (covers_pipe (world c.args.self.now) (values_in c.args.slots.now) c.args.pipe.now w a b s) gr

pub has_item-returns-in-Err-clause-grows : goal.has_item-returns-in-Err-clause-grows
has_item-returns-in-Err-clause-grows g t c =
    λ w start a b s gr.
    (went_on (world c.args.self.now) (facts c.args.self.now.sources) g.R.TableRow.table_of g.R.RowRef.shown (values_in c.args.slots.now) c.args.pipe.now (Covers (world c.args.self.now) (values_in c.args.slots.now) c.args.pipe.now) (λ w p. p) _ _ _ c.loop-base.base c.next.new.base c.loop-base.invariant.log c.next.ensures.pulled).grows w start (covers_pipe (world c.args.self.now) (values_in c.args.slots.now) c.args.pipe.now w a b s) gr

pub has_item-loop-base-preserved : goal.has_item-loop-base-preserved
has_item-loop-base-preserved g t c =
    record {
      meant = contains_on same_values c.args.value.now (items_left (world c.args.self.now) (values_in c.args.slots.now) c.args.pipe.now c.loop-base.base) (items_left (world c.args.self.now) (values_in c.args.slots.now) c.args.pipe.now c.next.new.base) c.in-Ok.item _ (subst (λ s. Steps (items_left (world c.args.self.now) (values_in c.args.slots.now) c.args.pipe.now c.loop-base.base) s (items_left (world c.args.self.now) (values_in c.args.slots.now) c.args.pipe.now c.next.new.base)) c.in-Ok.is c.in_ok-item.ensures.meant) (sym c.same.ensures ∙ c.if-same.false) c.loop-base.invariant.meant;
      log = went_on (world c.args.self.now) (facts c.args.self.now.sources) g.R.TableRow.table_of g.R.RowRef.shown (values_in c.args.slots.now) c.args.pipe.now (Covers (world c.args.self.now) (values_in c.args.slots.now) c.args.pipe.now) (λ w p. p) _ _ _ c.loop-base.base c.next.new.base c.loop-base.invariant.log c.next.ensures.pulled;
    }

pub has_item-loop-base-preserved-else-same : goal.has_item-loop-base-preserved-else-same
has_item-loop-base-preserved-else-same g t c =
    record {
      meant = contains_on same_values c.args.value.now (items_left (world c.args.self.now) (values_in c.args.slots.now) c.args.pipe.now c.loop-base.base) (items_left (world c.args.self.now) (values_in c.args.slots.now) c.args.pipe.now c.next.new.base) c.in-Ok.item _ (subst (λ s. Steps (items_left (world c.args.self.now) (values_in c.args.slots.now) c.args.pipe.now c.loop-base.base) s (items_left (world c.args.self.now) (values_in c.args.slots.now) c.args.pipe.now c.next.new.base)) c.in-Ok.is c.in_ok-item.ensures.meant) (sym c.same.ensures ∙ c.if-same.false) c.loop-base.invariant.meant;
      log = went_on (world c.args.self.now) (facts c.args.self.now.sources) g.R.TableRow.table_of g.R.RowRef.shown (values_in c.args.slots.now) c.args.pipe.now (Covers (world c.args.self.now) (values_in c.args.slots.now) c.args.pipe.now) (λ w p. p) _ _ _ c.loop-base.base c.next.new.base c.loop-base.invariant.log c.next.ensures.pulled;
    }

pub has_item-loop-base-preserved-else-same-2 : goal.has_item-loop-base-preserved-else-same-2
has_item-loop-base-preserved-else-same-2 g t c =
    record {
      meant = contains_on same_values c.args.value.now (items_left (world c.args.self.now) (values_in c.args.slots.now) c.args.pipe.now c.loop-base.base) (items_left (world c.args.self.now) (values_in c.args.slots.now) c.args.pipe.now c.next.new.base) c.in-Ok.item _ (subst (λ s. Steps (items_left (world c.args.self.now) (values_in c.args.slots.now) c.args.pipe.now c.loop-base.base) s (items_left (world c.args.self.now) (values_in c.args.slots.now) c.args.pipe.now c.next.new.base)) c.in-Ok.is c.in_ok-item.ensures.meant) (sym c.same.ensures ∙ c.if-same.false) c.loop-base.invariant.meant;
      log = went_on (world c.args.self.now) (facts c.args.self.now.sources) g.R.TableRow.table_of g.R.RowRef.shown (values_in c.args.slots.now) c.args.pipe.now (Covers (world c.args.self.now) (values_in c.args.slots.now) c.args.pipe.now) (λ w p. p) _ _ _ c.loop-base.base c.next.new.base c.loop-base.invariant.log c.next.ensures.pulled;
    }

pub has_item-loop-base-preserved-else-same-3 : goal.has_item-loop-base-preserved-else-same-3
has_item-loop-base-preserved-else-same-3 g t c =
    record {
      meant = contains_on same_values c.args.value.now (items_left (world c.args.self.now) (values_in c.args.slots.now) c.args.pipe.now c.loop-base.base) (items_left (world c.args.self.now) (values_in c.args.slots.now) c.args.pipe.now c.next.new.base) c.in-Ok.item _ (subst (λ s. Steps (items_left (world c.args.self.now) (values_in c.args.slots.now) c.args.pipe.now c.loop-base.base) s (items_left (world c.args.self.now) (values_in c.args.slots.now) c.args.pipe.now c.next.new.base)) c.in-Ok.is c.in_ok-item.ensures.meant) (sym c.same.ensures ∙ c.if-same.false) c.loop-base.invariant.meant;
      log = went_on (world c.args.self.now) (facts c.args.self.now.sources) g.R.TableRow.table_of g.R.RowRef.shown (values_in c.args.slots.now) c.args.pipe.now (Covers (world c.args.self.now) (values_in c.args.slots.now) c.args.pipe.now) (λ w p. p) _ _ _ c.loop-base.base c.next.new.base c.loop-base.invariant.log c.next.ensures.pulled;
    }

pub has_item-loop-base-preserved-else-same-4 : goal.has_item-loop-base-preserved-else-same-4
has_item-loop-base-preserved-else-same-4 g t c =
    record {
      meant = contains_on same_values c.args.value.now (items_left (world c.args.self.now) (values_in c.args.slots.now) c.args.pipe.now c.loop-base.base) (items_left (world c.args.self.now) (values_in c.args.slots.now) c.args.pipe.now c.next.new.base) c.in-Ok.item _ (subst (λ s. Steps (items_left (world c.args.self.now) (values_in c.args.slots.now) c.args.pipe.now c.loop-base.base) s (items_left (world c.args.self.now) (values_in c.args.slots.now) c.args.pipe.now c.next.new.base)) c.in-Ok.is c.in_ok-item.ensures.meant) (sym c.same.ensures ∙ c.if-same.false) c.loop-base.invariant.meant;
      log = went_on (world c.args.self.now) (facts c.args.self.now.sources) g.R.TableRow.table_of g.R.RowRef.shown (values_in c.args.slots.now) c.args.pipe.now (Covers (world c.args.self.now) (values_in c.args.slots.now) c.args.pipe.now) (λ w p. p) _ _ _ c.loop-base.base c.next.new.base c.loop-base.invariant.log c.next.ensures.pulled;
    }

pub has_item-loop-base-preserved-else-same-5 : goal.has_item-loop-base-preserved-else-same-5
has_item-loop-base-preserved-else-same-5 g t c =
    record {
      meant = contains_on same_values c.args.value.now (items_left (world c.args.self.now) (values_in c.args.slots.now) c.args.pipe.now c.loop-base.base) (items_left (world c.args.self.now) (values_in c.args.slots.now) c.args.pipe.now c.next.new.base) c.in-Ok.item _ (subst (λ s. Steps (items_left (world c.args.self.now) (values_in c.args.slots.now) c.args.pipe.now c.loop-base.base) s (items_left (world c.args.self.now) (values_in c.args.slots.now) c.args.pipe.now c.next.new.base)) c.in-Ok.is c.in_ok-item.ensures.meant) (sym c.same.ensures ∙ c.if-same.false) c.loop-base.invariant.meant;
      log = went_on (world c.args.self.now) (facts c.args.self.now.sources) g.R.TableRow.table_of g.R.RowRef.shown (values_in c.args.slots.now) c.args.pipe.now (Covers (world c.args.self.now) (values_in c.args.slots.now) c.args.pipe.now) (λ w p. p) _ _ _ c.loop-base.base c.next.new.base c.loop-base.invariant.log c.next.ensures.pulled;
    }

pub all_hold-loop-base-init : goal.all_hold-loop-base-init
all_hold-loop-base-init g t c =
    record {
      meant = all_begins (holds_of (world c.args.self.now) c.args.condition.now c.args.slots.now) _ _ (left_opened (world c.args.self.now) (values_in c.args.slots.now) _ _ c.in_ok-base.base c.in_ok-base.ensures.meant);
      log = opened (world c.args.self.now) (facts c.args.self.now.sources) g.R.TableRow.table_of g.R.RowRef.shown (values_in c.args.slots.now) c.args.pipe.now (λ w. Covers (world c.args.self.now) (values_in c.args.slots.now) c.args.pipe.now w × (is_covered (world c.args.self.now) w c.args.condition.now ≡ true)) _ _ c.in_ok-base.base (λ w start p gr. c.open.ensures.grows w start p.0.source_in p.0.slots_in gr) (λ w p. c.in_ok-base.ensures.from w p.0.source_in p.0.slots_in);
    }

pub all_hold-returns-in_err-item-clause-grows : goal.all_hold-returns-in_err-item-clause-grows
all_hold-returns-in_err-item-clause-grows g t c =
    λ w start hc a b s gr.
    (went_on (world c.args.self.now) (facts c.args.self.now.sources) g.R.TableRow.table_of g.R.RowRef.shown (values_in c.args.slots.now) c.args.pipe.now (λ w. Covers (world c.args.self.now) (values_in c.args.slots.now) c.args.pipe.now w × (is_covered (world c.args.self.now) w c.args.condition.now ≡ true)) (λ w p. p.0) _ _ _ c.loop-base.base c.next.new.base c.loop-base.invariant.log c.next.ensures.pulled).grows w start ((covers_pipe (world c.args.self.now) (values_in c.args.slots.now) c.args.pipe.now w a b s), hc) gr

pub all_hold-returns-in-Err-clause-grows : goal.all_hold-returns-in-Err-clause-grows
all_hold-returns-in-Err-clause-grows g t c =
    λ w start hc a b s gr.
    (went_on (world c.args.self.now) (facts c.args.self.now.sources) g.R.TableRow.table_of g.R.RowRef.shown (values_in c.args.slots.now) c.args.pipe.now (λ w. Covers (world c.args.self.now) (values_in c.args.slots.now) c.args.pipe.now w × (is_covered (world c.args.self.now) w c.args.condition.now ≡ true)) (λ w p. p.0) _ _ _ c.loop-base.base c.next.new.base c.loop-base.invariant.log c.next.ensures.pulled).grows w start ((covers_pipe (world c.args.self.now) (values_in c.args.slots.now) c.args.pipe.now w a b s), hc) gr

pub all_hold-returns-in_err-holds-in-Ok-clause-grows : goal.all_hold-returns-in_err-holds-in-Ok-clause-grows
all_hold-returns-in_err-holds-in-Ok-clause-grows g t c =
    λ w start hc a b s gr.
    (asked (world c.args.self.now) (facts c.args.self.now.sources) g.R.TableRow.table_of g.R.RowRef.shown (values_in c.args.slots.now) c.args.pipe.now (λ w. Covers (world c.args.self.now) (values_in c.args.slots.now) c.args.pipe.now w × (is_covered (world c.args.self.now) w c.args.condition.now ≡ true)) _ _ _ _ (went_on (world c.args.self.now) (facts c.args.self.now.sources) g.R.TableRow.table_of g.R.RowRef.shown (values_in c.args.slots.now) c.args.pipe.now (λ w. Covers (world c.args.self.now) (values_in c.args.slots.now) c.args.pipe.now w × (is_covered (world c.args.self.now) w c.args.condition.now ≡ true)) (λ w p. p.0) _ _ _ c.loop-base.base c.next.new.base c.loop-base.invariant.log c.next.ensures.pulled)
    (λ w start p gr. c.holds.ensures.grows w start p.1 p.0.slots_in (next_passes (world c.args.self.now) (facts c.args.self.now.sources) g.R.TableRow.table_of g.R.RowRef.shown (values_in c.args.slots.now) c.args.pipe.now (λ w. Covers (world c.args.self.now) (values_in c.args.slots.now) c.args.pipe.now w × (is_covered (world c.args.self.now) w c.args.condition.now ≡ true)) (λ w p. p.0) _ _ c.loop-base.base _ c.in-Ok.item (items_left (world c.args.self.now) (values_in c.args.slots.now) c.args.pipe.now c.next.new.base) c.loop-base.invariant.log c.requires c.in-Ok.is c.in_ok-item.ensures.meant w p) gr)).grows w start ((covers_pipe (world c.args.self.now) (values_in c.args.slots.now) c.args.pipe.now w a b s), hc) gr

pub all_hold-returns-in-Ok-false-clause-grows : goal.all_hold-returns-in-Ok-false-clause-grows
all_hold-returns-in-Ok-false-clause-grows g t c =
    λ w start hc a b s gr.
    (asked (world c.args.self.now) (facts c.args.self.now.sources) g.R.TableRow.table_of g.R.RowRef.shown (values_in c.args.slots.now) c.args.pipe.now (λ w. Covers (world c.args.self.now) (values_in c.args.slots.now) c.args.pipe.now w × (is_covered (world c.args.self.now) w c.args.condition.now ≡ true)) _ _ _ _ (went_on (world c.args.self.now) (facts c.args.self.now.sources) g.R.TableRow.table_of g.R.RowRef.shown (values_in c.args.slots.now) c.args.pipe.now (λ w. Covers (world c.args.self.now) (values_in c.args.slots.now) c.args.pipe.now w × (is_covered (world c.args.self.now) w c.args.condition.now ≡ true)) (λ w p. p.0) _ _ _ c.loop-base.base c.next.new.base c.loop-base.invariant.log c.next.ensures.pulled)
    (λ w start p gr. c.holds.ensures.grows w start p.1 p.0.slots_in (next_passes (world c.args.self.now) (facts c.args.self.now.sources) g.R.TableRow.table_of g.R.RowRef.shown (values_in c.args.slots.now) c.args.pipe.now (λ w. Covers (world c.args.self.now) (values_in c.args.slots.now) c.args.pipe.now w × (is_covered (world c.args.self.now) w c.args.condition.now ≡ true)) (λ w p. p.0) _ _ c.loop-base.base _ c.in-Ok.item (items_left (world c.args.self.now) (values_in c.args.slots.now) c.args.pipe.now c.next.new.base) c.loop-base.invariant.log c.requires c.in-Ok.is c.in_ok-item.ensures.meant w p) gr)).grows w start ((covers_pipe (world c.args.self.now) (values_in c.args.slots.now) c.args.pipe.now w a b s), hc) gr

pub all_hold-returns-in-Err-2-clause-grows : goal.all_hold-returns-in-Err-2-clause-grows
all_hold-returns-in-Err-2-clause-grows g t c =
    λ w start hc a b s gr.
    (asked (world c.args.self.now) (facts c.args.self.now.sources) g.R.TableRow.table_of g.R.RowRef.shown (values_in c.args.slots.now) c.args.pipe.now (λ w. Covers (world c.args.self.now) (values_in c.args.slots.now) c.args.pipe.now w × (is_covered (world c.args.self.now) w c.args.condition.now ≡ true)) _ _ _ _ (went_on (world c.args.self.now) (facts c.args.self.now.sources) g.R.TableRow.table_of g.R.RowRef.shown (values_in c.args.slots.now) c.args.pipe.now (λ w. Covers (world c.args.self.now) (values_in c.args.slots.now) c.args.pipe.now w × (is_covered (world c.args.self.now) w c.args.condition.now ≡ true)) (λ w p. p.0) _ _ _ c.loop-base.base c.next.new.base c.loop-base.invariant.log c.next.ensures.pulled)
    (λ w start p gr. c.holds.ensures.grows w start p.1 p.0.slots_in (next_passes (world c.args.self.now) (facts c.args.self.now.sources) g.R.TableRow.table_of g.R.RowRef.shown (values_in c.args.slots.now) c.args.pipe.now (λ w. Covers (world c.args.self.now) (values_in c.args.slots.now) c.args.pipe.now w × (is_covered (world c.args.self.now) w c.args.condition.now ≡ true)) (λ w p. p.0) _ _ c.loop-base.base _ c.in-Ok.item (items_left (world c.args.self.now) (values_in c.args.slots.now) c.args.pipe.now c.next.new.base) c.loop-base.invariant.log c.requires c.in-Ok.is c.in_ok-item.ensures.meant w p) gr)).grows w start ((covers_pipe (world c.args.self.now) (values_in c.args.slots.now) c.args.pipe.now w a b s), hc) gr

pub all_hold-loop-base-preserved : goal.all_hold-loop-base-preserved
all_hold-loop-base-preserved g t c =
    record {
      meant = all_on (holds_of (world c.args.self.now) c.args.condition.now c.args.slots.now) (items_left (world c.args.self.now) (values_in c.args.slots.now) c.args.pipe.now c.loop-base.base) (items_left (world c.args.self.now) (values_in c.args.slots.now) c.args.pipe.now c.next.new.base) c.in-Ok.item _ (subst (λ s. Steps (items_left (world c.args.self.now) (values_in c.args.slots.now) c.args.pipe.now c.loop-base.base) s (items_left (world c.args.self.now) (values_in c.args.slots.now) c.args.pipe.now c.next.new.base)) c.in-Ok.is c.in_ok-item.ensures.meant) (ap (λ b. Ok b) (sym c.in-Ok-true.field-0-test) ∙ sym c.in-Ok-true.is ∙ c.in_ok-holds-in-Ok.ensures.meant) c.loop-base.invariant.meant;
      log = asked (world c.args.self.now) (facts c.args.self.now.sources) g.R.TableRow.table_of g.R.RowRef.shown (values_in c.args.slots.now) c.args.pipe.now (λ w. Covers (world c.args.self.now) (values_in c.args.slots.now) c.args.pipe.now w × (is_covered (world c.args.self.now) w c.args.condition.now ≡ true)) _ _ _ _ (went_on (world c.args.self.now) (facts c.args.self.now.sources) g.R.TableRow.table_of g.R.RowRef.shown (values_in c.args.slots.now) c.args.pipe.now (λ w. Covers (world c.args.self.now) (values_in c.args.slots.now) c.args.pipe.now w × (is_covered (world c.args.self.now) w c.args.condition.now ≡ true)) (λ w p. p.0) _ _ _ c.loop-base.base c.next.new.base c.loop-base.invariant.log c.next.ensures.pulled)
          (λ w start p gr. c.holds.ensures.grows w start p.1 p.0.slots_in (next_passes (world c.args.self.now) (facts c.args.self.now.sources) g.R.TableRow.table_of g.R.RowRef.shown (values_in c.args.slots.now) c.args.pipe.now (λ w. Covers (world c.args.self.now) (values_in c.args.slots.now) c.args.pipe.now w × (is_covered (world c.args.self.now) w c.args.condition.now ≡ true)) (λ w p. p.0) _ _ c.loop-base.base _ c.in-Ok.item (items_left (world c.args.self.now) (values_in c.args.slots.now) c.args.pipe.now c.next.new.base) c.loop-base.invariant.log c.requires c.in-Ok.is c.in_ok-item.ensures.meant w p) gr);
    }

pub all_hold-loop-base-preserved-in-Ok-true : goal.all_hold-loop-base-preserved-in-Ok-true
all_hold-loop-base-preserved-in-Ok-true g t c =
    record {
      meant = all_on (holds_of (world c.args.self.now) c.args.condition.now c.args.slots.now) (items_left (world c.args.self.now) (values_in c.args.slots.now) c.args.pipe.now c.loop-base.base) (items_left (world c.args.self.now) (values_in c.args.slots.now) c.args.pipe.now c.next.new.base) c.in-Ok.item _ (subst (λ s. Steps (items_left (world c.args.self.now) (values_in c.args.slots.now) c.args.pipe.now c.loop-base.base) s (items_left (world c.args.self.now) (values_in c.args.slots.now) c.args.pipe.now c.next.new.base)) c.in-Ok.is c.in_ok-item.ensures.meant) (ap (λ b. Ok b) (sym c.in-Ok-true.field-0-test) ∙ sym c.in-Ok-true.is ∙ c.in_ok-holds-in-Ok.ensures.meant) c.loop-base.invariant.meant;
      log = asked (world c.args.self.now) (facts c.args.self.now.sources) g.R.TableRow.table_of g.R.RowRef.shown (values_in c.args.slots.now) c.args.pipe.now (λ w. Covers (world c.args.self.now) (values_in c.args.slots.now) c.args.pipe.now w × (is_covered (world c.args.self.now) w c.args.condition.now ≡ true)) _ _ _ _ (went_on (world c.args.self.now) (facts c.args.self.now.sources) g.R.TableRow.table_of g.R.RowRef.shown (values_in c.args.slots.now) c.args.pipe.now (λ w. Covers (world c.args.self.now) (values_in c.args.slots.now) c.args.pipe.now w × (is_covered (world c.args.self.now) w c.args.condition.now ≡ true)) (λ w p. p.0) _ _ _ c.loop-base.base c.next.new.base c.loop-base.invariant.log c.next.ensures.pulled)
          (λ w start p gr. c.holds.ensures.grows w start p.1 p.0.slots_in (next_passes (world c.args.self.now) (facts c.args.self.now.sources) g.R.TableRow.table_of g.R.RowRef.shown (values_in c.args.slots.now) c.args.pipe.now (λ w. Covers (world c.args.self.now) (values_in c.args.slots.now) c.args.pipe.now w × (is_covered (world c.args.self.now) w c.args.condition.now ≡ true)) (λ w p. p.0) _ _ c.loop-base.base _ c.in-Ok.item (items_left (world c.args.self.now) (values_in c.args.slots.now) c.args.pipe.now c.next.new.base) c.loop-base.invariant.log c.requires c.in-Ok.is c.in_ok-item.ensures.meant w p) gr);
    }

pub all_hold-loop-base-preserved-in-Ok-true-2 : goal.all_hold-loop-base-preserved-in-Ok-true-2
all_hold-loop-base-preserved-in-Ok-true-2 g t c =
    record {
      meant = all_on (holds_of (world c.args.self.now) c.args.condition.now c.args.slots.now) (items_left (world c.args.self.now) (values_in c.args.slots.now) c.args.pipe.now c.loop-base.base) (items_left (world c.args.self.now) (values_in c.args.slots.now) c.args.pipe.now c.next.new.base) c.in-Ok.item _ (subst (λ s. Steps (items_left (world c.args.self.now) (values_in c.args.slots.now) c.args.pipe.now c.loop-base.base) s (items_left (world c.args.self.now) (values_in c.args.slots.now) c.args.pipe.now c.next.new.base)) c.in-Ok.is c.in_ok-item.ensures.meant) (ap (λ b. Ok b) (sym c.in-Ok-true.field-0-test) ∙ sym c.in-Ok-true.is ∙ c.in_ok-holds-in-Ok.ensures.meant) c.loop-base.invariant.meant;
      log = asked (world c.args.self.now) (facts c.args.self.now.sources) g.R.TableRow.table_of g.R.RowRef.shown (values_in c.args.slots.now) c.args.pipe.now (λ w. Covers (world c.args.self.now) (values_in c.args.slots.now) c.args.pipe.now w × (is_covered (world c.args.self.now) w c.args.condition.now ≡ true)) _ _ _ _ (went_on (world c.args.self.now) (facts c.args.self.now.sources) g.R.TableRow.table_of g.R.RowRef.shown (values_in c.args.slots.now) c.args.pipe.now (λ w. Covers (world c.args.self.now) (values_in c.args.slots.now) c.args.pipe.now w × (is_covered (world c.args.self.now) w c.args.condition.now ≡ true)) (λ w p. p.0) _ _ _ c.loop-base.base c.next.new.base c.loop-base.invariant.log c.next.ensures.pulled)
          (λ w start p gr. c.holds.ensures.grows w start p.1 p.0.slots_in (next_passes (world c.args.self.now) (facts c.args.self.now.sources) g.R.TableRow.table_of g.R.RowRef.shown (values_in c.args.slots.now) c.args.pipe.now (λ w. Covers (world c.args.self.now) (values_in c.args.slots.now) c.args.pipe.now w × (is_covered (world c.args.self.now) w c.args.condition.now ≡ true)) (λ w p. p.0) _ _ c.loop-base.base _ c.in-Ok.item (items_left (world c.args.self.now) (values_in c.args.slots.now) c.args.pipe.now c.next.new.base) c.loop-base.invariant.log c.requires c.in-Ok.is c.in_ok-item.ensures.meant w p) gr);
    }

pub all_hold-loop-base-preserved-in-Ok-true-3 : goal.all_hold-loop-base-preserved-in-Ok-true-3
all_hold-loop-base-preserved-in-Ok-true-3 g t c =
    record {
      meant = all_on (holds_of (world c.args.self.now) c.args.condition.now c.args.slots.now) (items_left (world c.args.self.now) (values_in c.args.slots.now) c.args.pipe.now c.loop-base.base) (items_left (world c.args.self.now) (values_in c.args.slots.now) c.args.pipe.now c.next.new.base) c.in-Ok.item _ (subst (λ s. Steps (items_left (world c.args.self.now) (values_in c.args.slots.now) c.args.pipe.now c.loop-base.base) s (items_left (world c.args.self.now) (values_in c.args.slots.now) c.args.pipe.now c.next.new.base)) c.in-Ok.is c.in_ok-item.ensures.meant) (ap (λ b. Ok b) (sym c.in-Ok-true.field-0-test) ∙ sym c.in-Ok-true.is ∙ c.in_ok-holds-in-Ok.ensures.meant) c.loop-base.invariant.meant;
      log = asked (world c.args.self.now) (facts c.args.self.now.sources) g.R.TableRow.table_of g.R.RowRef.shown (values_in c.args.slots.now) c.args.pipe.now (λ w. Covers (world c.args.self.now) (values_in c.args.slots.now) c.args.pipe.now w × (is_covered (world c.args.self.now) w c.args.condition.now ≡ true)) _ _ _ _ (went_on (world c.args.self.now) (facts c.args.self.now.sources) g.R.TableRow.table_of g.R.RowRef.shown (values_in c.args.slots.now) c.args.pipe.now (λ w. Covers (world c.args.self.now) (values_in c.args.slots.now) c.args.pipe.now w × (is_covered (world c.args.self.now) w c.args.condition.now ≡ true)) (λ w p. p.0) _ _ _ c.loop-base.base c.next.new.base c.loop-base.invariant.log c.next.ensures.pulled)
          (λ w start p gr. c.holds.ensures.grows w start p.1 p.0.slots_in (next_passes (world c.args.self.now) (facts c.args.self.now.sources) g.R.TableRow.table_of g.R.RowRef.shown (values_in c.args.slots.now) c.args.pipe.now (λ w. Covers (world c.args.self.now) (values_in c.args.slots.now) c.args.pipe.now w × (is_covered (world c.args.self.now) w c.args.condition.now ≡ true)) (λ w p. p.0) _ _ c.loop-base.base _ c.in-Ok.item (items_left (world c.args.self.now) (values_in c.args.slots.now) c.args.pipe.now c.next.new.base) c.loop-base.invariant.log c.requires c.in-Ok.is c.in_ok-item.ensures.meant w p) gr);
    }

pub all_hold-loop-base-preserved-in-Ok-true-4 : goal.all_hold-loop-base-preserved-in-Ok-true-4
all_hold-loop-base-preserved-in-Ok-true-4 g t c =
    record {
      meant = all_on (holds_of (world c.args.self.now) c.args.condition.now c.args.slots.now) (items_left (world c.args.self.now) (values_in c.args.slots.now) c.args.pipe.now c.loop-base.base) (items_left (world c.args.self.now) (values_in c.args.slots.now) c.args.pipe.now c.next.new.base) c.in-Ok.item _ (subst (λ s. Steps (items_left (world c.args.self.now) (values_in c.args.slots.now) c.args.pipe.now c.loop-base.base) s (items_left (world c.args.self.now) (values_in c.args.slots.now) c.args.pipe.now c.next.new.base)) c.in-Ok.is c.in_ok-item.ensures.meant) (ap (λ b. Ok b) (sym c.in-Ok-true.field-0-test) ∙ sym c.in-Ok-true.is ∙ c.in_ok-holds-in-Ok.ensures.meant) c.loop-base.invariant.meant;
      log = asked (world c.args.self.now) (facts c.args.self.now.sources) g.R.TableRow.table_of g.R.RowRef.shown (values_in c.args.slots.now) c.args.pipe.now (λ w. Covers (world c.args.self.now) (values_in c.args.slots.now) c.args.pipe.now w × (is_covered (world c.args.self.now) w c.args.condition.now ≡ true)) _ _ _ _ (went_on (world c.args.self.now) (facts c.args.self.now.sources) g.R.TableRow.table_of g.R.RowRef.shown (values_in c.args.slots.now) c.args.pipe.now (λ w. Covers (world c.args.self.now) (values_in c.args.slots.now) c.args.pipe.now w × (is_covered (world c.args.self.now) w c.args.condition.now ≡ true)) (λ w p. p.0) _ _ _ c.loop-base.base c.next.new.base c.loop-base.invariant.log c.next.ensures.pulled)
          (λ w start p gr. c.holds.ensures.grows w start p.1 p.0.slots_in (next_passes (world c.args.self.now) (facts c.args.self.now.sources) g.R.TableRow.table_of g.R.RowRef.shown (values_in c.args.slots.now) c.args.pipe.now (λ w. Covers (world c.args.self.now) (values_in c.args.slots.now) c.args.pipe.now w × (is_covered (world c.args.self.now) w c.args.condition.now ≡ true)) (λ w p. p.0) _ _ c.loop-base.base _ c.in-Ok.item (items_left (world c.args.self.now) (values_in c.args.slots.now) c.args.pipe.now c.next.new.base) c.loop-base.invariant.log c.requires c.in-Ok.is c.in_ok-item.ensures.meant w p) gr);
    }

pub all_hold-loop-base-preserved-in-Ok-true-5 : goal.all_hold-loop-base-preserved-in-Ok-true-5
all_hold-loop-base-preserved-in-Ok-true-5 g t c =
    record {
      meant = all_on (holds_of (world c.args.self.now) c.args.condition.now c.args.slots.now) (items_left (world c.args.self.now) (values_in c.args.slots.now) c.args.pipe.now c.loop-base.base) (items_left (world c.args.self.now) (values_in c.args.slots.now) c.args.pipe.now c.next.new.base) c.in-Ok.item _ (subst (λ s. Steps (items_left (world c.args.self.now) (values_in c.args.slots.now) c.args.pipe.now c.loop-base.base) s (items_left (world c.args.self.now) (values_in c.args.slots.now) c.args.pipe.now c.next.new.base)) c.in-Ok.is c.in_ok-item.ensures.meant) (ap (λ b. Ok b) (sym c.in-Ok-true.field-0-test) ∙ sym c.in-Ok-true.is ∙ c.in_ok-holds-in-Ok.ensures.meant) c.loop-base.invariant.meant;
      log = asked (world c.args.self.now) (facts c.args.self.now.sources) g.R.TableRow.table_of g.R.RowRef.shown (values_in c.args.slots.now) c.args.pipe.now (λ w. Covers (world c.args.self.now) (values_in c.args.slots.now) c.args.pipe.now w × (is_covered (world c.args.self.now) w c.args.condition.now ≡ true)) _ _ _ _ (went_on (world c.args.self.now) (facts c.args.self.now.sources) g.R.TableRow.table_of g.R.RowRef.shown (values_in c.args.slots.now) c.args.pipe.now (λ w. Covers (world c.args.self.now) (values_in c.args.slots.now) c.args.pipe.now w × (is_covered (world c.args.self.now) w c.args.condition.now ≡ true)) (λ w p. p.0) _ _ _ c.loop-base.base c.next.new.base c.loop-base.invariant.log c.next.ensures.pulled)
          (λ w start p gr. c.holds.ensures.grows w start p.1 p.0.slots_in (next_passes (world c.args.self.now) (facts c.args.self.now.sources) g.R.TableRow.table_of g.R.RowRef.shown (values_in c.args.slots.now) c.args.pipe.now (λ w. Covers (world c.args.self.now) (values_in c.args.slots.now) c.args.pipe.now w × (is_covered (world c.args.self.now) w c.args.condition.now ≡ true)) (λ w p. p.0) _ _ c.loop-base.base _ c.in-Ok.item (items_left (world c.args.self.now) (values_in c.args.slots.now) c.args.pipe.now c.next.new.base) c.loop-base.invariant.log c.requires c.in-Ok.is c.in_ok-item.ensures.meant w p) gr);
    }

pub expand-loop-values-init : goal.expand-loop-values-init
expand-loop-values-init g t c =
    record {
      meant = comes_begins (item_expansion (world c.args.self.now) (values_in c.args.slots.now) c.args.inner.now c.args.body.now) _ _ _ c.new-values.ensures (left_opened (world c.args.self.now) (values_in c.args.slots.now) _ _ c.in_ok-base.base c.in_ok-base.ensures.meant);
      log = opened (world c.args.self.now) (facts c.args.self.now.sources) g.R.TableRow.table_of g.R.RowRef.shown (values_in c.args.slots.now) c.args.pipe.now (λ w. Covers (world c.args.self.now) (values_in c.args.slots.now) c.args.pipe.now w × (is_covered (world c.args.self.now) w c.args.inner.now ≡ true) × (is_covered (world c.args.self.now) w c.args.body.now ≡ true)) _ _ c.in_ok-base.base (λ w start p gr. c.open.ensures.grows w start p.0.source_in p.0.slots_in gr) (λ w p. c.in_ok-base.ensures.from w p.0.source_in p.0.slots_in);
    }

pub expand-returns-in_err-item-clause-grows : goal.expand-returns-in_err-item-clause-grows
expand-returns-in_err-item-clause-grows g t c =
    λ w start a b hi hb s gr.
    (went_on (world c.args.self.now) (facts c.args.self.now.sources) g.R.TableRow.table_of g.R.RowRef.shown (values_in c.args.slots.now) c.args.pipe.now (λ w. Covers (world c.args.self.now) (values_in c.args.slots.now) c.args.pipe.now w × (is_covered (world c.args.self.now) w c.args.inner.now ≡ true) × (is_covered (world c.args.self.now) w c.args.body.now ≡ true)) (λ w p. p.0) _ _ _ c.loop-values.base c.next.new.base c.loop-values.invariant.log c.next.ensures.pulled).grows w start ((covers_pipe (world c.args.self.now) (values_in c.args.slots.now) c.args.pipe.now w a b s), hi, hb) gr

pub expand-returns-in-Err-clause-grows : goal.expand-returns-in-Err-clause-grows
expand-returns-in-Err-clause-grows g t c =
    λ w start a b hi hb s gr.
    (went_on (world c.args.self.now) (facts c.args.self.now.sources) g.R.TableRow.table_of g.R.RowRef.shown (values_in c.args.slots.now) c.args.pipe.now (λ w. Covers (world c.args.self.now) (values_in c.args.slots.now) c.args.pipe.now w × (is_covered (world c.args.self.now) w c.args.inner.now ≡ true) × (is_covered (world c.args.self.now) w c.args.body.now ≡ true)) (λ w p. p.0) _ _ _ c.loop-values.base c.next.new.base c.loop-values.invariant.log c.next.ensures.pulled).grows w start ((covers_pipe (world c.args.self.now) (values_in c.args.slots.now) c.args.pipe.now w a b s), hi, hb) gr

pub expand-returns-in_err-further-in-Ok-clause-grows : goal.expand-returns-in_err-further-in-Ok-clause-grows
expand-returns-in_err-further-in-Ok-clause-grows g t c =
    λ w start a b hi hb s gr.
    (asked (world c.args.self.now) (facts c.args.self.now.sources) g.R.TableRow.table_of g.R.RowRef.shown (values_in c.args.slots.now) c.args.pipe.now (λ w. Covers (world c.args.self.now) (values_in c.args.slots.now) c.args.pipe.now w × (is_covered (world c.args.self.now) w c.args.inner.now ≡ true) × (is_covered (world c.args.self.now) w c.args.body.now ≡ true)) _ _ _ _ (went_on (world c.args.self.now) (facts c.args.self.now.sources) g.R.TableRow.table_of g.R.RowRef.shown (values_in c.args.slots.now) c.args.pipe.now (λ w. Covers (world c.args.self.now) (values_in c.args.slots.now) c.args.pipe.now w × (is_covered (world c.args.self.now) w c.args.inner.now ≡ true) × (is_covered (world c.args.self.now) w c.args.body.now ≡ true)) (λ w p. p.0) _ _ _ c.loop-values.base c.next.new.base c.loop-values.invariant.log c.next.ensures.pulled)
    (λ w start p gr. c.expand_item.ensures.grows w start p.1 p.2 p.0.slots_in (next_passes (world c.args.self.now) (facts c.args.self.now.sources) g.R.TableRow.table_of g.R.RowRef.shown (values_in c.args.slots.now) c.args.pipe.now (λ w. Covers (world c.args.self.now) (values_in c.args.slots.now) c.args.pipe.now w × (is_covered (world c.args.self.now) w c.args.inner.now ≡ true) × (is_covered (world c.args.self.now) w c.args.body.now ≡ true)) (λ w p. p.0) _ _ c.loop-values.base _ c.in-Ok.item (items_left (world c.args.self.now) (values_in c.args.slots.now) c.args.pipe.now c.next.new.base) c.loop-values.invariant.log c.requires c.in-Ok.is c.in_ok-item.ensures.meant w p) gr)).grows w start ((covers_pipe (world c.args.self.now) (values_in c.args.slots.now) c.args.pipe.now w a b s), hi, hb) gr

pub expand-returns-in_err-values-in-Ok-clause-grows : goal.expand-returns-in_err-values-in-Ok-clause-grows
expand-returns-in_err-values-in-Ok-clause-grows g t c =
    λ w start a b hi hb s gr.
    (asked (world c.args.self.now) (facts c.args.self.now.sources) g.R.TableRow.table_of g.R.RowRef.shown (values_in c.args.slots.now) c.args.pipe.now (λ w. Covers (world c.args.self.now) (values_in c.args.slots.now) c.args.pipe.now w × (is_covered (world c.args.self.now) w c.args.inner.now ≡ true) × (is_covered (world c.args.self.now) w c.args.body.now ≡ true)) _ _ _ _ (went_on (world c.args.self.now) (facts c.args.self.now.sources) g.R.TableRow.table_of g.R.RowRef.shown (values_in c.args.slots.now) c.args.pipe.now (λ w. Covers (world c.args.self.now) (values_in c.args.slots.now) c.args.pipe.now w × (is_covered (world c.args.self.now) w c.args.inner.now ≡ true) × (is_covered (world c.args.self.now) w c.args.body.now ≡ true)) (λ w p. p.0) _ _ _ c.loop-values.base c.next.new.base c.loop-values.invariant.log c.next.ensures.pulled)
    (λ w start p gr. c.expand_item.ensures.grows w start p.1 p.2 p.0.slots_in (next_passes (world c.args.self.now) (facts c.args.self.now.sources) g.R.TableRow.table_of g.R.RowRef.shown (values_in c.args.slots.now) c.args.pipe.now (λ w. Covers (world c.args.self.now) (values_in c.args.slots.now) c.args.pipe.now w × (is_covered (world c.args.self.now) w c.args.inner.now ≡ true) × (is_covered (world c.args.self.now) w c.args.body.now ≡ true)) (λ w p. p.0) _ _ c.loop-values.base _ c.in-Ok.item (items_left (world c.args.self.now) (values_in c.args.slots.now) c.args.pipe.now c.next.new.base) c.loop-values.invariant.log c.requires c.in-Ok.is c.in_ok-item.ensures.meant w p) gr)).grows w start ((covers_pipe (world c.args.self.now) (values_in c.args.slots.now) c.args.pipe.now w a b s), hi, hb) gr

pub expand-returns-in-Fault-clause-grows : goal.expand-returns-in-Fault-clause-grows
expand-returns-in-Fault-clause-grows g t c =
    λ w start a b hi hb s gr.
    (asked (world c.args.self.now) (facts c.args.self.now.sources) g.R.TableRow.table_of g.R.RowRef.shown (values_in c.args.slots.now) c.args.pipe.now (λ w. Covers (world c.args.self.now) (values_in c.args.slots.now) c.args.pipe.now w × (is_covered (world c.args.self.now) w c.args.inner.now ≡ true) × (is_covered (world c.args.self.now) w c.args.body.now ≡ true)) _ _ _ _ (went_on (world c.args.self.now) (facts c.args.self.now.sources) g.R.TableRow.table_of g.R.RowRef.shown (values_in c.args.slots.now) c.args.pipe.now (λ w. Covers (world c.args.self.now) (values_in c.args.slots.now) c.args.pipe.now w × (is_covered (world c.args.self.now) w c.args.inner.now ≡ true) × (is_covered (world c.args.self.now) w c.args.body.now ≡ true)) (λ w p. p.0) _ _ _ c.loop-values.base c.next.new.base c.loop-values.invariant.log c.next.ensures.pulled)
    (λ w start p gr. c.expand_item.ensures.grows w start p.1 p.2 p.0.slots_in (next_passes (world c.args.self.now) (facts c.args.self.now.sources) g.R.TableRow.table_of g.R.RowRef.shown (values_in c.args.slots.now) c.args.pipe.now (λ w. Covers (world c.args.self.now) (values_in c.args.slots.now) c.args.pipe.now w × (is_covered (world c.args.self.now) w c.args.inner.now ≡ true) × (is_covered (world c.args.self.now) w c.args.body.now ≡ true)) (λ w p. p.0) _ _ c.loop-values.base _ c.in-Ok.item (items_left (world c.args.self.now) (values_in c.args.slots.now) c.args.pipe.now c.next.new.base) c.loop-values.invariant.log c.requires c.in-Ok.is c.in_ok-item.ensures.meant w p) gr)).grows w start ((covers_pipe (world c.args.self.now) (values_in c.args.slots.now) c.args.pipe.now w a b s), hi, hb) gr

pub expand-loop-values-preserved : goal.expand-loop-values-preserved
expand-loop-values-preserved g t c =
    record {
      meant = comes_on (item_expansion (world c.args.self.now) (values_in c.args.slots.now) c.args.inner.now c.args.body.now) (items_left (world c.args.self.now) (values_in c.args.slots.now) c.args.pipe.now c.loop-values.base) (items_left (world c.args.self.now) (values_in c.args.slots.now) c.args.pipe.now c.next.new.base) c.in-Ok.item _ c.loop-values.values _ _ (subst (λ s. Steps (items_left (world c.args.self.now) (values_in c.args.slots.now) c.args.pipe.now c.loop-values.base) s (items_left (world c.args.self.now) (values_in c.args.slots.now) c.args.pipe.now c.next.new.base)) c.in-Ok.is c.in_ok-item.ensures.meant)
          (sym c.in_ok-further-in-Ok.ensures.meant ∙ ap (λ e. (c.in_ok-further-in-Ok.further, e)) c.in-Done.is) c.in_ok-values-in-Ok.ensures c.loop-values.invariant.meant;
      log = asked (world c.args.self.now) (facts c.args.self.now.sources) g.R.TableRow.table_of g.R.RowRef.shown (values_in c.args.slots.now) c.args.pipe.now (λ w. Covers (world c.args.self.now) (values_in c.args.slots.now) c.args.pipe.now w × (is_covered (world c.args.self.now) w c.args.inner.now ≡ true) × (is_covered (world c.args.self.now) w c.args.body.now ≡ true)) _ _ _ _ (went_on (world c.args.self.now) (facts c.args.self.now.sources) g.R.TableRow.table_of g.R.RowRef.shown (values_in c.args.slots.now) c.args.pipe.now (λ w. Covers (world c.args.self.now) (values_in c.args.slots.now) c.args.pipe.now w × (is_covered (world c.args.self.now) w c.args.inner.now ≡ true) × (is_covered (world c.args.self.now) w c.args.body.now ≡ true)) (λ w p. p.0) _ _ _ c.loop-values.base c.next.new.base c.loop-values.invariant.log c.next.ensures.pulled)
          (λ w start p gr. c.expand_item.ensures.grows w start p.1 p.2 p.0.slots_in (next_passes (world c.args.self.now) (facts c.args.self.now.sources) g.R.TableRow.table_of g.R.RowRef.shown (values_in c.args.slots.now) c.args.pipe.now (λ w. Covers (world c.args.self.now) (values_in c.args.slots.now) c.args.pipe.now w × (is_covered (world c.args.self.now) w c.args.inner.now ≡ true) × (is_covered (world c.args.self.now) w c.args.body.now ≡ true)) (λ w p. p.0) _ _ c.loop-values.base _ c.in-Ok.item (items_left (world c.args.self.now) (values_in c.args.slots.now) c.args.pipe.now c.next.new.base) c.loop-values.invariant.log c.requires c.in-Ok.is c.in_ok-item.ensures.meant w p) gr);
    }

pub expand-loop-values-preserved-in-Done : goal.expand-loop-values-preserved-in-Done
expand-loop-values-preserved-in-Done g t c =
    record {
      meant = comes_on (item_expansion (world c.args.self.now) (values_in c.args.slots.now) c.args.inner.now c.args.body.now) (items_left (world c.args.self.now) (values_in c.args.slots.now) c.args.pipe.now c.loop-values.base) (items_left (world c.args.self.now) (values_in c.args.slots.now) c.args.pipe.now c.next.new.base) c.in-Ok.item _ c.loop-values.values _ _ (subst (λ s. Steps (items_left (world c.args.self.now) (values_in c.args.slots.now) c.args.pipe.now c.loop-values.base) s (items_left (world c.args.self.now) (values_in c.args.slots.now) c.args.pipe.now c.next.new.base)) c.in-Ok.is c.in_ok-item.ensures.meant)
          (sym c.in_ok-further-in-Ok.ensures.meant ∙ ap (λ e. (c.in_ok-further-in-Ok.further, e)) c.in-Done.is) c.in_ok-values-in-Ok.ensures c.loop-values.invariant.meant;
      log = asked (world c.args.self.now) (facts c.args.self.now.sources) g.R.TableRow.table_of g.R.RowRef.shown (values_in c.args.slots.now) c.args.pipe.now (λ w. Covers (world c.args.self.now) (values_in c.args.slots.now) c.args.pipe.now w × (is_covered (world c.args.self.now) w c.args.inner.now ≡ true) × (is_covered (world c.args.self.now) w c.args.body.now ≡ true)) _ _ _ _ (went_on (world c.args.self.now) (facts c.args.self.now.sources) g.R.TableRow.table_of g.R.RowRef.shown (values_in c.args.slots.now) c.args.pipe.now (λ w. Covers (world c.args.self.now) (values_in c.args.slots.now) c.args.pipe.now w × (is_covered (world c.args.self.now) w c.args.inner.now ≡ true) × (is_covered (world c.args.self.now) w c.args.body.now ≡ true)) (λ w p. p.0) _ _ _ c.loop-values.base c.next.new.base c.loop-values.invariant.log c.next.ensures.pulled)
          (λ w start p gr. c.expand_item.ensures.grows w start p.1 p.2 p.0.slots_in (next_passes (world c.args.self.now) (facts c.args.self.now.sources) g.R.TableRow.table_of g.R.RowRef.shown (values_in c.args.slots.now) c.args.pipe.now (λ w. Covers (world c.args.self.now) (values_in c.args.slots.now) c.args.pipe.now w × (is_covered (world c.args.self.now) w c.args.inner.now ≡ true) × (is_covered (world c.args.self.now) w c.args.body.now ≡ true)) (λ w p. p.0) _ _ c.loop-values.base _ c.in-Ok.item (items_left (world c.args.self.now) (values_in c.args.slots.now) c.args.pipe.now c.next.new.base) c.loop-values.invariant.log c.requires c.in-Ok.is c.in_ok-item.ensures.meant w p) gr);
    }

pub expand-loop-values-preserved-in-Done-2 : goal.expand-loop-values-preserved-in-Done-2
expand-loop-values-preserved-in-Done-2 g t c =
    record {
      meant = comes_on (item_expansion (world c.args.self.now) (values_in c.args.slots.now) c.args.inner.now c.args.body.now) (items_left (world c.args.self.now) (values_in c.args.slots.now) c.args.pipe.now c.loop-values.base) (items_left (world c.args.self.now) (values_in c.args.slots.now) c.args.pipe.now c.next.new.base) c.in-Ok.item _ c.loop-values.values _ _ (subst (λ s. Steps (items_left (world c.args.self.now) (values_in c.args.slots.now) c.args.pipe.now c.loop-values.base) s (items_left (world c.args.self.now) (values_in c.args.slots.now) c.args.pipe.now c.next.new.base)) c.in-Ok.is c.in_ok-item.ensures.meant)
          (sym c.in_ok-further-in-Ok.ensures.meant ∙ ap (λ e. (c.in_ok-further-in-Ok.further, e)) c.in-Done.is) c.in_ok-values-in-Ok.ensures c.loop-values.invariant.meant;
      log = asked (world c.args.self.now) (facts c.args.self.now.sources) g.R.TableRow.table_of g.R.RowRef.shown (values_in c.args.slots.now) c.args.pipe.now (λ w. Covers (world c.args.self.now) (values_in c.args.slots.now) c.args.pipe.now w × (is_covered (world c.args.self.now) w c.args.inner.now ≡ true) × (is_covered (world c.args.self.now) w c.args.body.now ≡ true)) _ _ _ _ (went_on (world c.args.self.now) (facts c.args.self.now.sources) g.R.TableRow.table_of g.R.RowRef.shown (values_in c.args.slots.now) c.args.pipe.now (λ w. Covers (world c.args.self.now) (values_in c.args.slots.now) c.args.pipe.now w × (is_covered (world c.args.self.now) w c.args.inner.now ≡ true) × (is_covered (world c.args.self.now) w c.args.body.now ≡ true)) (λ w p. p.0) _ _ _ c.loop-values.base c.next.new.base c.loop-values.invariant.log c.next.ensures.pulled)
          (λ w start p gr. c.expand_item.ensures.grows w start p.1 p.2 p.0.slots_in (next_passes (world c.args.self.now) (facts c.args.self.now.sources) g.R.TableRow.table_of g.R.RowRef.shown (values_in c.args.slots.now) c.args.pipe.now (λ w. Covers (world c.args.self.now) (values_in c.args.slots.now) c.args.pipe.now w × (is_covered (world c.args.self.now) w c.args.inner.now ≡ true) × (is_covered (world c.args.self.now) w c.args.body.now ≡ true)) (λ w p. p.0) _ _ c.loop-values.base _ c.in-Ok.item (items_left (world c.args.self.now) (values_in c.args.slots.now) c.args.pipe.now c.next.new.base) c.loop-values.invariant.log c.requires c.in-Ok.is c.in_ok-item.ensures.meant w p) gr);
    }

pub expand-loop-values-preserved-in-Done-3 : goal.expand-loop-values-preserved-in-Done-3
expand-loop-values-preserved-in-Done-3 g t c =
    record {
      meant = comes_on (item_expansion (world c.args.self.now) (values_in c.args.slots.now) c.args.inner.now c.args.body.now) (items_left (world c.args.self.now) (values_in c.args.slots.now) c.args.pipe.now c.loop-values.base) (items_left (world c.args.self.now) (values_in c.args.slots.now) c.args.pipe.now c.next.new.base) c.in-Ok.item _ c.loop-values.values _ _ (subst (λ s. Steps (items_left (world c.args.self.now) (values_in c.args.slots.now) c.args.pipe.now c.loop-values.base) s (items_left (world c.args.self.now) (values_in c.args.slots.now) c.args.pipe.now c.next.new.base)) c.in-Ok.is c.in_ok-item.ensures.meant)
          (sym c.in_ok-further-in-Ok.ensures.meant ∙ ap (λ e. (c.in_ok-further-in-Ok.further, e)) c.in-Done.is) c.in_ok-values-in-Ok.ensures c.loop-values.invariant.meant;
      log = asked (world c.args.self.now) (facts c.args.self.now.sources) g.R.TableRow.table_of g.R.RowRef.shown (values_in c.args.slots.now) c.args.pipe.now (λ w. Covers (world c.args.self.now) (values_in c.args.slots.now) c.args.pipe.now w × (is_covered (world c.args.self.now) w c.args.inner.now ≡ true) × (is_covered (world c.args.self.now) w c.args.body.now ≡ true)) _ _ _ _ (went_on (world c.args.self.now) (facts c.args.self.now.sources) g.R.TableRow.table_of g.R.RowRef.shown (values_in c.args.slots.now) c.args.pipe.now (λ w. Covers (world c.args.self.now) (values_in c.args.slots.now) c.args.pipe.now w × (is_covered (world c.args.self.now) w c.args.inner.now ≡ true) × (is_covered (world c.args.self.now) w c.args.body.now ≡ true)) (λ w p. p.0) _ _ _ c.loop-values.base c.next.new.base c.loop-values.invariant.log c.next.ensures.pulled)
          (λ w start p gr. c.expand_item.ensures.grows w start p.1 p.2 p.0.slots_in (next_passes (world c.args.self.now) (facts c.args.self.now.sources) g.R.TableRow.table_of g.R.RowRef.shown (values_in c.args.slots.now) c.args.pipe.now (λ w. Covers (world c.args.self.now) (values_in c.args.slots.now) c.args.pipe.now w × (is_covered (world c.args.self.now) w c.args.inner.now ≡ true) × (is_covered (world c.args.self.now) w c.args.body.now ≡ true)) (λ w p. p.0) _ _ c.loop-values.base _ c.in-Ok.item (items_left (world c.args.self.now) (values_in c.args.slots.now) c.args.pipe.now c.next.new.base) c.loop-values.invariant.log c.requires c.in-Ok.is c.in_ok-item.ensures.meant w p) gr);
    }

pub expand-loop-values-preserved-in-Done-4 : goal.expand-loop-values-preserved-in-Done-4
expand-loop-values-preserved-in-Done-4 g t c =
    record {
      meant = comes_on (item_expansion (world c.args.self.now) (values_in c.args.slots.now) c.args.inner.now c.args.body.now) (items_left (world c.args.self.now) (values_in c.args.slots.now) c.args.pipe.now c.loop-values.base) (items_left (world c.args.self.now) (values_in c.args.slots.now) c.args.pipe.now c.next.new.base) c.in-Ok.item _ c.loop-values.values _ _ (subst (λ s. Steps (items_left (world c.args.self.now) (values_in c.args.slots.now) c.args.pipe.now c.loop-values.base) s (items_left (world c.args.self.now) (values_in c.args.slots.now) c.args.pipe.now c.next.new.base)) c.in-Ok.is c.in_ok-item.ensures.meant)
          (sym c.in_ok-further-in-Ok.ensures.meant ∙ ap (λ e. (c.in_ok-further-in-Ok.further, e)) c.in-Done.is) c.in_ok-values-in-Ok.ensures c.loop-values.invariant.meant;
      log = asked (world c.args.self.now) (facts c.args.self.now.sources) g.R.TableRow.table_of g.R.RowRef.shown (values_in c.args.slots.now) c.args.pipe.now (λ w. Covers (world c.args.self.now) (values_in c.args.slots.now) c.args.pipe.now w × (is_covered (world c.args.self.now) w c.args.inner.now ≡ true) × (is_covered (world c.args.self.now) w c.args.body.now ≡ true)) _ _ _ _ (went_on (world c.args.self.now) (facts c.args.self.now.sources) g.R.TableRow.table_of g.R.RowRef.shown (values_in c.args.slots.now) c.args.pipe.now (λ w. Covers (world c.args.self.now) (values_in c.args.slots.now) c.args.pipe.now w × (is_covered (world c.args.self.now) w c.args.inner.now ≡ true) × (is_covered (world c.args.self.now) w c.args.body.now ≡ true)) (λ w p. p.0) _ _ _ c.loop-values.base c.next.new.base c.loop-values.invariant.log c.next.ensures.pulled)
          (λ w start p gr. c.expand_item.ensures.grows w start p.1 p.2 p.0.slots_in (next_passes (world c.args.self.now) (facts c.args.self.now.sources) g.R.TableRow.table_of g.R.RowRef.shown (values_in c.args.slots.now) c.args.pipe.now (λ w. Covers (world c.args.self.now) (values_in c.args.slots.now) c.args.pipe.now w × (is_covered (world c.args.self.now) w c.args.inner.now ≡ true) × (is_covered (world c.args.self.now) w c.args.body.now ≡ true)) (λ w p. p.0) _ _ c.loop-values.base _ c.in-Ok.item (items_left (world c.args.self.now) (values_in c.args.slots.now) c.args.pipe.now c.next.new.base) c.loop-values.invariant.log c.requires c.in-Ok.is c.in_ok-item.ensures.meant w p) gr);
    }

pub expand-loop-values-preserved-in-Done-5 : goal.expand-loop-values-preserved-in-Done-5
expand-loop-values-preserved-in-Done-5 g t c =
    record {
      meant = comes_on (item_expansion (world c.args.self.now) (values_in c.args.slots.now) c.args.inner.now c.args.body.now) (items_left (world c.args.self.now) (values_in c.args.slots.now) c.args.pipe.now c.loop-values.base) (items_left (world c.args.self.now) (values_in c.args.slots.now) c.args.pipe.now c.next.new.base) c.in-Ok.item _ c.loop-values.values _ _ (subst (λ s. Steps (items_left (world c.args.self.now) (values_in c.args.slots.now) c.args.pipe.now c.loop-values.base) s (items_left (world c.args.self.now) (values_in c.args.slots.now) c.args.pipe.now c.next.new.base)) c.in-Ok.is c.in_ok-item.ensures.meant)
          (sym c.in_ok-further-in-Ok.ensures.meant ∙ ap (λ e. (c.in_ok-further-in-Ok.further, e)) c.in-Done.is) c.in_ok-values-in-Ok.ensures c.loop-values.invariant.meant;
      log = asked (world c.args.self.now) (facts c.args.self.now.sources) g.R.TableRow.table_of g.R.RowRef.shown (values_in c.args.slots.now) c.args.pipe.now (λ w. Covers (world c.args.self.now) (values_in c.args.slots.now) c.args.pipe.now w × (is_covered (world c.args.self.now) w c.args.inner.now ≡ true) × (is_covered (world c.args.self.now) w c.args.body.now ≡ true)) _ _ _ _ (went_on (world c.args.self.now) (facts c.args.self.now.sources) g.R.TableRow.table_of g.R.RowRef.shown (values_in c.args.slots.now) c.args.pipe.now (λ w. Covers (world c.args.self.now) (values_in c.args.slots.now) c.args.pipe.now w × (is_covered (world c.args.self.now) w c.args.inner.now ≡ true) × (is_covered (world c.args.self.now) w c.args.body.now ≡ true)) (λ w p. p.0) _ _ _ c.loop-values.base c.next.new.base c.loop-values.invariant.log c.next.ensures.pulled)
          (λ w start p gr. c.expand_item.ensures.grows w start p.1 p.2 p.0.slots_in (next_passes (world c.args.self.now) (facts c.args.self.now.sources) g.R.TableRow.table_of g.R.RowRef.shown (values_in c.args.slots.now) c.args.pipe.now (λ w. Covers (world c.args.self.now) (values_in c.args.slots.now) c.args.pipe.now w × (is_covered (world c.args.self.now) w c.args.inner.now ≡ true) × (is_covered (world c.args.self.now) w c.args.body.now ≡ true)) (λ w p. p.0) _ _ c.loop-values.base _ c.in-Ok.item (items_left (world c.args.self.now) (values_in c.args.slots.now) c.args.pipe.now c.next.new.base) c.loop-values.invariant.log c.requires c.in-Ok.is c.in_ok-item.ensures.meant w p) gr);
    }

pub join_items-loop-values-init : goal.join_items-loop-values-init
join_items-loop-values-init g t c =
    record {
      meant = comes_begins (item_join (world c.args.self.now) (values_in c.args.slots.now) c.args.joined.now (pairs_of c.args.matches.now)) _ _ _ c.new-values.ensures (left_opened (world c.args.self.now) (values_in c.args.slots.now) _ _ c.in_ok-base.base c.in_ok-base.ensures.meant);
      log = opened (world c.args.self.now) (facts c.args.self.now.sources) g.R.TableRow.table_of g.R.RowRef.shown (values_in c.args.slots.now) c.args.pipe.now (λ w. Covers (world c.args.self.now) (values_in c.args.slots.now) c.args.pipe.now w × (is_covered_join (world c.args.self.now) w c.args.joined.now ≡ true) × (matches_pass w (pairs_of c.args.matches.now) ≡ true)) _ _ c.in_ok-base.base (λ w start p gr. c.open.ensures.grows w start p.0.source_in p.0.slots_in gr) (λ w p. c.in_ok-base.ensures.from w p.0.source_in p.0.slots_in);
    }

pub join_items-returns-in_err-item-clause-grows : goal.join_items-returns-in_err-item-clause-grows
join_items-returns-in_err-item-clause-grows g t c =
    λ w start h m a b s gr.
    (went_on (world c.args.self.now) (facts c.args.self.now.sources) g.R.TableRow.table_of g.R.RowRef.shown (values_in c.args.slots.now) c.args.pipe.now (λ w. Covers (world c.args.self.now) (values_in c.args.slots.now) c.args.pipe.now w × (is_covered_join (world c.args.self.now) w c.args.joined.now ≡ true) × (matches_pass w (pairs_of c.args.matches.now) ≡ true)) (λ w p. p.0) _ _ _ c.loop-values.base c.next.new.base c.loop-values.invariant.log c.next.ensures.pulled).grows w start ((covers_pipe (world c.args.self.now) (values_in c.args.slots.now) c.args.pipe.now w a b s), h, m) gr

pub join_items-returns-in-Err-clause-grows : goal.join_items-returns-in-Err-clause-grows
join_items-returns-in-Err-clause-grows g t c =
    λ w start h m a b s gr.
    (went_on (world c.args.self.now) (facts c.args.self.now.sources) g.R.TableRow.table_of g.R.RowRef.shown (values_in c.args.slots.now) c.args.pipe.now (λ w. Covers (world c.args.self.now) (values_in c.args.slots.now) c.args.pipe.now w × (is_covered_join (world c.args.self.now) w c.args.joined.now ≡ true) × (matches_pass w (pairs_of c.args.matches.now) ≡ true)) (λ w p. p.0) _ _ _ c.loop-values.base c.next.new.base c.loop-values.invariant.log c.next.ensures.pulled).grows w start ((covers_pipe (world c.args.self.now) (values_in c.args.slots.now) c.args.pipe.now w a b s), h, m) gr

pub join_items-returns-in_err-ending-in-Ok-clause-grows : goal.join_items-returns-in_err-ending-in-Ok-clause-grows
join_items-returns-in_err-ending-in-Ok-clause-grows g t c =
    λ w start h m a b s gr.
    (asked (world c.args.self.now) (facts c.args.self.now.sources) g.R.TableRow.table_of g.R.RowRef.shown (values_in c.args.slots.now) c.args.pipe.now (λ w. Covers (world c.args.self.now) (values_in c.args.slots.now) c.args.pipe.now w × (is_covered_join (world c.args.self.now) w c.args.joined.now ≡ true) × (matches_pass w (pairs_of c.args.matches.now) ≡ true)) _ _ _ _ (went_on (world c.args.self.now) (facts c.args.self.now.sources) g.R.TableRow.table_of g.R.RowRef.shown (values_in c.args.slots.now) c.args.pipe.now (λ w. Covers (world c.args.self.now) (values_in c.args.slots.now) c.args.pipe.now w × (is_covered_join (world c.args.self.now) w c.args.joined.now ≡ true) × (matches_pass w (pairs_of c.args.matches.now) ≡ true)) (λ w p. p.0) _ _ _ c.loop-values.base c.next.new.base c.loop-values.invariant.log c.next.ensures.pulled)
    (λ w start p gr. c.join_item.ensures.grows w start p.1 p.2 p.0.slots_in (next_passes (world c.args.self.now) (facts c.args.self.now.sources) g.R.TableRow.table_of g.R.RowRef.shown (values_in c.args.slots.now) c.args.pipe.now (λ w. Covers (world c.args.self.now) (values_in c.args.slots.now) c.args.pipe.now w × (is_covered_join (world c.args.self.now) w c.args.joined.now ≡ true) × (matches_pass w (pairs_of c.args.matches.now) ≡ true)) (λ w p. p.0) _ _ c.loop-values.base _ c.in-Ok.item (items_left (world c.args.self.now) (values_in c.args.slots.now) c.args.pipe.now c.next.new.base) c.loop-values.invariant.log c.requires c.in-Ok.is c.in_ok-item.ensures.meant w p) gr)).grows w start ((covers_pipe (world c.args.self.now) (values_in c.args.slots.now) c.args.pipe.now w a b s), h, m) gr

pub join_items-returns-in-Fault-clause-grows : goal.join_items-returns-in-Fault-clause-grows
join_items-returns-in-Fault-clause-grows g t c =
    λ w start h m a b s gr.
    (asked (world c.args.self.now) (facts c.args.self.now.sources) g.R.TableRow.table_of g.R.RowRef.shown (values_in c.args.slots.now) c.args.pipe.now (λ w. Covers (world c.args.self.now) (values_in c.args.slots.now) c.args.pipe.now w × (is_covered_join (world c.args.self.now) w c.args.joined.now ≡ true) × (matches_pass w (pairs_of c.args.matches.now) ≡ true)) _ _ _ _ (went_on (world c.args.self.now) (facts c.args.self.now.sources) g.R.TableRow.table_of g.R.RowRef.shown (values_in c.args.slots.now) c.args.pipe.now (λ w. Covers (world c.args.self.now) (values_in c.args.slots.now) c.args.pipe.now w × (is_covered_join (world c.args.self.now) w c.args.joined.now ≡ true) × (matches_pass w (pairs_of c.args.matches.now) ≡ true)) (λ w p. p.0) _ _ _ c.loop-values.base c.next.new.base c.loop-values.invariant.log c.next.ensures.pulled)
    (λ w start p gr. c.join_item.ensures.grows w start p.1 p.2 p.0.slots_in (next_passes (world c.args.self.now) (facts c.args.self.now.sources) g.R.TableRow.table_of g.R.RowRef.shown (values_in c.args.slots.now) c.args.pipe.now (λ w. Covers (world c.args.self.now) (values_in c.args.slots.now) c.args.pipe.now w × (is_covered_join (world c.args.self.now) w c.args.joined.now ≡ true) × (matches_pass w (pairs_of c.args.matches.now) ≡ true)) (λ w p. p.0) _ _ c.loop-values.base _ c.in-Ok.item (items_left (world c.args.self.now) (values_in c.args.slots.now) c.args.pipe.now c.next.new.base) c.loop-values.invariant.log c.requires c.in-Ok.is c.in_ok-item.ensures.meant w p) gr)).grows w start ((covers_pipe (world c.args.self.now) (values_in c.args.slots.now) c.args.pipe.now w a b s), h, m) gr

pub join_items-loop-values-preserved : goal.join_items-loop-values-preserved
join_items-loop-values-preserved g t c =
    record {
      meant = behind_on (item_join (world c.args.self.now) (values_in c.args.slots.now) c.args.joined.now (pairs_of c.args.matches.now)) (items_left (world c.args.self.now) (values_in c.args.slots.now) c.args.pipe.now c.loop-values.base) (items_left (world c.args.self.now) (values_in c.args.slots.now) c.args.pipe.now c.next.new.base) c.in-Ok.item _ c.loop-values.values _ _ (subst (λ s. Steps (items_left (world c.args.self.now) (values_in c.args.slots.now) c.args.pipe.now c.loop-values.base) s (items_left (world c.args.self.now) (values_in c.args.slots.now) c.args.pipe.now c.next.new.base)) c.in-Ok.is c.in_ok-item.ensures.meant)
          c.in_ok-ending-in-Ok.ensures.meant c.in-Done.is c.loop-values.invariant.meant;
      log = asked (world c.args.self.now) (facts c.args.self.now.sources) g.R.TableRow.table_of g.R.RowRef.shown (values_in c.args.slots.now) c.args.pipe.now (λ w. Covers (world c.args.self.now) (values_in c.args.slots.now) c.args.pipe.now w × (is_covered_join (world c.args.self.now) w c.args.joined.now ≡ true) × (matches_pass w (pairs_of c.args.matches.now) ≡ true)) _ _ _ _ (went_on (world c.args.self.now) (facts c.args.self.now.sources) g.R.TableRow.table_of g.R.RowRef.shown (values_in c.args.slots.now) c.args.pipe.now (λ w. Covers (world c.args.self.now) (values_in c.args.slots.now) c.args.pipe.now w × (is_covered_join (world c.args.self.now) w c.args.joined.now ≡ true) × (matches_pass w (pairs_of c.args.matches.now) ≡ true)) (λ w p. p.0) _ _ _ c.loop-values.base c.next.new.base c.loop-values.invariant.log c.next.ensures.pulled)
          (λ w start p gr. c.join_item.ensures.grows w start p.1 p.2 p.0.slots_in (next_passes (world c.args.self.now) (facts c.args.self.now.sources) g.R.TableRow.table_of g.R.RowRef.shown (values_in c.args.slots.now) c.args.pipe.now (λ w. Covers (world c.args.self.now) (values_in c.args.slots.now) c.args.pipe.now w × (is_covered_join (world c.args.self.now) w c.args.joined.now ≡ true) × (matches_pass w (pairs_of c.args.matches.now) ≡ true)) (λ w p. p.0) _ _ c.loop-values.base _ c.in-Ok.item (items_left (world c.args.self.now) (values_in c.args.slots.now) c.args.pipe.now c.next.new.base) c.loop-values.invariant.log c.requires c.in-Ok.is c.in_ok-item.ensures.meant w p) gr);
    }

pub join_items-loop-values-preserved-in-Done : goal.join_items-loop-values-preserved-in-Done
join_items-loop-values-preserved-in-Done g t c =
    record {
      meant = behind_on (item_join (world c.args.self.now) (values_in c.args.slots.now) c.args.joined.now (pairs_of c.args.matches.now)) (items_left (world c.args.self.now) (values_in c.args.slots.now) c.args.pipe.now c.loop-values.base) (items_left (world c.args.self.now) (values_in c.args.slots.now) c.args.pipe.now c.next.new.base) c.in-Ok.item _ c.loop-values.values _ _ (subst (λ s. Steps (items_left (world c.args.self.now) (values_in c.args.slots.now) c.args.pipe.now c.loop-values.base) s (items_left (world c.args.self.now) (values_in c.args.slots.now) c.args.pipe.now c.next.new.base)) c.in-Ok.is c.in_ok-item.ensures.meant)
          c.in_ok-ending-in-Ok.ensures.meant c.in-Done.is c.loop-values.invariant.meant;
      log = asked (world c.args.self.now) (facts c.args.self.now.sources) g.R.TableRow.table_of g.R.RowRef.shown (values_in c.args.slots.now) c.args.pipe.now (λ w. Covers (world c.args.self.now) (values_in c.args.slots.now) c.args.pipe.now w × (is_covered_join (world c.args.self.now) w c.args.joined.now ≡ true) × (matches_pass w (pairs_of c.args.matches.now) ≡ true)) _ _ _ _ (went_on (world c.args.self.now) (facts c.args.self.now.sources) g.R.TableRow.table_of g.R.RowRef.shown (values_in c.args.slots.now) c.args.pipe.now (λ w. Covers (world c.args.self.now) (values_in c.args.slots.now) c.args.pipe.now w × (is_covered_join (world c.args.self.now) w c.args.joined.now ≡ true) × (matches_pass w (pairs_of c.args.matches.now) ≡ true)) (λ w p. p.0) _ _ _ c.loop-values.base c.next.new.base c.loop-values.invariant.log c.next.ensures.pulled)
          (λ w start p gr. c.join_item.ensures.grows w start p.1 p.2 p.0.slots_in (next_passes (world c.args.self.now) (facts c.args.self.now.sources) g.R.TableRow.table_of g.R.RowRef.shown (values_in c.args.slots.now) c.args.pipe.now (λ w. Covers (world c.args.self.now) (values_in c.args.slots.now) c.args.pipe.now w × (is_covered_join (world c.args.self.now) w c.args.joined.now ≡ true) × (matches_pass w (pairs_of c.args.matches.now) ≡ true)) (λ w p. p.0) _ _ c.loop-values.base _ c.in-Ok.item (items_left (world c.args.self.now) (values_in c.args.slots.now) c.args.pipe.now c.next.new.base) c.loop-values.invariant.log c.requires c.in-Ok.is c.in_ok-item.ensures.meant w p) gr);
    }

pub join_items-loop-values-preserved-in-Done-2 : goal.join_items-loop-values-preserved-in-Done-2
join_items-loop-values-preserved-in-Done-2 g t c =
    record {
      meant = behind_on (item_join (world c.args.self.now) (values_in c.args.slots.now) c.args.joined.now (pairs_of c.args.matches.now)) (items_left (world c.args.self.now) (values_in c.args.slots.now) c.args.pipe.now c.loop-values.base) (items_left (world c.args.self.now) (values_in c.args.slots.now) c.args.pipe.now c.next.new.base) c.in-Ok.item _ c.loop-values.values _ _ (subst (λ s. Steps (items_left (world c.args.self.now) (values_in c.args.slots.now) c.args.pipe.now c.loop-values.base) s (items_left (world c.args.self.now) (values_in c.args.slots.now) c.args.pipe.now c.next.new.base)) c.in-Ok.is c.in_ok-item.ensures.meant)
          c.in_ok-ending-in-Ok.ensures.meant c.in-Done.is c.loop-values.invariant.meant;
      log = asked (world c.args.self.now) (facts c.args.self.now.sources) g.R.TableRow.table_of g.R.RowRef.shown (values_in c.args.slots.now) c.args.pipe.now (λ w. Covers (world c.args.self.now) (values_in c.args.slots.now) c.args.pipe.now w × (is_covered_join (world c.args.self.now) w c.args.joined.now ≡ true) × (matches_pass w (pairs_of c.args.matches.now) ≡ true)) _ _ _ _ (went_on (world c.args.self.now) (facts c.args.self.now.sources) g.R.TableRow.table_of g.R.RowRef.shown (values_in c.args.slots.now) c.args.pipe.now (λ w. Covers (world c.args.self.now) (values_in c.args.slots.now) c.args.pipe.now w × (is_covered_join (world c.args.self.now) w c.args.joined.now ≡ true) × (matches_pass w (pairs_of c.args.matches.now) ≡ true)) (λ w p. p.0) _ _ _ c.loop-values.base c.next.new.base c.loop-values.invariant.log c.next.ensures.pulled)
          (λ w start p gr. c.join_item.ensures.grows w start p.1 p.2 p.0.slots_in (next_passes (world c.args.self.now) (facts c.args.self.now.sources) g.R.TableRow.table_of g.R.RowRef.shown (values_in c.args.slots.now) c.args.pipe.now (λ w. Covers (world c.args.self.now) (values_in c.args.slots.now) c.args.pipe.now w × (is_covered_join (world c.args.self.now) w c.args.joined.now ≡ true) × (matches_pass w (pairs_of c.args.matches.now) ≡ true)) (λ w p. p.0) _ _ c.loop-values.base _ c.in-Ok.item (items_left (world c.args.self.now) (values_in c.args.slots.now) c.args.pipe.now c.next.new.base) c.loop-values.invariant.log c.requires c.in-Ok.is c.in_ok-item.ensures.meant w p) gr);
    }

pub join_items-loop-values-preserved-in-Done-3 : goal.join_items-loop-values-preserved-in-Done-3
join_items-loop-values-preserved-in-Done-3 g t c =
    record {
      meant = behind_on (item_join (world c.args.self.now) (values_in c.args.slots.now) c.args.joined.now (pairs_of c.args.matches.now)) (items_left (world c.args.self.now) (values_in c.args.slots.now) c.args.pipe.now c.loop-values.base) (items_left (world c.args.self.now) (values_in c.args.slots.now) c.args.pipe.now c.next.new.base) c.in-Ok.item _ c.loop-values.values _ _ (subst (λ s. Steps (items_left (world c.args.self.now) (values_in c.args.slots.now) c.args.pipe.now c.loop-values.base) s (items_left (world c.args.self.now) (values_in c.args.slots.now) c.args.pipe.now c.next.new.base)) c.in-Ok.is c.in_ok-item.ensures.meant)
          c.in_ok-ending-in-Ok.ensures.meant c.in-Done.is c.loop-values.invariant.meant;
      log = asked (world c.args.self.now) (facts c.args.self.now.sources) g.R.TableRow.table_of g.R.RowRef.shown (values_in c.args.slots.now) c.args.pipe.now (λ w. Covers (world c.args.self.now) (values_in c.args.slots.now) c.args.pipe.now w × (is_covered_join (world c.args.self.now) w c.args.joined.now ≡ true) × (matches_pass w (pairs_of c.args.matches.now) ≡ true)) _ _ _ _ (went_on (world c.args.self.now) (facts c.args.self.now.sources) g.R.TableRow.table_of g.R.RowRef.shown (values_in c.args.slots.now) c.args.pipe.now (λ w. Covers (world c.args.self.now) (values_in c.args.slots.now) c.args.pipe.now w × (is_covered_join (world c.args.self.now) w c.args.joined.now ≡ true) × (matches_pass w (pairs_of c.args.matches.now) ≡ true)) (λ w p. p.0) _ _ _ c.loop-values.base c.next.new.base c.loop-values.invariant.log c.next.ensures.pulled)
          (λ w start p gr. c.join_item.ensures.grows w start p.1 p.2 p.0.slots_in (next_passes (world c.args.self.now) (facts c.args.self.now.sources) g.R.TableRow.table_of g.R.RowRef.shown (values_in c.args.slots.now) c.args.pipe.now (λ w. Covers (world c.args.self.now) (values_in c.args.slots.now) c.args.pipe.now w × (is_covered_join (world c.args.self.now) w c.args.joined.now ≡ true) × (matches_pass w (pairs_of c.args.matches.now) ≡ true)) (λ w p. p.0) _ _ c.loop-values.base _ c.in-Ok.item (items_left (world c.args.self.now) (values_in c.args.slots.now) c.args.pipe.now c.next.new.base) c.loop-values.invariant.log c.requires c.in-Ok.is c.in_ok-item.ensures.meant w p) gr);
    }

pub join_items-loop-values-preserved-in-Done-4 : goal.join_items-loop-values-preserved-in-Done-4
join_items-loop-values-preserved-in-Done-4 g t c =
    record {
      meant = behind_on (item_join (world c.args.self.now) (values_in c.args.slots.now) c.args.joined.now (pairs_of c.args.matches.now)) (items_left (world c.args.self.now) (values_in c.args.slots.now) c.args.pipe.now c.loop-values.base) (items_left (world c.args.self.now) (values_in c.args.slots.now) c.args.pipe.now c.next.new.base) c.in-Ok.item _ c.loop-values.values _ _ (subst (λ s. Steps (items_left (world c.args.self.now) (values_in c.args.slots.now) c.args.pipe.now c.loop-values.base) s (items_left (world c.args.self.now) (values_in c.args.slots.now) c.args.pipe.now c.next.new.base)) c.in-Ok.is c.in_ok-item.ensures.meant)
          c.in_ok-ending-in-Ok.ensures.meant c.in-Done.is c.loop-values.invariant.meant;
      log = asked (world c.args.self.now) (facts c.args.self.now.sources) g.R.TableRow.table_of g.R.RowRef.shown (values_in c.args.slots.now) c.args.pipe.now (λ w. Covers (world c.args.self.now) (values_in c.args.slots.now) c.args.pipe.now w × (is_covered_join (world c.args.self.now) w c.args.joined.now ≡ true) × (matches_pass w (pairs_of c.args.matches.now) ≡ true)) _ _ _ _ (went_on (world c.args.self.now) (facts c.args.self.now.sources) g.R.TableRow.table_of g.R.RowRef.shown (values_in c.args.slots.now) c.args.pipe.now (λ w. Covers (world c.args.self.now) (values_in c.args.slots.now) c.args.pipe.now w × (is_covered_join (world c.args.self.now) w c.args.joined.now ≡ true) × (matches_pass w (pairs_of c.args.matches.now) ≡ true)) (λ w p. p.0) _ _ _ c.loop-values.base c.next.new.base c.loop-values.invariant.log c.next.ensures.pulled)
          (λ w start p gr. c.join_item.ensures.grows w start p.1 p.2 p.0.slots_in (next_passes (world c.args.self.now) (facts c.args.self.now.sources) g.R.TableRow.table_of g.R.RowRef.shown (values_in c.args.slots.now) c.args.pipe.now (λ w. Covers (world c.args.self.now) (values_in c.args.slots.now) c.args.pipe.now w × (is_covered_join (world c.args.self.now) w c.args.joined.now ≡ true) × (matches_pass w (pairs_of c.args.matches.now) ≡ true)) (λ w p. p.0) _ _ c.loop-values.base _ c.in-Ok.item (items_left (world c.args.self.now) (values_in c.args.slots.now) c.args.pipe.now c.next.new.base) c.loop-values.invariant.log c.requires c.in-Ok.is c.in_ok-item.ensures.meant w p) gr);
    }

pub join_items-loop-values-preserved-in-Done-5 : goal.join_items-loop-values-preserved-in-Done-5
join_items-loop-values-preserved-in-Done-5 g t c =
    record {
      meant = behind_on (item_join (world c.args.self.now) (values_in c.args.slots.now) c.args.joined.now (pairs_of c.args.matches.now)) (items_left (world c.args.self.now) (values_in c.args.slots.now) c.args.pipe.now c.loop-values.base) (items_left (world c.args.self.now) (values_in c.args.slots.now) c.args.pipe.now c.next.new.base) c.in-Ok.item _ c.loop-values.values _ _ (subst (λ s. Steps (items_left (world c.args.self.now) (values_in c.args.slots.now) c.args.pipe.now c.loop-values.base) s (items_left (world c.args.self.now) (values_in c.args.slots.now) c.args.pipe.now c.next.new.base)) c.in-Ok.is c.in_ok-item.ensures.meant)
          c.in_ok-ending-in-Ok.ensures.meant c.in-Done.is c.loop-values.invariant.meant;
      log = asked (world c.args.self.now) (facts c.args.self.now.sources) g.R.TableRow.table_of g.R.RowRef.shown (values_in c.args.slots.now) c.args.pipe.now (λ w. Covers (world c.args.self.now) (values_in c.args.slots.now) c.args.pipe.now w × (is_covered_join (world c.args.self.now) w c.args.joined.now ≡ true) × (matches_pass w (pairs_of c.args.matches.now) ≡ true)) _ _ _ _ (went_on (world c.args.self.now) (facts c.args.self.now.sources) g.R.TableRow.table_of g.R.RowRef.shown (values_in c.args.slots.now) c.args.pipe.now (λ w. Covers (world c.args.self.now) (values_in c.args.slots.now) c.args.pipe.now w × (is_covered_join (world c.args.self.now) w c.args.joined.now ≡ true) × (matches_pass w (pairs_of c.args.matches.now) ≡ true)) (λ w p. p.0) _ _ _ c.loop-values.base c.next.new.base c.loop-values.invariant.log c.next.ensures.pulled)
          (λ w start p gr. c.join_item.ensures.grows w start p.1 p.2 p.0.slots_in (next_passes (world c.args.self.now) (facts c.args.self.now.sources) g.R.TableRow.table_of g.R.RowRef.shown (values_in c.args.slots.now) c.args.pipe.now (λ w. Covers (world c.args.self.now) (values_in c.args.slots.now) c.args.pipe.now w × (is_covered_join (world c.args.self.now) w c.args.joined.now ≡ true) × (matches_pass w (pairs_of c.args.matches.now) ≡ true)) (λ w p. p.0) _ _ c.loop-values.base _ c.in-Ok.item (items_left (world c.args.self.now) (values_in c.args.slots.now) c.args.pipe.now c.next.new.base) c.loop-values.invariant.log c.requires c.in-Ok.is c.in_ok-item.ensures.meant w p) gr);
    }

pub record-returns-clause-grows : goal.record-returns-clause-grows
record-returns-clause-grows g t c =
    λ w start h s gr.
    c.loop-field.invariant.grows w start (ap (are_covered_fields (world c.args.self.now) w) c.as_slice-field-items.ensures ∙ h) s gr

pub record-returns-in_err-value-clause-grows : goal.record-returns-in_err-value-clause-grows
record-returns-in_err-value-clause-grows g t c =
    λ w start h s gr.
    c.evaluate.ensures.grows w start (all_there (λ (field : Field Form). is_covered (world c.args.self.now) w field.value) _ _ _ (ap (are_covered_fields (world c.args.self.now) w) c.as_slice-field-items.ensures ∙ h) c.field-item.is c.loop-field-test.true) s
    (c.loop-field.invariant.grows w start (ap (are_covered_fields (world c.args.self.now) w) c.as_slice-field-items.ensures ∙ h) s gr)

pub record-returns-in_err-push_member-clause-grows : goal.record-returns-in_err-push_member-clause-grows
record-returns-in_err-push_member-clause-grows g t c =
    λ w start h s gr.
    c.evaluate.ensures.grows w start (all_there (λ (field : Field Form). is_covered (world c.args.self.now) w field.value) _ _ _ (ap (are_covered_fields (world c.args.self.now) w) c.as_slice-field-items.ensures ∙ h) c.field-item.is c.loop-field-test.true) s
    (c.loop-field.invariant.grows w start (ap (are_covered_fields (world c.args.self.now) w) c.as_slice-field-items.ensures ∙ h) s gr)

pub record-loop-field-preserved : goal.record-loop-field-preserved
record-loop-field-preserved g t c =
    record {
      meant = members_goes (world c.args.self.now) _ _ _ _ _ _ _ _
          c.field-item.is c.loop-field-test.true c.in_ok-value.ensures.meant c.in_ok-push_member.ensures c.loop-field.invariant.meant;
      grows = λ w start h s gr.
          c.evaluate.ensures.grows w start (all_there (λ (field : Field Form). is_covered (world c.args.self.now) w field.value) _ _ _ h c.field-item.is c.loop-field-test.true) s
          (c.loop-field.invariant.grows w start h s gr);
    }

pub key_columns-returns-clause-grows : goal.key_columns-returns-clause-grows
key_columns-returns-clause-grows g t c =
    λ w start h s a gr.
    c.loop-key.invariant.grows w start (ap (are_covered_keys (world c.args.self.now) w) c.as_slice-key-items.ensures ∙ h) s a gr

pub key_columns-returns-in_err-column-clause-grows : goal.key_columns-returns-in_err-column-clause-grows
key_columns-returns-in_err-column-clause-grows g t c =
    λ w start h s a gr.
    c.key_column.ensures.grows w start (all_there (λ (k : SortKey Form). is_covered (world c.args.self.now) w k.value) _ _ _ (ap (are_covered_keys (world c.args.self.now) w) c.as_slice-key-items.ensures ∙ h) c.key-item.is c.loop-key-test.true) s a
    (c.loop-key.invariant.grows w start (ap (are_covered_keys (world c.args.self.now) w) c.as_slice-key-items.ensures ∙ h) s a gr)

pub key_columns-returns-in_err-push-clause-grows : goal.key_columns-returns-in_err-push-clause-grows
key_columns-returns-in_err-push-clause-grows g t c =
    λ w start h s a gr.
    c.key_column.ensures.grows w start (all_there (λ (k : SortKey Form). is_covered (world c.args.self.now) w k.value) _ _ _ (ap (are_covered_keys (world c.args.self.now) w) c.as_slice-key-items.ensures ∙ h) c.key-item.is c.loop-key-test.true) s a
    (c.loop-key.invariant.grows w start (ap (are_covered_keys (world c.args.self.now) w) c.as_slice-key-items.ensures ∙ h) s a gr)

pub key_columns-loop-key-preserved : goal.key_columns-loop-key-preserved
key_columns-loop-key-preserved g t c =
    record {
      meant = all_goes (column_of (world c.args.self.now) (values_in c.args.slots.now) c.args.items.now) _ _ c.loop-key.columns _ _ _ _
          c.key-item.is c.loop-key-test.true c.in_ok-column.ensures.meant c.in_ok-push.ensures.ok c.loop-key.invariant.meant;
      grows = λ w start h s a gr.
          c.key_column.ensures.grows w start (all_there (λ (k : SortKey Form). is_covered (world c.args.self.now) w k.value) _ _ _ h c.key-item.is c.loop-key-test.true) s a
          (c.loop-key.invariant.grows w start h s a gr);
    }

pub all-returns-clause-grows : goal.all-returns-clause-grows
all-returns-clause-grows g t c =
    λ w start h k s gr.
    c.all_hold.ensures.grows w start k (covered_as (world c.args.self.now) w _ _ c.in_ok-pipe.ensures.source h) (stage_as (world c.args.self.now) w _ _ c.in_ok-pipe.ensures.stage refl) s gr

pub select_many-returns-clause-grows : goal.select_many-returns-clause-grows
select_many-returns-clause-grows g t c =
    λ w start h hi hb s gr.
    c.expand.ensures.grows w start (covered_as (world c.args.self.now) w _ _ c.in_ok-pipe.ensures.source h) (stage_as (world c.args.self.now) w _ _ c.in_ok-pipe.ensures.stage refl) hi hb s gr

pub select_many-returns-in_err-values-clause-grows : goal.select_many-returns-in_err-values-clause-grows
select_many-returns-in_err-values-clause-grows g t c =
    λ w start h hi hb s gr.
    c.expand.ensures.grows w start (covered_as (world c.args.self.now) w _ _ c.in_ok-pipe.ensures.source h) (stage_as (world c.args.self.now) w _ _ c.in_ok-pipe.ensures.stage refl) hi hb s gr

pub expand_item-returns-clause-grows : goal.expand_item-returns-clause-grows
expand_item-returns-clause-grows g t c =
    λ w start hi hb s i gr.
    c.read.ensures.grows w start (covered_as (world c.args.self.now) w _ _ c.in_ok-pipe.ensures.source hi) (stage_as (world c.args.self.now) w _ _ c.in_ok-pipe.ensures.stage hb) (slot_more w (values_in c.args.slots.now) _ _ c.with-deeper.ensures s i) gr

pub holds-returns-clause-grows : goal.holds-returns-clause-grows
holds-returns-clause-grows g t c =
    λ w start h s i gr.
    c.truth.ensures.grows w start h (slot_more w (values_in c.args.slots.now) _ _ c.with.ensures s i) gr

pub value_of_item-returns-in-None-clause-grows : goal.value_of_item-returns-in-None-clause-grows
value_of_item-returns-in-None-clause-grows g t c =
    λ w start h s i gr.
    c.evaluate.ensures.grows w start h (slot_more w (values_in c.args.slots.now) _ _ c.with-deeper.ensures s i) gr

pub join-returns-in_err-pairs-clause-grows : goal.join-returns-in_err-pairs-clause-grows
join-returns-in_err-pairs-clause-grows g t c =
    λ w start h a s gr.
    c.key_pairs.ensures.grows w start (join_inner (world c.args.self.now) w c.args.joined.now h) (join_inner_key (world c.args.self.now) w c.args.joined.now h) s gr

pub join-returns-in_err-matches-in-Done-clause-grows : goal.join-returns-in_err-matches-in-Done-clause-grows
join-returns-in_err-matches-in-Done-clause-grows g t c =
    λ w start h a s gr.
    c.key_pairs.ensures.grows w start (join_inner (world c.args.self.now) w c.args.joined.now h) (join_inner_key (world c.args.self.now) w c.args.joined.now h) s gr

pub join-returns-in_err-outer-in-Done-clause-grows : goal.join-returns-in_err-outer-in-Done-clause-grows
join-returns-in_err-outer-in-Done-clause-grows g t c =
    λ w start h a s gr.
    c.key_pairs.ensures.grows w start (join_inner (world c.args.self.now) w c.args.joined.now h) (join_inner_key (world c.args.self.now) w c.args.joined.now h) s gr

pub join-returns-in-Fault-clause-grows : goal.join-returns-in-Fault-clause-grows
join-returns-in-Fault-clause-grows g t c =
    λ w start h a s gr.
    c.key_pairs.ensures.grows w start (join_inner (world c.args.self.now) w c.args.joined.now h) (join_inner_key (world c.args.self.now) w c.args.joined.now h) s gr

pub join-returns-in_ok-values-in-Done-clause-grows : goal.join-returns-in_ok-values-in-Done-clause-grows
join-returns-in_ok-values-in-Done-clause-grows g t c =
    λ w start h a s gr.
    c.join_items.ensures.grows w start h
    (pairs_match (world c.args.self.now) w (values_in c.args.slots.now) c.args.joined.now.inner c.args.joined.now.inner_key _ _ _ c.in_ok-pairs.ensures.meant c.in_ok-matches-in-Done.ensures (join_inner (world c.args.self.now) w c.args.joined.now h) s)
    (covered_as (world c.args.self.now) w _ _ c.in_ok-outer-in-Done.ensures.source a) (stage_as (world c.args.self.now) w _ _ c.in_ok-outer-in-Done.ensures.stage refl) s
    (c.key_pairs.ensures.grows w start (join_inner (world c.args.self.now) w c.args.joined.now h) (join_inner_key (world c.args.self.now) w c.args.joined.now h) s gr)

pub join-returns-in_err-values-in-Done-clause-grows : goal.join-returns-in_err-values-in-Done-clause-grows
join-returns-in_err-values-in-Done-clause-grows g t c =
    λ w start h a s gr.
    c.join_items.ensures.grows w start h
    (pairs_match (world c.args.self.now) w (values_in c.args.slots.now) c.args.joined.now.inner c.args.joined.now.inner_key _ _ _ c.in_ok-pairs.ensures.meant c.in_ok-matches-in-Done.ensures (join_inner (world c.args.self.now) w c.args.joined.now h) s)
    (covered_as (world c.args.self.now) w _ _ c.in_ok-outer-in-Done.ensures.source a) (stage_as (world c.args.self.now) w _ _ c.in_ok-outer-in-Done.ensures.stage refl) s
    (c.key_pairs.ensures.grows w start (join_inner (world c.args.self.now) w c.args.joined.now h) (join_inner_key (world c.args.self.now) w c.args.joined.now h) s gr)

pub order_by-returns-clause-grows : goal.order_by-returns-clause-grows
order_by-returns-clause-grows g t c =
    λ w start k h s gr.
    c.read.ensures.grows w start (covered_as (world c.args.self.now) w _ _ c.in_ok-pipe.ensures.source h) (stage_as (world c.args.self.now) w _ _ c.in_ok-pipe.ensures.stage refl) s gr

pub order_by-returns-in_err-items-clause-grows : goal.order_by-returns-in_err-items-clause-grows
order_by-returns-in_err-items-clause-grows g t c =
    λ w start k h s gr.
    c.read.ensures.grows w start (covered_as (world c.args.self.now) w _ _ c.in_ok-pipe.ensures.source h) (stage_as (world c.args.self.now) w _ _ c.in_ok-pipe.ensures.stage refl) s gr

pub order_by-returns-in-Done-clause-grows : goal.order_by-returns-in-Done-clause-grows
order_by-returns-in-Done-clause-grows g t c =
    λ w start k h s gr.
    c.key_columns-columns.ensures.grows w start k s
    (ap (have_watched_rows w) c.as_slice.ensures ∙ items_read (world c.args.self.now) w (values_in c.args.slots.now) c.in_ok-pipe.pipe None _ c.in_ok-items.ensures.meant (covered_as (world c.args.self.now) w _ _ c.in_ok-pipe.ensures.source h) (stage_as (world c.args.self.now) w _ _ c.in_ok-pipe.ensures.stage refl) s)
    (c.read.ensures.grows w start (covered_as (world c.args.self.now) w _ _ c.in_ok-pipe.ensures.source h) (stage_as (world c.args.self.now) w _ _ c.in_ok-pipe.ensures.stage refl) s gr)

pub order_by-returns-in_err-sort_by-in-Done-clause-grows : goal.order_by-returns-in_err-sort_by-in-Done-clause-grows
order_by-returns-in_err-sort_by-in-Done-clause-grows g t c =
    λ w start k h s gr.
    c.key_columns-columns.ensures.grows w start k s
    (ap (have_watched_rows w) c.as_slice.ensures ∙ items_read (world c.args.self.now) w (values_in c.args.slots.now) c.in_ok-pipe.pipe None _ c.in_ok-items.ensures.meant (covered_as (world c.args.self.now) w _ _ c.in_ok-pipe.ensures.source h) (stage_as (world c.args.self.now) w _ _ c.in_ok-pipe.ensures.stage refl) s)
    (c.read.ensures.grows w start (covered_as (world c.args.self.now) w _ _ c.in_ok-pipe.ensures.source h) (stage_as (world c.args.self.now) w _ _ c.in_ok-pipe.ensures.stage refl) s gr)

pub pass_item-returns-in-Some-clause-meant : goal.pass_item-returns-in-Some-clause-meant
pass_item-returns-in-Some-clause-meant g t c =
    scalar_comes g.R.TableRow.table_of g.R.RowRef.shown (world c.args.self.now) (values_in c.args.slots.now) c.args.pipe.now c.args.item c.in-Some.cell.now _ (c.in-Some.ensures (world c.args.self.now) (values_in c.args.slots.now) c.args.pipe.now.stage c.args.pipe.now.source.now c.requires)
    (bare_item (world c.args.self.now) (values_in c.args.slots.now) c.args.pipe.now.source.now c.args.item (sym c.has_no_stage.ensures ∙ c.if-has_no_stage.true)) (ap value.Scalar c.in_ok-copy.ensures)

pub group_next-returns-in-Ok-clause-meant : goal.group_next-returns-in-Ok-clause-meant
group_next-returns-in-Ok-clause-meant g t c =
    gathers_as (groups_of same_values) _ _ _ _ c.group_item.result (pairs_as (world c.args.self.now) (values_in c.args.slots.now) c.args.key.now.body.now c.args.element.now.body _ _ ((ap (λ p. comes g.R.TableRow.table_of g.R.RowRef.shown (world c.args.self.now) (values_in c.args.slots.now) c.args.pipe.now (pulled_value p)) c.in-Row.is ∙ row_says g.R.TableRow.table_of g.R.RowRef.shown (world c.args.self.now) (values_in c.args.slots.now) c.args.pipe.now.stage c.args.pipe.now.source.now c.args.pipe.now.plan c.requires.planned c.in-Row.row true (subst (λ p. IsPulled g.R.TableRow.table_of g.R.RowRef.shown c.args.pipe.now.plan p) c.in-Row.is c.requires.pulled)) ∙ (subst (λ step. GivesStep (last (world c.args.self.now) (values_in c.args.slots.now) c.args.pipe.now.stage (value.Row c.in-Row.row)) step) c.in-Ok.is c.in_ok-item-in-Row.ensures.meant))) c.group_item.ensures.meant

pub group_next-returns-in-Err-clause-meant : goal.group_next-returns-in-Err-clause-meant
group_next-returns-in-Err-clause-meant g t c =
    pairs_end (world c.args.self.now) (values_in c.args.slots.now) c.args.key.now.body.now c.args.element.now.body _ _ c.in-Err.end (subst (λ (s : Stream (Value _)). GivesStep s (Err c.in-Err.end)) (sym (ap (λ p. comes g.R.TableRow.table_of g.R.RowRef.shown (world c.args.self.now) (values_in c.args.slots.now) c.args.pipe.now (pulled_value p)) c.in-Row.is ∙ row_says g.R.TableRow.table_of g.R.RowRef.shown (world c.args.self.now) (values_in c.args.slots.now) c.args.pipe.now.stage c.args.pipe.now.source.now c.args.pipe.now.plan c.requires.planned c.in-Row.row true (subst (λ p. IsPulled g.R.TableRow.table_of g.R.RowRef.shown c.args.pipe.now.plan p) c.in-Row.is c.requires.pulled))) (subst (λ step. GivesStep (last (world c.args.self.now) (values_in c.args.slots.now) c.args.pipe.now.stage (value.Row c.in-Row.row)) step) c.in-Err.is c.in_ok-item-in-Row.ensures.meant))

pub group_next-returns-in-Item-2-clause-meant : goal.group_next-returns-in-Item-2-clause-meant
group_next-returns-in-Item-2-clause-meant g t c =
    gathers_as (groups_of same_values) _ _ _ _ c.group_item-in-Item-2.result (pairs_as (world c.args.self.now) (values_in c.args.slots.now) c.args.key.now.body.now c.args.element.now.body _ _ ((ap (λ p. comes g.R.TableRow.table_of g.R.RowRef.shown (world c.args.self.now) (values_in c.args.slots.now) c.args.pipe.now (pulled_value p)) c.in-Item.is) ∙ sym (subst (λ o. outcome_stream o ≡ comes g.R.TableRow.table_of g.R.RowRef.shown (world c.args.self.now) (values_in c.args.slots.now) c.args.pipe.now c.in-Item.item) c.in-Item-2.is c.in_ok-item-in-Item.ensures.meant))) c.group_item-in-Item-2.ensures.meant

pub group_next-returns-in-Dropped-clause-meant : goal.group_next-returns-in-Dropped-clause-meant
group_next-returns-in-Dropped-clause-meant g t c =
    pairs_none (world c.args.self.now) (values_in c.args.slots.now) c.args.key.now.body.now c.args.element.now.body _ _ end.Done ((subst (λ o. outcome_stream o ≡ comes g.R.TableRow.table_of g.R.RowRef.shown (world c.args.self.now) (values_in c.args.slots.now) c.args.pipe.now c.in-Item.item) c.in-Dropped.is c.in_ok-item-in-Item.ensures.meant) ∙ sym (ap (λ p. comes g.R.TableRow.table_of g.R.RowRef.shown (world c.args.self.now) (values_in c.args.slots.now) c.args.pipe.now (pulled_value p)) c.in-Item.is))

pub group_next-returns-in-Fault-clause-meant : goal.group_next-returns-in-Fault-clause-meant
group_next-returns-in-Fault-clause-meant g t c =
    pairs_none (world c.args.self.now) (values_in c.args.slots.now) c.args.key.now.body.now c.args.element.now.body _ _ (end.Fault c.in-Fault.fault) ((subst (λ o. outcome_stream o ≡ comes g.R.TableRow.table_of g.R.RowRef.shown (world c.args.self.now) (values_in c.args.slots.now) c.args.pipe.now c.in-Item.item) c.in-Fault.is c.in_ok-item-in-Item.ensures.meant) ∙ sym (ap (λ p. comes g.R.TableRow.table_of g.R.RowRef.shown (world c.args.self.now) (values_in c.args.slots.now) c.args.pipe.now (pulled_value p)) c.in-Item.is))

pub group_next-returns-in_err-item-in-Row-clause-grows : goal.group_next-returns-in_err-item-in-Row-clause-grows
group_next-returns-in_err-item-in-Row-clause-grows g t c =
    λ w start h hk he i gr.
    (c.pass_row.ensures.grows w start (stage_covered g.R.TableRow.table_of g.R.RowRef.shown (world c.args.self.now) w (values_in c.args.slots.now) c.args.pipe.now h) (slots_pass g.R.TableRow.table_of g.R.RowRef.shown (world c.args.self.now) w (values_in c.args.slots.now) c.args.pipe.now h) (row_passes w (pulled_value c.args.pulled) c.in-Row.row (ap pulled_value c.in-Row.is) i) gr)

pub group_next-returns-in-Ok-clause-grows : goal.group_next-returns-in-Ok-clause-grows
group_next-returns-in-Ok-clause-grows g t c =
    λ w start h hk he i gr.
    c.group_item.ensures.grows w start hk he (slots_pass g.R.TableRow.table_of g.R.RowRef.shown (world c.args.self.now) w (values_in c.args.slots.now) c.args.pipe.now h) (came_watched g.R.TableRow.table_of g.R.RowRef.shown (world c.args.self.now) (values_in c.args.slots.now) c.args.pipe.now w (pulled_value c.args.pulled) c.in-Ok.item h i (sym ((ap (λ p. comes g.R.TableRow.table_of g.R.RowRef.shown (world c.args.self.now) (values_in c.args.slots.now) c.args.pipe.now (pulled_value p)) c.in-Row.is ∙ row_says g.R.TableRow.table_of g.R.RowRef.shown (world c.args.self.now) (values_in c.args.slots.now) c.args.pipe.now.stage c.args.pipe.now.source.now c.args.pipe.now.plan c.requires.planned c.in-Row.row true (subst (λ p. IsPulled g.R.TableRow.table_of g.R.RowRef.shown c.args.pipe.now.plan p) c.in-Row.is c.requires.pulled)) ∙ (subst (λ step. GivesStep (last (world c.args.self.now) (values_in c.args.slots.now) c.args.pipe.now.stage (value.Row c.in-Row.row)) step) c.in-Ok.is c.in_ok-item-in-Row.ensures.meant)))) (c.pass_row.ensures.grows w start (stage_covered g.R.TableRow.table_of g.R.RowRef.shown (world c.args.self.now) w (values_in c.args.slots.now) c.args.pipe.now h) (slots_pass g.R.TableRow.table_of g.R.RowRef.shown (world c.args.self.now) w (values_in c.args.slots.now) c.args.pipe.now h) (row_passes w (pulled_value c.args.pulled) c.in-Row.row (ap pulled_value c.in-Row.is) i) gr)

pub group_next-returns-in-Err-clause-grows : goal.group_next-returns-in-Err-clause-grows
group_next-returns-in-Err-clause-grows g t c =
    λ w start h hk he i gr.
    (c.pass_row.ensures.grows w start (stage_covered g.R.TableRow.table_of g.R.RowRef.shown (world c.args.self.now) w (values_in c.args.slots.now) c.args.pipe.now h) (slots_pass g.R.TableRow.table_of g.R.RowRef.shown (world c.args.self.now) w (values_in c.args.slots.now) c.args.pipe.now h) (row_passes w (pulled_value c.args.pulled) c.in-Row.row (ap pulled_value c.in-Row.is) i) gr)

pub group_next-returns-in-Dropped-clause-grows : goal.group_next-returns-in-Dropped-clause-grows
group_next-returns-in-Dropped-clause-grows g t c =
    λ w start h hk he i gr.
    (c.pass_item.ensures.grows w start (stage_covered g.R.TableRow.table_of g.R.RowRef.shown (world c.args.self.now) w (values_in c.args.slots.now) c.args.pipe.now h) (source_covered g.R.TableRow.table_of g.R.RowRef.shown (world c.args.self.now) w (values_in c.args.slots.now) c.args.pipe.now h) (slots_pass g.R.TableRow.table_of g.R.RowRef.shown (world c.args.self.now) w (values_in c.args.slots.now) c.args.pipe.now h) (ap (λ p. has_watched_rows w (pulled_value p)) (sym c.in-Item.is) ∙ i) gr)

pub group_next-returns-in-Fault-clause-grows : goal.group_next-returns-in-Fault-clause-grows
group_next-returns-in-Fault-clause-grows g t c =
    λ w start h hk he i gr.
    (c.pass_item.ensures.grows w start (stage_covered g.R.TableRow.table_of g.R.RowRef.shown (world c.args.self.now) w (values_in c.args.slots.now) c.args.pipe.now h) (source_covered g.R.TableRow.table_of g.R.RowRef.shown (world c.args.self.now) w (values_in c.args.slots.now) c.args.pipe.now h) (slots_pass g.R.TableRow.table_of g.R.RowRef.shown (world c.args.self.now) w (values_in c.args.slots.now) c.args.pipe.now h) (ap (λ p. has_watched_rows w (pulled_value p)) (sym c.in-Item.is) ∙ i) gr)

pub group_next-returns-in_err-item-in-Item-clause-grows : goal.group_next-returns-in_err-item-in-Item-clause-grows
group_next-returns-in_err-item-in-Item-clause-grows g t c =
    λ w start h hk he i gr.
    (c.pass_item.ensures.grows w start (stage_covered g.R.TableRow.table_of g.R.RowRef.shown (world c.args.self.now) w (values_in c.args.slots.now) c.args.pipe.now h) (source_covered g.R.TableRow.table_of g.R.RowRef.shown (world c.args.self.now) w (values_in c.args.slots.now) c.args.pipe.now h) (slots_pass g.R.TableRow.table_of g.R.RowRef.shown (world c.args.self.now) w (values_in c.args.slots.now) c.args.pipe.now h) (ap (λ p. has_watched_rows w (pulled_value p)) (sym c.in-Item.is) ∙ i) gr)

pub group_next-returns-in-Item-2-clause-grows : goal.group_next-returns-in-Item-2-clause-grows
group_next-returns-in-Item-2-clause-grows g t c =
    λ w start h hk he i gr.
    c.group_item-in-Item-2.ensures.grows w start hk he (slots_pass g.R.TableRow.table_of g.R.RowRef.shown (world c.args.self.now) w (values_in c.args.slots.now) c.args.pipe.now h) (came_watched g.R.TableRow.table_of g.R.RowRef.shown (world c.args.self.now) (values_in c.args.slots.now) c.args.pipe.now w (pulled_value c.args.pulled) c.in-Item-2.item h i (sym ((ap (λ p. comes g.R.TableRow.table_of g.R.RowRef.shown (world c.args.self.now) (values_in c.args.slots.now) c.args.pipe.now (pulled_value p)) c.in-Item.is) ∙ sym (subst (λ o. outcome_stream o ≡ comes g.R.TableRow.table_of g.R.RowRef.shown (world c.args.self.now) (values_in c.args.slots.now) c.args.pipe.now c.in-Item.item) c.in-Item-2.is c.in_ok-item-in-Item.ensures.meant)))) (c.pass_item.ensures.grows w start (stage_covered g.R.TableRow.table_of g.R.RowRef.shown (world c.args.self.now) w (values_in c.args.slots.now) c.args.pipe.now h) (source_covered g.R.TableRow.table_of g.R.RowRef.shown (world c.args.self.now) w (values_in c.args.slots.now) c.args.pipe.now h) (slots_pass g.R.TableRow.table_of g.R.RowRef.shown (world c.args.self.now) w (values_in c.args.slots.now) c.args.pipe.now h) (ap (λ p. has_watched_rows w (pulled_value p)) (sym c.in-Item.is) ∙ i) gr)

pub distinct-loop-pulled-init : goal.distinct-loop-pulled-init
distinct-loop-pulled-init g t c =
    record {
      meant = gathered_begins (first_keys same_values) _ _ _ c.in_ok-firsts.ensures (left_opened (world c.args.self.now) (values_in c.args.slots.now) _ _ c.in_ok-base.base c.in_ok-base.ensures.meant);
      log = opened (world c.args.self.now) (facts c.args.self.now.sources) g.R.TableRow.table_of g.R.RowRef.shown (values_in c.args.slots.now) c.args.pipe.now (Covers (world c.args.self.now) (values_in c.args.slots.now) c.args.pipe.now) _ _ c.in_ok-base.base (λ w start p gr. c.open.ensures.grows w start p.source_in p.slots_in gr) (λ w p. c.in_ok-base.ensures.from w p.source_in p.slots_in);
    }

pub distinct-loop-pulled-preserved : goal.distinct-loop-pulled-preserved
distinct-loop-pulled-preserved g t c =
    record {
      meant = gathered_on (first_keys same_values) (items_left (world c.args.self.now) (values_in c.args.slots.now) c.args.pipe.now c.loop-pulled.base) (comes g.R.TableRow.table_of g.R.RowRef.shown (world c.args.self.now) (values_in c.args.slots.now) c.args.pipe.now (pulled_value c.in-Ok.pulled)) (items_left (world c.args.self.now) (values_in c.args.slots.now) c.args.pipe.now c.pull.new.self) _ (firsts_in c.loop-pulled.firsts) (firsts_in c.add_next.new.firsts) (pulled g.R.TableRow.table_of g.R.RowRef.shown (world c.args.self.now) (values_in c.args.slots.now) c.args.pipe.now c.loop-pulled.base c.pull.new.self (pulled_value c.in-Ok.pulled) c.requires (subst (λ r. IfOk r (λ p. kept_stream g.R.TableRow.table_of g.R.RowRef.shown c.args.pipe.now.plan c.loop-pulled.base ≡ in_front (pulled_value p) (kept_stream g.R.TableRow.table_of g.R.RowRef.shown c.args.pipe.now.plan c.pull.new.self))) c.in-Ok.is c.pull.ensures.item))
          (subst (λ e. AddsFirsts (firsts_in c.loop-pulled.firsts) (firsts_in c.add_next.new.firsts) (comes g.R.TableRow.table_of g.R.RowRef.shown (world c.args.self.now) (values_in c.args.slots.now) c.args.pipe.now (pulled_value c.in-Ok.pulled)) e) c.in-Done.is c.in_ok-add_next-in-Ok.ensures.meant) c.loop-pulled.invariant.meant;
      log = (took (world c.args.self.now) (facts c.args.self.now.sources) g.R.TableRow.table_of g.R.RowRef.shown (values_in c.args.slots.now) c.args.pipe.now (Covers (world c.args.self.now) (values_in c.args.slots.now) c.args.pipe.now) (λ w p. p) _ _ _ c.loop-pulled.base c.pull.new.self (pulled_value c.in-Ok.pulled) c.loop-pulled.invariant.log (subst (λ r. IfOk r (λ p. kept_stream g.R.TableRow.table_of g.R.RowRef.shown c.args.pipe.now.plan c.loop-pulled.base ≡ in_front (pulled_value p) (kept_stream g.R.TableRow.table_of g.R.RowRef.shown c.args.pipe.now.plan c.pull.new.self))) c.in-Ok.is c.pull.ensures.item)
          (λ w start h i gr. c.add_next.ensures.grows w start h i gr));
    }

pub distinct-loop-pulled-smaller : goal.distinct-loop-pulled-smaller
distinct-loop-pulled-smaller g t c =
    fewer (kept_stream g.R.TableRow.table_of g.R.RowRef.shown c.args.pipe.now.plan c.loop-pulled.base) (kept_stream g.R.TableRow.table_of g.R.RowRef.shown c.args.pipe.now.plan c.pull.new.self) (pulled_value c.in-Ok.pulled) (subst (λ r. IfOk r (λ p. kept_stream g.R.TableRow.table_of g.R.RowRef.shown c.args.pipe.now.plan c.loop-pulled.base ≡ in_front (pulled_value p) (kept_stream g.R.TableRow.table_of g.R.RowRef.shown c.args.pipe.now.plan c.pull.new.self))) c.in-Ok.is c.pull.ensures.item)

pub distinct-returns-in-Fault-clause-meant : goal.distinct-returns-in-Fault-clause-meant
distinct-returns-in-Fault-clause-meant g t c =
    firsts_answered (firsts_in c.add_next.new.firsts) _ (end.Fault c.in-Fault.fault) _ c.into_items.ensures
    (gathered_stopped (first_keys same_values) (items_left (world c.args.self.now) (values_in c.args.slots.now) c.args.pipe.now c.loop-pulled.base) (comes g.R.TableRow.table_of g.R.RowRef.shown (world c.args.self.now) (values_in c.args.slots.now) c.args.pipe.now (pulled_value c.in-Ok.pulled)) (items_left (world c.args.self.now) (values_in c.args.slots.now) c.args.pipe.now c.pull.new.self) _ (firsts_in c.loop-pulled.firsts) (firsts_in c.add_next.new.firsts) c.in-Fault.fault (pulled g.R.TableRow.table_of g.R.RowRef.shown (world c.args.self.now) (values_in c.args.slots.now) c.args.pipe.now c.loop-pulled.base c.pull.new.self (pulled_value c.in-Ok.pulled) c.requires (subst (λ r. IfOk r (λ p. kept_stream g.R.TableRow.table_of g.R.RowRef.shown c.args.pipe.now.plan c.loop-pulled.base ≡ in_front (pulled_value p) (kept_stream g.R.TableRow.table_of g.R.RowRef.shown c.args.pipe.now.plan c.pull.new.self))) c.in-Ok.is c.pull.ensures.item)) (subst (λ e. AddsFirsts (firsts_in c.loop-pulled.firsts) (firsts_in c.add_next.new.firsts) (comes g.R.TableRow.table_of g.R.RowRef.shown (world c.args.self.now) (values_in c.args.slots.now) c.args.pipe.now (pulled_value c.in-Ok.pulled)) e) c.in-Fault.is c.in_ok-add_next-in-Ok.ensures.meant) c.loop-pulled.invariant.meant)

pub pass_stage-returns-in_ok-value_of_item-in-Select-clause-meant : goal.pass_stage-returns-in_ok-value_of_item-in-Select-clause-meant
pass_stage-returns-in_ok-value_of_item-in-Select-clause-meant g t c =
    c.outcome_of.ensures ∙ given_stage (world c.args.self.now) (values_in c.args.slots.now) c.args.item _ _ _ c.in-Select.is c.in_ok-value_of_item-in-Select.ensures.meant

pub pass_stage-returns-in_ok-value_of_item-in-Select-clause-grows : goal.pass_stage-returns-in_ok-value_of_item-in-Select-clause-grows
pass_stage-returns-in_ok-value_of_item-in-Select-clause-grows g t c =
    λ w start h s i gr.
    c.value_of_item.ensures.grows w start (subst (λ st. is_covered_stage (world c.args.self.now) w st ≡ true) c.in-Select.is h) s i gr

pub pass_stage-returns-in_err-value_of_item-in-Select-clause-grows : goal.pass_stage-returns-in_err-value_of_item-in-Select-clause-grows
pass_stage-returns-in_err-value_of_item-in-Select-clause-grows g t c =
    λ w start h s i gr.
    c.value_of_item.ensures.grows w start (subst (λ st. is_covered_stage (world c.args.self.now) w st ≡ true) c.in-Select.is h) s i gr

pub pass_row-returns-in_ok-value_of_item-in-None-clause-meant : goal.pass_row-returns-in_ok-value_of_item-in-None-clause-meant
pass_row-returns-in_ok-value_of_item-in-None-clause-meant g t c =
    subst (λ (s : Stream (Value _)). GivesStep s c.step_of.result) (given_last (world c.args.self.now) (values_in c.args.slots.now) (value.Row c.args.row) _ _ _ c.in-Select.is c.in_ok-value_of_item-in-None.ensures.meant) c.step_of.ensures

pub pass_row-returns-in_ok-value_of_item-in-None-clause-grows : goal.pass_row-returns-in_ok-value_of_item-in-None-clause-grows
pass_row-returns-in_ok-value_of_item-in-None-clause-grows g t c =
    λ w start h s i gr.
    c.value_of_item.ensures.grows w start (subst (λ st. is_covered_stage (world c.args.self.now) w st ≡ true) c.in-Select.is h) s (passing_row w (value.Row c.args.row) c.args.row refl i) gr

pub pass_row-returns-in_err-value_of_item-in-None-clause-grows : goal.pass_row-returns-in_err-value_of_item-in-None-clause-grows
pass_row-returns-in_err-value_of_item-in-None-clause-grows g t c =
    λ w start h s i gr.
    c.value_of_item.ensures.grows w start (subst (λ st. is_covered_stage (world c.args.self.now) w st ≡ true) c.in-Select.is h) s (passing_row w (value.Row c.args.row) c.args.row refl i) gr

pub tally_by-returns-in_ok-value_of_item-in-None-clause-meant : goal.tally_by-returns-in_ok-value_of_item-in-None-clause-meant
tally_by-returns-in_ok-value_of_item-in-None-clause-meant g t c =
    λ ty rest.
    ap (λ (s : Stream (Value _)). tallied ty c.args.tally (then_stream s rest)) (sym (given_select (world c.args.self.now) (values_in c.args.slots.now) c.args.item.now _ c.args.lambda.now.body.now c.in_ok-value_of_item-in-None.ensures.meant))
    ∙ c.with_given.ensures ty rest

pub tally_item-returns-in_ok-given-in-Select-clause-meant : goal.tally_item-returns-in_ok-given-in-Select-clause-meant
tally_item-returns-in_ok-given-in-Select-clause-meant g t c =
    λ ty rest.
    ap (λ (s : Stream (Value _)). tallied ty c.args.tally (then_stream s rest)) (sym (given_stage (world c.args.self.now) (values_in c.args.slots.now) c.args.item.now _ _ _ c.in-Select.is c.in_ok-given-in-Select.ensures.meant))
    ∙ c.with_given.ensures ty rest

pub tally_item-returns-in_ok-given-in-Select-clause-grows : goal.tally_item-returns-in_ok-given-in-Select-clause-grows
tally_item-returns-in_ok-given-in-Select-clause-grows g t c =
    λ w start h s i gr.
    c.value_of_item.ensures.grows w start (subst (λ st. is_covered_stage (world c.args.self.now) w st ≡ true) c.in-Select.is h) s i gr

pub tally_item-returns-in_err-given-in-Select-clause-grows : goal.tally_item-returns-in_err-given-in-Select-clause-grows
tally_item-returns-in_err-given-in-Select-clause-grows g t c =
    λ w start h s i gr.
    c.value_of_item.ensures.grows w start (subst (λ st. is_covered_stage (world c.args.self.now) w st ≡ true) c.in-Select.is h) s i gr

pub tally_row-returns-in_ok-value_of_item-in-None-clause-meant : goal.tally_row-returns-in_ok-value_of_item-in-None-clause-meant
tally_row-returns-in_ok-value_of_item-in-None-clause-meant g t c =
    λ ty rest.
    ap (λ (s : Stream (Value _)). tallied ty c.args.tally (then_stream s rest)) (sym (given_last (world c.args.self.now) (values_in c.args.slots.now) (value.Row c.args.row.now) _ _ _ c.in-Select.is
    (c.in_ok-value_of_item-in-None.ensures.meant ∙ ap (λ r. form_meaning (world c.args.self.now) c.in-Select.body.now (with_item (world c.args.self.now) (values_in c.args.slots.now) (value.Row r))) c.again.ensures)))
    ∙ c.with_given.ensures ty rest

pub tally_row-returns-in_ok-value_of_item-in-None-clause-grows : goal.tally_row-returns-in_ok-value_of_item-in-None-clause-grows
tally_row-returns-in_ok-value_of_item-in-None-clause-grows g t c =
    λ w start h s i gr.
    c.value_of_item.ensures.grows w start (subst (λ st. is_covered_stage (world c.args.self.now) w st ≡ true) c.in-Select.is h) s
    (passing_row w (value.Row c.again.result) c.again.result refl (ap w.row c.again.ensures ∙ i)) gr

pub tally_row-returns-in_err-value_of_item-in-None-clause-grows : goal.tally_row-returns-in_err-value_of_item-in-None-clause-grows
tally_row-returns-in_err-value_of_item-in-None-clause-grows g t c =
    λ w start h s i gr.
    c.value_of_item.ensures.grows w start (subst (λ st. is_covered_stage (world c.args.self.now) w st ≡ true) c.in-Select.is h) s
    (passing_row w (value.Row c.again.result) c.again.result refl (ap w.row c.again.ensures ∙ i)) gr

pub tally_next-returns-in_ok-outcome-in-Item-clause-meant : goal.tally_next-returns-in_ok-outcome-in-Item-clause-meant
tally_next-returns-in_ok-outcome-in-Item-clause-meant g t c =
    λ ty rest.
    ap (λ (s : Stream (Value _)). tallied ty c.args.tally (then_stream s rest)) ((ap (λ p. comes g.R.TableRow.table_of g.R.RowRef.shown (world c.args.self.now) (values_in c.args.slots.now) c.args.pipe.now (pulled_value p)) c.in-Item.is) ∙ sym c.in_ok-outcome-in-Item.ensures.meant)
    ∙ c.with_outcome.ensures ty rest

pub tally_next-returns-in_ok-outcome-in-Item-clause-grows : goal.tally_next-returns-in_ok-outcome-in-Item-clause-grows
tally_next-returns-in_ok-outcome-in-Item-clause-grows g t c =
    λ w start h i gr.
    c.pass_through.ensures.grows w start (stage_covered g.R.TableRow.table_of g.R.RowRef.shown (world c.args.self.now) w (values_in c.args.slots.now) c.args.pipe.now h) (source_covered g.R.TableRow.table_of g.R.RowRef.shown (world c.args.self.now) w (values_in c.args.slots.now) c.args.pipe.now h) (slots_pass g.R.TableRow.table_of g.R.RowRef.shown (world c.args.self.now) w (values_in c.args.slots.now) c.args.pipe.now h)
    (ap (λ p. has_watched_rows w (pulled_value p)) (sym c.in-Item.is) ∙ i) gr

pub tally_next-returns-in_err-outcome-in-Item-clause-grows : goal.tally_next-returns-in_err-outcome-in-Item-clause-grows
tally_next-returns-in_err-outcome-in-Item-clause-grows g t c =
    λ w start h i gr.
    c.pass_through.ensures.grows w start (stage_covered g.R.TableRow.table_of g.R.RowRef.shown (world c.args.self.now) w (values_in c.args.slots.now) c.args.pipe.now h) (source_covered g.R.TableRow.table_of g.R.RowRef.shown (world c.args.self.now) w (values_in c.args.slots.now) c.args.pipe.now h) (slots_pass g.R.TableRow.table_of g.R.RowRef.shown (world c.args.self.now) w (values_in c.args.slots.now) c.args.pipe.now h)
    (ap (λ p. has_watched_rows w (pulled_value p)) (sym c.in-Item.is) ∙ i) gr

pub add_next-returns-in-Some-clause-meant : goal.add_next-returns-in-Some-clause-meant
add_next-returns-in-Some-clause-meant g t c =
    gathers_as (first_keys same_values) _ _ _ _ c.add_cell.result ((ap (λ p. comes g.R.TableRow.table_of g.R.RowRef.shown (world c.args.self.now) (values_in c.args.slots.now) c.args.pipe.now (pulled_value p)) c.in-Row.is ∙ row_says g.R.TableRow.table_of g.R.RowRef.shown (world c.args.self.now) (values_in c.args.slots.now) c.args.pipe.now.stage c.args.pipe.now.source.now c.args.pipe.now.plan c.requires.planned c.in-Row.row true (subst (λ p. IsPulled g.R.TableRow.table_of g.R.RowRef.shown c.args.pipe.now.plan p) c.in-Row.is c.requires.pulled)) ∙ cell_comes g.R.TableRow.table_of g.R.RowRef.shown (world c.args.self.now) (values_in c.args.slots.now) c.args.pipe.now c.in-Row.row c.in-Some.cell c.requires.planned (subst (λ p. IsPulled g.R.TableRow.table_of g.R.RowRef.shown c.args.pipe.now.plan p) c.in-Row.is c.requires.pulled) c.in-Some.ensures) c.add_cell.ensures

pub add_next-returns-in_ok-step-in-None-clause-meant : goal.add_next-returns-in_ok-step-in-None-clause-meant
add_next-returns-in_ok-step-in-None-clause-meant g t c =
    c.add_step.ensures _ (subst (λ (s : Stream (Value _)). GivesStep s c.in_ok-step-in-None.step) (sym (ap (λ p. comes g.R.TableRow.table_of g.R.RowRef.shown (world c.args.self.now) (values_in c.args.slots.now) c.args.pipe.now (pulled_value p)) c.in-Row.is ∙ row_says g.R.TableRow.table_of g.R.RowRef.shown (world c.args.self.now) (values_in c.args.slots.now) c.args.pipe.now.stage c.args.pipe.now.source.now c.args.pipe.now.plan c.requires.planned c.in-Row.row true (subst (λ p. IsPulled g.R.TableRow.table_of g.R.RowRef.shown c.args.pipe.now.plan p) c.in-Row.is c.requires.pulled))) c.in_ok-step-in-None.ensures.meant)

pub add_next-returns-in_ok-outcome-in-Item-clause-meant : goal.add_next-returns-in_ok-outcome-in-Item-clause-meant
add_next-returns-in_ok-outcome-in-Item-clause-meant g t c =
    gathers_as (first_keys same_values) _ _ _ _ c.add_outcome.result ((ap (λ p. comes g.R.TableRow.table_of g.R.RowRef.shown (world c.args.self.now) (values_in c.args.slots.now) c.args.pipe.now (pulled_value p)) c.in-Item.is) ∙ sym c.in_ok-outcome-in-Item.ensures.meant) c.add_outcome.ensures

pub add_next-returns-in_ok-step-in-None-clause-grows : goal.add_next-returns-in_ok-step-in-None-clause-grows
add_next-returns-in_ok-step-in-None-clause-grows g t c =
    λ w start h i gr.
    c.pass_row.ensures.grows w start (stage_covered g.R.TableRow.table_of g.R.RowRef.shown (world c.args.self.now) w (values_in c.args.slots.now) c.args.pipe.now h) (slots_pass g.R.TableRow.table_of g.R.RowRef.shown (world c.args.self.now) w (values_in c.args.slots.now) c.args.pipe.now h) (row_passes w (pulled_value c.args.pulled) c.in-Row.row (ap pulled_value c.in-Row.is) i) gr

pub add_next-returns-in_ok-outcome-in-Item-clause-grows : goal.add_next-returns-in_ok-outcome-in-Item-clause-grows
add_next-returns-in_ok-outcome-in-Item-clause-grows g t c =
    λ w start h i gr.
    c.pass_item.ensures.grows w start (stage_covered g.R.TableRow.table_of g.R.RowRef.shown (world c.args.self.now) w (values_in c.args.slots.now) c.args.pipe.now h) (source_covered g.R.TableRow.table_of g.R.RowRef.shown (world c.args.self.now) w (values_in c.args.slots.now) c.args.pipe.now h) (slots_pass g.R.TableRow.table_of g.R.RowRef.shown (world c.args.self.now) w (values_in c.args.slots.now) c.args.pipe.now h) (ap (λ p. has_watched_rows w (pulled_value p)) (sym c.in-Item.is) ∙ i) gr

pub add_next-returns-in_err-step-in-None-clause-grows : goal.add_next-returns-in_err-step-in-None-clause-grows
add_next-returns-in_err-step-in-None-clause-grows g t c =
    λ w start h i gr.
    c.pass_row.ensures.grows w start (stage_covered g.R.TableRow.table_of g.R.RowRef.shown (world c.args.self.now) w (values_in c.args.slots.now) c.args.pipe.now h) (slots_pass g.R.TableRow.table_of g.R.RowRef.shown (world c.args.self.now) w (values_in c.args.slots.now) c.args.pipe.now h) (row_passes w (pulled_value c.args.pulled) c.in-Row.row (ap pulled_value c.in-Row.is) i) gr

pub add_next-returns-in_err-outcome-in-Item-clause-grows : goal.add_next-returns-in_err-outcome-in-Item-clause-grows
add_next-returns-in_err-outcome-in-Item-clause-grows g t c =
    λ w start h i gr.
    c.pass_item.ensures.grows w start (stage_covered g.R.TableRow.table_of g.R.RowRef.shown (world c.args.self.now) w (values_in c.args.slots.now) c.args.pipe.now h) (source_covered g.R.TableRow.table_of g.R.RowRef.shown (world c.args.self.now) w (values_in c.args.slots.now) c.args.pipe.now h) (slots_pass g.R.TableRow.table_of g.R.RowRef.shown (world c.args.self.now) w (values_in c.args.slots.now) c.args.pipe.now h) (ap (λ p. has_watched_rows w (pulled_value p)) (sym c.in-Item.is) ∙ i) gr

pub given-returns-in-Ok-clause-meant : goal.given-returns-in-Ok-clause-meant
given-returns-in-Ok-clause-meant g t c =
    given_answer (world c.args.self.now) c.args.method c.args.source.now c.args.argument.now (values_in c.args.slots.now) _ _ c.has_item.result (c.in_ok-argument.ensures _ c.evaluate.ensures.meant) c.in_ok-pipe.ensures.items
    (subst (λ m. IsAnswer (given_meaning (world c.args.self.now) m c.in_ok-argument.argument (all_items (world c.args.self.now) (values_in c.args.slots.now) c.in_ok-pipe.pipe)) c.has_item.result) (sym c.in-Contains.is)
    (subst (λ a. IsAnswer (given_meaning (world c.args.self.now) of_given.Contains a (all_items (world c.args.self.now) (values_in c.args.slots.now) c.in_ok-pipe.pipe)) c.has_item.result) (sym c.in-Ok.is) c.has_item.ensures.meant))

pub given-returns-clause-meant : goal.given-returns-clause-meant
given-returns-clause-meant g t c =
    given_answer (world c.args.self.now) c.args.method c.args.source.now c.args.argument.now (values_in c.args.slots.now) _ _ c.given.result (c.in_ok-argument.ensures _ c.evaluate.ensures.meant) c.in_ok-pipe.ensures.items
    (subst (λ m. IsAnswer m c.given.result) (given_read (world c.args.self.now) c.args.method c.in_ok-argument.argument _ _ _ c.given_limit.ensures c.in_ok-items-in_default.ensures.meant) (c.given.ensures (world c.args.self.now) refl))

pub given-returns-in-Ok-clause-grows : goal.given-returns-in-Ok-clause-grows
given-returns-in-Ok-clause-grows g t c =
    λ w start h k s gr.
    c.has_item.ensures.grows w start (covered_as (world c.args.self.now) w _ _ c.in_ok-pipe.ensures.source h) (stage_as (world c.args.self.now) w _ _ c.in_ok-pipe.ensures.stage refl) s (c.evaluate.ensures.grows w start k s gr)

pub given-returns-clause-grows : goal.given-returns-clause-grows
given-returns-clause-grows g t c =
    λ w start h k s gr.
    c.read.ensures.grows w start (covered_as (world c.args.self.now) w _ _ c.in_ok-pipe.ensures.source h) (stage_as (world c.args.self.now) w _ _ c.in_ok-pipe.ensures.stage refl) s (c.evaluate.ensures.grows w start k s gr)

pub given-returns-in_err-items-in_default-clause-grows : goal.given-returns-in_err-items-in_default-clause-grows
given-returns-in_err-items-in_default-clause-grows g t c =
    λ w start h k s gr.
    c.read.ensures.grows w start (covered_as (world c.args.self.now) w _ _ c.in_ok-pipe.ensures.source h) (stage_as (world c.args.self.now) w _ _ c.in_ok-pipe.ensures.stage refl) s (c.evaluate.ensures.grows w start k s gr)

-- ---- the first items of an order

pub given-returns-in-Contains-clause-meant : goal.given-returns-in-Contains-clause-meant
given-returns-in-Contains-clause-meant g t c =
    given_answer (world c.args.self.now) c.args.method c.args.source.now c.args.argument.now (values_in c.args.slots.now) _ _ (Err (error.Fault c.in-Err.fault)) (c.in_ok-argument.ensures _ c.evaluate.ensures.meant) c.in_ok-pipe.ensures.items
    (subst (λ m. IsAnswer (given_meaning (world c.args.self.now) m c.in_ok-argument.argument (all_items (world c.args.self.now) (values_in c.args.slots.now) c.in_ok-pipe.pipe)) (Err (error.Fault c.in-Err.fault))) (sym c.in-Contains.is)
    (subst (λ a. IsAnswer (given_meaning (world c.args.self.now) of_given.Contains a (all_items (world c.args.self.now) (values_in c.args.slots.now) c.in_ok-pipe.pipe)) (Err (error.Fault c.in-Err.fault))) (sym c.in-Err.is) refl))

pub join_matches-loop-place-preserved : goal.join_matches-loop-place-preserved
join_matches-loop-place-preserved g t c =
    record {
      meant = given_on c.args.matches.now (sought c.args.key.now) (value_of_item (world c.args.self.now) c.args.lambda.now.body.now c.args.slots.now) _ _ _ c.loop-place.values _ _ _ c.loop-place-test.true
          refl c.in_ok-ending.ensures.meant
          c.in-Done.is c.loop-place.invariant.meant;
      grows = λ w start h m s gr.
          c.join_place.ensures.grows w start h
          (watched_at c.args.matches.now (sought c.args.key.now) (world c.args.self.now) w _ _ c.in_ok-places.ensures m c.loop-place-test.true) s
          (c.loop-place.invariant.grows w start h m s gr);
    }

pub join_matches-returns-in-Fault-clause-meant : goal.join_matches-returns-in-Fault-clause-meant
join_matches-returns-in-Fault-clause-meant g t c =
    given_stopped c.args.matches.now (sought c.args.key.now) (value_of_item (world c.args.self.now) c.args.lambda.now.body.now c.args.slots.now) _ _ _ c.loop-place.values _ _ _ _ c.loop-place-test.true
    refl c.in_ok-ending.ensures.meant
    c.in-Fault.is c.loop-place.invariant.meant

pub join_matches-returns-in-Fault-clause-grows : goal.join_matches-returns-in-Fault-clause-grows
join_matches-returns-in-Fault-clause-grows g t c =
    λ w start h m s gr.
    c.join_place.ensures.grows w start h
    (watched_at c.args.matches.now (sought c.args.key.now) (world c.args.self.now) w _ _ c.in_ok-places.ensures m c.loop-place-test.true) s
    (c.loop-place.invariant.grows w start h m s gr)

pub join_matches-returns-in_err-ending-clause-grows : goal.join_matches-returns-in_err-ending-clause-grows
join_matches-returns-in_err-ending-clause-grows g t c =
    λ w start h m s gr.
    c.join_place.ensures.grows w start h
    (watched_at c.args.matches.now (sought c.args.key.now) (world c.args.self.now) w _ _ c.in_ok-places.ensures m c.loop-place-test.true) s
    (c.loop-place.invariant.grows w start h m s gr)

pub join_place-returns-in_ok-met-in-Some-clause-meant : goal.join_place-returns-in_ok-met-in-Some-clause-meant
join_place-returns-in_ok-met-in-Some-clause-meant g t c =
    met_there c.args.matches.now (sought c.args.key.now) (value_of_item (world c.args.self.now) c.args.lambda.now.body.now c.args.slots.now) c.args.values.now c.args.place _ c.in-Some.inner _ c.push_met.new.values _ c.push_met.result
    c.item.ensures c.in-Some.is c.in_ok-met-in-Some.ensures.meant c.push_met.ensures

pub join_place-returns-in-None-clause-meant : goal.join_place-returns-in-None-clause-meant
join_place-returns-in-None-clause-meant g t c =
    none_there c.args.matches.now (sought c.args.key.now) (value_of_item (world c.args.self.now) c.args.lambda.now.body.now c.args.slots.now) c.args.values.now c.args.place _
    c.item.ensures c.in-None.is

pub join_place-returns-in_ok-met-in-Some-clause-grows : goal.join_place-returns-in_ok-met-in-Some-clause-grows
join_place-returns-in_ok-met-in-Some-clause-grows g t c =
    λ w start h i s gr.
    c.value_by.ensures.grows w start h s (watched_there c.args.matches.now (sought c.args.key.now) w c.args.place _ c.in-Some.inner c.item.ensures c.in-Some.is i) gr

pub join_place-returns-in_err-met-in-Some-clause-grows : goal.join_place-returns-in_err-met-in-Some-clause-grows
join_place-returns-in_err-met-in-Some-clause-grows g t c =
    λ w start h i s gr.
    c.value_by.ensures.grows w start h s (watched_there c.args.matches.now (sought c.args.key.now) w c.args.place _ c.in-Some.inner c.item.ensures c.in-Some.is i) gr

pub leading_items-loop-row-init : goal.leading_items-loop-row-init
leading_items-loop-row-init g t c =
    record {
      meant = leads_begin (world c.args.self.now) (values_in c.args.slots.now) (bodies_of c.args.lambdas.now) c.args.directions c.args.wanted _ _ _ c.new-leading.ensures (left_opened (world c.args.self.now) (values_in c.args.slots.now) _ _ c.in_ok-base.base c.in_ok-base.ensures.meant);
      counted = c.requires.counted ∙ ap length (sym c.new-leading.ensures.1);
      log = opened (world c.args.self.now) (facts c.args.self.now.sources) g.R.TableRow.table_of g.R.RowRef.shown (values_in c.args.slots.now) c.args.pipe.now (Covers (world c.args.self.now) (values_in c.args.slots.now) c.args.pipe.now) _ _ c.in_ok-base.base (λ w start p gr. c.open.ensures.grows w start p.source_in p.slots_in gr) (λ w p. c.in_ok-base.ensures.from w p.source_in p.slots_in);
    }

pub open-returns-in-Some-clause-grows : goal.open-returns-in-Some-clause-grows
open-returns-in-Some-clause-grows g t c =
    λ w start h s gr.
    c.open.ensures.grows w start (source_of (world c.args.self.now) w c.in-Some.stage c.args.form.now c.in-Some.source.now c.in-Some.ensures.stage h) s gr

pub open-returns-in-Some-clause-from : goal.open-returns-in-Some-clause-from
open-returns-in-Some-clause-from g t c =
    so_if_ok c.open.result _ _
    (λ base from w h s. from w (source_of (world c.args.self.now) w c.in-Some.stage c.args.form.now c.in-Some.source.now c.in-Some.ensures.stage h) s)
    c.open.ensures.from

pub open-returns-in-Some-2-clause-from : goal.open-returns-in-Some-2-clause-from
open-returns-in-Some-2-clause-from g t c =
    λ w h s.
    first_pass (world c.args.self.now) (values_in c.args.slots.now) w c.args.form.now c.args.limit c.base_of_items.result c.in-Some-2.found c.base_of_items.ensures
    (subst (λ o. IfSome o (λ items. items ≡ read_first c.args.limit (items_meant (world c.args.self.now) c.args.form.now c.args.slots.now))) c.in-Some-2.is c.in_ok-found-in-None.ensures.meant) h s

pub first_sorted-returns-in_err-leading-clause-grows : goal.first_sorted-returns-in_err-leading-clause-grows
first_sorted-returns-in_err-leading-clause-grows g t c =
    λ w start h s gr.
    c.leading_items.ensures.grows w start (covered_order_source (world c.args.self.now) w c.args.form.now c.in-Some.source.now c.in-Some.keys.now c.in_ok-pipe.pipe.source.now c.in-Some.ensures.form c.in_ok-pipe.ensures.source h)
    (stage_as (world c.args.self.now) w _ _ c.in_ok-pipe.ensures.stage refl) s gr

pub first_sorted-returns-in-Done-clause-grows : goal.first_sorted-returns-in-Done-clause-grows
first_sorted-returns-in-Done-clause-grows g t c =
    λ w start h s gr.
    c.leading_items.ensures.grows w start (covered_order_source (world c.args.self.now) w c.args.form.now c.in-Some.source.now c.in-Some.keys.now c.in_ok-pipe.pipe.source.now c.in-Some.ensures.form c.in_ok-pipe.ensures.source h)
    (stage_as (world c.args.self.now) w _ _ c.in_ok-pipe.ensures.stage refl) s gr

pub first_sorted-returns-in-Some-2-clause-grows : goal.first_sorted-returns-in-Some-2-clause-grows
first_sorted-returns-in-Some-2-clause-grows g t c =
    λ w start h s gr.
    c.leading_items.ensures.grows w start (covered_order_source (world c.args.self.now) w c.args.form.now c.in-Some.source.now c.in-Some.keys.now c.in_ok-pipe.pipe.source.now c.in-Some.ensures.form c.in_ok-pipe.ensures.source h)
    (stage_as (world c.args.self.now) w _ _ c.in_ok-pipe.ensures.stage refl) s gr

pub first_sorted-returns-clause-grows : goal.first_sorted-returns-clause-grows
first_sorted-returns-clause-grows g t c =
    λ w start h s gr.
    c.leading_items.ensures.grows w start (covered_order_source (world c.args.self.now) w c.args.form.now c.in-Some.source.now c.in-Some.keys.now c.in_ok-pipe.pipe.source.now c.in-Some.ensures.form c.in_ok-pipe.ensures.source h)
    (stage_as (world c.args.self.now) w _ _ c.in_ok-pipe.ensures.stage refl) s gr

pub first_sorted-returns-in-Done-clause-meant : goal.first_sorted-returns-in-Done-clause-meant
first_sorted-returns-in-Done-clause-meant g t c =
    sorted_first (world c.args.self.now) (values_in c.args.slots.now) c.args.form.now c.in-Some.source.now c.in-Some.keys.now c.args.limit c.in-Some.wanted c.in-Some.ensures.form c.in-Some.ensures.limit
    (bodies_of c.as_slice-4.result.now) c.in_ok-directions.directions c.in-Some-2.leading c.in-Some-2.end (all_items (world c.args.self.now) (values_in c.args.slots.now) c.in_ok-pipe.pipe) c.into_items.result
    (ap bodies_of c.as_slice-4.ensures.value ∙ c.in_ok-lambdas.ensures.bodies ∙ ap forms_of c.as_slice.ensures)
    (c.in_ok-directions.ensures ∙ ap (map (λ k. k.descending)) c.as_slice-3.ensures) c.in_ok-pipe.ensures.items c.in-Done.is
    (subst (λ o. IfSome o (λ first. Leads (world c.args.self.now) (values_in c.args.slots.now) (bodies_of c.as_slice-4.result.now) c.in_ok-directions.directions c.in-Some.wanted first.0 ([], first.1) (all_items (world c.args.self.now) (values_in c.args.slots.now) c.in_ok-pipe.pipe))) c.in-Some-2.is c.in_ok-leading.ensures.meant) (λ d m rows has. c.into_items.ensures d m rows has)

pub first_sorted-returns-in-Some-2-clause-meant : goal.first_sorted-returns-in-Some-2-clause-meant
first_sorted-returns-in-Some-2-clause-meant g t c =
    sorted_stops (world c.args.self.now) (values_in c.args.slots.now) c.args.form.now c.in-Some.source.now c.in-Some.keys.now c.args.limit c.in-Some.wanted c.in-Some.ensures.form c.in-Some.ensures.limit c.in-Some.ensures.some
    (bodies_of c.as_slice-4.result.now) c.in_ok-directions.directions c.in-Some-2.leading c.in-Some-2.end c.in-Fault.fault (all_items (world c.args.self.now) (values_in c.args.slots.now) c.in_ok-pipe.pipe) c.new.result c.in_ok-pipe.ensures.items c.in-Fault.is c.new.ensures
    (subst (λ o. IfSome o (λ first. Leads (world c.args.self.now) (values_in c.args.slots.now) (bodies_of c.as_slice-4.result.now) c.in_ok-directions.directions c.in-Some.wanted first.0 ([], first.1) (all_items (world c.args.self.now) (values_in c.args.slots.now) c.in_ok-pipe.pipe))) c.in-Some-2.is c.in_ok-leading.ensures.meant)

pub leading_items-loop-row-preserved-else-not-branch : goal.leading_items-loop-row-preserved-else-not-branch
leading_items-loop-row-preserved-else-not-branch g t c =
    record {
      meant =
          leads_pulled (world c.args.self.now) (values_in c.args.slots.now) (bodies_of c.args.lambdas.now) c.args.directions c.args.wanted c.loop-row.leading _ (value.Row c.in-Ok-Row.row ∷ [], end.Done) (items_left (world c.args.self.now) (values_in c.args.slots.now) c.args.pipe.now c.loop-row.base) (items_left (world c.args.self.now) (values_in c.args.slots.now) c.args.pipe.now c.pull.new.self) _ (Some end.Done)
          ((pulled g.R.TableRow.table_of g.R.RowRef.shown (world c.args.self.now) (values_in c.args.slots.now) c.args.pipe.now c.loop-row.base c.pull.new.self (value.Row c.in-Ok-Row.row) c.requires.planned (subst (λ r. IfOk r (λ p. (kept_stream g.R.TableRow.table_of g.R.RowRef.shown c.args.pipe.now.plan c.loop-row.base) ≡ in_front (pulled_value p) (kept_stream g.R.TableRow.table_of g.R.RowRef.shown c.args.pipe.now.plan c.pull.new.self))) (c.in-Ok-Row.is ∙ ap (λ p. Ok p) c.in-Ok-Row.field-0-is) c.pull.ensures.item)) ∙ ap (λ (s : Stream (Value _)). then_stream s (items_left (world c.args.self.now) (values_in c.args.slots.now) c.args.pipe.now c.pull.new.self)) (row_comes g.R.TableRow.table_of g.R.RowRef.shown (world c.args.self.now) (values_in c.args.slots.now) c.args.pipe.now c.in-Ok-Row.row c.requires.planned c.requires.plain (subst (λ r. IfOk r (IsPulled g.R.TableRow.table_of g.R.RowRef.shown c.args.pipe.now.plan)) (c.in-Ok-Row.is ∙ ap (λ p. Ok p) c.in-Ok-Row.field-0-is) c.pull.ensures.planned)))
          (leads_with (world c.args.self.now) (values_in c.args.slots.now) (bodies_of c.args.lambdas.now) c.loop-row.leading _ (value.Row c.in-Ok-Row.row) (c.in_ok-add_by_cells-in-Ok-Row.ensures.added c.if-not-branch.false (world c.args.self.now) (values_in c.args.slots.now) c.requires.cells)) refl c.loop-row.invariant.meant;
      counted = c.loop-row.invariant.counted ∙ ap length (sym c.in_ok-add_by_cells-in-Ok-Row.ensures.directions);
      log = took (world c.args.self.now) (facts c.args.self.now.sources) g.R.TableRow.table_of g.R.RowRef.shown (values_in c.args.slots.now) c.args.pipe.now (Covers (world c.args.self.now) (values_in c.args.slots.now) c.args.pipe.now) (λ w p. p) _ _ _ c.loop-row.base c.pull.new.self (value.Row c.in-Ok-Row.row) c.loop-row.invariant.log (subst (λ r. IfOk r (λ p. (kept_stream g.R.TableRow.table_of g.R.RowRef.shown c.args.pipe.now.plan c.loop-row.base) ≡ in_front (pulled_value p) (kept_stream g.R.TableRow.table_of g.R.RowRef.shown c.args.pipe.now.plan c.pull.new.self))) (c.in-Ok-Row.is ∙ ap (λ p. Ok p) c.in-Ok-Row.field-0-is) c.pull.ensures.item) (λ w start h i gr. gr);
    }

pub leading_items-loop-row-preserved : goal.leading_items-loop-row-preserved
leading_items-loop-row-preserved g t c =
    record {
      meant =
          leads_pulled (world c.args.self.now) (values_in c.args.slots.now) (bodies_of c.args.lambdas.now) c.args.directions c.args.wanted c.loop-row.leading _ (comes g.R.TableRow.table_of g.R.RowRef.shown (world c.args.self.now) (values_in c.args.slots.now) c.args.pipe.now c.in-Ok-Item.item) (items_left (world c.args.self.now) (values_in c.args.slots.now) c.args.pipe.now c.loop-row.base) (items_left (world c.args.self.now) (values_in c.args.slots.now) c.args.pipe.now c.pull.new.self) _ c.in_ok-add_leading-in-Ok-Item.field-0
          (pulled g.R.TableRow.table_of g.R.RowRef.shown (world c.args.self.now) (values_in c.args.slots.now) c.args.pipe.now c.loop-row.base c.pull.new.self c.in-Ok-Item.item c.requires.planned (subst (λ r. IfOk r (λ p. (kept_stream g.R.TableRow.table_of g.R.RowRef.shown c.args.pipe.now.plan c.loop-row.base) ≡ in_front (pulled_value p) (kept_stream g.R.TableRow.table_of g.R.RowRef.shown c.args.pipe.now.plan c.pull.new.self))) (c.in-Ok-Item.is ∙ ap (λ p. Ok p) c.in-Ok-Item.field-0-is) c.pull.ensures.item))
          (subst (λ (s : Stream (Value _)). LeadsOn (world c.args.self.now) (values_in c.args.slots.now) (bodies_of c.args.lambdas.now) c.loop-row.leading s c.in_ok-add_leading-in-Ok-Item.field-0 c.add_leading.new.leading) c.in_ok-outcome-in-Ok-Item.ensures.meant (c.in_ok-add_leading-in-Ok-Item.ensures.leads (world c.args.self.now) (values_in c.args.slots.now) c.requires.cells)) (c.in-Some-Done.is ∙ ap (λ e. Some e) c.in-Some-Done.field-0-is) c.loop-row.invariant.meant;
      counted = c.loop-row.invariant.counted ∙ ap length (sym c.in_ok-add_leading-in-Ok-Item.ensures.directions);
      log = took (world c.args.self.now) (facts c.args.self.now.sources) g.R.TableRow.table_of g.R.RowRef.shown (values_in c.args.slots.now) c.args.pipe.now (Covers (world c.args.self.now) (values_in c.args.slots.now) c.args.pipe.now) (λ w p. p) _ _ _ c.loop-row.base c.pull.new.self c.in-Ok-Item.item c.loop-row.invariant.log (subst (λ r. IfOk r (λ p. (kept_stream g.R.TableRow.table_of g.R.RowRef.shown c.args.pipe.now.plan c.loop-row.base) ≡ in_front (pulled_value p) (kept_stream g.R.TableRow.table_of g.R.RowRef.shown c.args.pipe.now.plan c.pull.new.self))) (c.in-Ok-Item.is ∙ ap (λ p. Ok p) c.in-Ok-Item.field-0-is) c.pull.ensures.item) (λ w start h i gr. c.pass_item.ensures.grows w start (stage_covered g.R.TableRow.table_of g.R.RowRef.shown (world c.args.self.now) w (values_in c.args.slots.now) c.args.pipe.now h) (source_covered g.R.TableRow.table_of g.R.RowRef.shown (world c.args.self.now) w (values_in c.args.slots.now) c.args.pipe.now h) (slots_pass g.R.TableRow.table_of g.R.RowRef.shown (world c.args.self.now) w (values_in c.args.slots.now) c.args.pipe.now h) i gr);
    }

pub leading_items-returns-in-Some-Fault-clause-meant : goal.leading_items-returns-in-Some-Fault-clause-meant
leading_items-returns-in-Some-Fault-clause-meant g t c =
    leads_stopped (world c.args.self.now) (values_in c.args.slots.now) (bodies_of c.args.lambdas.now) c.args.directions c.args.wanted c.loop-row.leading _ (comes g.R.TableRow.table_of g.R.RowRef.shown (world c.args.self.now) (values_in c.args.slots.now) c.args.pipe.now c.in-Ok-Item.item) (items_left (world c.args.self.now) (values_in c.args.slots.now) c.args.pipe.now c.loop-row.base) (items_left (world c.args.self.now) (values_in c.args.slots.now) c.args.pipe.now c.pull.new.self) _ c.in_ok-add_leading-in-Ok-Item.field-0 c.in-Some-Fault.fault
    (pulled g.R.TableRow.table_of g.R.RowRef.shown (world c.args.self.now) (values_in c.args.slots.now) c.args.pipe.now c.loop-row.base c.pull.new.self c.in-Ok-Item.item c.requires.planned (subst (λ r. IfOk r (λ p. (kept_stream g.R.TableRow.table_of g.R.RowRef.shown c.args.pipe.now.plan c.loop-row.base) ≡ in_front (pulled_value p) (kept_stream g.R.TableRow.table_of g.R.RowRef.shown c.args.pipe.now.plan c.pull.new.self))) (c.in-Ok-Item.is ∙ ap (λ p. Ok p) c.in-Ok-Item.field-0-is) c.pull.ensures.item))
    (subst (λ (s : Stream (Value _)). LeadsOn (world c.args.self.now) (values_in c.args.slots.now) (bodies_of c.args.lambdas.now) c.loop-row.leading s c.in_ok-add_leading-in-Ok-Item.field-0 c.add_leading.new.leading) c.in_ok-outcome-in-Ok-Item.ensures.meant (c.in_ok-add_leading-in-Ok-Item.ensures.leads (world c.args.self.now) (values_in c.args.slots.now) c.requires.cells)) (c.in-Some-Fault.is ∙ ap (λ e. Some e) c.in-Some-Fault.field-0-is) c.loop-row.invariant.meant

pub leading_items-returns-in-Err-clause-meant : goal.leading_items-returns-in-Err-clause-meant
leading_items-returns-in-Err-clause-meant g t c =
    leads_ended (world c.args.self.now) (values_in c.args.slots.now) (bodies_of c.args.lambdas.now) c.args.directions c.args.wanted c.loop-row.leading (items_left (world c.args.self.now) (values_in c.args.slots.now) c.args.pipe.now c.loop-row.base) _ c.in-Err.end
    (next_ended g.R.TableRow.table_of g.R.RowRef.shown (world c.args.self.now) (values_in c.args.slots.now) c.args.pipe.now c.loop-row.base c.loop-row.base c.in-Err.end c.requires.planned refl (subst (λ r. IfErr r (λ e. (kept_stream g.R.TableRow.table_of g.R.RowRef.shown c.args.pipe.now.plan c.loop-row.base) ≡ ([], e))) c.in-Err.is c.pull.ensures.end))
    c.loop-row.invariant.meant

pub leading_items-returns-in_err-outcome-in-Ok-Item-clause-grows : goal.leading_items-returns-in_err-outcome-in-Ok-Item-clause-grows
leading_items-returns-in_err-outcome-in-Ok-Item-clause-grows g t c =
    λ w start a b s gr. (took (world c.args.self.now) (facts c.args.self.now.sources) g.R.TableRow.table_of g.R.RowRef.shown (values_in c.args.slots.now) c.args.pipe.now (Covers (world c.args.self.now) (values_in c.args.slots.now) c.args.pipe.now) (λ w p. p) _ _ _ c.loop-row.base c.pull.new.self c.in-Ok-Item.item c.loop-row.invariant.log (subst (λ r. IfOk r (λ p. (kept_stream g.R.TableRow.table_of g.R.RowRef.shown c.args.pipe.now.plan c.loop-row.base) ≡ in_front (pulled_value p) (kept_stream g.R.TableRow.table_of g.R.RowRef.shown c.args.pipe.now.plan c.pull.new.self))) (c.in-Ok-Item.is ∙ ap (λ p. Ok p) c.in-Ok-Item.field-0-is) c.pull.ensures.item) (λ w start h i gr. c.pass_item.ensures.grows w start (stage_covered g.R.TableRow.table_of g.R.RowRef.shown (world c.args.self.now) w (values_in c.args.slots.now) c.args.pipe.now h) (source_covered g.R.TableRow.table_of g.R.RowRef.shown (world c.args.self.now) w (values_in c.args.slots.now) c.args.pipe.now h) (slots_pass g.R.TableRow.table_of g.R.RowRef.shown (world c.args.self.now) w (values_in c.args.slots.now) c.args.pipe.now h) i gr)).grows w start (covers_pipe (world c.args.self.now) (values_in c.args.slots.now) c.args.pipe.now w a b s) gr

pub leading_items-returns-in_err-add_leading-in-Ok-Item-clause-grows : goal.leading_items-returns-in_err-add_leading-in-Ok-Item-clause-grows
leading_items-returns-in_err-add_leading-in-Ok-Item-clause-grows g t c =
    λ w start a b s gr. (took (world c.args.self.now) (facts c.args.self.now.sources) g.R.TableRow.table_of g.R.RowRef.shown (values_in c.args.slots.now) c.args.pipe.now (Covers (world c.args.self.now) (values_in c.args.slots.now) c.args.pipe.now) (λ w p. p) _ _ _ c.loop-row.base c.pull.new.self c.in-Ok-Item.item c.loop-row.invariant.log (subst (λ r. IfOk r (λ p. (kept_stream g.R.TableRow.table_of g.R.RowRef.shown c.args.pipe.now.plan c.loop-row.base) ≡ in_front (pulled_value p) (kept_stream g.R.TableRow.table_of g.R.RowRef.shown c.args.pipe.now.plan c.pull.new.self))) (c.in-Ok-Item.is ∙ ap (λ p. Ok p) c.in-Ok-Item.field-0-is) c.pull.ensures.item) (λ w start h i gr. c.pass_item.ensures.grows w start (stage_covered g.R.TableRow.table_of g.R.RowRef.shown (world c.args.self.now) w (values_in c.args.slots.now) c.args.pipe.now h) (source_covered g.R.TableRow.table_of g.R.RowRef.shown (world c.args.self.now) w (values_in c.args.slots.now) c.args.pipe.now h) (slots_pass g.R.TableRow.table_of g.R.RowRef.shown (world c.args.self.now) w (values_in c.args.slots.now) c.args.pipe.now h) i gr)).grows w start (covers_pipe (world c.args.self.now) (values_in c.args.slots.now) c.args.pipe.now w a b s) gr

pub leading_items-returns-in-Some-Fault-clause-grows : goal.leading_items-returns-in-Some-Fault-clause-grows
leading_items-returns-in-Some-Fault-clause-grows g t c =
    λ w start a b s gr. (took (world c.args.self.now) (facts c.args.self.now.sources) g.R.TableRow.table_of g.R.RowRef.shown (values_in c.args.slots.now) c.args.pipe.now (Covers (world c.args.self.now) (values_in c.args.slots.now) c.args.pipe.now) (λ w p. p) _ _ _ c.loop-row.base c.pull.new.self c.in-Ok-Item.item c.loop-row.invariant.log (subst (λ r. IfOk r (λ p. (kept_stream g.R.TableRow.table_of g.R.RowRef.shown c.args.pipe.now.plan c.loop-row.base) ≡ in_front (pulled_value p) (kept_stream g.R.TableRow.table_of g.R.RowRef.shown c.args.pipe.now.plan c.pull.new.self))) (c.in-Ok-Item.is ∙ ap (λ p. Ok p) c.in-Ok-Item.field-0-is) c.pull.ensures.item) (λ w start h i gr. c.pass_item.ensures.grows w start (stage_covered g.R.TableRow.table_of g.R.RowRef.shown (world c.args.self.now) w (values_in c.args.slots.now) c.args.pipe.now h) (source_covered g.R.TableRow.table_of g.R.RowRef.shown (world c.args.self.now) w (values_in c.args.slots.now) c.args.pipe.now h) (slots_pass g.R.TableRow.table_of g.R.RowRef.shown (world c.args.self.now) w (values_in c.args.slots.now) c.args.pipe.now h) i gr)).grows w start (covers_pipe (world c.args.self.now) (values_in c.args.slots.now) c.args.pipe.now w a b s) gr

pub leading_items-returns-in-None-clause-grows : goal.leading_items-returns-in-None-clause-grows
leading_items-returns-in-None-clause-grows g t c =
    λ w start a b s gr. (took (world c.args.self.now) (facts c.args.self.now.sources) g.R.TableRow.table_of g.R.RowRef.shown (values_in c.args.slots.now) c.args.pipe.now (Covers (world c.args.self.now) (values_in c.args.slots.now) c.args.pipe.now) (λ w p. p) _ _ _ c.loop-row.base c.pull.new.self c.in-Ok-Item.item c.loop-row.invariant.log (subst (λ r. IfOk r (λ p. (kept_stream g.R.TableRow.table_of g.R.RowRef.shown c.args.pipe.now.plan c.loop-row.base) ≡ in_front (pulled_value p) (kept_stream g.R.TableRow.table_of g.R.RowRef.shown c.args.pipe.now.plan c.pull.new.self))) (c.in-Ok-Item.is ∙ ap (λ p. Ok p) c.in-Ok-Item.field-0-is) c.pull.ensures.item) (λ w start h i gr. c.pass_item.ensures.grows w start (stage_covered g.R.TableRow.table_of g.R.RowRef.shown (world c.args.self.now) w (values_in c.args.slots.now) c.args.pipe.now h) (source_covered g.R.TableRow.table_of g.R.RowRef.shown (world c.args.self.now) w (values_in c.args.slots.now) c.args.pipe.now h) (slots_pass g.R.TableRow.table_of g.R.RowRef.shown (world c.args.self.now) w (values_in c.args.slots.now) c.args.pipe.now h) i gr)).grows w start (covers_pipe (world c.args.self.now) (values_in c.args.slots.now) c.args.pipe.now w a b s) gr

pub simple-returns-in_ok-pipe-in-Some-clause-meant : goal.simple-returns-in_ok-pipe-in-Some-clause-meant
simple-returns-in_ok-pipe-in-Some-clause-meant g t c =
    subst (λ s. IsAnswer (simple_meaning c.args.method c.args.of.now s) c.simple_items.result)
    (c.in_ok-pipe-in-Some.ensures.items ∙ stage_items (world c.args.self.now) (values_in c.args.slots.now) c.in-Some.stage c.args.source.now c.in-Some.source.now c.in-Some.ensures.stage) c.simple_items.ensures.meant

pub simple_items-returns-in_ok-items-in-None-clause-meant : goal.simple_items-returns-in_ok-items-in-None-clause-meant
simple_items-returns-in_ok-items-in-None-clause-meant g t c =
    subst (λ m. IsAnswer m c.simple.result) (simple_read c.args.method _ c.args.of.now _ _ c.simple_limit.ensures c.in_ok-items-in-None.ensures.meant) c.simple.ensures

pub simple-returns-in_ok-pipe-in-None-clause-meant : goal.simple-returns-in_ok-pipe-in-None-clause-meant
simple-returns-in_ok-pipe-in-None-clause-meant g t c =
    subst (λ s. IsAnswer (simple_meaning c.args.method c.args.of.now s) c.simple_items-in-None.result) c.in_ok-pipe-in-None.ensures.items c.simple_items-in-None.ensures.meant

pub simple-returns-in_ok-pipe-in-Some-clause-grows : goal.simple-returns-in_ok-pipe-in-Some-clause-grows
simple-returns-in_ok-pipe-in-Some-clause-grows g t c =
    λ w start h s gr.
    c.simple_items.ensures.grows w start (covered_as (world c.args.self.now) w _ _ c.in_ok-pipe-in-Some.ensures.source (source_of (world c.args.self.now) w c.in-Some.stage c.args.source.now c.in-Some.source.now c.in-Some.ensures.stage h))
    (stage_as (world c.args.self.now) w _ _ c.in_ok-pipe-in-Some.ensures.stage (stage_over (world c.args.self.now) w c.in-Some.stage c.args.source.now c.in-Some.source.now c.in-Some.ensures.stage h)) s gr

pub simple-returns-in_ok-pipe-in-None-clause-grows : goal.simple-returns-in_ok-pipe-in-None-clause-grows
simple-returns-in_ok-pipe-in-None-clause-grows g t c =
    λ w start h s gr.
    c.simple_items-in-None.ensures.grows w start (covered_as (world c.args.self.now) w _ _ c.in_ok-pipe-in-None.ensures.source h) (stage_as (world c.args.self.now) w _ _ c.in_ok-pipe-in-None.ensures.stage refl) s gr

pub group_items-loop-row-init : goal.group_items-loop-row-init
group_items-loop-row-init g t c =
    record {
      meant = λ source body s. tallies_begin (world c.args.self.now) (values_in c.args.slots.now) s.key.body.now c.args.selected.now.reads.tallies.items _ _ _ c.in_ok-tallies.ensures.rows (left_opened (world c.args.self.now) (values_in c.args.slots.now) _ _ c.in_ok-base.base c.in_ok-base.ensures.meant);
      begins = c.in_ok-tallies.ensures.begins ∙ c.in_ok-begins.ensures;
      log = opened (world c.args.self.now) (facts c.args.self.now.sources) g.R.TableRow.table_of g.R.RowRef.shown (values_in c.args.slots.now) c.args.pipe.now (Covers (world c.args.self.now) (values_in c.args.slots.now) c.args.pipe.now) _ _ c.in_ok-base.base (λ w start p gr. c.open.ensures.grows w start p.source_in p.slots_in gr) (λ w p. c.in_ok-base.ensures.from w p.source_in p.slots_in);
    }

pub group_items-loop-row-preserved-in-Ok-Row : goal.group_items-loop-row-preserved-in-Ok-Row
group_items-loop-row-preserved-in-Ok-Row g t c =
    record {
      meant = λ source body s.
          tallies_pulled (world c.args.self.now) (values_in c.args.slots.now) s.key.body.now c.args.selected.now.reads.tallies.items c.loop-row.tallies _ (value.Row c.in-Ok-Row.row ∷ [], end.Done) (items_left (world c.args.self.now) (values_in c.args.slots.now) c.args.pipe.now c.loop-row.base) (items_left (world c.args.self.now) (values_in c.args.slots.now) c.args.pipe.now c.pull.new.self) _ (Some end.Done)
          ((pulled g.R.TableRow.table_of g.R.RowRef.shown (world c.args.self.now) (values_in c.args.slots.now) c.args.pipe.now c.loop-row.base c.pull.new.self (value.Row c.in-Ok-Row.row) c.requires.planned (subst (λ r. IfOk r (λ p. (kept_stream g.R.TableRow.table_of g.R.RowRef.shown c.args.pipe.now.plan c.loop-row.base) ≡ in_front (pulled_value p) (kept_stream g.R.TableRow.table_of g.R.RowRef.shown c.args.pipe.now.plan c.pull.new.self))) (c.in-Ok-Row.is ∙ ap (λ p. Ok p) c.in-Ok-Row.field-0-is) c.pull.ensures.item)) ∙ ap (λ (s : Stream (Value _)). then_stream s (items_left (world c.args.self.now) (values_in c.args.slots.now) c.args.pipe.now c.pull.new.self)) (row_comes g.R.TableRow.table_of g.R.RowRef.shown (world c.args.self.now) (values_in c.args.slots.now) c.args.pipe.now c.in-Ok-Row.row c.requires.planned c.requires.plain (subst (λ r. IfOk r (IsPulled g.R.TableRow.table_of g.R.RowRef.shown c.args.pipe.now.plan)) (c.in-Ok-Row.is ∙ ap (λ p. Ok p) c.in-Ok-Row.field-0-is) c.pull.ensures.planned)))
          (tallies_with (world c.args.self.now) (values_in c.args.slots.now) s.key.body.now c.args.selected.now.reads.tallies.items c.loop-row.tallies _ (value.Row c.in-Ok-Row.row) (c.in_ok-add-in-Ok-Row.ensures.added c.if-not-branch.false (world c.args.self.now) (values_in c.args.slots.now) s.key c.args.selected.now.reads.tallies.items c.loop-row.invariant.begins s.columns s.cell s.numbers)) refl (c.loop-row.invariant.meant source body s);
      begins = c.in_ok-add-in-Ok-Row.ensures.begins ∙ c.loop-row.invariant.begins;
      log = took (world c.args.self.now) (facts c.args.self.now.sources) g.R.TableRow.table_of g.R.RowRef.shown (values_in c.args.slots.now) c.args.pipe.now (Covers (world c.args.self.now) (values_in c.args.slots.now) c.args.pipe.now) (λ w p. p) _ _ _ c.loop-row.base c.pull.new.self (value.Row c.in-Ok-Row.row) c.loop-row.invariant.log (subst (λ r. IfOk r (λ p. (kept_stream g.R.TableRow.table_of g.R.RowRef.shown c.args.pipe.now.plan c.loop-row.base) ≡ in_front (pulled_value p) (kept_stream g.R.TableRow.table_of g.R.RowRef.shown c.args.pipe.now.plan c.pull.new.self))) (c.in-Ok-Row.is ∙ ap (λ p. Ok p) c.in-Ok-Row.field-0-is) c.pull.ensures.item) (λ w start h i gr. gr);
    }

pub group_items-loop-row-preserved : goal.group_items-loop-row-preserved
group_items-loop-row-preserved g t c =
    record {
      meant = λ source body s.
          tallies_pulled (world c.args.self.now) (values_in c.args.slots.now) s.key.body.now c.args.selected.now.reads.tallies.items c.loop-row.tallies _ (comes g.R.TableRow.table_of g.R.RowRef.shown (world c.args.self.now) (values_in c.args.slots.now) c.args.pipe.now c.in-Ok-Item.item) (items_left (world c.args.self.now) (values_in c.args.slots.now) c.args.pipe.now c.loop-row.base) (items_left (world c.args.self.now) (values_in c.args.slots.now) c.args.pipe.now c.pull.new.self) _ c.in_ok-add_tallies-in-Ok-Item.field-0
          (pulled g.R.TableRow.table_of g.R.RowRef.shown (world c.args.self.now) (values_in c.args.slots.now) c.args.pipe.now c.loop-row.base c.pull.new.self c.in-Ok-Item.item c.requires.planned (subst (λ r. IfOk r (λ p. (kept_stream g.R.TableRow.table_of g.R.RowRef.shown c.args.pipe.now.plan c.loop-row.base) ≡ in_front (pulled_value p) (kept_stream g.R.TableRow.table_of g.R.RowRef.shown c.args.pipe.now.plan c.pull.new.self))) (c.in-Ok-Item.is ∙ ap (λ p. Ok p) c.in-Ok-Item.field-0-is) c.pull.ensures.item))
          (subst (λ (made : Stream (Value _)). TalliesOn (world c.args.self.now) (values_in c.args.slots.now) s.key.body.now c.args.selected.now.reads.tallies.items c.loop-row.tallies made c.in_ok-add_tallies-in-Ok-Item.field-0 c.add_tallies.new.tallies) c.in_ok-outcome-in-Ok-Item.ensures.meant (c.in_ok-add_tallies-in-Ok-Item.ensures.tallies (world c.args.self.now) (values_in c.args.slots.now) s.key c.args.selected.now.reads.tallies.items c.loop-row.invariant.begins s.columns s.cell s.numbers)) (c.in-Some-Done.is ∙ ap (λ e. Some e) c.in-Some-Done.field-0-is) (c.loop-row.invariant.meant source body s);
      begins = c.in_ok-add_tallies-in-Ok-Item.ensures.begins ∙ c.loop-row.invariant.begins;
      log = took (world c.args.self.now) (facts c.args.self.now.sources) g.R.TableRow.table_of g.R.RowRef.shown (values_in c.args.slots.now) c.args.pipe.now (Covers (world c.args.self.now) (values_in c.args.slots.now) c.args.pipe.now) (λ w p. p) _ _ _ c.loop-row.base c.pull.new.self c.in-Ok-Item.item c.loop-row.invariant.log (subst (λ r. IfOk r (λ p. (kept_stream g.R.TableRow.table_of g.R.RowRef.shown c.args.pipe.now.plan c.loop-row.base) ≡ in_front (pulled_value p) (kept_stream g.R.TableRow.table_of g.R.RowRef.shown c.args.pipe.now.plan c.pull.new.self))) (c.in-Ok-Item.is ∙ ap (λ p. Ok p) c.in-Ok-Item.field-0-is) c.pull.ensures.item) (λ w start h i gr. c.pass_item.ensures.grows w start (stage_covered g.R.TableRow.table_of g.R.RowRef.shown (world c.args.self.now) w (values_in c.args.slots.now) c.args.pipe.now h) (source_covered g.R.TableRow.table_of g.R.RowRef.shown (world c.args.self.now) w (values_in c.args.slots.now) c.args.pipe.now h) (slots_pass g.R.TableRow.table_of g.R.RowRef.shown (world c.args.self.now) w (values_in c.args.slots.now) c.args.pipe.now h) i gr);
    }

pub group_items-returns-in_err-outcome-in-Ok-Item-clause-grows : goal.group_items-returns-in_err-outcome-in-Ok-Item-clause-grows
group_items-returns-in_err-outcome-in-Ok-Item-clause-grows g t c =
    λ w start a b s gr. (took (world c.args.self.now) (facts c.args.self.now.sources) g.R.TableRow.table_of g.R.RowRef.shown (values_in c.args.slots.now) c.args.pipe.now (Covers (world c.args.self.now) (values_in c.args.slots.now) c.args.pipe.now) (λ w p. p) _ _ _ c.loop-row.base c.pull.new.self c.in-Ok-Item.item c.loop-row.invariant.log (subst (λ r. IfOk r (λ p. (kept_stream g.R.TableRow.table_of g.R.RowRef.shown c.args.pipe.now.plan c.loop-row.base) ≡ in_front (pulled_value p) (kept_stream g.R.TableRow.table_of g.R.RowRef.shown c.args.pipe.now.plan c.pull.new.self))) (c.in-Ok-Item.is ∙ ap (λ p. Ok p) c.in-Ok-Item.field-0-is) c.pull.ensures.item) (λ w start h i gr. c.pass_item.ensures.grows w start (stage_covered g.R.TableRow.table_of g.R.RowRef.shown (world c.args.self.now) w (values_in c.args.slots.now) c.args.pipe.now h) (source_covered g.R.TableRow.table_of g.R.RowRef.shown (world c.args.self.now) w (values_in c.args.slots.now) c.args.pipe.now h) (slots_pass g.R.TableRow.table_of g.R.RowRef.shown (world c.args.self.now) w (values_in c.args.slots.now) c.args.pipe.now h) i gr)).grows w start (covers_pipe (world c.args.self.now) (values_in c.args.slots.now) c.args.pipe.now w a b s) gr

pub group_items-returns-in_err-add_tallies-in-Ok-Item-clause-grows : goal.group_items-returns-in_err-add_tallies-in-Ok-Item-clause-grows
group_items-returns-in_err-add_tallies-in-Ok-Item-clause-grows g t c =
    λ w start a b s gr. (took (world c.args.self.now) (facts c.args.self.now.sources) g.R.TableRow.table_of g.R.RowRef.shown (values_in c.args.slots.now) c.args.pipe.now (Covers (world c.args.self.now) (values_in c.args.slots.now) c.args.pipe.now) (λ w p. p) _ _ _ c.loop-row.base c.pull.new.self c.in-Ok-Item.item c.loop-row.invariant.log (subst (λ r. IfOk r (λ p. (kept_stream g.R.TableRow.table_of g.R.RowRef.shown c.args.pipe.now.plan c.loop-row.base) ≡ in_front (pulled_value p) (kept_stream g.R.TableRow.table_of g.R.RowRef.shown c.args.pipe.now.plan c.pull.new.self))) (c.in-Ok-Item.is ∙ ap (λ p. Ok p) c.in-Ok-Item.field-0-is) c.pull.ensures.item) (λ w start h i gr. c.pass_item.ensures.grows w start (stage_covered g.R.TableRow.table_of g.R.RowRef.shown (world c.args.self.now) w (values_in c.args.slots.now) c.args.pipe.now h) (source_covered g.R.TableRow.table_of g.R.RowRef.shown (world c.args.self.now) w (values_in c.args.slots.now) c.args.pipe.now h) (slots_pass g.R.TableRow.table_of g.R.RowRef.shown (world c.args.self.now) w (values_in c.args.slots.now) c.args.pipe.now h) i gr)).grows w start (covers_pipe (world c.args.self.now) (values_in c.args.slots.now) c.args.pipe.now w a b s) gr

pub group_items-returns-in-Some-Fault-clause-grows : goal.group_items-returns-in-Some-Fault-clause-grows
group_items-returns-in-Some-Fault-clause-grows g t c =
    λ w start a b s gr. (took (world c.args.self.now) (facts c.args.self.now.sources) g.R.TableRow.table_of g.R.RowRef.shown (values_in c.args.slots.now) c.args.pipe.now (Covers (world c.args.self.now) (values_in c.args.slots.now) c.args.pipe.now) (λ w p. p) _ _ _ c.loop-row.base c.pull.new.self c.in-Ok-Item.item c.loop-row.invariant.log (subst (λ r. IfOk r (λ p. (kept_stream g.R.TableRow.table_of g.R.RowRef.shown c.args.pipe.now.plan c.loop-row.base) ≡ in_front (pulled_value p) (kept_stream g.R.TableRow.table_of g.R.RowRef.shown c.args.pipe.now.plan c.pull.new.self))) (c.in-Ok-Item.is ∙ ap (λ p. Ok p) c.in-Ok-Item.field-0-is) c.pull.ensures.item) (λ w start h i gr. c.pass_item.ensures.grows w start (stage_covered g.R.TableRow.table_of g.R.RowRef.shown (world c.args.self.now) w (values_in c.args.slots.now) c.args.pipe.now h) (source_covered g.R.TableRow.table_of g.R.RowRef.shown (world c.args.self.now) w (values_in c.args.slots.now) c.args.pipe.now h) (slots_pass g.R.TableRow.table_of g.R.RowRef.shown (world c.args.self.now) w (values_in c.args.slots.now) c.args.pipe.now h) i gr)).grows w start (covers_pipe (world c.args.self.now) (values_in c.args.slots.now) c.args.pipe.now w a b s) gr

pub group_items-returns-in-None-clause-grows : goal.group_items-returns-in-None-clause-grows
group_items-returns-in-None-clause-grows g t c =
    λ w start a b s gr. (took (world c.args.self.now) (facts c.args.self.now.sources) g.R.TableRow.table_of g.R.RowRef.shown (values_in c.args.slots.now) c.args.pipe.now (Covers (world c.args.self.now) (values_in c.args.slots.now) c.args.pipe.now) (λ w p. p) _ _ _ c.loop-row.base c.pull.new.self c.in-Ok-Item.item c.loop-row.invariant.log (subst (λ r. IfOk r (λ p. (kept_stream g.R.TableRow.table_of g.R.RowRef.shown c.args.pipe.now.plan c.loop-row.base) ≡ in_front (pulled_value p) (kept_stream g.R.TableRow.table_of g.R.RowRef.shown c.args.pipe.now.plan c.pull.new.self))) (c.in-Ok-Item.is ∙ ap (λ p. Ok p) c.in-Ok-Item.field-0-is) c.pull.ensures.item) (λ w start h i gr. c.pass_item.ensures.grows w start (stage_covered g.R.TableRow.table_of g.R.RowRef.shown (world c.args.self.now) w (values_in c.args.slots.now) c.args.pipe.now h) (source_covered g.R.TableRow.table_of g.R.RowRef.shown (world c.args.self.now) w (values_in c.args.slots.now) c.args.pipe.now h) (slots_pass g.R.TableRow.table_of g.R.RowRef.shown (world c.args.self.now) w (values_in c.args.slots.now) c.args.pipe.now h) i gr)).grows w start (covers_pipe (world c.args.self.now) (values_in c.args.slots.now) c.args.pipe.now w a b s) gr

pub group_items-returns-in-Some-Fault-clause-meant : goal.group_items-returns-in-Some-Fault-clause-meant
group_items-returns-in-Some-Fault-clause-meant g t c =
    λ source body s is.
    groups_stopped (world c.args.self.now) (values_in c.args.slots.now) c.args.selected.now.reads.tallies.items s.fields c.args.selected.now.reads.members.items s.read c.args.selected.now.items.now s.key.body.now s.element s.item source body c.add_tallies.new.tallies (end.Fault c.in-Some-Fault.fault) c.in-Some-Fault.fault (all_items (world c.args.self.now) (values_in c.args.slots.now) c.args.pipe.now) _ s.source_is is refl c.new-in-Some-Fault.ensures
    (tallies_stopped (world c.args.self.now) (values_in c.args.slots.now) s.key.body.now c.args.selected.now.reads.tallies.items c.loop-row.tallies _ (comes g.R.TableRow.table_of g.R.RowRef.shown (world c.args.self.now) (values_in c.args.slots.now) c.args.pipe.now c.in-Ok-Item.item) (items_left (world c.args.self.now) (values_in c.args.slots.now) c.args.pipe.now c.loop-row.base) (items_left (world c.args.self.now) (values_in c.args.slots.now) c.args.pipe.now c.pull.new.self) _ c.in_ok-add_tallies-in-Ok-Item.field-0 c.in-Some-Fault.fault
    (pulled g.R.TableRow.table_of g.R.RowRef.shown (world c.args.self.now) (values_in c.args.slots.now) c.args.pipe.now c.loop-row.base c.pull.new.self c.in-Ok-Item.item c.requires.planned (subst (λ r. IfOk r (λ p. (kept_stream g.R.TableRow.table_of g.R.RowRef.shown c.args.pipe.now.plan c.loop-row.base) ≡ in_front (pulled_value p) (kept_stream g.R.TableRow.table_of g.R.RowRef.shown c.args.pipe.now.plan c.pull.new.self))) (c.in-Ok-Item.is ∙ ap (λ p. Ok p) c.in-Ok-Item.field-0-is) c.pull.ensures.item))
    (subst (λ (made : Stream (Value _)). TalliesOn (world c.args.self.now) (values_in c.args.slots.now) s.key.body.now c.args.selected.now.reads.tallies.items c.loop-row.tallies made c.in_ok-add_tallies-in-Ok-Item.field-0 c.add_tallies.new.tallies) c.in_ok-outcome-in-Ok-Item.ensures.meant (c.in_ok-add_tallies-in-Ok-Item.ensures.tallies (world c.args.self.now) (values_in c.args.slots.now) s.key c.args.selected.now.reads.tallies.items c.loop-row.invariant.begins s.columns s.cell s.numbers)) (c.in-Some-Fault.is ∙ ap (λ e. Some e) c.in-Some-Fault.field-0-is) (c.loop-row.invariant.meant source body.now s))

pub group_items-returns-in-Err-clause-meant : goal.group_items-returns-in-Err-clause-meant
group_items-returns-in-Err-clause-meant g t c =
    λ source body s is.
    groups_until (world c.args.self.now) (values_in c.args.slots.now) c.args.selected.now.reads.tallies.items s.fields c.args.selected.now.reads.members.items s.read c.args.selected.now.items.now s.key.body.now s.element s.item source body c.loop-row.tallies c.in-Err.end (all_items (world c.args.self.now) (values_in c.args.slots.now) c.args.pipe.now) _ s.source_is s.body_is is
    (tallies_ended (world c.args.self.now) (values_in c.args.slots.now) s.key.body.now c.args.selected.now.reads.tallies.items c.loop-row.tallies (items_left (world c.args.self.now) (values_in c.args.slots.now) c.args.pipe.now c.loop-row.base) _ c.in-Err.end
    (next_ended g.R.TableRow.table_of g.R.RowRef.shown (world c.args.self.now) (values_in c.args.slots.now) c.args.pipe.now c.loop-row.base c.loop-row.base c.in-Err.end c.requires.planned refl (subst (λ r. IfErr r (λ e. (kept_stream g.R.TableRow.table_of g.R.RowRef.shown c.args.pipe.now.plan c.loop-row.base) ≡ ([], e))) c.in-Err.is c.pull.ensures.end))
    (c.loop-row.invariant.meant source body.now s))
    c.in_ok-records_until-in-Err.ensures

pub group_items-returns-in-Err-clause-grows : goal.group_items-returns-in-Err-clause-grows
group_items-returns-in-Err-clause-grows g t c =
    λ w start a b s gr. c.loop-row.invariant.log.grows w start (covers_pipe (world c.args.self.now) (values_in c.args.slots.now) c.args.pipe.now w a b s) gr

pub group_items-returns-in_err-records_until-in-Err-clause-grows : goal.group_items-returns-in_err-records_until-in-Err-clause-grows
group_items-returns-in_err-records_until-in-Err-clause-grows g t c =
    λ w start a b s gr. c.loop-row.invariant.log.grows w start (covers_pipe (world c.args.self.now) (values_in c.args.slots.now) c.args.pipe.now w a b s) gr

pub simple_items-returns-in-Some-items_ref-clause-meant : goal.simple_items-returns-in-Some-items_ref-clause-meant
simple_items-returns-in-Some-items_ref-clause-meant g t c =
    subst (λ m. IsAnswer m c.tally_items.result)
    (sym (tally_answers c.args.method c.in-Some.tally (sym c.of.ensures ∙ c.in-Some.is) c.args.of.now (all_items (world c.args.self.now) (values_in c.args.slots.now) c.args.pipe.now)))
    (subst (λ s. IsAnswer (as_value (tallied c.args.of.now c.in-Some.tally (through_stage (world c.args.self.now) (values_in c.args.slots.now) c.args.pipe.now.stage s))) c.tally_items.result)
    (sym (c.in-Some-items_ref.ensures (world c.args.self.now))) c.tally_items.ensures.meant)

pub simple_items-returns-in-Some-items_ref-clause-grows : goal.simple_items-returns-in-Some-items_ref-clause-grows
simple_items-returns-in-Some-items_ref-clause-grows g t c =
    λ w start a b s gr.
    c.tally_items.ensures.grows w start b s (stream_passes (world c.args.self.now) w c.args.pipe.now.source.now (values_in c.args.slots.now) _ (sym (c.in-Some-items_ref.ensures (world c.args.self.now))) a s) gr
