-- What a plan says of a row is what comes of it.
use Rattle.std.proofs.Common.{◌≡◌, List, [], ℕ, Bool, true, false, Option, Some, None, Result, IfSome, ap, ◌∙◌, sym, subst, Bor}
use Rattle.lq_value.specs.declared.scalar.Scalar.{Scalar}
use Rattle.lq_value.specs.declared.value.End.TheVariants as end
use Rattle.lq_value.specs.declared.value.Fault.{Fault}
use Rattle.lq_value.specs.declared.value.Value.{Value}
use Rattle.lq_value.specs.declared.value.Value.TheVariants as value
use Rattle.lq_language.specs.Stream.{Stream, item_where, then_stream}
use Rattle.lq_language.specs.Worlds.{World}
use Rattle.lq_condition.specs.Verdicts.{IsBoth, both_verdicts, verdict}
use Rattle.lq_condition.specs.declared.condition.Condition.{Condition}
use Rattle.lq_condition.specs.declared.condition.Condition.TheVariants as condition
use Rattle.lq_condition.proofs.ConditionLaws.{verdict_constant, verdict_silent}
use Rattle.lq_tree.specs.FormMeaning.{Slots, form_meaning, with_item}
use Rattle.lq_tree.specs.declared.tree.Form.{Form}
use Rattle.lq_tree.specs.declared.tree.Form.TheVariants as form
use Rattle.lq_plan.specs.Prepared.{Decides, DecidesPassing, DecidesStage, IsPlanned, SelectsCell, SelectsItem}
use Rattle.lq_plan.specs.Pulling.{item_at, item_if, last_if, through_select, through_stage, through_where}
use Rattle.lq_plan.specs.Meanings.{truth_in}
use Rattle.lq_plan.specs.declared.plans.Plan.{Plan}
use Rattle.lq_plan.specs.declared.stages.Stage.{Stage}
use Rattle.lq_plan.specs.declared.stages.Stage.TheVariants as stage
use Rattle.lq_plan.proofs.PreparedLemmas.{Meets}
use Rattle.lq_plan.proofs.PullLaws.{sequence_item, table_item, where_item}

module _ {R : Type 0} (table_of : R → ℕ) (shown : R → List Scalar) (slots : Slots R) (world : World R) where
  -- ---- rows that pass

  abbrev Comes : Option Bool → R → Stream (Value R) → Type 0
  Comes t r s = IfSome t (λ b. s ≡ item_if b (value.Row r))

  comes_by : (t t' : Option Bool) (r : R) (s : Stream (Value R)) → t' ≡ t → Comes t r s → Comes t' r s
  comes_by t t' r s is h = subst (λ o. Comes o r s) (sym is) h

  pub passing_silent : (table : ℕ) (f : Form) → DecidesPassing table_of shown world slots table f condition.Silent
  passing_silent table f = record { at = λ r is. comes_by None (verdict condition.Silent (shown r)) r _ (verdict_silent (shown r)) tt }

  pub passing_table : (table n : ℕ) → DecidesPassing table_of shown world slots table (form.Table n) (condition.Constant true)
  passing_table table n = record { at = λ r is. comes_by (Some true) (verdict (condition.Constant true) (shown r)) r _ (verdict_constant (shown r) true) (table_item world slots n (value.Row r)) }

  pub passing_sequence : (table : ℕ) (a : Form) (c : Condition) → DecidesPassing table_of shown world slots table a c → DecidesPassing table_of shown world slots table (form.Sequence a) c
  passing_sequence table a c passing = record { at = λ r is. subst (λ s. Comes (verdict c (shown r)) r s) (sym (sequence_item world slots a (value.Row r))) (passing.at r is) }

  where_met : (ta tf : Option Bool) (f : Form) (r : R) (s : Stream (Value R)) → Comes ta r s → Meets tf (truth_in world (form_meaning world f (with_item world slots (value.Row r))))
      → Comes (both_verdicts ta tf) r (through_where world slots f s)
  where_met None tf f r s hs hf = tt
  where_met (Some false) tf f r s hs hf = ap (λ (z : Stream (Value R)). through_where world slots f z) hs
  where_met (Some true) None f r s hs hf = tt
  where_met (Some true) (Some true) f r s hs hf =
      ap (λ (z : Stream (Value R)). through_where world slots f z) hs
      ∙ ap (λ (t : Result Bool Fault). then_stream (item_where t (value.Row r)) ([], end.Done)) hf
  where_met (Some true) (Some false) f r s hs hf =
      ap (λ (z : Stream (Value R)). through_where world slots f z) hs
      ∙ ap (λ (t : Result Bool Fault). then_stream (item_where t (value.Row r)) ([], end.Done)) hf

  where_at : (a f : Form) (table : ℕ) (ca cf c : Condition) → DecidesPassing table_of shown world slots table a ca → Decides table_of shown world slots table f cf
      → IsBoth ca cf c
      → (r : R) → table_of r ≡ table → Comes (verdict c (shown r)) r (through_where world slots f (item_at world slots a (value.Row r)))
  where_at a f table ca cf c passing decides both r here =
      comes_by _ (verdict c (shown r)) r _ (both.at (shown r)) (where_met (verdict ca (shown r)) (verdict cf (shown r)) f r _ (passing.at r here) (decides.at r here))

  pub passing_where : (a f : Form) (table : ℕ) (ca cf c : Condition) → DecidesPassing table_of shown world slots table a ca → Decides table_of shown world slots table f cf
      → IsBoth ca cf c
      → DecidesPassing table_of shown world slots table (form.Where a f) c
  passing_where a f table ca cf c passing decides both = record {
    at = λ r here.
        subst (λ s. Comes (verdict c (shown r)) r s) (sym (where_item world slots a f (value.Row r))) (where_at a f table ca cf c passing decides both r here);
  }

  -- ---- stages

  abbrev Says : Option Bool → Stage → R → Stream (Value R) → Type 0
  Says t st r s = IfSome t (λ b. through_stage world slots st s ≡ last_if world slots b st (value.Row r))

  plain_met : (t : Option Bool) (r : R) (s : Stream (Value R)) → Comes t r s → Says t stage.Plain r s
  plain_met None r s h = tt
  plain_met (Some true) r s h = h
  plain_met (Some false) r s h = h

  pub stage_plain : (source : Form) (table : ℕ) (c : Condition) → DecidesPassing table_of shown world slots table source c
      → DecidesStage table_of shown world slots stage.Plain source table c
  stage_plain source table c passing = record { at = λ r here. plain_met (verdict c (shown r)) r _ (passing.at r here) }

  select_met : (t : Option Bool) (r : R) (s : Stream (Value R)) (body : Bor Form) → Comes t r s → Says t (stage.Select body) r s
  select_met None r s body h = tt
  select_met (Some true) r s body h = ap (λ (z : Stream (Value R)). through_select world slots body.now z) h
  select_met (Some false) r s body h = ap (λ (z : Stream (Value R)). through_select world slots body.now z) h

  pub stage_select : (body : Bor Form) (source : Form) (table : ℕ) (c : Condition) → DecidesPassing table_of shown world slots table source c
      → DecidesStage table_of shown world slots (stage.Select body) source table c
  stage_select body source table c passing = record { at = λ r here. select_met (verdict c (shown r)) r _ body (passing.at r here) }

  where_last : (t : Option Bool) (r : R) (s : Stream (Value R)) (body : Bor Form) → Comes t r (through_where world slots body.now s) → Says t (stage.Where body) r s
  where_last None r s body h = tt
  where_last (Some true) r s body h = h
  where_last (Some false) r s body h = h

  pub stage_where : (body : Bor Form) (source : Form) (table : ℕ) (ca cf c : Condition) → DecidesPassing table_of shown world slots table source ca
      → Decides table_of shown world slots table body.now cf → IsBoth ca cf c
      → DecidesStage table_of shown world slots (stage.Where body) source table c
  stage_where body source table ca cf c passing decides both = record {
    at = λ r here.
        where_last (verdict c (shown r)) r _ body (where_at source body.now table ca cf c passing decides both r here);
  }

  pub stage_silent : (st : Stage) (source : Form) (table : ℕ) → DecidesStage table_of shown world slots st source table condition.Silent
  stage_silent st source table = record {
    at = λ r is. subst (λ t. Says t st r (item_at world slots source (value.Row r))) (sym (verdict_silent (shown r))) tt;
  }

  -- ---- plans

  pub planned : (st : Stage) (source : Form) (p : Plan) → DecidesStage table_of shown world slots st source p.table p.condition
      → IfSome p.place (λ place. SelectsCell table_of shown world slots st p.table place)
      → (p.gives_row ≡ true → SelectsItem world slots st) → IsPlanned table_of shown world slots st source p
  planned st source p conditions cells item = record { conditions = conditions; cells = cells; item = item }

pub ruleset plans = (planned, stage_silent)

pub ruleset passings = (passing_table, passing_sequence, passing_where, passing_silent)

pub ruleset stages = (stage_plain, stage_where, stage_select)
