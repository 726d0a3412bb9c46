-- Chains: the table at their end, and what they mean.
use Rattle.std.proofs.Common.{◌≡◌, List, [], map, ℕ, Option, Some, None, IfSome, true, true≢false, Result, Ok, ap, subst, ◌∙◌, sym, refl, slice_get}
use Rattle.lq_value.specs.declared.value.End.TheVariants as end
use Rattle.lq_value.specs.declared.value.Fault.{Fault}
use Rattle.lq_value.specs.declared.value.Value.{Value}
use Rattle.lq_value.specs.declared.value.Value.TheVariants as value
use Rattle.lq_language.specs.OperandMeaning.{sequence, stream_of, table_value}
use Rattle.lq_language.specs.Stream.{Stream, each, item_where, one}
use Rattle.lq_language.specs.TableRows.{TableRow}
use Rattle.lq_language.specs.Worlds.{World}
use Rattle.lq_tree.specs.FormMeaning.{form_meaning, is_true, with_item}
use Rattle.lq_tree.specs.declared.tree.Form.{Form, fold_out-Form, map-Form, out-Form}
use Rattle.lq_tree.specs.declared.tree.Form.TheOpen.{Form-F}
use Rattle.lq_tree.specs.declared.tree.Form.TheVariants as form
use Rattle.lq_plan.specs.Pulling.{item_at, items_at, through_select, through_stage, through_where}
use Rattle.lq_plan.specs.Stages.{IsStageOver, is_base, is_base_step}
use Rattle.lq_plan.specs.declared.stages.Stage.{Stage}
use Rattle.lq_plan.specs.declared.stages.Stage.TheVariants as stage
use Rattle.lq_plan.proofs.FormLaws.{form_select, form_sequence, form_table, form_where}
use Rattle.lq_plan.proofs.PullLaws.{base_item, each_each, each_one, stage_item, stage_items, stream_sequence}
use Rattle.lq_pipeline.specs.Chains.{items_of_layer, items_of_result, leaf_of, leaf_step, table_in}
use Rattle.lq_pipeline.specs.Heads.{AreItemsOf}

-- ---- tables

pub leaf_out : (f : Form) → leaf_of f ≡ leaf_step (map-Form Form (Option ℕ) leaf_of (out-Form f))
unfolding leaf_of
leaf_out f = fold_out-Form (Option ℕ) leaf_step f

pub leaf_at : (f : Form) (layer : Form-F Form) → out-Form f ≡ layer → leaf_of f ≡ leaf_step (map-Form Form (Option ℕ) leaf_of layer)
leaf_at f layer is = leaf_out f ∙ ap (λ l. leaf_step (map-Form Form (Option ℕ) leaf_of l)) is

leaf_over : (st : Stage) (f a : Form) → IsStageOver f st a → leaf_of f ≡ leaf_of a
leaf_over stage.Plain f a is = ap leaf_of is ∙ leaf_at _ _ (form.outs-Sequence a)
leaf_over (stage.Where c) f a is = ap leaf_of is ∙ leaf_at _ _ (form.outs-Where a c.now)
leaf_over (stage.Select c) f a is = ap leaf_of is ∙ leaf_at _ _ (form.outs-Select a c.now)

pub leaf_behind : (st : Stage) (f a : Form) (o : Option ℕ) → IsStageOver f st a → o ≡ leaf_of a → o ≡ leaf_of f
leaf_behind st f a o is same = same ∙ sym (leaf_over st f a is)

base_layer : (layer : Form-F Form) → is_base_step layer ≡ true → leaf_step (map-Form Form (Option ℕ) leaf_of layer) ≡ table_in layer
base_layer (Form-F.Where a f) h = absurd (true≢false (sym h))
base_layer (Form-F.Select a f) h = absurd (true≢false (sym h))
base_layer (Form-F.Sequence a) h = absurd (true≢false (sym h))
base_layer (Form-F.Table n) h = refl
base_layer layer h = refl

pub leaf_itself : (f : Form) (o : Option ℕ) → is_base f ≡ true → o ≡ table_in (out-Form f) → o ≡ leaf_of f
leaf_itself f o base same = same ∙ sym (leaf_out f ∙ base_layer (out-Form f) base)

-- ---- what comes of rows

module _ (world : World TableRow) where
  through_each : (st : Stage) (a : Form) (s : Stream (Value TableRow))
      → each (λ x. through_stage world [] st (item_at world [] a x)) s.0 s.1 ≡ through_stage world [] st (items_at world [] a s)
  through_each stage.Plain a s = refl
  through_each (stage.Where c) a s =
      sym (each_each (λ v. item_where (is_true world (form_meaning world c.now) (with_item world [] v)) v) (item_at world [] a) s.0 s.1)
  through_each (stage.Select c) a s = sym (each_each (λ v. one (form_meaning world c.now (with_item world [] v))) (item_at world [] a) s.0 s.1)

  abbrev items : Form → Stream (Value TableRow)
  items f = stream_of world (form_meaning world f [])

  over_stage : (st : Stage) (f a : Form) (s : Stream (Value TableRow)) → IsStageOver f st a → items_at world [] a s ≡ items a → items_at world [] f s ≡ items f
  over_stage st f a s is opened =
      (λ i. each (λ x. stage_item world [] st f a x is i) s.0 s.1)
      ∙ through_each st a s ∙ ap (through_stage world [] st) opened ∙ stage_items world [] st f a is

  of_table : (n : ℕ) (f : Form) → is_base f ≡ true → f ≡ form.Table n
      → items_at world [] f (stream_of world (table_value world (slice_get world.rows n))) ≡ items f
  of_table n f base is =
      each_one (item_at world [] f) (λ x. base_item world [] f x base) (stream_of world (table_value world (slice_get world.rows n))).0
      (stream_of world (table_value world (slice_get world.rows n))).1
      ∙ ap (stream_of world) (sym (form_table world n []))
      ∙ ap items (sym is)

-- ---- what chains mean

pub of_sequence : {R : Type 0} (s : Stream (Value R)) → items_of_result (Ok (sequence s)) ≡ s
of_sequence s = ap (items_of_layer (sequence s)) (value.outs-Seq s.0 s.1)

module _ (world : World TableRow) where
  is_sequence : (f : Form) (s : Stream (Value TableRow)) → form_meaning world f [] ≡ Ok (sequence s)
      → items_of_result (form_meaning world f []) ≡ stream_of world (form_meaning world f [])
  is_sequence f s is = ap items_of_result is ∙ of_sequence s ∙ sym (ap (stream_of world) is ∙ stream_sequence world [] s)

  stage_is_sequence : (st : Stage) (f a : Form) → IsStageOver f st a → items_of_result (form_meaning world f []) ≡ stream_of world (form_meaning world f [])
  stage_is_sequence stage.Plain f a is =
      is_sequence f (items world a) (ap (λ (g : Form). form_meaning world g []) is ∙ form_sequence world a [])
  stage_is_sequence (stage.Where c) f a is =
      is_sequence f (through_where world [] c.now (items world a)) (ap (λ (g : Form). form_meaning world g []) is ∙ form_where world a c.now [])
  stage_is_sequence (stage.Select c) f a is =
      is_sequence f (through_select world [] c.now (items world a)) (ap (λ (g : Form). form_meaning world g []) is ∙ form_select world a c.now [])

  of_rows : (found : Option (List TableRow)) → items_of_result (table_value world found) ≡ stream_of world (table_value world found)
  of_rows (Some rows) = of_sequence (map value.Row rows, end.Done) ∙ sym (stream_sequence world [] (map value.Row rows, end.Done))
  of_rows None = refl

  table_is_sequence : (f : Form) (n : ℕ) → f ≡ form.Table n → items_of_result (form_meaning world f []) ≡ stream_of world (form_meaning world f [])
  table_is_sequence f n is =
      subst (λ (r : Result (Value TableRow) Fault). items_of_result r ≡ stream_of world r)
      (sym (ap (λ (g : Form). form_meaning world g []) is ∙ form_table world n [])) (of_rows (slice_get world.rows n))

pub chain_behind : (st : Stage) (f a : Form) (o : Option ℕ) → IsStageOver f st a → IfSome o (AreItemsOf a) → IfSome o (AreItemsOf f)
chain_behind st f a None is items = items
chain_behind st f a (Some n) is items =
    λ world. (over_stage world st f a (stream_of world (table_value world (slice_get world.rows n))) is (items world).0, stage_is_sequence world st f a is)

pub chain_itself : (f : Form) (o : Option ℕ) → is_base f ≡ true → IfSome o (λ n. f ≡ form.Table n) → IfSome o (AreItemsOf f)
chain_itself f None base is = tt
chain_itself f (Some n) base is = λ world. (of_table world n f base is, table_is_sequence world f n is)

pub ruleset chains = (leaf_behind, leaf_itself, chain_behind, chain_itself)
