-- Forms that mean a sequence or a fault, and forms that mean one value or a fault.
use Rattle.std.proofs.Common.{◌≡◌, List, [], map, true, true≢false, Option, Some, None, Result, Ok, Err, ap, ◌∙◌, sym, refl, subst, slice_get}
use Rattle.lq_value.specs.declared.scalar.Scalar.{Scalar}
use Rattle.lq_value.specs.declared.ty.Ty.{Ty}
use Rattle.lq_value.specs.declared.value.End.TheVariants as end
use Rattle.lq_value.specs.declared.value.Fault.{Fault}
use Rattle.lq_value.specs.declared.value.Value.{Value}
use Rattle.lq_value.specs.declared.value.Value.TheVariants as value
use Rattle.lq_language.specs.Meaning.{as_truth, given_meaning, simple_meaning}
use Rattle.lq_language.specs.OperandMeaning.{as_value, sequence, stream_of, table_value}
use Rattle.lq_language.specs.Stream.{Stream}
use Rattle.lq_language.specs.TableRows.{TableRow}
use Rattle.lq_language.specs.Worlds.{World}
use Rattle.lq_language.specs.declared.methods.Given.{Given}
use Rattle.lq_language.specs.declared.methods.Given.TheVariants as given
use Rattle.lq_language.specs.declared.methods.Simple.{Simple}
use Rattle.lq_language.specs.declared.methods.Simple.TheVariants as simple
use Rattle.lq_tree.specs.FormMeaning.{Means, form_meaning, form_step}
use Rattle.lq_tree.specs.declared.tree.Form.{Form, fold_out-Form, map-Form, out-Form}
use Rattle.lq_tree.specs.declared.tree.Form.TheOpen.{Form-F}
use Rattle.lq_plan.proofs.PullLaws.{stream_sequence}
use Rattle.lq_pipeline.specs.Answers.{IsEnumerated, IsOne, gives_scalar, gives_truth, is_scalar_form, is_sequence_form, one_of}
use Rattle.lq_pipeline.specs.Chains.{items_of_layer, items_of_result}
use Rattle.lq_pipeline.proofs.ChainLemmas.{of_sequence}

module _ (world : World TableRow) where
  means_at : (f : Form) → form_meaning world f ≡ form_step world (map-Form Form (Means TableRow) (form_meaning world) (out-Form f))
  unfolding form_meaning
  means_at f = fold_out-Form (Means TableRow) (form_step world) f

  -- ---- sequences

  abbrev Plain : Result (Value TableRow) Fault → Type 0
  Plain m = items_of_result m ≡ stream_of world m

  plain : (s : Stream (Value TableRow)) → Plain (Ok (sequence s))
  plain s = of_sequence s ∙ sym (stream_sequence world [] s)

  plain_table : (rows : Option (List TableRow)) → Plain (table_value world rows)
  plain_table (Some rows) = plain (map value.Row rows, end.Done)
  plain_table None = refl

  plain_layer : (layer : Form-F Form) → is_sequence_form layer ≡ true → Plain (form_step world (map-Form Form (Means TableRow) (form_meaning world) layer) [])
  plain_layer (Form-F.Table n) h = plain_table (slice_get world.rows n)
  plain_layer (Form-F.Sequence a) h = plain _
  plain_layer (Form-F.Where a f) h = plain _
  plain_layer (Form-F.Select a f) h = plain _
  plain_layer (Form-F.SelectMany a inner result) h = plain _
  plain_layer (Form-F.Join a j) h = plain _
  plain_layer (Form-F.OrderBy a ks) h = plain _
  plain_layer (Form-F.GroupBy a key element) h = plain _
  plain_layer layer h = absurd (true≢false (sym h))

  -- ---- values

  abbrev One : Result (Value TableRow) Fault → Type 0
  One m = items_of_result m ≡ one_of m

  one_scalar : (found : Result Scalar Fault) → One (as_value found)
  one_scalar (Ok s) = ap (items_of_layer (value.Scalar s)) (value.outs-Scalar s)
  one_scalar (Err f) = refl

  one_truth : (found : Result _ Fault) → One (as_truth found)
  one_truth (Ok b) = ap (items_of_layer (value.Scalar _)) (value.outs-Scalar _)
  one_truth (Err f) = refl

  one_simple : (method : Simple) (t : Ty) (s : Stream (Value TableRow)) → gives_scalar method ≡ true → One (simple_meaning method t s)
  one_simple simple.Any t s h = one_truth _
  one_simple simple.Count t s h = one_scalar _
  one_simple simple.Sum t s h = one_scalar _
  one_simple simple.Min t s h = one_scalar _
  one_simple simple.Max t s h = one_scalar _
  one_simple method t s h = absurd (true≢false (sym h))

  one_contains : (argument : Result (Value TableRow) Fault) (s : Stream (Value TableRow)) → One (given_meaning world given.Contains argument s)
  one_contains (Ok v) s = one_truth _
  one_contains (Err f) s = refl

  one_given : (method : Given) (argument : Result (Value TableRow) Fault) (s : Stream (Value TableRow)) → gives_truth method ≡ true
      → One (given_meaning world method argument s)
  one_given given.Contains argument s h = one_contains argument s
  one_given method argument s h = absurd (true≢false (sym h))

  one_layer : (layer : Form-F Form) → is_scalar_form layer ≡ true → One (form_step world (map-Form Form (Means TableRow) (form_meaning world) layer) [])
  one_layer (Form-F.Simple method t a) h = one_simple method t (stream_of world (form_meaning world a [])) h
  one_layer (Form-F.Given method a b) h = one_given method (form_meaning world b []) (stream_of world (form_meaning world a [])) h
  one_layer (Form-F.All a f) h = one_truth _
  one_layer layer h = absurd (true≢false (sym h))

-- ---- forms

pub enumerated : (f : Form) → is_sequence_form (out-Form f) ≡ true → IsEnumerated f
enumerated f h world = subst (λ (m : Means TableRow). Plain world (m [])) (sym (means_at world f)) (plain_layer world (out-Form f) h)

pub single : (f : Form) → is_scalar_form (out-Form f) ≡ true → IsOne f
single f h world = subst (λ (m : Means TableRow). One world (m [])) (sym (means_at world f)) (one_layer world (out-Form f) h)
