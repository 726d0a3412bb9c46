-- The form of a method with a lambda means what the method means on the stream of its source, uses what the source and the lambda use, and
-- gives what the method's type says.
use Rattle.std.proofs.Common.{◌≡◌, ◌∷◌, ◌++◌, List, [], Some, Result, ap, ◌∙◌, subst}
use Rattle.std.proofs.lemmas.Option.{same_Some}
use Rattle.lq_value.specs.declared.table.Schema.{Schema}
use Rattle.lq_value.specs.declared.ty.Ty.{Ty, out-Ty}
use Rattle.lq_value.specs.declared.ty.Ty.TheVariants as ty
use Rattle.lq_value.specs.declared.value.Fault.{Fault}
use Rattle.lq_value.specs.declared.value.Value.{Value}
use Rattle.lq_language.specs.Worlds.{World}
use Rattle.lq_language.specs.OperandMeaning.{stream_of}
use Rattle.lq_language.specs.OperandTypes.{is_bool}
use Rattle.lq_language.specs.Meaning.{simple_meaning, through_meaning}
use Rattle.lq_language.specs.Types.{if_placed}
use Rattle.lq_language.specs.Typing.{through_type}
use Rattle.lq_language.specs.declared.methods.Through.{Through}
use Rattle.lq_language.specs.declared.methods.Through.TheVariants as through
use Rattle.lq_language.proofs.FindingLaws.{map_by, when_by}
use Rattle.lq_tree.specs.Binding.{method_form}
use Rattle.lq_tree.specs.FormMeaning.{Slots, form_meaning, is_true}
use Rattle.lq_tree.specs.TypedForms.{Gives, IsTyped, IsTypedForm, Many, Of, Shape, with_slot}
use Rattle.lq_tree.specs.TypedForms as rule
use Rattle.lq_tree.specs.UsesOfForms.{form_uses}
use Rattle.lq_tree.specs.declared.tree.Form.{Form}
use Rattle.lq_tree.specs.declared.tree.Form.TheVariants as form
use Rattle.lq_tree.proofs.FormSteps.{meaning_at, stream_sequence}
use Rattle.lq_tree.proofs.FormUseLaws.{of_all, of_select, of_simple, of_where}

pub method_form_uses : (method : Through) (t u : Ty) (a f : Form) → form_uses (method_form method t u a f) ≡ form_uses a ++ form_uses f
method_form_uses through.Where t u a f = of_where a f
method_form_uses through.Select t u a f = of_select a f
method_form_uses through.All t u a f = of_all a f
method_form_uses (through.Those method) t u a f = of_simple method t (form.Where a f) ∙ of_where a f
method_form_uses (through.Values method) t u a f = of_simple method u (form.Select a f) ∙ of_select a f

module _ {R : Type 0} (world : World R) (slots : Slots R) where
  pub method_form_means : (method : Through) (t u : Ty) (a f : Form)
      → form_meaning world (method_form method t u a f) slots
      ≡ through_meaning world method t u (λ v. is_true world (form_meaning world f) (slots ++ v ∷ [])) (λ v. form_meaning world f (slots ++ v ∷ []))
      (stream_of world (form_meaning world a slots))
  method_form_means through.Where t u a f = meaning_at world slots _ (form.outs-Where a f)
  method_form_means through.Select t u a f = meaning_at world slots _ (form.outs-Select a f)
  method_form_means through.All t u a f = meaning_at world slots _ (form.outs-All a f)
  method_form_means (through.Those method) t u a f =
      meaning_at world slots _ (form.outs-Simple method t (form.Where a f))
      ∙ ap (λ (o : Result (Value R) Fault). simple_meaning method t (stream_of world o)) (meaning_at world slots _ (form.outs-Where a f))
      ∙ ap (simple_meaning method t) (stream_sequence world _)
  method_form_means (through.Values method) t u a f =
      meaning_at world slots _ (form.outs-Simple method u (form.Select a f))
      ∙ ap (λ (o : Result (Value R) Fault). simple_meaning method u (stream_of world o)) (meaning_at world slots _ (form.outs-Select a f))
      ∙ ap (simple_meaning method u) (stream_sequence world _)

module _ (schemas : List Schema) (shapes : List Shape) where
  -- a form of the type that is found
  of_found : (f : Form) (t r : Ty) → IsTypedForm schemas shapes f (Of t) → Some t ≡ Some r → IsTypedForm schemas shapes f (Of r)
  of_found f t r typed is = subst (λ (x : Ty). IsTypedForm schemas shapes f (Of x)) (same_Some t r is) typed

  pub method_form_typed : (method : Through) (t u r : Ty) (a f : Form) → IsTyped schemas (Gives shapes a (Of t))
      → IsTypedForm schemas (with_slot shapes (Of t)) f (Of u) → through_type method t (Some u) ≡ Some r
      → IsTypedForm schemas shapes (method_form method t u a f) (Of r)
  method_form_typed through.Where t u r a f h k typed =
      when_by (is_bool (out-Ty u)) (Some (ty.Seq t)) r typed
      (λ bool is. of_found _ (ty.Seq t) r (rule.by_type shapes (form.Where a f) (Many (Of t)) (rule.of_where shapes u a f (Of t) h k bool)) is)
  method_form_typed through.Select t u r a f h k typed =
      map_by ty.Seq (if_placed (Some u)) r typed
      (λ v placed is. when_by _ (Some u) v placed
      (λ has same. of_found _ (ty.Seq u) r (rule.by_type shapes (form.Select a f) (Many (Of u)) (rule.of_select shapes a f (Of t) (Of u) h k))
      (ap (λ (x : Ty). Some (ty.Seq x)) (same_Some u v same) ∙ ap Some is)))
  method_form_typed through.All t u r a f h k typed =
      when_by (is_bool (out-Ty u)) (Some ty.Bool) r typed (λ bool is. of_found _ ty.Bool r (rule.of_all shapes u a f (Of t) h k bool) is)
  method_form_typed (through.Those method) t u r a f h k typed =
      when_by (is_bool (out-Ty u)) _ r typed
      (λ bool found. rule.of_simple shapes method t r (form.Where a f)
      (rule.by_items shapes (form.Where a f) (Of t) (rule.of_where shapes u a f (Of t) h k bool)) found)
  method_form_typed (through.Values method) t u r a f h k typed =
      rule.of_simple shapes method u r (form.Select a f)
      (rule.by_items shapes (form.Select a f) (Of u) (rule.of_select shapes a f (Of t) (Of u) h k)) typed
