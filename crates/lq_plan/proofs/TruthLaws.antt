-- Truth values of conditions, without the values that stand for them.
use Rattle.std.proofs.Common.{◌≡◌, if◌then◌else◌, Bool, true, false, Result, Ok, Err, ap, ◌∙◌, refl}
use Rattle.lq_value.specs.declared.scalar.Scalar.{Scalar}
use Rattle.lq_value.specs.declared.scalar.Scalar.TheVariants as scalar
use Rattle.lq_value.specs.declared.value.Fault.{Fault}
use Rattle.lq_value.specs.declared.value.Value.{Value}
use Rattle.lq_value.specs.declared.value.Value.TheVariants as value
use Rattle.lq_language.specs.Worlds.{World}
use Rattle.lq_language.specs.OperandMeaning.{as_value, scalar_of, truth_value}
use Rattle.lq_language.specs.Operations.{of_two, on_ok, operation_of, truth_of}
use Rattle.lq_language.specs.declared.operation.Op.{Op}
use Rattle.lq_grammar.specs.declared.syntax.Binary.{Binary}
use Rattle.lq_tree.specs.FormMeaning.{Slots, form_meaning}
use Rattle.lq_tree.specs.declared.tree.Form.{Form}
use Rattle.lq_tree.specs.declared.tree.Form.TheVariants as form
use Rattle.lq_plan.specs.Meanings.{truth_in}
use Rattle.lq_plan.proofs.FormLaws.{binary_of, form_both, form_either}

module _ {R : Type 0} (world : World R) where
  truth_of_value : (b : Bool) → truth_in world (Ok (truth_value b)) ≡ Ok b
  truth_of_value b = ap (λ layer. on_ok (scalar_of world layer) (truth_of world.unknown)) (value.outs-Scalar (scalar.Bool b))

  both_of : (t : Result Bool Fault) (b : Result (Value R) Fault)
      → truth_in world (on_ok t (λ x. if x then b else Ok (truth_value false))) ≡ on_ok t (λ x. if x then truth_in world b else Ok false)
  both_of (Ok true) b = refl
  both_of (Ok false) b = truth_of_value false
  both_of (Err f) b = refl

  either_of : (t : Result Bool Fault) (b : Result (Value R) Fault)
      → truth_in world (on_ok t (λ x. if x then Ok (truth_value true) else b)) ≡ on_ok t (λ x. if x then Ok true else truth_in world b)
  either_of (Ok true) b = truth_of_value true
  either_of (Ok false) b = refl
  either_of (Err f) b = refl

  -- the second operand's truth value is met only where the first leaves it open
  pub truth_both : (a b : Form) (slots : Slots R)
      → truth_in world (form_meaning world (form.And a b) slots)
      ≡ on_ok (truth_in world (form_meaning world a slots)) (λ x. if x then truth_in world (form_meaning world b slots) else Ok false)
  truth_both a b slots = ap (truth_in world) (form_both world a b slots) ∙ both_of (truth_in world (form_meaning world a slots)) (form_meaning world b slots)

  pub truth_either : (a b : Form) (slots : Slots R)
      → truth_in world (form_meaning world (form.Or a b) slots)
      ≡ on_ok (truth_in world (form_meaning world a slots)) (λ x. if x then Ok true else truth_in world (form_meaning world b slots))
  truth_either a b slots = ap (truth_in world) (form_either world a b slots) ∙ either_of (truth_in world (form_meaning world a slots)) (form_meaning world b slots)

  of_value : (found : Result Scalar Fault) → truth_in world (as_value found) ≡ on_ok found (truth_of world.unknown)
  of_value (Ok s) = ap (λ layer. on_ok (scalar_of world layer) (truth_of world.unknown)) (value.outs-Scalar s)
  of_value (Err f) = refl

  pub truth_binary : (sign : Binary) (o : Op) (a b : Form) (slots : Slots R) (x y : Scalar) → o ≡ operation_of sign
      → form_meaning world a slots ≡ Ok (value.Scalar x) → form_meaning world b slots ≡ Ok (value.Scalar y)
      → truth_in world (form_meaning world (form.Binary o a b) slots) ≡ on_ok (of_two world.unknown (operation_of sign) x y) (truth_of world.unknown)
  truth_binary sign o a b slots x y is left right =
      ap (truth_in world) (binary_of world o a b slots x y left right ∙ ap (λ p. as_value (of_two world.unknown p x y)) is)
      ∙ of_value (of_two world.unknown (operation_of sign) x y)

  pub truth_two : (o : Op) (a b : Form) (slots : Slots R) (x y : Scalar)
      → form_meaning world a slots ≡ Ok (value.Scalar x) → form_meaning world b slots ≡ Ok (value.Scalar y)
      → truth_in world (form_meaning world (form.Binary o a b) slots) ≡ on_ok (of_two world.unknown o x y) (truth_of world.unknown)
  truth_two o a b slots x y left right =
      ap (truth_in world) (binary_of world o a b slots x y left right) ∙ of_value (of_two world.unknown o x y)
