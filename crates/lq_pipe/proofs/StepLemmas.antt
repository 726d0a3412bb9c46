-- What comes of one item of which a lambda gives a value or meets a fault.
use Rattle.std.proofs.Common.{◌≡◌, ◌∷◌, [], Bor, Result, Ok, Err, ap, ◌∙◌, sym, refl}
use Rattle.lq_value.specs.declared.value.End.TheVariants as end
use Rattle.lq_value.specs.declared.value.Fault.{Fault}
use Rattle.lq_value.specs.declared.value.Value.{Value}
use Rattle.lq_language.specs.Stream.{Stream, one, then_stream}
use Rattle.lq_language.specs.Worlds.{World}
use Rattle.lq_tree.specs.FormMeaning.{Slots, form_meaning, with_item}
use Rattle.lq_tree.specs.declared.tree.Form.{Form}
use Rattle.lq_plan.specs.Pulling.{last, through_select, through_stage}
use Rattle.lq_plan.specs.declared.stages.Stage.{Stage}
use Rattle.lq_plan.specs.declared.stages.Stage.TheVariants as stage

-- nothing comes behind it
pub alone : {B : Type 0} → (given : Result B Fault) → then_stream (one given) ([], end.Done) ≡ one given
alone (Ok v) = refl
alone (Err g) = refl

module _ {R : Type 0} (world : World R) (slots : Slots R) (x : Value R) (given : Result (Value R) Fault) where
  -- what a lambda gives of an item is what comes of it there
  pub given_select : (f : Form) → given ≡ form_meaning world f (with_item world slots x)
      → ◌≡◌ {A = Stream (Value R)} (one given) (through_select world slots f (x ∷ [], end.Done))
  given_select f is = ap one is ∙ sym (alone (form_meaning world f (with_item world slots x)))

  -- and so it is at a stage that is this lambda
  pub given_stage : (st : Stage) (f : Bor Form) → st ≡ stage.Select f → given ≡ form_meaning world f.now (with_item world slots x)
      → ◌≡◌ {A = Stream (Value R)} (one given) (through_stage world slots st (x ∷ [], end.Done))
  given_stage st f staged is = given_select f.now is ∙ ap (λ (s : Stage). through_stage world slots s (x ∷ [], end.Done)) (sym staged)

  pub given_last : (st : Stage) (f : Bor Form) → st ≡ stage.Select f → given ≡ form_meaning world f.now (with_item world slots x)
      → ◌≡◌ {A = Stream (Value R)} (one given) (last world slots st x)
  given_last st f staged is = given_select f.now is ∙ ap (λ (s : Stage). last world slots s x) (sym staged)
