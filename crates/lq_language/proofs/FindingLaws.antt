-- What follows from a type that was found: what each step towards it found.
use Rattle.std.proofs.Common.{◌≡◌, if◌then◌else◌, Bool, true, false, Option, Some, None, refl, sym, true≢false, option_map}
use Rattle.std.proofs.lemmas.Option.{none-some, same_Some}
use Rattle.std.specs.Prelude.{is_some, not}
use Rattle.lq_value.specs.declared.ty.Ty.{Ty, out-Ty}
use Rattle.lq_value.specs.declared.ty.Ty.TheOpen.{Ty-F}
use Rattle.lq_value.specs.declared.ty.Ty.TheVariants as ty
use Rattle.lq_language.specs.Types.{when}
use Rattle.lq_language.specs.OperandTypes.{of_operands, truth_type}

module _ {P : Type 0} where
  pub map_by : {A B : Type 0} (f : A → B) (o : Option A) (y : B) → option_map f o ≡ Some y → ((x : A) → o ≡ Some x → f x ≡ y → P) → P
  map_by f None y h next = absurd (none-some y h)
  map_by f (Some x) y h next = next x refl (same_Some (f x) y h)

  pub when_by : {A : Type 0} (b : Bool) (o : Option A) (y : A) → when b o ≡ Some y → (b ≡ true → o ≡ Some y → P) → P
  when_by true o y h next = next refl h
  when_by false o y h next = absurd (none-some y h)

  pub if_by : {A : Type 0} (b : Bool) (x y : A) → (if b then Some x else None) ≡ Some y → (b ≡ true → x ≡ y → P) → P
  if_by true x y h next = next refl (same_Some x y h)
  if_by false x y h next = absurd (none-some y h)

  pub truth_by : (b : Bool) (t : Ty) → truth_type b ≡ Some t → (b ≡ true → ty.Bool ≡ t → P) → P
  truth_by b t h next = if_by b ty.Bool t h next

  pub operands_by : (given : Ty-F Ty → Ty-F Ty → Option Ty) (o p : Option Ty) (r : Ty) → of_operands given o p ≡ Some r
      → ((s t : Ty) → o ≡ Some s → p ≡ Some t → given (out-Ty s) (out-Ty t) ≡ Some r → P) → P
  operands_by given (Some s) (Some t) r h next = next s t refl refl h
  operands_by given (Some s) None r h next = absurd (none-some r h)
  operands_by given None p r h next = absurd (none-some r h)

-- a name that is fresh is none of those in scope
pub fresh_none : (o : Option Ty) → not (is_some o) ≡ true → o ≡ None
fresh_none None h = refl
fresh_none (Some t) h = absurd (true≢false (sym h))
