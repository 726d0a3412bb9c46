-- Proofs of the laws of null and of what `==` compares.
use Rattle.std.proofs.Common.{◌≡◌, ◌↔◌, ◌∷◌, inl, inr, [], Bool, true, false, not, true≢false, Result, Ok, bytes_eq, ap, sym, refl}
use Rattle.std.proofs.lemmas.Bool.Decides.{Decides-int_eq}
use Rattle.std.proofs.lemmas.Slice.Eq.{bytes_eq-Decides}
use Rattle.std.specs.Ordering.{int_eq}
use Rattle.lq_value.specs.declared.scalar.Scalar.{Scalar}
use Rattle.lq_value.specs.declared.scalar.Scalar.TheVariants as scalar
use Rattle.lq_value.specs.declared.value.Fault.{Fault}
use Rattle.lq_language.specs.NullLaws.{HasValueUnlessNull, NullGivesNull, NullHasNoOrder, NullHasNothing, NullIsEmptyText, SameByContent}
use Rattle.lq_language.specs.OperationLaws.{AreOfOneKind, IsNumber, IsText, IsTruth}
use Rattle.lq_language.specs.Operations.{applied, on_ok, operation_of, same_content, truth}
use Rattle.lq_language.specs.OperandTypes.{is_comparison, is_ordering}
use Rattle.lq_language.specs.declared.operation.Op.TheVariants as op
use Rattle.lq_grammar.specs.declared.syntax.Binary.{Binary}
use Rattle.lq_grammar.specs.declared.syntax.Binary.TheVariants as binary

pub has_value_unless_null : HasValueUnlessNull
has_value_unless_null unknown (scalar.Int n) number = ((λ h is. absurd (cc), λ other. refl), (λ h. absurd (cc), λ is. absurd (cc)))
has_value_unless_null unknown scalar.Null number = ((λ h. absurd (cc), λ other. absurd (other refl)), (λ h. refl, λ is. refl))
has_value_unless_null unknown s number = absurd number

pub null_has_nothing : NullHasNothing
null_has_nothing unknown n (scalar.Text t) text = (refl, refl, refl, refl, refl, refl, refl, refl, refl)
null_has_nothing unknown n scalar.Null text = (refl, refl, refl, refl, refl, refl, refl, refl, refl)
null_has_nothing unknown n s text = absurd text

-- ---- what `==` says

-- `==` says whether two scalars are one
abbrev Tells : Fault → Scalar → Scalar → Type 0
Tells unknown a b = (same : Bool) × (same_content unknown a b ≡ Ok same) × ((same ≡ true) ↔ (a ≡ b))

module _ (unknown : Fault) where
  numbers : (a b : Scalar) → IsNumber a → IsNumber b → Tells unknown a b
  numbers (scalar.Int m) (scalar.Int n) h k =
      (int_eq m n, refl, (λ same. ap scalar.Int ((Decides-int_eq m n).0 same), λ is. (Decides-int_eq m n).1 (let one : m ≡ n = cc in one)))
  numbers (scalar.Int m) scalar.Null h k = (false, refl, (λ same. absurd (cc), λ is. absurd (cc)))
  numbers (scalar.Int m) b h k = absurd k
  numbers scalar.Null (scalar.Int n) h k = (false, refl, (λ same. absurd (cc), λ is. absurd (cc)))
  numbers scalar.Null scalar.Null h k = (true, refl, (λ same. refl, λ is. refl))
  numbers scalar.Null b h k = absurd k
  numbers a b h k = absurd h

  truths : (a b : Scalar) → IsTruth a → IsTruth b → Tells unknown a b
  truths (scalar.Bool true) (scalar.Bool true) h k = (true, refl, (λ same. refl, λ is. refl))
  truths (scalar.Bool true) (scalar.Bool false) h k = (false, refl, (λ same. absurd (cc), λ is. absurd (cc)))
  truths (scalar.Bool false) (scalar.Bool true) h k = (false, refl, (λ same. absurd (cc), λ is. absurd (cc)))
  truths (scalar.Bool false) (scalar.Bool false) h k = (true, refl, (λ same. refl, λ is. refl))
  truths (scalar.Bool b) c h k = absurd k
  truths a b h k = absurd h

  texts : (a b : Scalar) → IsText a → IsText b → Tells unknown a b
  texts (scalar.Text s) (scalar.Text t) h k =
      (bytes_eq s t, refl, (λ same. ap scalar.Text ((bytes_eq-Decides s t).0 same), λ is. (bytes_eq-Decides s t).1 (let one : s ≡ t = cc in one)))
  texts (scalar.Text s) scalar.Null h k = (false, refl, (λ same. absurd (cc), λ is. absurd (cc)))
  texts (scalar.Text s) b h k = absurd k
  texts scalar.Null (scalar.Text t) h k = (false, refl, (λ same. absurd (cc), λ is. absurd (cc)))
  texts scalar.Null scalar.Null h k = (true, refl, (λ same. refl, λ is. refl))
  texts scalar.Null b h k = absurd k
  texts a b h k = absurd h

  tells : (a b : Scalar) → AreOfOneKind a b → Tells unknown a b
  tells a b (inl both) = numbers a b both.0 both.1
  tells a b (inr (inl both)) = truths a b both.0 both.1
  tells a b (inr (inr both)) = texts a b both.0 both.1

-- an operator that gives this truth value says what holds, and so does one that gives the other
told : {P : Type 0} (o : Result Scalar Fault) (same : Bool) → o ≡ Ok (scalar.Bool same) → ((same ≡ true) ↔ P)
    → ((o ≡ Ok (scalar.Bool true)) ↔ P) × ((o ≡ Ok (scalar.Bool false)) ↔ (P → ⊥))
told o true is tells = ((λ h. tells.0 refl, λ p. is), (λ h. absurd (cc), λ none. absurd (none (tells.0 refl))))
told o false is tells = ((λ h. absurd (cc), λ p. absurd (true≢false (sym (tells.1 p)))), (λ h p. absurd (true≢false (sym (tells.1 p))), λ none. is))

told_other : {P : Type 0} (o : Result Scalar Fault) (same : Bool) → o ≡ Ok (scalar.Bool (not same)) → ((same ≡ true) ↔ P)
    → ((o ≡ Ok (scalar.Bool true)) ↔ (P → ⊥)) × ((o ≡ Ok (scalar.Bool false)) ↔ P)
told_other o true is tells = ((λ h. absurd (cc), λ none. absurd (none (tells.0 refl))), (λ h. tells.0 refl, λ p. is))
told_other o false is tells = ((λ h p. absurd (true≢false (sym (tells.1 p))), λ none. is), (λ h. absurd (cc), λ p. absurd (true≢false (sym (tells.1 p)))))

pub same_by_content : SameByContent
same_by_content unknown a b kind =
    let found = tells unknown a b kind in
    let equal = told (applied unknown op.Equal (a ∷ b ∷ [])) found.0 (ap (truth unknown) found.1) found.2 in
    let other = told_other (applied unknown op.NotEqual (a ∷ b ∷ [])) found.0 (ap (λ (o : Result Bool Fault). truth unknown (on_ok o (λ same. Ok (not same)))) found.1) found.2 in
    (equal.0, equal.1, other.0, other.1)

-- ---- operands

between : (unknown : Fault) (sign : Binary) → is_comparison sign ≡ false → (s : Scalar) → IsNumber s
    → (applied unknown (operation_of sign) (scalar.Null ∷ s ∷ []) ≡ Ok scalar.Null)
    × (applied unknown (operation_of sign) (s ∷ scalar.Null ∷ []) ≡ Ok scalar.Null)
between unknown binary.Multiply h (scalar.Int n) number = (refl, refl)
between unknown binary.Multiply h scalar.Null number = (refl, refl)
between unknown binary.Divide h (scalar.Int n) number = (refl, refl)
between unknown binary.Divide h scalar.Null number = (refl, refl)
between unknown binary.Remainder h (scalar.Int n) number = (refl, refl)
between unknown binary.Remainder h scalar.Null number = (refl, refl)
between unknown binary.Add h (scalar.Int n) number = (refl, refl)
between unknown binary.Add h scalar.Null number = (refl, refl)
between unknown binary.Subtract h (scalar.Int n) number = (refl, refl)
between unknown binary.Subtract h scalar.Null number = (refl, refl)
between unknown sign h (scalar.Bool b) number = absurd number
between unknown sign h (scalar.Text t) number = absurd number
between unknown sign h s number = absurd (true≢false h)

pub null_gives_null : NullGivesNull
null_gives_null unknown = (refl, between unknown)

pub null_is_empty_text : NullIsEmptyText
null_is_empty_text unknown t = (refl, refl, refl)

-- ---- orders

no_order : (unknown : Fault) (sign : Binary) → is_ordering sign ≡ true → (s : Scalar) → IsNumber s
    → (applied unknown (operation_of sign) (scalar.Null ∷ s ∷ []) ≡ Ok (scalar.Bool false))
    × (applied unknown (operation_of sign) (s ∷ scalar.Null ∷ []) ≡ Ok (scalar.Bool false))
no_order unknown binary.Less h (scalar.Int n) number = (refl, refl)
no_order unknown binary.Less h scalar.Null number = (refl, refl)
no_order unknown binary.Greater h (scalar.Int n) number = (refl, refl)
no_order unknown binary.Greater h scalar.Null number = (refl, refl)
no_order unknown binary.LessOrEqual h (scalar.Int n) number = (refl, refl)
no_order unknown binary.LessOrEqual h scalar.Null number = (refl, refl)
no_order unknown binary.GreaterOrEqual h (scalar.Int n) number = (refl, refl)
no_order unknown binary.GreaterOrEqual h scalar.Null number = (refl, refl)
no_order unknown sign h (scalar.Bool b) number = absurd number
no_order unknown sign h (scalar.Text t) number = absurd number
no_order unknown sign h s number = absurd (true≢false (sym h))

pub null_has_no_order : NullHasNoOrder
null_has_no_order = no_order
