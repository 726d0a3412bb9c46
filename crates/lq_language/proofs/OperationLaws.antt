-- What operators and members give to operands that they take, and what division and searching are.
use Rattle.std.proofs.Common.{◌≡◌, ◌-◌, ◌∷◌, ◌++◌, ◌||◌, ◌<◌, List, [], ℕ, zero, suc, ℤ, pos, negsuc, neg_ℤ, Bool, true, false, not, Result, Ok, Err, ap, refl, sym, ◌∙◌, subst, inl, inr, arith, true≢false, drop, take, length, if◌then◌else◌, int_le, int_lt}
use Rattle.std.specs.Prelude.{◌+ℤ◌, ◌*ℤ◌, int_div, int_rem, unsigned_abs}
use Rattle.std.specs.Ordering.{int_eq}
use Rattle.std.proofs.Math.Dec.{leb-zero}
use Rattle.std.proofs.lemmas.Bool.Decides.{Decides-eqb}
use Rattle.std.proofs.lemmas.Int.{quot-rem, rem_below}
use Rattle.std.proofs.lemmas.Slice.Eq.{ends_is, starts_is}
use Rattle.lq_value.specs.declared.scalar.Scalar.{Scalar}
use Rattle.lq_value.specs.declared.scalar.Scalar.TheVariants as scalar
use Rattle.lq_value.specs.declared.value.Fault.{Fault}
use Rattle.lq_value.specs.declared.value.Fault.TheVariants as fault
use Rattle.lq_language.specs.OperationLaws.{AreOfOneKind, Divides, FindsParts, FindsPrefixes, FindsSuffixes, HasSignOf, IsDecided, IsNumber, IsText, IsTruth, Takes}
use Rattle.lq_language.specs.Operations.{applied, arithmetic, begins_with, checked, computed, divided, ends_in, text_matches, has_in, has_value, is_int, joined, left_over, length_of, negated, on_ok, ordered_by, same_content, searched, truth, truth_of, value_of}
use Rattle.lq_language.specs.declared.operation.Op.{Op}
use Rattle.lq_language.specs.declared.operation.Op.TheVariants as op

-- ---- what is decided, whatever is used where there is no meaning

module _ (f g : Fault) where
  number_alike : (o : Op) → ((m n : ℤ) → computed f o m n ≡ computed g o m n) → (a b : Scalar) → IsNumber a → IsNumber b → arithmetic f o a b ≡ arithmetic g o a b
  number_alike o same (scalar.Int m) (scalar.Int n) h k = same m n
  number_alike o same (scalar.Int m) scalar.Null h k = refl
  number_alike o same (scalar.Int m) b h k = absurd k
  number_alike o same scalar.Null (scalar.Int n) h k = refl
  number_alike o same scalar.Null scalar.Null h k = refl
  number_alike o same scalar.Null b h k = absurd k
  number_alike o same a b h k = absurd h

  negated_alike : (a : Scalar) → IsNumber a → negated f a ≡ negated g a
  negated_alike (scalar.Int n) h = refl
  negated_alike scalar.Null h = refl
  negated_alike a h = absurd h

  has_value_alike : (a : Scalar) → IsNumber a → has_value f a ≡ has_value g a
  has_value_alike (scalar.Int n) h = refl
  has_value_alike scalar.Null h = refl
  has_value_alike a h = absurd h

  value_alike : (a : Scalar) → IsNumber a → value_of f a ≡ value_of g a
  value_alike (scalar.Int n) h = refl
  value_alike scalar.Null h = refl
  value_alike a h = absurd h

  truth_alike : (a : Scalar) → IsTruth a → truth_of f a ≡ truth_of g a
  truth_alike (scalar.Bool b) h = refl
  truth_alike a h = absurd h

  length_alike : (a : Scalar) → IsText a → length_of f a ≡ length_of g a
  length_alike (scalar.Text s) h = refl
  length_alike scalar.Null h = refl
  length_alike a h = absurd h

  joined_alike : (a b : Scalar) → IsText a → IsText b → joined f a b ≡ joined g a b
  joined_alike (scalar.Text s) (scalar.Text t) h k = refl
  joined_alike (scalar.Text s) scalar.Null h k = refl
  joined_alike (scalar.Text s) b h k = absurd k
  joined_alike scalar.Null (scalar.Text t) h k = refl
  joined_alike scalar.Null scalar.Null h k = refl
  joined_alike scalar.Null b h k = absurd k
  joined_alike a b h k = absurd h

  searched_alike : (o : Op) → ((s t : List ℕ) → text_matches f o s t ≡ text_matches g o s t) → (a b : Scalar) → IsText a → IsText b → searched f o a b ≡ searched g o a b
  searched_alike o same (scalar.Text s) (scalar.Text t) h k = same s t
  searched_alike o same (scalar.Text s) scalar.Null h k = refl
  searched_alike o same (scalar.Text s) b h k = absurd k
  searched_alike o same scalar.Null (scalar.Text t) h k = refl
  searched_alike o same scalar.Null scalar.Null h k = refl
  searched_alike o same scalar.Null b h k = absurd k
  searched_alike o same a b h k = absurd h

  ordered_alike : (test : ℤ → ℤ → Bool) (a b : Scalar) → IsNumber a → IsNumber b → ordered_by f test a b ≡ ordered_by g test a b
  ordered_alike test (scalar.Int m) (scalar.Int n) h k = refl
  ordered_alike test (scalar.Int m) scalar.Null h k = refl
  ordered_alike test (scalar.Int m) b h k = absurd k
  ordered_alike test scalar.Null b h k = refl
  ordered_alike test a b h k = absurd h

  same_numbers : (a b : Scalar) → IsNumber a → IsNumber b → same_content f a b ≡ same_content g a b
  same_numbers (scalar.Int m) (scalar.Int n) h k = refl
  same_numbers (scalar.Int m) scalar.Null h k = refl
  same_numbers (scalar.Int m) b h k = absurd k
  same_numbers scalar.Null (scalar.Int n) h k = refl
  same_numbers scalar.Null scalar.Null h k = refl
  same_numbers scalar.Null b h k = absurd k
  same_numbers a b h k = absurd h

  same_truths : (a b : Scalar) → IsTruth a → IsTruth b → same_content f a b ≡ same_content g a b
  same_truths (scalar.Bool true) (scalar.Bool c) h k = refl
  same_truths (scalar.Bool false) (scalar.Bool c) h k = refl
  same_truths (scalar.Bool b) c h k = absurd k
  same_truths a b h k = absurd h

  same_texts : (a b : Scalar) → IsText a → IsText b → same_content f a b ≡ same_content g a b
  same_texts (scalar.Text s) (scalar.Text t) h k = refl
  same_texts (scalar.Text s) scalar.Null h k = refl
  same_texts (scalar.Text s) b h k = absurd k
  same_texts scalar.Null (scalar.Text t) h k = refl
  same_texts scalar.Null scalar.Null h k = refl
  same_texts scalar.Null b h k = absurd k
  same_texts a b h k = absurd h

  same_alike : (a b : Scalar) → AreOfOneKind a b → same_content f a b ≡ same_content g a b
  same_alike a b (inl numbers) = same_numbers a b numbers.0 numbers.1
  same_alike a b (inr (inl truths)) = same_truths a b truths.0 truths.1
  same_alike a b (inr (inr texts)) = same_texts a b texts.0 texts.1

  alike : (o : Op) (operands : List Scalar) → Takes o operands → applied f o operands ≡ applied g o operands
  alike op.Not (a ∷ []) h = ap (λ (r : Result Bool Fault). truth f (on_ok r (λ b. Ok (not b)))) (truth_alike a h)
  alike op.Minus (a ∷ []) h = negated_alike a h
  alike op.HasValue (a ∷ []) h = ap (truth f) (has_value_alike a h)
  alike op.Value (a ∷ []) h = value_alike a h
  alike op.Length (a ∷ []) h = length_alike a h
  alike op.Multiply (a ∷ b ∷ []) h = number_alike op.Multiply (λ m n. refl) a b h.0 h.1
  alike op.Divide (a ∷ b ∷ []) h = number_alike op.Divide (λ m n. refl) a b h.0 h.1
  alike op.Remainder (a ∷ b ∷ []) h = number_alike op.Remainder (λ m n. refl) a b h.0 h.1
  alike op.Add (a ∷ b ∷ []) h = number_alike op.Add (λ m n. refl) a b h.0 h.1
  alike op.Subtract (a ∷ b ∷ []) h = number_alike op.Subtract (λ m n. refl) a b h.0 h.1
  alike op.Less (a ∷ b ∷ []) h = ap (truth f) (ordered_alike int_lt a b h.0 h.1)
  alike op.Greater (a ∷ b ∷ []) h = ap (truth f) (ordered_alike int_lt b a h.1 h.0)
  alike op.LessOrEqual (a ∷ b ∷ []) h = ap (truth f) (ordered_alike int_le a b h.0 h.1)
  alike op.GreaterOrEqual (a ∷ b ∷ []) h = ap (truth f) (ordered_alike int_le b a h.1 h.0)
  alike op.Equal (a ∷ b ∷ []) h = ap (truth f) (same_alike a b h)
  alike op.NotEqual (a ∷ b ∷ []) h = ap (λ (r : Result Bool Fault). truth f (on_ok r (λ same. Ok (not same)))) (same_alike a b h)
  alike op.Concat (a ∷ b ∷ []) h = joined_alike a b h.0 h.1
  alike op.StartsWith (a ∷ b ∷ []) h = ap (truth f) (searched_alike op.StartsWith (λ s t. refl) a b h.0 h.1)
  alike op.EndsWith (a ∷ b ∷ []) h = ap (truth f) (searched_alike op.EndsWith (λ s t. refl) a b h.0 h.1)
  alike op.Contains (a ∷ b ∷ []) h = ap (truth f) (searched_alike op.Contains (λ s t. refl) a b h.0 h.1)
  alike o operands h = absurd h

pub is_decided : IsDecided
is_decided o operands h f g = alike f g o operands h

-- ---- division

checked_is : (z q : ℤ) → checked z ≡ Ok (scalar.Int q) → z ≡ q
checked_is z q h = by (is_int z) h where
  by : (b : Bool) → (if b then Ok (scalar.Int z) else Err fault.Overflow) ≡ Ok (scalar.Int q) → z ≡ q
  by true k = cc
  by false k = absurd cc

quotient_is : (m n q : ℤ) → divided m n ≡ Ok (scalar.Int q) → (int_eq n (pos 0) ≡ false) × (int_div m n ≡ q)
quotient_is m n q h = by (int_eq n (pos 0)) refl h where
  by : (b : Bool) → int_eq n (pos 0) ≡ b → (if b then Err fault.DivideByZero else checked (int_div m n)) ≡ Ok (scalar.Int q) → (int_eq n (pos 0) ≡ false) × (int_div m n ≡ q)
  by true is k = absurd cc
  by false is k = (is, checked_is (int_div m n) q k)

remainder_is : (m n r : ℤ) → left_over m n ≡ Ok (scalar.Int r) → int_rem m n ≡ r
remainder_is m n r h = by (int_eq n (pos 0)) (is_int (int_div m n)) h where
  by : (b c : Bool)
      → (if b then Err fault.DivideByZero else on_ok (if c then Ok (scalar.Int (int_div m n)) else Err fault.Overflow) (λ quotient. Ok (scalar.Int (int_rem m n)))) ≡ Ok (scalar.Int r)
      → int_rem m n ≡ r
  by true c k = absurd cc
  by false true k = cc
  by false false k = absurd cc

size_of : (n : ℤ) → int_eq n (pos 0) ≡ false → 0 < unsigned_abs n
size_of (pos zero) h = absurd (true≢false h)
size_of (pos (suc k)) h = omega arith
size_of (negsuc k) h = omega arith

at_most_zero : (k : ℕ) → int_le (neg_ℤ (pos k)) (pos 0) ≡ true
at_most_zero zero = refl
at_most_zero (suc k) = refl

sign_of : (m n : ℤ) → HasSignOf m (int_rem m n)
sign_of (pos a) n = leb-zero _
sign_of (negsuc a) n = at_most_zero _

pub divides : Divides
divides m n q r h k =
    let quotient = quotient_is m n q h in
    let remainder = remainder_is m n r k in
    record {
      whole = ap (λ (z : ℤ). z *ℤ n +ℤ r) (sym quotient.1) ∙ ap (λ (z : ℤ). int_div m n *ℤ n +ℤ z) (sym remainder) ∙ quot-rem m n;
      small = subst (λ (z : ℤ). unsigned_abs z < unsigned_abs n) remainder (rem_below m n (size_of n quotient.0));
      signed = subst (λ (z : ℤ). HasSignOf m z) remainder (sign_of m n);
    }

-- ---- texts

pub finds_prefixes : FindsPrefixes
finds_prefixes text needle =
    let is = starts_is Decides-eqb text needle (begins_with text needle) refl in
    ((λ h. (drop (length needle) text, is.0 h)), λ k. is.1 k.0 k.1)

pub finds_suffixes : FindsSuffixes
finds_suffixes text needle =
    let is = ends_is Decides-eqb text needle (ends_in text needle) refl in
    ((λ h. (take (length text - length needle) text, is.0 h)), λ k. is.1 k.0 k.1)

abbrev IsPart : List ℕ → List ℕ → Type 0
IsPart text needle = (front : List ℕ) × (rest : List ℕ) × (text ≡ front ++ (needle ++ rest))

at_front : (text needle : List ℕ) → begins_with text needle ≡ true → IsPart text needle
at_front text needle h = let prefix = (finds_prefixes text needle).0 h in ([], prefix.0, prefix.1)

part_by : (b : ℕ) (bs needle : List ℕ) → (has_in bs needle ≡ true → IsPart bs needle) → (t : Bool) → begins_with (b ∷ bs) needle ≡ t → (t || has_in bs needle) ≡ true → IsPart (b ∷ bs) needle
part_by b bs needle later true is h = at_front (b ∷ bs) needle is
part_by b bs needle later false is h = let part = later h in (b ∷ part.0, part.1, ap (λ (l : List ℕ). b ∷ l) part.2)

part_found : (text needle : List ℕ) → has_in text needle ≡ true → IsPart text needle
part_found [] needle h = at_front [] needle h
part_found (b ∷ bs) needle h = part_by b bs needle (part_found bs needle) (begins_with (b ∷ bs) needle) refl h

either_left : (t u : Bool) → t ≡ true → (t || u) ≡ true
either_left true u h = refl
either_left false u h = absurd (true≢false (sym h))

either_right : (t u : Bool) → u ≡ true → (t || u) ≡ true
either_right true u h = refl
either_right false u h = h

finds_part : (text needle front rest : List ℕ) → text ≡ front ++ (needle ++ rest) → has_in text needle ≡ true
finds_part [] needle [] rest h = (finds_prefixes [] needle).1 (rest, h)
finds_part [] needle (c ∷ front) rest h = absurd cc
finds_part (b ∷ bs) needle [] rest h = either_left (begins_with (b ∷ bs) needle) (has_in bs needle) ((finds_prefixes (b ∷ bs) needle).1 (rest, h))
finds_part (b ∷ bs) needle (c ∷ front) rest h = either_right (begins_with (b ∷ bs) needle) (has_in bs needle) (finds_part bs needle front rest (ap (drop 1) h))

pub finds_parts : FindsParts
finds_parts text needle = (part_found text needle, λ part. finds_part text needle part.0 part.1 part.2)
