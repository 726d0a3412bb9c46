-- Ranges and accepted sets: a host's test may be called within its range, and answers there by a finite set. There is one such set.
use Rattle.std.specs.Prelude.{◌≡◌, ◌&&◌, ◌∷◌, ◌+ℤ◌, ◌-ℤ◌, List, [], ℕ, zero, suc, ℤ, pos, negsuc, Bool, true, false, int_le, map}
use Rattle.std.specs.List.{flat_map}
use Rattle.std.proofs.Common.{refl, sym, ◌∙◌}
use Rattle.std.specs.Cmp.{IsTotalOrder, int_cmp_total, on_total, then_total}
use Rattle.std.specs.declared.cmp.Ordering.{Ordering}
use Rattle.std.specs.declared.cmp.Ordering.TheVariants.{Less, Equal, Greater}
use Rattle.std.specs.Ordering.{int_cmp, on, ordering_then, then_cmp}
use Rattle.std.specs.FinSet.{FinSet, IsAntisymmetric, contains, from_list, int_cmp-IsAntisymmetric, retain, same_set}
use mathlib.Core.Bool.{Bool-set, true≢false}
use mathlib.Core.HLevel.{Σ_prop_path, Π_prop, →_prop, ×₃_prop}
use mathlib.Core.Logic.{∥∥₁_elim, ∥∥₁_prop}

-- whether a number is no less than the first of two and no greater than the second
abbrev pub is_within : ℤ × ℤ → ℤ → Bool
is_within range x = int_le range.0 x && int_le x range.1

-- whether a pair is in a rectangle: its first number in the first range, its second in the second
abbrev pub is_within_both : (ℤ × ℤ) × (ℤ × ℤ) → ℤ × ℤ → Bool
is_within_both ranges pair = is_within ranges.0 pair.0 && is_within ranges.1 pair.1

-- the order of pairs: by their first numbers, and where these are equal by the second
abbrev pub pair_cmp : ℤ × ℤ → ℤ × ℤ → Ordering
pair_cmp = then_cmp (on (λ pair. pair.0) int_cmp) (on (λ pair. pair.1) int_cmp)

-- a finite set of numbers, and one of pairs of numbers
abbrev pub Numbers : Type 0
Numbers = FinSet int_cmp

abbrev pub Pairs : Type 0
Pairs = FinSet pair_cmp

-- A test, by what it may answer to what it is asked, answers by a set: within its range it may give the set's answer and no other one,
-- and nothing outside of the range is in the set.
abbrev pub AnswersBy : {K : Type 0} {R : K → K → Ordering} → (K → Bool) → (K → Bool → Type 0) → FinSet R → Type 0
AnswersBy {K} within answers set =
    ((x : K) → within x ≡ true → (answer : Bool) → answers x answer → answer ≡ contains set x)
    × ((x : K) → within x ≡ true → ∥ answers x (contains set x) ∥₁)
    × ((x : K) → contains set x ≡ true → within x ≡ true)

-- the accepted set of a test
abbrev pub Accepted : {K : Type 0} → (K → K → Ordering) → (K → Bool) → (K → Bool → Type 0) → Type 0
Accepted R within answers = (set : FinSet R) × AnswersBy within answers set

-- ---- accepted sets of some tests

-- this many numbers, one after another from the first on
abbrev pub numbers_from : ℤ → ℕ → List ℤ
numbers_from first zero = []
numbers_from first (suc n) = first ∷ numbers_from (first +ℤ pos 1) n

-- the numbers from the first on up to one that is so far from it
abbrev pub numbers_up : ℤ → ℤ → List ℤ
numbers_up first (pos n) = numbers_from first (suc n)
numbers_up first (negsuc n) = []

-- the numbers of a range, in their order
abbrev pub numbers_within : ℤ × ℤ → List ℤ
numbers_within range = numbers_up range.0 (range.1 -ℤ range.0)

-- the numbers of a range that pass a test
abbrev pub passing : (ℤ → Bool) → ℤ × ℤ → Numbers
passing test range = retain (from_list (numbers_within range)) test

-- the pairs of a rectangle that pass a test
abbrev pub passing_pairs : (ℤ × ℤ → Bool) → (ℤ × ℤ) × (ℤ × ℤ) → Pairs
passing_pairs test ranges =
    retain (from_list (flat_map (λ x. map (λ y. (x, y)) (numbers_within ranges.1)) (numbers_within ranges.0))) test

-- ---- there is one accepted set at most

-- what is outside of the range is in no set that lies within it
outside : (in_range in_set : Bool) → in_range ≡ false → (in_set ≡ true → in_range ≡ true) → in_set ≡ false
outside in_range true e f = absurd (true≢false (sym (f refl) ∙ e))
outside in_range false e f = refl

module _ {K : Type 0} {R : K → K → Ordering} where
  AnswersBy-prop : (within : K → Bool) (answers : K → Bool → Type 0) (set : FinSet R) → IsProp (AnswersBy within answers set)
  AnswersBy-prop within answers set =
      ×₃_prop (Π_prop (λ x. →_prop (Π_prop (λ answer. →_prop (Bool-set answer (contains set x))))))
      (Π_prop (λ x. →_prop ∥∥₁_prop)) (Π_prop (λ x. →_prop (Bool-set (within x) true)))

  pub one_set : IsTotalOrder R → IsAntisymmetric R → (within : K → Bool) (answers : K → Bool → Type 0) (s t : FinSet R)
      → AnswersBy within answers s → AnswersBy within answers t → s ≡ t
  one_set total apart within answers s t by_s by_t = same_set total apart s t (λ x. by x (within x) refl)
    where
      by : (x : K) (b : Bool) → within x ≡ b → contains s x ≡ contains t x
      by x true e = ∥∥₁_elim (by_s.1 x e) (Bool-set (contains s x) (contains t x)) (λ a. by_t.0 x e (contains s x) a)
      by x false e = outside (within x) (contains s x) e (by_s.2 x) ∙ sym (outside (within x) (contains t x) e (by_t.2 x))

  one_accepted : IsTotalOrder R → IsAntisymmetric R → (within : K → Bool) (answers : K → Bool → Type 0) → IsProp (Accepted R within answers)
  one_accepted total apart within answers s t =
      Σ_prop_path (AnswersBy-prop within answers) (one_set total apart within answers s.0 t.0 s.1 t.1)

pub accepted_numbers-prop : (within : ℤ → Bool) (answers : ℤ → Bool → Type 0) → IsProp (Accepted int_cmp within answers)
accepted_numbers-prop = one_accepted int_cmp_total int_cmp-IsAntisymmetric

pub pair_cmp_total : IsTotalOrder pair_cmp
pair_cmp_total = then_total (on_total (λ pair. pair.0) int_cmp_total) (on_total (λ pair. pair.1) int_cmp_total)

pub pair_cmp-IsAntisymmetric : IsAntisymmetric pair_cmp
pair_cmp-IsAntisymmetric p q e = by (int_cmp p.0 q.0) refl e
  where
    by : (r : Ordering) → int_cmp p.0 q.0 ≡ r → ordering_then r (int_cmp p.1 q.1) ≡ Equal → p ≡ q
    by Equal f g = λ i. (int_cmp-IsAntisymmetric p.0 q.0 f i, int_cmp-IsAntisymmetric p.1 q.1 g i)
    by Less f g = cc
    by Greater f g = cc

pub accepted_pairs-prop : (within : ℤ × ℤ → Bool) (answers : ℤ × ℤ → Bool → Type 0) → IsProp (Accepted pair_cmp within answers)
accepted_pairs-prop = one_accepted pair_cmp_total pair_cmp-IsAntisymmetric
