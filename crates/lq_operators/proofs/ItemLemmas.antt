-- Where the items that an operator asks for are in a list.
use Rattle.std.proofs.Common.{◌≡◌, ◌∷◌, ◌++◌, ◌<◌, ◌≤◌, List, [], ℕ, zero, suc, Result, Ok, Err, drop, take, length, ap, refl, arith}
use Rattle.lq_value.specs.declared.value.End.{End}
use Rattle.lq_value.specs.declared.value.End.TheVariants as end
use Rattle.lq_value.specs.declared.value.Fault.{Fault}
use Rattle.lq_value.specs.declared.value.Fault.TheVariants as fault
use Rattle.lq_language.specs.Enumerable.{first, in_front, item_behind, last_of, single, last, take_first}

module _ {A : Type 0} where
  pub last_pushed : (none : Result A Fault) (xs : List A) (x : A) → last_of none (xs ++ x ∷ []) ≡ Ok x
  last_pushed none [] x = refl
  last_pushed none (y ∷ ys) x = last_pushed (Ok y) ys x

  -- of one item at most, the last is the only one
  pub single_last : (none : Result A Fault) (xs : List A) (e : End) → length xs ≤ 1 → last none xs e ≡ single none xs e
  single_last none [] e h = refl
  single_last none (x ∷ []) e h = refl
  single_last none (x ∷ y ∷ ys) e h = absurd (omega arith)

  pub single_more : (none : Result A Fault) (xs : List A) (e : End) → 1 < length xs → Err fault.InvalidOperation ≡ single none xs e
  single_more none [] e h = absurd (omega arith)
  single_more none (x ∷ []) e h = absurd (omega arith)
  single_more none (x ∷ y ∷ ys) e h = refl

  pub first_behind : (n : ℕ) (xs : List A) (e : End) → first (Err fault.ArgumentOutOfRange) (drop n xs) e ≡ item_behind n xs e
  first_behind zero [] e = refl
  first_behind zero (x ∷ xs) e = refl
  first_behind (suc n) [] e = refl
  first_behind (suc n) (x ∷ xs) e = first_behind n xs e

  pub too_few : (n : ℕ) (xs : List A) (e : End) → length xs < n → (xs, e) ≡ take_first n xs e
  too_few zero xs e h = absurd (omega arith)
  too_few (suc n) [] e h = refl
  too_few (suc n) (x ∷ xs) e h = ap (in_front x) (too_few n xs e (omega arith))

  pub enough : (n : ℕ) (xs : List A) (e : End) → n ≤ length xs → (take n xs, end.Done) ≡ take_first n xs e
  enough zero xs e h = refl
  enough (suc n) [] e h = absurd (omega arith)
  enough (suc n) (x ∷ xs) e h = ap (in_front x) (enough n xs e (omega arith))

pub ruleset singles = (single_last, single_more)

pub ruleset taken = (too_few, enough)
