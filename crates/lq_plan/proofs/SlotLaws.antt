-- What stands at the places of a chain of slots.
use Rattle.std.proofs.Common.{◌≡◌, ◌∷◌, ◌++◌, ◌+◌, ◌≤◌, List, [], ℕ, zero, suc, Some, None, ap, ◌∙◌, refl, length, slice_get, ◌-◌, arith, length-append, Bor}
use Rattle.std.proofs.lemmas.Option.{none-some, slice_get_past}
use Rattle.lq_value.specs.declared.value.Value.{Value}
use Rattle.lq_plan.specs.Slots.{slots_step, values_in}
use Rattle.lq_plan.specs.declared.slots.Slots.{Slots, fold_out-Slots, map-Slots, out-Slots}
use Rattle.lq_plan.specs.declared.slots.Slots.TheVariants as slots
use Rattle.lq_plan.specs.declared.slots.Slots.TheVariants.{outs-Empty, outs-With}
use Rattle.lq_plan.specs.declared.slots.Slots.TheViews as views

module _ {R : Type 0} where
  pub values_out : (s : Slots R) → values_in s ≡ slots_step (map-Slots R (Slots R) (List (Value R)) values_in (out-Slots R s))
  unfolding values_in
  values_out s = fold_out-Slots R (List (Value R)) slots_step s

  -- the chain of none, and of one slot more
  pub no_values : values_in {R = R} slots.Empty ≡ []
  no_values = values_out slots.Empty ∙ ap (λ layer. slots_step (map-Slots R (Slots R) (List (Value R)) values_in layer)) outs-Empty

  pub more_values : (outer : Bor (Slots R)) (v : Bor (Value R)) → values_in (views.With outer v) ≡ values_in outer.now ++ v.now ∷ []
  more_values outer v = values_out (views.With outer v) ∙ ap (λ layer. slots_step (map-Slots R (Slots R) (List (Value R)) values_in layer)) (outs-With outer v)

module _ {A : Type 0} where
  pub found_before : (xs ys : List A) (n : ℕ) (w : A) → slice_get xs n ≡ Some w → slice_get (xs ++ ys) n ≡ Some w
  found_before [] ys n w h = absurd (none-some w h)
  found_before (x ∷ xs) ys zero w h = h
  found_before (x ∷ xs) ys (suc n) w h = found_before xs ys n w h

  pub last_found : (xs : List A) (v : A) → slice_get (xs ++ v ∷ []) (length xs) ≡ Some v
  last_found [] v = refl
  last_found (x ∷ xs) v = last_found xs v

  pub found_last : (xs : List A) (v : A) (n : ℕ) → n ≡ length xs + 0 → slice_get (xs ++ v ∷ []) n ≡ Some v
  found_last xs v n h = ap (slice_get (xs ++ v ∷ [])) (h ∙ (omega arith)) ∙ last_found xs v

  -- how many slots there are with none and with one more, and what stands in the next one once it is filled
  pub none_more : (xs : List A) → length xs ≡ length xs + 0
  none_more xs = omega arith

  pub one_behind : (xs : List A) (v : A) → length (xs ++ v ∷ []) ≡ length xs + 1
  one_behind xs v = grind (arith, length-append)

  pub found_next : (xs : List A) (v : A) (n : ℕ) → n ≡ length xs → slice_get (xs ++ v ∷ []) n ≡ Some v
  found_next xs v n h = ap (slice_get (xs ++ v ∷ [])) h ∙ last_found xs v

  pub one_more : (xs : List A) (v : A) (n k : ℕ) → 1 ≤ k → n ≡ length xs + k → n ≡ length (xs ++ v ∷ []) + (k - 1)
  one_more xs v n k below h = grind (arith, length-append, below, h)

  pub past_all : (xs : List A) (n k : ℕ) → n ≡ length xs + k → slice_get xs n ≡ None
  past_all xs n k h = slice_get_past xs n (omega (arith, h))

pub ruleset chains = (no_values, more_values)

pub ruleset places = (found_before, found_last, one_more)
