-- Places of values that pass a test, values picked by places, and groups at places.
use Rattle.std.specs.Prelude.{◌≡◌, ◌∷◌, ◌++◌, if◌then◌else◌, List, [], map, ℕ, zero, suc, Bool, false, Option, Some, None, slice_get}
use Rattle.std.specs.List.{list_any}
use Rattle.std.specs.Option.{option_to_list}
use Rattle.lq_value.specs.KeyTests.{key_is}
use Rattle.lq_value.specs.Keys.{key_value}
use Rattle.lq_value.specs.Lookups.{places}
use Rattle.lq_value.specs.SameAndOrder.{same_values}
use Rattle.lq_value.specs.declared.key.Key.{Key}
use Rattle.lq_value.specs.declared.value.Value.{Value}
use Rattle.lq_lookup.specs.Finding.{places_of}
use Rattle.lq_lookup.specs.declared.nulls.Nulls.{Nulls}

-- the lookup finds each key's places, null's as well
abbrev pub FindsKeys : Nulls × List (Key × List ℕ) → List Key → Type 0
FindsKeys lookup ks = (q : Key) → places_of lookup q ≡ places (key_is q) ks

-- a value whose key isn't among the keys is the same as none of the values
abbrev pub AreKnown : {R : Type 0} → List Key → List (Value R) → Type 0
AreKnown {R} keys vs = (v : Value R) → list_any (key_is (key_value v)) keys ≡ false → list_any (λ w. same_values w v) vs ≡ false

module _ {A : Type 0} where
  abbrev pub passes : (A → Bool) → Option A → Bool
  passes test None = false
  passes test (Some x) = test x

  -- whether the item at a place passes
  abbrev pub passes_at : (A → Bool) → List A → ℕ → Bool
  passes_at test xs place = passes test (slice_get xs place)

  -- the place of the first item that passes, and past the last place where none does
  abbrev pub place_in : (A → Bool) → List A → ℕ
  place_in test [] = 0
  place_in test (x ∷ xs) = if test x then 0 else suc (place_in test xs)

  -- none is the same as one after it
  abbrev pub AreUnlike : (A → A → Bool) → List A → Type 0
  AreUnlike same [] = Unit {0}
  AreUnlike same (x ∷ xs) = (list_any (same x) xs ≡ false) × AreUnlike same xs

-- a place is that of the group of a key, where no two groups have one key
abbrev pub IsPlaceOf : {R V : Type 0} → Value R → List (Value R × V) → ℕ → Type 0
IsPlaceOf key groups place = AreUnlike same_values (map (λ group. group.0) groups) → place ≡ place_in (λ group. same_values group.0 key) groups

module _ {A B : Type 0} where
  -- groups with one more element in the one at a place
  abbrev pub pushed_at : List (A × List B) → ℕ → B → List (A × List B)
  pushed_at [] n x = []
  pushed_at (g ∷ gs) zero x = (g.0, g.1 ++ x ∷ []) ∷ gs
  pushed_at (g ∷ gs) (suc n) x = g ∷ pushed_at gs n x

  -- what is at a place whose key passes
  abbrev pub picked_at : (A → Bool) → List A → List B → ℕ → List B
  picked_at test ks xs place = if passes_at test ks place then option_to_list (slice_get xs place) else []

  -- what is at those places whose keys pass
  abbrev pub picked : (A → Bool) → List A → List B → List ℕ → List B
  picked test ks xs [] = []
  picked test ks xs (place ∷ places) = picked_at test ks xs place ++ picked test ks xs places
