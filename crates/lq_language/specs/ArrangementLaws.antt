-- Laws of `orderby`'s arrangement: it is sorted by the keys, and items with the same keys are all there, in the order that they had.
use Rattle.std.specs.Prelude.{◌≡◌, ◌∷◌, List, [], filter, Bool, true, false}
use Rattle.lq_language.specs.Arrangement.{Keyed, arranged, is_greater, order_of_keys}

-- no item comes after one that its keys put after it
abbrev pub IsSorted : {A : Type 0} → List Bool → List (Keyed A) → Type 0
IsSorted ds [] = Unit {0}
IsSorted ds (row ∷ []) = Unit {0}
IsSorted ds (row ∷ other ∷ rows) = (is_greater (order_of_keys ds row.0 other.0) ≡ false) × IsSorted ds (other ∷ rows)

abbrev pub ArrangesByKeys : Type 0 → Type 0
ArrangesByKeys A = (ds : List Bool) (rows : List (Keyed A)) → IsSorted ds (arranged ds rows)

-- a test that only items with one list of keys pass
abbrev pub TellsOne : {A : Type 0} → (Keyed A → Bool) → Type 0
TellsOne {A} test = (row other : Keyed A) → test row ≡ true → test other ≡ true → row.0 ≡ other.0

-- items with one list of keys are the same ones in the same order, before the arrangement and after it
abbrev pub KeepsTies : Type 0 → Type 0
KeepsTies A = (ds : List Bool) (rows : List (Keyed A)) (test : Keyed A → Bool) → TellsOne test → filter test (arranged ds rows) ≡ filter test rows
