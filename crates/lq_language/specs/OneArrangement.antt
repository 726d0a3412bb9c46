-- Laws of `orderby`'s arrangement: it is of the items with their own keys, and there is no other that is
-- sorted and keeps the order of items with the same keys.
use Rattle.std.specs.Prelude.{◌≡◌, List, filter, map, Bool, Result, Ok, length}
use Rattle.lq_value.specs.declared.scalar.Scalar.{Scalar}
use Rattle.lq_value.specs.declared.value.End.TheVariants as end
use Rattle.lq_value.specs.declared.value.Fault.{Fault}
use Rattle.lq_language.specs.Arrangement.{Keyed, arranged, order_by}
use Rattle.lq_language.specs.ArrangementLaws.{IsSorted, TellsOne}
use Rattle.lq_language.specs.ValuesOfTypes.{Every}

-- each item has one key for each direction
abbrev pub HasEachKey : {A : Type 0} → List Bool → List (Keyed A) → Type 0
HasEachKey ds rows = Every (λ row. length row.0 ≡ length ds) rows

-- the items with one list of keys are the same in both lists, and in the same order
abbrev pub HasTiesOf : {A : Type 0} → List (Keyed A) → List (Keyed A) → Type 0
HasTiesOf {A} rows others =
    (test : Keyed A → Bool) → TellsOne test → filter test others ≡ filter test rows

-- so there is one list at most that is sorted by the keys and has the items in this way
abbrev pub ArrangesOnce : Type 0 → Type 0
ArrangesOnce A =
    (ds : List Bool) (rows others : List (Keyed A)) → HasEachKey ds rows → IsSorted ds others
    → HasTiesOf rows others → others ≡ arranged ds rows

-- each sort key is found for each item
abbrev pub AreFound : {A S : Type 0} → (S → A → Result Scalar Fault) → (S → A → Scalar) → List S → List A → Type 0
AreFound key found ss xs = Every (λ s. Every (λ x. key s x ≡ Ok (found s x)) xs) ss

-- then `orderby` gives the items as they are arranged by their own keys, the first of which counts most
abbrev pub ArrangesItems : Type 0 → Type 0 → Type 0
ArrangesItems A S =
    (descending : S → Bool) (key : S → A → Result Scalar Fault) (found : S → A → Scalar) (ss : List S)
    (xs : List A) → AreFound key found ss xs
    → let rows = arranged (map descending ss) (map (λ x. (map (λ s. found s x) ss, x)) xs) in
    order_by descending key ss xs end.Done ≡ (map (λ row. row.1) rows, end.Done)
