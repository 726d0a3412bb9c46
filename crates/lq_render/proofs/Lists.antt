-- Items as their data, and texts that repeat.
use Rattle.std.proofs.Common.{◌≡◌, ◌++◌, ◌<◌, ◌-◌, ◌∷◌, ◌∙◌, [], List, ℕ, Result, Ok, Err, OnOk, zero, suc, ap, ap₂, append_assoc, arith, length, map, refl, take}
use Rattle.std.specs.List.{repeat}
use Rattle.std.proofs.lemmas.List.{length-map, take-map}
use Rattle.serde_json.specs.View.{items_view, view}
use Rattle.serde_json.specs.declared.value.Value.{Value}
use Rattle.serde_json.specs.Data.{Data}
use Rattle.lq_render.specs.Parts.{data_list, first_text, left_out}

-- a text some times is the text and then the text once less
pub repeat_less : (n : ℕ) (xs : List ℕ) → 0 < n → repeat n xs ≡ xs ++ repeat (n - 1) xs
repeat_less zero xs h = absurd (omega arith)
repeat_less (suc n) xs h = let less : n ≡ suc n - 1 = omega arith in ap (λ m. xs ++ repeat m xs) less

-- the items of an array are the data of its values
pub data_list_view : (vs : List Value) → data_list (items_view vs) ≡ map view vs
data_list_view [] = refl
data_list_view (v ∷ vs) = ap (λ ds. view v ∷ ds) (data_list_view vs)

-- the first items are before the number of those that are left out
pub first_and_rest : {T E : Type 0} (r : Result T E) (old mid new indent : List ℕ) (most left : ℕ) (shown : List Data → List ℕ) (items first : List Data)
    → mid ≡ old ++ shown first → first ≡ take most items → left ≡ length items - most → OnOk r (new ≡ mid ++ left_out indent left)
    → OnOk r (new ≡ old ++ first_text most indent shown items)
first_and_rest (Ok x) old mid new indent most left shown items first begun first_are left_is all =
    all ∙ ap₂ (λ (m : List ℕ) (n : ℕ). m ++ left_out indent n) (begun ∙ ap (λ (ds : List Data). old ++ shown ds) first_are) left_is
    ∙ append_assoc old (shown (take most items)) (left_out indent (length items - most))
first_and_rest (Err e) old mid new indent most left shown items first begun first_are left_is all = tt

pub shown_count : (vs : List Value) → length (map view vs) ≡ length vs
shown_count vs = length-map vs view

pub shown_first : (n : ℕ) (vs : List Value) → take n (map view vs) ≡ map view (take n vs)
shown_first n vs = take-map view n vs
