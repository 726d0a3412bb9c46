-- Laws of the methods of sequences: what each reads, where it stops, and which fault it meets.
use Rattle.std.specs.Prelude.{◌≡◌, ◌∷◌, ◌++◌, List, [], ℕ, ℤ, pos, negsuc, ◌+ℤ◌, Bool, true, false, Result, Ok, Err, filter, length, not}
use Rattle.lq_value.specs.declared.scalar.Scalar.{Scalar}
use Rattle.lq_value.specs.declared.scalar.Scalar.TheVariants as scalar
use Rattle.lq_value.specs.declared.value.End.{End}
use Rattle.lq_value.specs.declared.value.End.TheVariants as end
use Rattle.lq_value.specs.declared.value.Fault.{Fault}
use Rattle.lq_value.specs.declared.value.Fault.TheVariants as fault
use Rattle.lq_language.specs.Enumerable.{all, any, as_count, concat, contains, default_if_empty, distinct, element_at, except, first, greatest, intersect, last, least, reversed, single, skip, summed, take_first, union}
use Rattle.lq_language.specs.ValuesOfTypes.{Every}
use Rattle.lq_language.specs.Operations.{is_int}
use Rattle.lq_language.specs.Stream.{Stream}

-- What stops at an item is the same whatever comes after it, and whatever the ending is: the first item, the item that is the same, the
-- one on which a condition is false, the second one, the one after so many, and the last of so many.
abbrev pub StopsAtItems : Type 0 → Type 0
StopsAtItems A =
    (x y : A) (xs ys : List A) (e : End) (none : Result A Fault)
    → (any (x ∷ xs) e ≡ Ok true)
    × (first none (x ∷ xs) e ≡ Ok x)
    × (single none (x ∷ y ∷ ys) e ≡ Err fault.InvalidOperation)
    × (element_at (pos (length xs)) (xs ++ x ∷ ys) e ≡ Ok x)
    × (take_first (length xs) (xs ++ ys) e ≡ (xs, end.Done))
    × ((c : A → Result Bool Fault) → c x ≡ Ok false → all c (x ∷ xs) e ≡ Ok false)
    × ((same : A → A → Bool) (v : A) → same v x ≡ true → contains same v (x ∷ xs) e ≡ Ok true)

-- And what is read up to a fault meets it: where nothing stops before, where all is read, and where the second sequence is read first.
abbrev pub MeetsTheEnding : Type 0 → Type 0
MeetsTheEnding A =
    (x : A) (xs : List A) (s : Stream A) (f : Fault) (none : Result A Fault) (same : A → A → Bool)
    → (any {A = A} [] (end.Fault f) ≡ Err f)
    × (first none [] (end.Fault f) ≡ Err f)
    × (single none (x ∷ []) (end.Fault f) ≡ Err f)
    × (last none xs (end.Fault f) ≡ Err f)
    × (reversed xs (end.Fault f) ≡ ([], end.Fault f))
    × (default_if_empty x [] (end.Fault f) ≡ ([], end.Fault f))
    × (intersect same s (xs, end.Fault f) ≡ ([], end.Fault f))
    × (except same s (xs, end.Fault f) ≡ ([], end.Fault f))
    × (concat (xs, end.Fault f) s ≡ (xs, end.Fault f))

-- nothing is read for no items, and none for a place before the first
abbrev pub ReadsNothing : Type 0 → Type 0
ReadsNothing A =
    (xs : List A) (e : End) (n : ℕ)
    → (take_first (as_count (negsuc n)) xs e ≡ ([], end.Done)) × (take_first (as_count (pos 0)) xs e ≡ ([], end.Done))
    × (skip (as_count (negsuc n)) xs e ≡ (xs, e)) × (element_at {A = A} (negsuc n) xs e ≡ Err fault.ArgumentOutOfRange)

-- where there is no item, and the source comes to its end
abbrev pub AnswersNone : Type 0 → Type 0
AnswersNone A =
    (x : A) (none : Result A Fault) (n : ℕ)
    → (default_if_empty x [] end.Done ≡ (x ∷ [], end.Done)) × (first none [] end.Done ≡ none) × (last none [] end.Done ≡ none) × (single none [] end.Done ≡ none)
    × (element_at {A = A} (pos n) [] end.Done ≡ Err fault.ArgumentOutOfRange) × (any {A = A} [] end.Done ≡ Ok false)

-- `Distinct` gives the first item, and after it no other that is the same; `Union` the items of the first before those of the second
abbrev pub KeepsFirstAppearances : Type 0 → Type 0
KeepsFirstAppearances A =
    (same : A → A → Bool) (x : A) (xs ys : List A) (d e : End)
    → (distinct same (x ∷ xs) e ≡ (x ∷ filter (λ y. not (same x y)) (distinct same xs e).0, e)) × (union same (xs, end.Done) (ys, e) ≡ distinct same (xs ++ ys) e)
    × Every (λ y. same x y ≡ false) (filter (λ y. not (same x y)) (distinct same xs e).0)

-- a sum that leaves int is an overflow at that item, whatever comes after it
abbrev pub SumsInTurn : Type 0
SumsInTurn =
    (total n : ℤ) (ns : List ℤ) (e : End)
    → (is_int (total +ℤ n) ≡ false → summed total (n ∷ ns) e ≡ Err fault.Overflow) × (is_int (total +ℤ n) ≡ true → summed total (n ∷ ns) e ≡ summed (total +ℤ n) ns e)
    × (summed total [] end.Done ≡ Ok (scalar.Int total))

-- numbers are all read, and of none there is the answer of none
abbrev pub ComparesAll : Type 0
ComparesAll =
    (none : Result Scalar Fault) (ns : List ℤ) (f : Fault)
    → (least none ns (end.Fault f) ≡ Err f) × (greatest none ns (end.Fault f) ≡ Err f) × (least none [] end.Done ≡ none) × (greatest none [] end.Done ≡ none)
