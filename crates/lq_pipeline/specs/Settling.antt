-- How many rows settle a query: the shortest front of a table's rows that does.
use Rattle.std.specs.Prelude.{◌∷◌, ◌||◌, if◌then◌else◌, List, [], ℕ, zero, suc, Bool, true, false, Option, Some, None}
use Rattle.lq_value.specs.declared.value.End.{End}
use Rattle.lq_value.specs.declared.value.End.TheVariants as end
use Rattle.lq_language.specs.Stream.{Stream, each}

module _ {A : Type 0} where
  -- the shortest front of a list that passes a test; the whole list, where none of its fronts does
  abbrev pub shortest : (List A → Bool) → List A → List A
  shortest passes [] = []
  shortest passes (x ∷ xs) = if passes [] then [] else x ∷ shortest (λ ys. passes (x ∷ ys)) xs

  -- whether a list has so many items
  abbrev pub has_at_least : ℕ → List A → Bool
  has_at_least zero xs = true
  has_at_least (suc n) [] = false
  has_at_least (suc n) (x ∷ xs) = has_at_least n xs

  -- and whether it reaches a limit, if there is one
  abbrev pub reaches : Option ℕ → List A → Bool
  reaches (Some n) xs = has_at_least n xs
  reaches None xs = false

abbrev pub is_fault : End → Bool
is_fault end.Done = false
is_fault (end.Fault f) = true

-- whether a stream settles what is decided by its items: a fault ends it, or they decide
abbrev pub is_settled : {A : Type 0} → (List A → Bool) → Stream A → Bool
is_settled decide s = is_fault s.1 || decide s.0

module _ {R A : Type 0} (come : R → Stream A) where
  -- what comes of these rows alone
  abbrev pub over : List R → Stream A
  over rows = each come rows end.Done

  -- those of the rows that are needed until this is decided by what comes of them
  abbrev pub needed : (List A → Bool) → List R → List R
  needed decide rows = shortest (λ front. is_settled decide (over front)) rows
