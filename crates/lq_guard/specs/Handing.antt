-- Which rows are handed out while one is looked for of which a test doesn't say no, and how they are counted.
use Rattle.std.specs.Prelude.{◌≡◌, ◌∷◌, ◌++◌, ◌+◌, ◌-◌, ◌^◌, List, [], ℕ, min, Bool, true, false, Option, Some, None}
use Rattle.lq_language.specs.ValuesOfTypes.{Every}

-- one more, up to the largest number of 64 bits
abbrev pub one_more : ℕ → ℕ
one_more n = min (n + 1) (2 ^ 64 - 1)

-- so many, with these rows
abbrev pub counted : {R : Type 0} → ℕ → List R → ℕ
counted n [] = n
counted n (r ∷ rows) = counted (one_more n) rows

module _ {R : Type 0} (says : R → Option Bool) where
  -- of rows, these are left; the test says no of each one before them; and so many are counted then
  pub record Drops (rows : List R) (n : ℕ) (left : List R) (m : ℕ) : Type 0 where
    pub dropped : List R
    pub is : rows ≡ dropped ++ left
    pub count : m ≡ counted n dropped
    pub do_not_pass : Every (λ r. says r ≡ Some false) dropped

  -- a row is handed out behind such rows, and counted with them
  abbrev pub Hands : List R → ℕ → R → List R → ℕ → Type 0
  Hands rows n r left m = (k : ℕ) × Drops rows n (r ∷ left) k × (m ≡ one_more k)

  -- no row is handed out but such rows, and none is left
  abbrev pub DropsAll : List R → ℕ → List R → ℕ → Type 0
  DropsAll rows n left m = Drops rows n [] m × (left ≡ [])

  -- the row that is found, of which the test says yes, or nothing; or none
  abbrev pub Finds : List R → ℕ → Option (R × Bool) → List R → ℕ → Type 0
  Finds rows n (Some (r, true)) left m = (says r ≡ Some true) × Hands rows n r left m
  Finds rows n (Some (r, false)) left m = (says r ≡ None) × Hands rows n r left m
  Finds rows n None left m = DropsAll rows n left m
