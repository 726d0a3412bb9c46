-- Sets of names, as lists without repetition.
use Rattle.std.specs.Prelude.{◌∷◌, ◌++◌, if◌then◌else◌, List, [], ℕ}
use Rattle.lq_policyfile.specs.Names.{is_among}

-- a set with one more name, unless it is there
abbrev pub with_name : List (List ℕ) → List ℕ → List (List ℕ)
with_name names name = if is_among names name then names else names ++ name ∷ []

-- a set with more names, each unless it is there
abbrev pub with_names : List (List ℕ) → List (List ℕ) → List (List ℕ)
with_names set [] = set
with_names set (name ∷ names) = with_names (with_name set name) names
