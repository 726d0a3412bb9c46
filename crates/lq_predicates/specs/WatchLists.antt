-- Lists of numbers, as the command line has them.
use Rattle.std.specs.Prelude.{◌==◌, ◌∷◌, List, [], ℕ, ℤ, Bool, Option, Some, None}
use Rattle.std.specs.List.{slice_split}
use Rattle.lq_load.specs.Cells.{int_of}

-- whether a byte is a comma
abbrev pub is_comma : ℕ → Bool
is_comma c = c == 44

-- a number before some others, where all are numbers
abbrev pub before : Option ℤ → Option (List ℤ) → Option (List ℤ)
before (Some number) (Some numbers) = Some (number ∷ numbers)
before _ _ = None

-- the numbers that texts spell, where each spells one
abbrev pub numbers_of : List (List ℕ) → Option (List ℤ)
numbers_of [] = Some []
numbers_of (text ∷ texts) = before (int_of text) (numbers_of texts)

-- the numbers of a list: what stands before, between and behind its commas
abbrev pub numbers_of_list : List ℕ → Option (List ℤ)
numbers_of_list list = numbers_of (slice_split is_comma list)
