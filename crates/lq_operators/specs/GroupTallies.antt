-- The tallies of rows of numbers by their keys, as one row after another is added.
use Rattle.std.specs.Prelude.{◌≡◌, ◌++◌, ◌∷◌, [], List, ℕ, zero, suc, ℤ, Option, None, Some, Result, Ok, Err, fold, map, option_and_then, slice_get}
use Rattle.lq_value.specs.SameAndOrder.{same_values}
use Rattle.lq_value.specs.declared.scalar.Scalar.{Scalar}
use Rattle.lq_value.specs.declared.value.Fault.{Fault}
use Rattle.lq_value.specs.declared.value.Value.{Value}
use Rattle.lq_language.specs.Stream.{groups_of}
use Rattle.lq_operators.specs.Tallies.{int_in, tally_with}
use Rattle.lq_operators.specs.declared.group_tallies.GroupTallies.{GroupTallies}
use Rattle.lq_operators.specs.declared.numbers.Tally.{Tally}
use Rattle.lq_operators.specs.declared.tally_rows.RowNumbers.{RowNumbers}

-- a tally with one item more, which is this number, or none; past a fault it stays
abbrev pub more : Result Tally Fault → Option ℤ → Result Tally Fault
more (Ok t) n = tally_with t n
more (Err f) n = Err f

-- each tally with the number at its place in the row; where the row has no number for it, it stays
abbrev pub row_more : List (Result Tally Fault) → List (Option ℤ) → List (Result Tally Fault)
row_more [] ns = []
row_more (t ∷ ts) [] = t ∷ ts
row_more (t ∷ ts) (n ∷ ns) = more t n ∷ row_more ts ns

-- the tallies of rows, one row after another
abbrev pub tallies_of : List Tally → List (List (Option ℤ)) → List (Result Tally Fault)
tallies_of begins rows = fold row_more (map (λ t. Ok t) begins) rows

-- the number in the cell of a row at a place, if there is a place and the cell is an int
abbrev pub number_at : List Scalar → Option ℕ → Option ℤ
number_at cells None = None
number_at cells (Some place) = option_and_then int_in (slice_get cells place)

-- the numbers of a row, one for each place
abbrev pub numbers_at : List Scalar → List (Option ℕ) → List (Option ℤ)
numbers_at cells places = map (number_at cells) places

-- those of a row that is borrowed
abbrev pub numbers_in : RowNumbers → List (Option ℤ)
numbers_in row = numbers_at row.cells.now row.places.now

-- keys with tallies, where those at a place get one row more
abbrev pub with_row_at : {A : Type 0} → List (A × List (Result Tally Fault)) → ℕ → List (Option ℤ) → List (A × List (Result Tally Fault))
with_row_at [] n row = []
with_row_at (g ∷ gs) zero row = (g.0, row_more g.1 row) ∷ gs
with_row_at (g ∷ gs) (suc n) row = g ∷ with_row_at gs n row

module _ {R : Type 0} where
  -- the keys of the rows that were added, in the order of their first appearances, each with its tallies
  abbrev pub tallies_in : GroupTallies R → List (Value R × List (Result Tally Fault))
  tallies_in groups = groups.groups.items

  -- the keys of rows, in the order of their first appearances, each with the tallies of its rows
  abbrev pub group_tallies : List Tally → List (Value R × List (Option ℤ)) → List (Value R × List (Result Tally Fault))
  group_tallies begins pairs = map (λ g. (g.0, tallies_of begins g.1)) (groups_of same_values pairs)

  -- where the tallies so far are those of some rows, they become those of these rows and one more of a key
  abbrev pub AddsRow : List Tally → List (Value R × List (Result Tally Fault)) → List (Value R × List (Result Tally Fault)) → Value R → List (Option ℤ) → Type 0
  AddsRow begins old new key row =
      (done : List (Value R × List (Option ℤ))) → old ≡ group_tallies begins done → new ≡ group_tallies begins (done ++ (key, row) ∷ [])
