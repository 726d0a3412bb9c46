-- What an index of a column is: entries, one a slot, which have all places of each scalar of the column.
use Rattle.std.specs.Prelude.{◌≡◌, ◌<◌, ◌≤◌, List, [], ◌∷◌, ℕ, Bool, true, false, get_or, length, map, slice_get, unwrap_or}
use Rattle.lq_value.specs.SameAndOrder.{same_scalars}
use Rattle.lq_value.specs.Lookups.{places}
use Rattle.lq_value.specs.declared.table.Row.{Row}
use Rattle.lq_value.specs.declared.scalar.Scalar.{Scalar}
use Rattle.lq_value.specs.declared.scalar.Scalar.TheVariants as scalar
use Rattle.lq_index.specs.Hashes.{hash_of, home}

-- ---- the cells of a column

-- the cell of a row in a column, null where the row is shorter
abbrev pub cell_of : ℕ → Row → Scalar
cell_of column row = unwrap_or (slice_get row.cells column) scalar.Null

-- the cells of a column in the order of rows
abbrev pub cells_of : ℕ → List Row → List Scalar
cells_of column rows = map (cell_of column) rows

-- ---- the entries

-- what stands in a slot: whether it was never taken, the hash of the scalar that it was taken for, and the places of that scalar
pub record Entry : Type 0 where
  pub free : Bool
  pub hash : ℕ
  pub places : List ℕ

-- from a hash's home up to a slot none was never taken: a search for the hash comes to that slot
abbrev pub Reaches : ℕ → (ℕ → Entry) → ℕ → ℕ → Type 0
Reaches width at hash s = (home width hash ≤ s) × ((t : ℕ) → home width hash ≤ t → t < s → (at t).free ≡ false)

-- The entries are the index of these cells. Each taken slot is reached from the home of its hash, and a free one has no places.
-- An entry with places has the hash of a scalar and all its places, in order; each scalar that is the same as a cell, null as
-- any other, has such an entry; and no two entries begin with one place.
pub record IsIndex (width : ℕ) (at : ℕ → Entry) (cells : List Scalar) : Type 0 where
  pub reach : (s : ℕ) → (at s).free ≡ false → Reaches width at (at s).hash s
  pub bare : (s : ℕ) → (at s).free ≡ true → (at s).places ≡ []
  pub sound : (s p : ℕ) (ps : List ℕ) → (at s).places ≡ p ∷ ps
      → (q : Scalar) × ((at s).hash ≡ hash_of q) × ((at s).places ≡ places (same_scalars q) cells)
  pub whole : (q : Scalar) (p : ℕ) (ps : List ℕ) → places (same_scalars q) cells ≡ p ∷ ps
      → (s : ℕ) × ((at s).places ≡ places (same_scalars q) cells)
  pub alone : (s t p : ℕ) (ps qs : List ℕ) → (at s).places ≡ p ∷ ps → (at t).places ≡ p ∷ qs → s ≡ t

-- the numbers 0, 1, 2 and so on, one a row
pub record AreNumbers (identity : List ℕ) (size : ℕ) : Type 0 where
  pub long : length identity ≡ size
  pub each : (i : ℕ) → i < size → get_or identity i 0 ≡ i
