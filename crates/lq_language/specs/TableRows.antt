-- Rows of tables, and the cells of a row by its columns' names.
use Rattle.std.specs.Prelude.{◌∷◌, if◌then◌else◌, List, [], ℕ, Option, Some, None}
use Rattle.std.specs.Str.{bytes_eq}
use Rattle.lq_value.specs.declared.scalar.Scalar.{Scalar}
use Rattle.lq_value.specs.declared.table.Row.{Row}

-- the cell under the column of this name
abbrev pub cell_named : List (List ℕ) → List Scalar → List ℕ → Option Scalar
cell_named [] cells name = None
cell_named (column ∷ columns) [] name = None
cell_named (column ∷ columns) (cell ∷ cells) name = if bytes_eq column name then Some cell else cell_named columns cells name

-- a row, and the number of the table that it is of
pub record TableRow : Type 0 where
  pub table : ℕ
  pub row : Row
