-- The rules that the rows and the columns of a table keep, and the tables of a store.
use Rattle.std.specs.Prelude.{Bool, true, false, not, ◌&&◌, ◌==◌, nat_eq, nat_le, int_le, neg_ℤ, pos, ◌≡◌, ℕ, ◌+◌, ◌≤◌, ℤ, List, [], ◌∷◌, length, map, Option, Some, None}
use Rattle.std.specs.List.{list_all, list_any, zip}
use Rattle.std.specs.Cmp.Lexicographic.{pointwise}
use Rattle.lq_value.specs.Tables.{Table}
use Rattle.lq_value.specs.declared.table.Column.{Column}
use Rattle.lq_value.specs.declared.table.Schema.{Schema}
use Rattle.lq_value.specs.declared.table.Row.{Row}
use Rattle.lq_value.specs.declared.table.ColumnType.{ColumnType}
use Rattle.lq_value.specs.declared.table.ColumnType.TheVariants as ty
use Rattle.lq_value.specs.declared.scalar.Scalar.{Scalar}
use Rattle.lq_value.specs.declared.scalar.Scalar.TheVariants as cell

-- whether a column of this type may hold the cell
abbrev pub is_of_type : ColumnType → Scalar → Bool
is_of_type ty.Int (cell.Int number) = true
is_of_type ty.IntN (cell.Int number) = true
is_of_type ty.IntN cell.Null = true
is_of_type ty.Bool (cell.Bool truth) = true
is_of_type ty.Str (cell.Text text) = true
is_of_type ty.Str cell.Null = true
is_of_type _ _ = false

-- whether a number of a cell is within the bounds of its column, where there are any
abbrev pub is_in_range : Option (ℤ × ℤ) → Scalar → Bool
is_in_range (Some bounds) (cell.Int number) = int_le bounds.0 number && int_le number bounds.1
is_in_range _ _ = true

-- whether a number that a cell holds is one of 32 bits
abbrev pub is_of_32_bits : Scalar → Bool
is_of_32_bits (cell.Int number) = int_le (neg_ℤ (pos 2147483648)) number && int_le number (pos 2147483647)
is_of_32_bits _ = true

-- whether each cell is of the type of its column
abbrev pub have_types : List Column → List Scalar → Bool
have_types columns cells = list_all (λ pair. is_of_type pair.0.ty pair.1) (zip columns cells)

-- whether each cell is in the range of its column
abbrev pub are_in_ranges : List Column → List Scalar → Bool
are_in_ranges columns cells = list_all (λ pair. is_in_range pair.0.range pair.1) (zip columns cells)

-- whether there is one cell a column, of its type and in its range
abbrev pub fit_columns : List Column → List Scalar → Bool
fit_columns columns cells = (length columns == length cells) && have_types columns cells && are_in_ranges columns cells

-- whether a row fits a schema
abbrev pub fits_schema : Schema → Row → Bool
fits_schema schema row = fit_columns schema.columns row.cells

-- whether a range is one that a column of this type may have
abbrev pub is_fair_range : ColumnType → Option (ℤ × ℤ) → Bool
is_fair_range _ None = true
is_fair_range ty.Int (Some bounds) = int_le bounds.0 bounds.1
is_fair_range _ (Some bounds) = false

-- whether no two of these texts are alike
abbrev pub are_distinct : List (List ℕ) → Bool
are_distinct [] = true
are_distinct (text ∷ rest) = not (list_any (pointwise nat_eq text) rest) && are_distinct rest

-- whether the columns of a schema are 1 to 100 of different names with fair ranges
abbrev pub keeps_rules : Schema → Bool
keeps_rules schema =
    nat_le 1 (length schema.columns) && nat_le (length schema.columns) 100
    && are_distinct (map (λ column. column.name) schema.columns)
    && list_all (λ column. is_fair_range column.ty column.range) schema.columns

-- whether each number that a row holds is one of 32 bits
abbrev pub has_ints : Row → Bool
has_ints row = list_all is_of_32_bits row.cells

-- the numbers of the rows rise from the first bound on, and are below the second
abbrev pub AreNumbered : ℕ → List Row → ℕ → Type 0
AreNumbered low [] next = low ≤ next
AreNumbered low (row ∷ rest) next = (low ≤ row.number) × AreNumbered (row.number + 1) rest next

-- what every table keeps
pub record IsTable (t : Table) : Type 0 where
  pub rules : keeps_rules t.schema ≡ true
  pub fits : list_all (fits_schema t.schema) t.rows ≡ true
  pub ints : list_all has_ints t.rows ≡ true
  pub numbered : AreNumbered 1 t.rows t.next

-- the name of a table
abbrev pub name_of : Table → List ℕ
name_of t = t.schema.name

-- what every store keeps
pub record IsStore (tables : List Table) : Type 0 where
  pub few : length tables ≤ 64
  pub distinct : are_distinct (map name_of tables) ≡ true
