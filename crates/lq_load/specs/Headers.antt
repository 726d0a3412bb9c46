-- What the header of a table's file means: the columns, or why there are none.
use Rattle.std.specs.Prelude.{◌+◌, ◌-◌, ◌==◌, ◌∷◌, ◌++◌, if◌then◌else◌, List, [], ℕ, ℤ, Bool, nat_eq, int_le, length, take, drop, codes, Option, Some, None, option_map, option_and_then, Result, Ok, Err}
use Rattle.std.specs.List.{ends_with, list_any, position, starts_with}
use Rattle.std.specs.Str.{bytes_eq}
use Rattle.lq_value.specs.declared.table.Column.{Column}
use Rattle.lq_value.specs.declared.table.ColumnType.{ColumnType}
use Rattle.lq_value.specs.declared.table.ColumnType.TheVariants as ty
use Rattle.lq_grammar.specs.Tokens.{is_name}
use Rattle.lq_load.specs.Cells.{int_of}
use Rattle.lq_load.specs.declared.load_error.LoadError.{LoadError}
use Rattle.lq_load.specs.declared.load_error.LoadError.TheVariants.{Header, DuplicateName}

-- the range between two integers, of which the first is at most the second
abbrev pub range_between : Option ℤ → Option ℤ → Option (ℤ × ℤ)
range_between None high = None
range_between (Some low) None = None
range_between (Some low) (Some high) = if int_le low high then Some (low, high) else None

-- the range that `lo..hi` spells, with its first dot at this place
abbrev pub range_at : List ℕ → ℕ → Option (ℤ × ℤ)
range_at text dot =
    if starts_with nat_eq (drop dot text) (codes "..") then range_between (int_of (take dot text)) (int_of (drop (dot + 2) text)) else None

abbrev pub range_of : List ℕ → Option (ℤ × ℤ)
range_of text = option_and_then (range_at text) (position (λ c. c == 46) text)

-- the range of a type `int[lo..hi]` of which this is what follows the bracket
abbrev pub range_behind : List ℕ → Option (ℤ × ℤ)
range_behind text = if ends_with nat_eq text (codes "]") then range_of (take (length text - 1) text) else None

-- a type, and the range of its numbers where it has one
abbrev pub Kind : Type 0
Kind = ColumnType × Option (ℤ × ℤ)

-- what a type's text spells: `int`, `int[lo..hi]`, `int?`, `bool` or `string`
abbrev pub kind_of : List ℕ → Option Kind
kind_of text =
    if bytes_eq text (codes "int") then Some (ty.Int, None)
    else if bytes_eq text (codes "int?") then Some (ty.IntN, None)
    else if bytes_eq text (codes "bool") then Some (ty.Bool, None)
    else if bytes_eq text (codes "string") then Some (ty.Str, None)
    else if starts_with nat_eq text (codes "int[") then option_map (λ range. (ty.Int, Some range)) (range_behind (drop 4 text))
    else None

abbrev pub column_named : List ℕ → Kind → Column
column_named name kind = record { name = name; ty = kind.0; range = kind.1 }

-- the column that a header's cell with its first colon at this place describes: a name before it, and a type after it
abbrev pub column_at : List ℕ → ℕ → Option Column
column_at cell colon =
    if is_name (take colon cell) then option_map (column_named (take colon cell)) (kind_of (drop (colon + 1) cell)) else None

abbrev pub column_of : List ℕ → Option Column
column_of cell = option_and_then (column_at cell) (position (λ c. c == 58) cell)

-- whether a column has the name
abbrev pub has_name : List Column → List ℕ → Bool
has_name columns name = list_any (λ column. bytes_eq column.name name) columns

-- the columns after some, one of which may be there already, and those that the rest gives
abbrev pub after_column : (List Column → Result (List Column) LoadError) → List Column → Option Column → Result (List Column) LoadError
after_column rest columns None = Err Header
after_column rest columns (Some column) = if has_name columns column.name then Err DuplicateName else rest (columns ++ column ∷ [])

-- the columns that a header's cells describe, after some columns
abbrev pub columns_from : List (List ℕ) → List Column → Result (List Column) LoadError
columns_from [] columns = Ok columns
columns_from (cell ∷ rest) columns = after_column (columns_from rest) columns (column_of cell)
