-- What `.tables` shows.
use Rattle.std.specs.Prelude.{◌+◌, ◌++◌, ◌∷◌, List, [], ℕ, ℤ, Option, Some, None, codes, filter, length, map}
use Rattle.std.specs.Fmt.{signed_decimal}
use Rattle.lq_value.specs.Tables.{Table}
use Rattle.lq_value.specs.declared.table.Column.{Column}
use Rattle.lq_value.specs.declared.table.ColumnType.{ColumnType}
use Rattle.lq_value.specs.declared.table.ColumnType.TheVariants as kind
use Rattle.lq_value.specs.declared.table.Row.{Row}
use Rattle.lq_value.specs.declared.table.Schema.{Schema}
use Rattle.lq_language.specs.declared.rights.Use.TheVariants as used
use Rattle.lq_run.specs.States.{SessionState}
use Rattle.lq_render.specs.Grids.{grid}
use Rattle.lq_render.specs.declared.grid.Cell.{Cell}
use Rattle.lq_security.specs.Rights.{denier_of}
use Rattle.lq_security.specs.Visible.{visible_to}
use Rattle.lq_security.specs.declared.policy.Action.TheVariants as action
use Rattle.lq_prompt.specs.Grids.{count, joined, word}

-- the type of a column, as the header of a table's file has it
abbrev pub int_text : Option (ℤ × ℤ) → List ℕ
int_text None = codes "int"
int_text (Some range) = joined (codes "int[" ∷ signed_decimal range.0 ∷ codes ".." ∷ signed_decimal range.1 ∷ codes "]" ∷ [])

abbrev pub type_of : ColumnType → Option (ℤ × ℤ) → List ℕ
type_of kind.Int range = int_text range
type_of kind.IntN range = codes "int?"
type_of kind.Bool range = codes "bool"
type_of kind.Str range = codes "string"

-- how many rows of a table the present role sees
abbrev pub count_seen : SessionState → ℕ → List Row → ℕ
count_seen s n rows = length (filter (λ row. visible_to s.policies s.role action.Select n row.cells) rows)

-- their number, where the role has a right to the table, and else the rule that denies it
abbrev pub seen_by_right : ℕ → Option (List ℕ) → Cell
seen_by_right n None = count n
seen_by_right n (Some rule) = word rule

abbrev pub seen : SessionState → ℕ → List Row → Cell
seen s n rows = seen_by_right (count_seen s n rows) (denier_of s.policies s.role (used.Table n))

-- a row for a table, and one for each of its columns
abbrev pub column_row : Column → List Cell
column_row column = word (codes "") ∷ word (codes "") ∷ word column.name ∷ word (type_of column.ty column.range) ∷ []

abbrev pub table_rows : SessionState → ℕ → Schema → List Row → List (List Cell)
table_rows s n schema rows = (word schema.name ∷ seen s n rows ∷ []) ∷ map column_row schema.columns

-- those of the tables from this number on
abbrev pub tables_rows : SessionState → ℕ → List Table → List (List Cell)
tables_rows s n [] = []
tables_rows s n (table ∷ tables) = table_rows s n table.schema table.rows ++ tables_rows s (n + 1) tables

abbrev pub tables_text : SessionState → List ℕ
tables_text s = grid [] (codes "table" ∷ codes "rows seen" ∷ codes "column" ∷ codes "type" ∷ []) (tables_rows s 0 s.tables)
