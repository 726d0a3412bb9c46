-- What `.rights` shows.
use Rattle.std.specs.Prelude.{◌+◌, ◌++◌, ◌∷◌, List, [], ℕ, Option, Some, None, codes}
use Rattle.lq_value.specs.Tables.{Table}
use Rattle.lq_value.specs.declared.table.Column.{Column}
use Rattle.lq_value.specs.declared.table.Schema.{Schema}
use Rattle.lq_language.specs.declared.rights.Use.{Use}
use Rattle.lq_language.specs.declared.rights.Use.TheVariants as used
use Rattle.lq_run.specs.States.{SessionState}
use Rattle.lq_render.specs.Grids.{grid}
use Rattle.lq_render.specs.declared.grid.Cell.{Cell}
use Rattle.lq_security.specs.Rights.{denier_of}
use Rattle.lq_prompt.specs.Grids.{word}

-- whether the role may, and the rule that denies it
abbrev pub may_cells : Option (List ℕ) → List Cell
may_cells None = word (codes "yes") ∷ []
may_cells (Some rule) = word (codes "no") ∷ word rule ∷ []

-- a use of a table, under the name that it has there
abbrev pub right_row : SessionState → List ℕ → List ℕ → Use → List Cell
right_row s table name use_of = word table ∷ word name ∷ may_cells (denier_of s.policies s.role use_of)

-- the columns of the table with this number, from this place on
abbrev pub column_rows : SessionState → List ℕ → ℕ → ℕ → List Column → List (List Cell)
column_rows s table n place [] = []
column_rows s table n place (column ∷ columns) =
    right_row s table column.name (used.Column n place) ∷ column_rows s table n (place + 1) columns

-- and then inserts and deletes
abbrev pub table_rows : SessionState → ℕ → Schema → List (List Cell)
table_rows s n schema =
    column_rows s schema.name n 0 schema.columns
    ++ (right_row s schema.name (codes "insert") (used.Insert n) ∷ right_row s schema.name (codes "delete") (used.Delete n) ∷ [])

abbrev pub rights_rows : SessionState → ℕ → List Table → List (List Cell)
rights_rows s n [] = []
rights_rows s n (table ∷ tables) = table_rows s n table.schema ++ rights_rows s (n + 1) tables

abbrev pub rights_text : SessionState → List ℕ
rights_text s = grid [] (codes "table" ∷ codes "use" ∷ codes "may" ∷ codes "denied by" ∷ []) (rights_rows s 0 s.tables)
