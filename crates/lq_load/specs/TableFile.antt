-- The table that a file of comma-separated values means, or why it means none.
use Rattle.std.specs.Prelude.{◌≡◌, ◌+◌, ◌==◌, ◌∷◌, ◌++◌, not, if◌then◌else◌, List, [], ℕ, nat_lt, length, Option, Some, None, Result, Ok, Err, ⊤}
use Rattle.csv.specs.Reading.{default_config, records}
use Rattle.lq_value.specs.Tables.{Table}
use Rattle.lq_value.specs.declared.table.Column.{Column}
use Rattle.lq_value.specs.declared.scalar.Scalar.{Scalar}
use Rattle.lq_store.specs.Calls.{with_row}
use Rattle.lq_grammar.specs.Script.{without_marks}
use Rattle.lq_load.specs.Cells.{cell_of}
use Rattle.lq_load.specs.Headers.{columns_from}
use Rattle.lq_load.specs.declared.load_error.LoadError.{LoadError}
use Rattle.lq_load.specs.declared.load_error.LoadError.TheVariants.{Memory, Csv, Header, DuplicateName, Cell, TooLarge}

-- the most bytes of a table's file, and the most columns of a table
abbrev pub table_limit : ℕ
table_limit = 16777216

abbrev pub column_limit : ℕ
column_limit = 100

-- the cell of a record after some cells, and those that the rest gives
abbrev pub after_cell : (List Scalar → Result (List Scalar) LoadError) → ℕ → List Scalar → Option Scalar → Result (List Scalar) LoadError
after_cell rest place cells None = Err (Cell place (length cells + 1))
after_cell rest place cells (Some cell) = rest (cells ++ cell ∷ [])

-- the row that the fields of the record at this place mean, each by its column, after some cells
abbrev pub cells_from : ℕ → List Column → List (List ℕ) → List Scalar → Result (List Scalar) LoadError
cells_from place [] fields cells = Ok cells
cells_from place (column ∷ columns) [] cells = Ok cells
cells_from place (column ∷ columns) (field ∷ fields) cells = after_cell (cells_from place columns fields) place cells (cell_of column field)

-- what one result is followed by, unless it is an error
abbrev pub and_then : {A B : Type 0} → (A → Result B LoadError) → Result A LoadError → Result B LoadError
and_then next (Ok x) = next x
and_then next (Err e) = Err e

-- a table with the row of one more record: the header is record 1, so that row 1 is record 2
abbrev pub with_record : Table → List (List ℕ) → Result Table LoadError
with_record table fields =
    if not (length table.schema.columns == length fields) then Err Csv
    else and_then (λ cells. Ok (with_row table cells)) (cells_from (table.next + 1) table.schema.columns fields [])

-- a table with the rows of more records
abbrev pub with_records : List (List (List ℕ)) → Table → Result Table LoadError
with_records [] table = Ok table
with_records (fields ∷ rest) table = and_then (with_records rest) (with_record table fields)

-- a table of this name with these columns and no rows
abbrev pub new_table : List ℕ → List Column → Table
new_table name columns = record { schema = record { name = name; columns = columns }; rows = []; next = 1 }

-- the table without rows that a header's cells describe
abbrev pub table_under : List ℕ → List (List ℕ) → Result Table LoadError
table_under name header =
    if nat_lt column_limit (length header) then Err TooLarge
    else and_then (λ columns. Ok (new_table name columns)) (columns_from header [])

-- the table that records mean: the first is the header
abbrev pub table_of_records : List ℕ → List (List (List ℕ)) → Result Table LoadError
table_of_records name [] = Err Header
table_of_records name (header ∷ rest) = and_then (with_records rest) (table_under name header)

-- the table that a file's bytes mean
unfoldable pub table_of : List ℕ → List ℕ → Result Table LoadError
table_of name bytes =
    if nat_lt table_limit (length bytes) then Err TooLarge
    else table_of_records name (records default_config (without_marks bytes))

-- a fact for an error that isn't memory
abbrev pub UnlessMemory : LoadError → Type 0 → Type 0
UnlessMemory Memory fact = ⊤
UnlessMemory Csv fact = fact
UnlessMemory Header fact = fact
UnlessMemory DuplicateName fact = fact
UnlessMemory (Cell record_place column_place) fact = fact
UnlessMemory TooLarge fact = fact

-- what was loaded is what is meant, or there was no memory
abbrev pub LoadsAs : {A : Type 0} → Result A LoadError → Result A LoadError → Type 0
LoadsAs meant (Ok x) = meant ≡ Ok x
LoadsAs meant (Err e) = UnlessMemory e (meant ≡ Err e)
