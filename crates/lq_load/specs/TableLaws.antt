-- Laws of table files: which table a file means, and which of its faults is the first.
use Rattle.std.specs.Prelude.{◌≡◌, ◌≢◌, ◌↔◌, ◌+◌, ◌<◌, ◌≤◌, ◌∷◌, ◌++◌, List, [], map, ℕ, length, Option, Some, None, Ok, Err, slice_get}
use Rattle.std.specs.List.{Any, zip}
use Rattle.csv.specs.Reading.{default_config, records}
use Rattle.lq_value.specs.Tables.{Table}
use Rattle.lq_value.specs.declared.scalar.Scalar.{Scalar}
use Rattle.lq_value.specs.declared.table.Column.{Column}
use Rattle.lq_value.specs.declared.table.Row.{Row}
use Rattle.lq_language.specs.ValuesOfTypes.{Every}
use Rattle.lq_grammar.specs.Script.{without_marks}
use Rattle.lq_load.specs.Cells.{cell_of}
use Rattle.lq_load.specs.Headers.{column_of}
use Rattle.lq_load.specs.TableFile.{column_limit, table_limit, table_of}
use Rattle.lq_load.specs.declared.load_error.LoadError.{LoadError}
use Rattle.lq_load.specs.declared.load_error.LoadError.TheVariants.{Csv, Header, DuplicateName, Cell, TooLarge}

-- ---- the header

-- one of the columns has this name
abbrev pub HasName : List Column → List ℕ → Type 0
HasName columns name = Any (λ column. column.name ≡ name) columns

-- The cells of a header describe these columns, one each, of which none has the name of one before it.
pub record AreColumns (cells : List (List ℕ)) (columns : List Column) : Type 0 where
  pub each : map column_of cells ≡ map Some columns
  pub distinct : (before : List Column) (column : Column) (behind : List Column) → columns ≡ before ++ column ∷ behind
      → HasName before column.name → ⊥

-- A cell after those that describe these columns is wrong: it describes no column, or else one whose name is taken.
pub data IsWrongColumn (columns : List Column) (cell : List ℕ) : LoadError → Type 0 where
  no_column : column_of cell ≡ None → IsWrongColumn columns cell Header
  repeated : (column : Column) → column_of cell ≡ Some column → HasName columns column.name → IsWrongColumn columns cell DuplicateName

-- The first wrong cell of a header has this fault.
pub record IsHeaderFault (cells : List (List ℕ)) (e : LoadError) : Type 0 where
  pub before : List (List ℕ)
  pub cell : List ℕ
  pub behind : List (List ℕ)
  pub split : cells ≡ before ++ cell ∷ behind
  pub columns : List Column
  pub good : AreColumns before columns
  pub wrong : IsWrongColumn columns cell e

-- ---- the records after it

-- the cell that a field beside its column means
abbrev pub meaning_of : Column × List ℕ → Option Scalar
meaning_of place = cell_of place.0 place.1

-- A record has as many fields as there are columns, and each means the cell at its place.
pub record AreCells (columns : List Column) (fields : List (List ℕ)) (cells : List Scalar) : Type 0 where
  pub as_many : length fields ≡ length columns
  pub each : map meaning_of (zip columns fields) ≡ map Some cells

-- a record without a fault
abbrev pub IsRow : List Column → List (List ℕ) → Type 0
IsRow columns fields = (cells : List Scalar) × AreCells columns fields cells

-- The record with this number is wrong: it has another number of fields, or else a field that means no cell, of which the
-- first is named by its column's number, from 1.
pub data IsWrongRecord (columns : List Column) (number : ℕ) (fields : List (List ℕ)) : LoadError → Type 0 where
  other_length : length fields ≢ length columns → IsWrongRecord columns number fields Csv
  wrong_cell : (before : List (Column × List ℕ)) (place : Column × List ℕ) (behind : List (Column × List ℕ)) (cells : List Scalar)
      → length fields ≡ length columns → zip columns fields ≡ before ++ place ∷ behind → map meaning_of before ≡ map Some cells
      → meaning_of place ≡ None → IsWrongRecord columns number fields (Cell number (length before + 1))

-- The first wrong record after the header, which is record 1, has this fault.
pub record IsRecordFault (columns : List Column) (rest : List (List (List ℕ))) (e : LoadError) : Type 0 where
  pub before : List (List (List ℕ))
  pub fields : List (List ℕ)
  pub behind : List (List (List ℕ))
  pub split : rest ≡ before ++ fields ∷ behind
  pub good : Every (IsRow columns) before
  pub wrong : IsWrongRecord columns (length before + 2) fields e

-- ---- files

-- the records of a file, after its byte order marks
abbrev pub records_in : List ℕ → List (List (List ℕ))
records_in bytes = records default_config (without_marks bytes)

-- The first fault of a file. Its size comes before all, the number of its columns before its header's cells, and these
-- before the records after it.
pub data IsFirstFault (bytes : List ℕ) : LoadError → Type 0 where
  too_large : table_limit < length bytes → IsFirstFault bytes TooLarge
  no_header : length bytes ≤ table_limit → records_in bytes ≡ [] → IsFirstFault bytes Header
  too_many : (header : List (List ℕ)) (rest : List (List (List ℕ))) → length bytes ≤ table_limit → records_in bytes ≡ header ∷ rest
      → column_limit < length header → IsFirstFault bytes TooLarge
  in_header : {e : LoadError} (header : List (List ℕ)) (rest : List (List (List ℕ))) → length bytes ≤ table_limit
      → records_in bytes ≡ header ∷ rest → length header ≤ column_limit → IsHeaderFault header e → IsFirstFault bytes e
  in_record : {e : LoadError} (header : List (List ℕ)) (rest : List (List (List ℕ))) (columns : List Column) → length bytes ≤ table_limit
      → records_in bytes ≡ header ∷ rest → length header ≤ column_limit → AreColumns header columns → IsRecordFault columns rest e
      → IsFirstFault bytes e

-- A file without a fault means this table: its columns are those of the header, and it has a row for each further record,
-- with the numbers 1, 2 and so on, whose cells are what the record's fields mean.
pub record IsTable (name bytes : List ℕ) (table : Table) : Type 0 where
  pub within : length bytes ≤ table_limit
  pub header : List (List ℕ)
  pub rest : List (List (List ℕ))
  pub records : records_in bytes ≡ header ∷ rest
  pub few : length header ≤ column_limit
  pub columns : AreColumns header table.schema.columns
  pub named : table.schema.name ≡ name
  pub as_many : length table.rows ≡ length rest
  pub rows : (k : ℕ) (row : Row) → slice_get table.rows k ≡ Some row
      → (row.number ≡ k + 1) × (fields : List (List ℕ)) × (slice_get rest k ≡ Some fields) × AreCells table.schema.columns fields row.cells
  pub next : table.next ≡ length rest + 1

-- what is loaded is the table that the file means
abbrev pub MeansTable : Type 0
MeansTable = (name bytes : List ℕ) (table : Table) → (table_of name bytes ≡ Ok table) ↔ IsTable name bytes table

-- and what is refused is refused for its first fault
abbrev pub TellsFirstFault : Type 0
TellsFirstFault = (name bytes : List ℕ) (e : LoadError) → (table_of name bytes ≡ Err e) ↔ IsFirstFault bytes e
