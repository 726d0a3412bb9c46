-- What the names of a place refer to: tables and their columns, the names of the session, and local names with their types.
use Rattle.std.specs.Prelude.{◌∷◌, if◌then◌else◌, List, [], ℕ, Option, Some, None, slice_get, option_and_then, option_map}
use Rattle.std.specs.Str.{bytes_eq}
use Rattle.lq_value.specs.Tables.{first_named}
use Rattle.lq_value.specs.declared.table.Column.{Column}
use Rattle.lq_value.specs.declared.table.ColumnType.{ColumnType}
use Rattle.lq_value.specs.declared.table.ColumnType.TheVariants as of
use Rattle.lq_value.specs.declared.table.Schema.{Schema}
use Rattle.lq_value.specs.declared.ty.Ty.{Ty}
use Rattle.lq_value.specs.declared.ty.Ty.TheVariants as ty
use Rattle.lq_language.specs.Mentions.{Mention}
use Rattle.lq_language.specs.declared.host_name.HostName.{HostName}

-- a name of the session, which is that of a variable or of a named query: its type, and what the expression names that it refers to
pub record SessionName : Type 0 where
  pub name : List ℕ
  pub ty : Ty
  pub uses : List Mention

-- what the names of a place refer to: the tables and the host predicates, by number, the names of the session, and the local names with their
-- types
pub record Names : Type 0 where
  pub tables : List Schema
  pub predicates : List HostName
  pub session : List SessionName
  pub locals : List (List ℕ × Ty)

-- the session's name that is spelled so
abbrev pub session_name : List ℕ → List SessionName → Option SessionName
session_name name [] = None
session_name name (known ∷ others) = if bytes_eq known.name name then Some known else session_name name others

-- the type of a local name
abbrev pub local_type : List ℕ → List (List ℕ × Ty) → Option Ty
local_type name [] = None
local_type name (local ∷ locals) = if bytes_eq local.0 name then Some local.1 else local_type name locals

-- the number of the table of this name
abbrev pub table_number : List ℕ → List Schema → Option ℕ
table_number name tables = first_named (λ schema. schema.name) name tables

abbrev pub type_of_column : ColumnType → Ty
type_of_column of.Int = ty.Int
type_of_column of.IntN = ty.IntN
type_of_column of.Bool = ty.Bool
type_of_column of.Str = ty.Str

-- the column of this name
abbrev pub column_named : List ℕ → List Column → Option Column
column_named name [] = None
column_named name (column ∷ columns) = if bytes_eq column.name name then Some column else column_named name columns

-- the number of the column of this name
abbrev pub column_number : List ℕ → Option Schema → Option ℕ
column_number name table = option_and_then (λ schema. first_named (λ column. column.name) name schema.columns) table

-- the type of the column of this name, of the table with this number
abbrev pub column_type : List Schema → ℕ → List ℕ → Option Ty
column_type tables number name =
    option_and_then (λ schema. option_map (λ column. type_of_column column.ty) (column_named name schema.columns)) (slice_get tables number)

-- the local names with one more
abbrev pub with_local : Names → List ℕ → Ty → Names
with_local names name t = record { tables = names.tables; predicates = names.predicates; session = names.session; locals = (name, t) ∷ names.locals }
