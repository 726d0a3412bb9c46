-- What a tree reads: the schemas and rows of the tables that it is given, the cells of rows by the names of their columns, and host predicates.
use Rattle.std.specs.Prelude.{◌≡◌, List, [], map, ℕ, true, Option, slice_get}
use Rattle.lq_value.specs.declared.scalar.Scalar.{Scalar}
use Rattle.lq_value.specs.declared.table.Schema.{Schema}
use Rattle.lq_value.specs.declared.value.Fault.TheVariants as fault
use Rattle.lq_host.specs.Predicates.{Predicate}
use Rattle.lq_language.specs.Worlds.{World}
use Rattle.lq_language.specs.ValuesOfTypes.{Every}
use Rattle.lq_machine.specs.Served.{columns_in}
use Rattle.lq_language.specs.TableRows.{cell_named}
use Rattle.lq_language.specs.Typing.{are_distinct}
use Rattle.lq_plan.specs.declared.tables.TableRows.{TableRows}

abbrev pub schemas_in : {S : Type 0} → List (TableRows S) → List Schema
schemas_in tables = map (λ t. t.schema.now) tables

module _ {R S : Type 0} where
  -- the rows of each table, where a reader tells those that it has left
  abbrev pub rows_in : (S → List R) → List (TableRows S) → List (List R)
  rows_in left tables = map (λ t. left t.rows) tables

  -- a row's cell by its column's name, where rows tell the numbers of their tables and their cells
  abbrev pub cell_of : (R → ℕ) → (R → List Scalar) → List (TableRows S) → R → List ℕ → Option Scalar
  cell_of table_of shown tables r = cell_named (columns_in (slice_get (schemas_in tables) (table_of r))) (shown r)

  -- what is read; the fault stands where an expression has no meaning
  abbrev pub world_of : (R → ℕ) → (R → List Scalar) → (S → List R) → List Predicate → List (TableRows S) → World R
  world_of table_of shown left predicates tables =
      record {
        schemas = schemas_in tables;
        rows = rows_in left tables;
        predicates = predicates;
        session = [];
        cell = cell_of table_of shown tables;
        table = table_of;
        unknown = fault.NullReference;
      }

-- no two columns of a table have the same name, so that a name stands for one column
abbrev pub HaveDistinctColumns : List Schema → Type 0
HaveDistinctColumns schemas = Every (λ schema. are_distinct (map (λ column. column.name) schema.columns) ≡ true) schemas
