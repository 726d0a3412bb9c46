-- What a session is between two statements, and what queries read of it.
use Rattle.std.specs.Prelude.{List, [], map, ℕ, slice_get}
use Rattle.lq_value.specs.Tables.{Table}
use Rattle.lq_value.specs.declared.scalar.Scalar.{Scalar}
use Rattle.lq_value.specs.declared.table.Schema.{Schema}
use Rattle.lq_value.specs.declared.value.Fault.{Fault}
use Rattle.lq_value.specs.declared.value.Fault.TheVariants as fault
use Rattle.lq_host.specs.Predicates.{Predicate}
use Rattle.lq_machine.specs.Definitions.{defining, known_names, outer_names}
use Rattle.lq_language.specs.Worlds.{World, known_predicates}
use Rattle.lq_machine.specs.Served.{columns_in}
use Rattle.lq_language.specs.Names.{Names}
use Rattle.lq_language.specs.TableRows.{TableRow, cell_named}
use Rattle.lq_language.specs.declared.host_name.HostName.{HostName}
use Rattle.lq_security.specs.Visible.{tables_as_seen}
use Rattle.lq_security.specs.declared.policy.PolicyParts.{PolicyParts}
use Rattle.lq_machine.specs.declared.session.Definition.{Definition}

-- the tables, the policies, the host predicates, by number, the number of the role, and what `var` statements defined, the oldest first
pub record State : Type 0 where
  pub tables : List Table
  pub policies : PolicyParts
  pub predicates : List Predicate
  pub role : ℕ
  pub definitions : List Definition

-- the first state of a session: no name is defined
abbrev pub first_state : List Table → PolicyParts → List Predicate → ℕ → State
first_state tables policies predicates role = record {
  tables = tables;
  policies = policies;
  predicates = predicates;
  role = role;
  definitions = [];
}

abbrev pub schemas_of : List Table → List Schema
schemas_of tables = map (λ table. table.schema) tables

-- the names of the host predicates
abbrev pub host_names : State → List HostName
host_names s = known_predicates s.predicates

-- the tables as the role sees them: the only way from a state to its rows for what is read
abbrev pub seen_by_role : State → List (List TableRow)
seen_by_role s = tables_as_seen s.policies s.role s.tables

-- what a row has in it, in the order of its table's columns
abbrev pub cells_of : TableRow → List Scalar
cells_of r = r.row.cells

-- what queries read: these schemas, and these rows and answers alone; the fault is used where an expression has no meaning
abbrev pub world_by : Fault → List Schema → List Predicate → List (List TableRow) → World TableRow
world_by unknown schemas predicates rows = record {
  schemas = schemas;
  rows = rows;
  predicates = predicates;
  session = [];
  cell = λ r. cell_named (columns_in (slice_get schemas r.table)) r.row.cells;
  table = λ r. r.table;
  unknown = unknown;
}

-- any fault would do: no reply depends on it (MeaningLaws)
abbrev pub world_of : List Schema → List Predicate → List (List TableRow) → World TableRow
world_of = world_by fault.NullReference

-- the names where a statement is: no local name is known
abbrev pub names_in : State → Names
names_in s = outer_names (schemas_of s.tables) (host_names s) (known_names (schemas_of s.tables) (host_names s) s.definitions)

-- what is read there, over the rows of the moment
abbrev pub world_in : State → World TableRow
world_in s = defining (world_of (schemas_of s.tables) s.predicates (seen_by_role s)) s.definitions
