-- What a role reads of tables, under policies.
use Rattle.std.specs.Prelude.{◌≡◌, List, [], ℕ, Option, Some, None, option_map, slice_get}
use Rattle.lq_value.specs.Tables.{Table}
use Rattle.lq_host.specs.Predicates.{Predicate}
use Rattle.lq_language.specs.TableRows.{TableRow}
use Rattle.lq_language.specs.Worlds.{World}
use Rattle.lq_security.specs.Visible.{tables_as_seen}
use Rattle.lq_security.specs.declared.policy.Action.{Action}
use Rattle.lq_security.specs.declared.policy.PolicyParts.{PolicyParts}
use Rattle.lq_policy.specs.Roles.{number_of}
use Rattle.lq_machine.specs.States.{cells_of, schemas_of, world_of}
use Rattle.lq_tree.specs.Watches.{RowFacts}
use Rattle.lq_guard.specs.SeenRows.{visible_rows}
use Rattle.lq_pull.specs.declared.views.View.{View}

-- the tables, the policies for them, and the number of the role
pub record Sight : Type 0 where
  pub tables : List Table
  pub policies : PolicyParts
  pub role : ℕ

abbrev pub sight_of : View → Sight
sight_of v = record { tables = v.store.now; policies = v.policies.now; role = number_of v.role }

-- for each table, by number, its rows as the role sees them
abbrev pub seen_tables : Sight → List (List TableRow)
seen_tables s = tables_as_seen s.policies s.role s.tables

-- What trees read: the tables as the role sees them, and these host predicates. No form reads a name of a session, so there is none.
abbrev pub world_seen : Sight → List Predicate → World TableRow
world_seen s predicates = world_of (schemas_of s.tables) predicates (seen_tables s)

-- the rows of a table with which the role may do something; none where it isn't there
abbrev pub rows_of : Sight → Action → ℕ → Option Table → List TableRow
rows_of s act n (Some table) = visible_rows s.policies s.role act n table.rows
rows_of s act n None = []

abbrev pub rows_for : Sight → Action → ℕ → List TableRow
rows_for s act n = rows_of s act n (slice_get s.tables n)

-- these are they, and the table is there
abbrev pub AreRowsFor : Sight → Action → ℕ → List TableRow → Type 0
AreRowsFor s act n rows = Some rows ≡ option_map (λ t. visible_rows s.policies s.role act n t.rows) (slice_get s.tables n)

-- what a row tells those who ask host predicates about it
abbrev pub row_facts : RowFacts TableRow
row_facts = record { table = λ r. r.table; number = λ r. r.row.number; cells = cells_of }
