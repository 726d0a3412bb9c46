-- What is left of the rows of tables that a run reads, and what is prepared of tables before it.
use Rattle.std.specs.Prelude.{◌≡◌, List, ℕ, Some, slice_get}
use Rattle.lq_value.specs.declared.scalar.Scalar.{Scalar}
use Rattle.lq_store.specs.Rules.{IsTable}
use Rattle.lq_language.specs.TableRows.{TableRow}
use Rattle.lq_language.specs.ValuesOfTypes.{Every}
use Rattle.lq_machine.specs.States.{schemas_of}
use Rattle.lq_security.specs.Visible.{visible_to}
use Rattle.lq_security.specs.declared.policy.Action.TheVariants as action
use Rattle.lq_policy.specs.RowRules.{admits}
use Rattle.lq_guard.specs.SeenRows as seen
use Rattle.lq_plan.specs.Gathering.{gathered}
use Rattle.lq_plan.specs.Worlds.{rows_in, schemas_in}
use Rattle.lq_plan.specs.declared.tables.TableRows.{TableRows}
use Rattle.lq_pull.specs.Views.{AreRowsFor, Sight, seen_tables}
use Rattle.lq_pull.specs.declared.preparing.Prepared.{Prepared}
use Rattle.lq_pull.specs.declared.preparing.Prepared.TheVariants as prepared
use Rattle.lq_pull.specs.declared.readers.Reader.{Reader}
use Rattle.lq_pull.specs.declared.readers.Reader.TheVariants as reader

-- what a reader has left to hand out
abbrev pub rows_left : Reader → List TableRow
rows_left (reader.Scan scan) = seen.rows_left scan
rows_left (reader.Gathered rows) = gathered rows

-- What was prepared of a table is of it: rules for the role's reading of it, or the rows that the role sees.
abbrev pub IsPrepared : Sight → ℕ → Prepared → Type 0
IsPrepared s n prepared.Nothing = Unit {0}
IsPrepared s n (prepared.Rules rules) = (cells : List Scalar) → admits rules cells ≡ visible_to s.policies s.role action.Select n cells
IsPrepared s n (prepared.Rows rows) = AreRowsFor s action.Select n rows.items

-- and so it is of each of these tables
abbrev pub ArePrepared : Sight → List Prepared → Type 0
ArePrepared s all = (n : ℕ) (one : Prepared) → slice_get all n ≡ Some one → IsPrepared s n one

-- These are the tables with the rows that the role sees of them, in their order; and the tables keep their rules.
pub record AreSeen (s : Sight) (tables : List (TableRows Reader)) : Type 0 where
  pub schemas : schemas_in tables ≡ schemas_of s.tables
  pub rows : rows_in rows_left tables ≡ seen_tables s
  pub are_tables : Every IsTable s.tables
