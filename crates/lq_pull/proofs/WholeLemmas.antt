-- What is run over tables with their readers is run over the tables as the role sees them.
use Rattle.std.proofs.Common.{◌≡◌, ◌∙◌, List, [], ℕ, Option, Some, None, Result, Ok, Err, IfOk, ap, option_map, subst, sym}
use Rattle.std.proofs.lemmas.Option.{none-some, same_Some}
use Rattle.std.specs.declared.alloc.AllocError.{AllocError}
use Rattle.lq_value.specs.Tables.{Table}
use Rattle.lq_value.specs.declared.value.Fault.{Fault}
use Rattle.lq_value.specs.declared.value.Value.{Value}
use Rattle.lq_host.specs.Predicates.{Predicate}
use Rattle.lq_host.specs.declared.call.Call.{Call}
use Rattle.lq_operators.specs.Answers.{IsAnswer}
use Rattle.lq_operators.specs.declared.error.RunError.{RunError}
use Rattle.lq_operators.specs.declared.error.RunError.TheVariants as error
use Rattle.lq_language.specs.TableRows.{TableRow}
use Rattle.lq_language.specs.Worlds.{World}
use Rattle.lq_machine.specs.States.{world_of}
use Rattle.lq_tree.specs.AllowedCalls.{AddsOwnCalls}
use Rattle.lq_tree.specs.FormMeaning.{form_meaning}
use Rattle.lq_tree.specs.declared.tree.Form.{Form}
use Rattle.lq_security.specs.declared.policy.Action.{Action}
use Rattle.lq_guard.specs.SeenRows.{cells_of, table_of, visible_rows}
use Rattle.lq_plan.specs.Worlds.{world_of as world_of_tables}
use Rattle.lq_plan.specs.declared.tables.TableRows.{TableRows}
use Rattle.lq_pull.specs.Evaluations.{Finds}
use Rattle.lq_pull.specs.Readers.{AreSeen, rows_left}
use Rattle.lq_pull.specs.Views.{Sight, row_facts, rows_of, world_seen}
use Rattle.lq_pull.specs.declared.readers.Reader.{Reader}

-- these are the rows of the table with which the role may do something
pub are_those : (s : Sight) (act : Action) (n : ℕ) (o : Option Table) (rows : List TableRow)
    → Some rows ≡ option_map (λ t. visible_rows s.policies s.role act n t.rows) o → rows ≡ rows_of s act n o
are_those s act n (Some table) rows is = same_Some rows (visible_rows s.policies s.role act n table.rows) is
are_those s act n None rows is = absurd (none-some rows (sym is))

module _ (s : Sight) (predicates : List Predicate) (tables : List (TableRows Reader)) (seen : AreSeen s tables) where
  -- the world of the tables that are read
  abbrev pub read : World TableRow
  read = world_of_tables table_of cells_of rows_left predicates tables

  pub is_seen : read ≡ world_seen s predicates
  is_seen = λ i. world_of (seen.schemas i) predicates (seen.rows i)

  -- what is found over them is what is meant over these
  pub found_seen : (f : Form) (answer : Result (Value TableRow) RunError) (result : Result (Result (Value TableRow) Fault) AllocError)
      → IsAnswer (form_meaning read f []) answer → Finds answer result → IfOk result (λ found. found ≡ form_meaning (world_seen s predicates) f [])
  found_seen f (Ok v) (Ok found) meant is = is ∙ sym meant ∙ ap (λ (w : World TableRow). form_meaning w f []) is_seen
  found_seen f (Err (error.Fault met)) (Ok found) meant is = is ∙ sym meant ∙ ap (λ (w : World TableRow). form_meaning w f []) is_seen
  found_seen f (Err error.Memory) (Ok found) meant is = absurd is
  found_seen f answer (Err e) meant is = tt

  pub calls_seen : (f : Form) (rows : List TableRow) (old new : List Call) → AddsOwnCalls read row_facts f rows old new
      → AddsOwnCalls (world_seen s predicates) row_facts f rows old new
  calls_seen f rows old new adds = subst (λ (w : World TableRow). AddsOwnCalls w row_facts f rows old new) is_seen adds
