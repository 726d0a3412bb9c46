-- Laws of what guarded leaves hand out.
use Rattle.std.specs.Prelude.{◌≡◌, List, ℕ, true, slice_get}
use Rattle.lq_value.specs.Tables.{Table}
use Rattle.lq_value.specs.declared.table.Row.{Row}
use Rattle.lq_language.specs.OperandMeaning.{stream_of, table_value}
use Rattle.lq_language.specs.TableRows.{TableRow}
use Rattle.lq_language.specs.ValuesOfTypes.{Every}
use Rattle.lq_language.specs.Worlds.{World}
use Rattle.lq_language.specs.Stream.{where_by}
use Rattle.lq_language.specs.Meaning.{as_sequence}
use Rattle.lq_security.specs.Visible.{tables_as_seen, visible_to}
use Rattle.lq_security.specs.declared.policy.Action.{Action}
use Rattle.lq_security.specs.declared.policy.Action.TheVariants as action
use Rattle.lq_security.specs.declared.policy.PolicyParts.{PolicyParts}
use Rattle.lq_policy.specs.Roles.{number_of}
use Rattle.lq_tree.specs.FormMeaning.{Slots, form_meaning, is_true, with_item}
use Rattle.lq_tree.specs.declared.tree.Form.{Form}
use Rattle.lq_tree.specs.declared.tree.Form.TheVariants as form
use Rattle.lq_guard.specs.Guarding.{guarded_meaning, tree_meaning, world_for}
use Rattle.lq_guard.specs.SeenRows.{visible_rows, visible_tables}
use Rattle.lq_guard.specs.declared.guarded_trees.GuardedTree.{GuardedTree}

-- ---- scans

-- what is handed out of all tables where a role reads them: «Tables as seen»
abbrev pub HandsOutTablesAsSeen : Type 0
HandsOutTablesAsSeen =
    (policies : PolicyParts) (role : ℕ) (tables : List Table)
    → visible_tables policies role tables action.Select ≡ tables_as_seen policies role tables

-- a row that is handed out is visible: to its role, for its action, under its policies
abbrev pub IsVisibleRow : PolicyParts → ℕ → Action → TableRow → Type 0
IsVisibleRow policies role act r = visible_to policies role act r.table r.row.cells ≡ true

abbrev pub HandsOutVisibleRows : Type 0
HandsOutVisibleRows =
    (policies : PolicyParts) (role : ℕ) (act : Action) (table : ℕ) (rows : List Row)
    → Every (IsVisibleRow policies role act) (visible_rows policies role act table rows)

-- ---- trees

-- a tree that is guarded for select means what it means over the tables as seen
abbrev pub ReadsTablesAsSeen : Type 0
ReadsTablesAsSeen =
    (world : World TableRow) (policies : PolicyParts) (tables : List Table) (g : GuardedTree) → g.action ≡ action.Select
    → tree_meaning world policies tables g ≡ form_meaning (record world { rows = tables_as_seen policies (number_of g.role) tables }) g.tree.form

module _ (R : Type 0) where
  -- what is guarded for select means what it means, over the rows that may be read
  abbrev pub MeansAlikeForSelect : Type 0
  MeansAlikeForSelect =
      (world : World R) (rows : Action → List (List R)) (f : Form)
      → guarded_meaning world rows f action.Select ≡ form_meaning (world_for world rows action.Select) f

  -- a condition on the rows of a table, where these are guarded for an action: it is asked of the rows with which this may be done, and what it
  -- reads itself are rows that may be read
  abbrev pub MeansHeadForAction : Type 0
  MeansHeadForAction =
      (world : World R) (rows : Action → List (List R)) (act : Action) (table : ℕ) (condition : Form) (slots : Slots R)
      → let w = world_for world rows act in
      let items = stream_of w (table_value w (slice_get (rows act) table)) in
      guarded_meaning world rows (form.Where (form.Table table) condition) act slots
      ≡ as_sequence (where_by (λ v. is_true w (form_meaning (world_for world rows action.Select) condition) (with_item w slots v)) items.0 items.1)
