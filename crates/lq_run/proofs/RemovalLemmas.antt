-- The rows on which a condition is true are those that the machine chooses.
use Rattle.std.proofs.Common.{◌≡◌, ◌∙◌, List, [], map, filter, ℕ, Some, Result, Ok, Err, IfOk, Vec, ap, sym, slice_get, option_map, Bool}
use Rattle.std.specs.declared.alloc.AllocError.{AllocError}
use Rattle.std.specs.declared.alloc.Global.{Global}
use Rattle.std.proofs.lemmas.Option.{slice_get-map}
use Rattle.lq_value.specs.Tables.{Table}
use Rattle.lq_value.specs.declared.ty.Ty.TheVariants as ty
use Rattle.lq_value.specs.declared.value.End.{End}
use Rattle.lq_value.specs.declared.value.End.TheVariants as end
use Rattle.lq_value.specs.declared.value.Fault.{Fault}
use Rattle.lq_value.specs.declared.value.Fault.TheVariants as fault
use Rattle.lq_value.specs.declared.value.Value.{Value}
use Rattle.lq_value.specs.declared.value.Value.TheVariants as value
use Rattle.lq_language.specs.ClauseTyping.{expression_type}
use Rattle.lq_language.specs.Worlds.{World, bound}
use Rattle.lq_language.specs.OperandMeaning.{on_scalar}
use Rattle.lq_language.specs.ClauseMeaning.{condition_at}
use Rattle.lq_language.specs.ValuesOfTypes.{Every, HasCells, HaveTypes}
use Rattle.lq_language.specs.Operations.{truth_of}
use Rattle.lq_machine.specs.DefinitionLaws.{AreDefined}
use Rattle.lq_machine.specs.States.{State, host_names, schemas_of}
use Rattle.lq_machine.specs.Statements.{removed_items, removable}
use Rattle.lq_language.specs.Stream.{Stream, item_where, where_by}
use Rattle.lq_language.specs.TableRows.{TableRow}
use Rattle.lq_security.specs.Visible.{visible_to}
use Rattle.lq_language.specs.Meaning.{expression_meaning}
use Rattle.lq_security.specs.declared.policy.Action.TheVariants as action
use Rattle.lq_grammar.specs.declared.syntax.Expr.{Expr}
use Rattle.lq_language.proofs.ItemLaws.{each_same, every_filter, every_map}
use Rattle.lq_machine.proofs.SeenTableLaws.{column_by}
use Rattle.lq_tree.specs.declared.tree.Tree.{Tree}
use Rattle.lq_pipe.specs.Conditions.{holds_on, numbers_true, rows_true}
use Rattle.lq_store.specs.Rules.{IsTable}
use Rattle.lq_pull.specs.Views.{rows_for, rows_of}
use Rattle.lq_run.specs.States.{sight_in}
use Rattle.lq_run.specs.Statements.{ChoosesRows, condition_in}
use Rattle.lq_run.proofs.StoredLaws.{typed_tables}
use Rattle.lq_run.proofs.WorldLemmas.{base, condition_means, is_world, read_holds, world}

module _ (s : State) (kept : Every IsTable s.tables) (defined : AreDefined (schemas_of s.tables) (host_names s) s.definitions) (n : ℕ) (tree : Tree) where
  module _ (table : Table) (there : slice_get s.tables n ≡ Some table) (x : List ℕ) (e : Expr) (is : condition_in s x n e ≡ Some tree) where
    -- the rows that may be removed have their cells
    all_have : Every (HasCells (world s) n) (removable s n table.rows)
    all_have =
        let schema_there : slice_get (schemas_of s.tables) n ≡ Some table.schema =
        slice_get-map (λ (t : Table). t.schema) s.tables n ∙ ap (option_map (λ (t : Table). t.schema)) there in
        every_map (λ row. HaveTypes table.schema.columns row.cells) (HasCells (world s) n) (λ row. record { table = n; row = row })
        (λ row fit. column_by s (typed_tables s.tables kept) fault.NullReference n table row schema_there fit)
        (filter (λ row. visible_to s.policies s.role action.Delete n row.cells) table.rows)
        (every_filter (λ row. HaveTypes table.schema.columns row.cells) (λ row. visible_to s.policies s.role action.Delete n row.cells) table.rows
        (typed_tables s.tables kept n table there))

    -- what the machine asks of a row is the condition
    asked : World TableRow → TableRow → Result Bool Fault
    asked w r = condition_at w expression_type (expression_meaning w) e (bound x (ty.Row n) [] (value.Row r))

    same_condition : (r : TableRow) → HasCells (world s) n r → asked (world s) r ≡ holds_on (world s) tree.form r
    unfolding asked
    same_condition r cells =
        ap (λ (found : Result (Value TableRow) Fault). on_scalar (world s) found (truth_of (world s).unknown))
        (sym (condition_means s kept defined x n e tree is r cells))

    chosen_same : removed_items s x e n table.rows ≡ where_by (holds_on (world s) tree.form) (removable s n table.rows) end.Done
    unfolding asked
    chosen_same =
        ap (λ (w : World TableRow). where_by (asked w) (removable s n table.rows) end.Done) (is_world s)
        ∙ each_same (HasCells (world s) n) (λ r. item_where (asked (world s) r) r) (λ r. item_where (holds_on (world s) tree.form r) r)
        (λ r cells. ap (λ (o : Result Bool Fault). item_where o r) (same_condition r cells)) (removable s n table.rows) end.Done all_have

-- the numbers that are found are those of the rows that the machine chooses
module _ (s : State) (defined : AreDefined (schemas_of s.tables) (host_names s) s.definitions) (n : ℕ) (tree : Tree) where
  abbrev rows : List TableRow
  rows = rows_for (sight_in s) action.Delete n

  rows_are : Every IsTable s.tables → (x : List ℕ) (e : Expr) (table : Table) → slice_get s.tables n ≡ Some table → condition_in s x n e ≡ Some tree
      → rows_true (base s) tree.form rows ≡ removed_items s x e n table.rows
  rows_are kept x e table there is =
      let same_rows : rows ≡ removable s n table.rows = ap (rows_of (sight_in s) action.Delete n) there in
      (λ i. where_by (λ (r : TableRow). read_holds s tree.form r i) (same_rows i) end.Done)
      ∙ sym (chosen_same s kept defined n tree table there x e is)

  pub chooses : (result : Result (Vec ℕ Global × End) AllocError)
      → IfOk result (λ found. (found.0.items, found.1) ≡ numbers_true (base s) (λ r. r.row.number) tree.form rows)
      → IfOk result (λ found. Every IsTable s.tables) → IfOk result (ChoosesRows s n tree)
  chooses (Ok found) is kept = λ x e table there tree_is.
      let numbered : Stream TableRow → List ℕ × End = λ given. (map (λ (r : TableRow). r.row.number) given.0, given.1) in
      let same : (found.0.items, found.1) ≡ numbered (removed_items s x e n table.rows) = is ∙ ap numbered (rows_are kept x e table there tree_is) in
      (ap (λ (l : List ℕ × End). l.0) same, ap (λ (l : List ℕ × End). l.1) same)
  chooses (Err e) is kept = tt
