-- The rows that a role may remove are rows that it sees, so a condition may ask host predicates about them.
use Rattle.std.proofs.Common.{◌≡◌, ◌∷◌, if◌then◌else◌, List, [], ℕ, Bool, true, false, Option, Some, None, refl, filter, slice_get}
use Rattle.lq_value.specs.Tables.{Table}
use Rattle.lq_value.specs.declared.table.Row.{Row}
use Rattle.lq_language.specs.TableRows.{TableRow}
use Rattle.lq_language.specs.ValuesOfTypes.{Every}
use Rattle.lq_language.proofs.ItemLaws.{every_map, every_more, every_none, first_of, others_of}
use Rattle.lq_security.specs.Visible.{visible_to}
use Rattle.lq_security.specs.declared.policy.Action.TheVariants as action
use Rattle.lq_security.proofs.LookAlikeLaws.{removable_is_seen}
use Rattle.lq_machine.specs.States.{State}
use Rattle.lq_machine.specs.Statements.{removable}
use Rattle.lq_tree.specs.AllowedCalls.{is_seen}
use Rattle.lq_tree.proofs.AllowedCallLaws.{admitted_passes}
use Rattle.lq_tree.proofs.WatchedValueLaws.{all_places}
use Rattle.lq_pull.specs.Views.{row_facts, rows_of}
use Rattle.lq_run.specs.States.{sight_in}
use Rattle.lq_run.specs.Removals.{are_seen}

module _ {A : Type 0} (P : A → Type 0) (test : A → Bool) where
  one_kept : (x : A) (rest : List A) (b : Bool) → test x ≡ b → (test x ≡ true → P x) → Every P rest → Every P (if b then x ∷ rest else rest)
  one_kept x rest true is p ps = every_more P x rest (p is) ps
  one_kept x rest false is p ps = ps

  -- what holds of each item that passes a test holds of those that are kept by the test
  kept_by_test : (xs : List A) → Every (λ x. test x ≡ true → P x) xs → Every P (filter test xs)
  kept_by_test [] ps = every_none P
  kept_by_test (x ∷ xs) ps =
      one_kept x (filter test xs) (test x) refl (first_of (λ y. test y ≡ true → P y) x xs ps)
      (kept_by_test xs (others_of (λ y. test y ≡ true → P y) x xs ps))

module _ (s : State) where
  module _ (n : ℕ) where
    -- who may remove a row may read it: the rows of a table that may be removed are seen
    table_seen : (table : Table) → slice_get s.tables n ≡ Some table → are_seen s (removable s n table.rows) ≡ true
    table_seen table at =
        let in_table : Row → TableRow = λ row. record { table = n; row = row } in
        let is_row_seen : Row → Type 0 = λ row. is_seen s row_facts (in_table row) ≡ true in
        let is_removable : Row → Bool = λ row. visible_to s.policies s.role action.Delete n row.cells in
        all_places (is_seen s row_facts) (removable s n table.rows)
        (every_map is_row_seen (λ r. is_seen s row_facts r ≡ true) in_table (λ row seen. seen) (filter is_removable table.rows)
        (kept_by_test is_row_seen is_removable table.rows
        (λ k row here passes.
        admitted_passes s row_facts n k table row (in_table row) at here (removable_is_seen s.policies s.role n row.cells passes)
        (record { table = refl; number = refl; cells = refl }))))

    pub removable_seen : (o : Option Table) → slice_get s.tables n ≡ o → are_seen s (rows_of (sight_in s) action.Delete n o) ≡ true
    removable_seen None at = refl
    removable_seen (Some table) at = table_seen table at
