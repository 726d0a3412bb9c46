-- What is found in a table, by a plan for that table or for another one.
use Rattle.std.proofs.Common.{◌≡◌, ◌∷◌, ◌==◌, ◌∙◌, if◌then◌else◌, List, [], ℕ, Bool, true, false, Option, Some, None, ap, subst, sym}
use Rattle.lq_language.specs.TableRows.{TableRow}
use Rattle.lq_language.specs.ValuesOfTypes.{Every}
use Rattle.lq_language.proofs.ItemLaws.{first_of}
use Rattle.lq_condition.specs.Verdicts.{verdict}
use Rattle.lq_guard.specs.Handing.{Finds, one_more}
use Rattle.lq_guard.specs.SeenRows.{cells_of, table_of}
use Rattle.lq_guard.proofs.HandingLaws.{drops_none, finds_alike}
use Rattle.lq_plan.specs.PlannedRows.{row_verdict}
use Rattle.lq_plan.specs.declared.plans.Plan.{Plan}

module _ (plan : Plan) (table : ℕ) (rows : List TableRow) (of_table : Every (λ row. table_of row ≡ table) rows) where
  abbrev if_same : Bool → TableRow → Option Bool
  if_same same row = if same then verdict plan.condition (cells_of row) else None

  says_by : (row : TableRow) (same : Bool) → table_of row ≡ table → (table == plan.table) ≡ same → row_verdict table_of cells_of plan row ≡ if_same same row
  says_by row same of is = ap (λ (t : ℕ). if_same (t == plan.table) row) of ∙ ap (λ (b : Bool). if_same b row) is

  -- a plan for the table asks the cells alone
  pub found_by_cells : (n : ℕ) (result : Option (TableRow × Bool)) (left : List TableRow) (m : ℕ) → (table == plan.table) ≡ true
      → Finds (λ row. verdict plan.condition (cells_of row)) rows n result left m → Finds (row_verdict table_of cells_of plan) rows n result left m
  found_by_cells n result left m is found =
      finds_alike (λ row. verdict plan.condition (cells_of row)) (row_verdict table_of cells_of plan) rows n result left m
      (λ (k : ℕ) (row : TableRow) at. sym (says_by row true (of_table k row at) is)) found

  -- a plan for another table says nothing of the first row
  pub found_first : (n : ℕ) (row : TableRow) (left : List TableRow) (m : ℕ) → (table == plan.table) ≡ false → rows ≡ row ∷ left → m ≡ one_more n
      → Finds (row_verdict table_of cells_of plan) rows n (Some (row, false)) left m
  found_first n row left m is there more = (
    says_by row false (first_of (λ r. table_of r ≡ table) row left (subst (λ (l : List TableRow). Every (λ r. table_of r ≡ table) l) there of_table)) is,
    (n, drops_none (row_verdict table_of cells_of plan) rows (row ∷ left) n there, more),
  )

  pub found_no_row : (n : ℕ) (left : List TableRow) → rows ≡ [] → left ≡ [] → Finds (row_verdict table_of cells_of plan) rows n None left n
  found_no_row n left none over = (drops_none (row_verdict table_of cells_of plan) rows [] n none, over)

pub ruleset found = (found_by_cells, found_first, found_no_row)
