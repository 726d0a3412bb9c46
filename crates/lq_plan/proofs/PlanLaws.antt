-- What a plan says of rows is what comes of them.
use Rattle.std.proofs.Common.{◌≡◌, ◌==◌, ◌∷◌, ◌++◌, if◌then◌else◌, List, [], ℕ, Bool, true, false, Option, Some, None, Ok, IfSome, Bor, ap, ◌∙◌, sym, refl, subst, filter, map, reverse, slice_get}
use Rattle.std.specs.Option.{option_copied}
use Rattle.std.specs.Prelude.{option_and_then}
use Rattle.std.proofs.lemmas.Bool.{eqb-true}
use Rattle.std.proofs.lemmas.Option.{none-some}
use Rattle.lq_value.specs.declared.scalar.Scalar.{Scalar}
use Rattle.lq_value.specs.declared.value.End.{End}
use Rattle.lq_value.specs.declared.value.Value.{Value}
use Rattle.lq_value.specs.declared.value.Value.TheVariants as value
use Rattle.lq_language.specs.Stream.{Stream, each, then_stream}
use Rattle.lq_language.specs.Worlds.{World}
use Rattle.lq_condition.specs.Verdicts.{verdict}
use Rattle.lq_tree.specs.FormMeaning.{Slots, form_meaning, with_item}
use Rattle.lq_tree.specs.declared.tree.Form.{Form}
use Rattle.lq_plan.specs.declared.bases.Base.{Base}
use Rattle.lq_plan.specs.Meanings.{truth_in}
use Rattle.lq_plan.specs.PlannedRows.{is_kept_by, kept_stream, row_cell, row_verdict}
use Rattle.lq_plan.specs.Prepared.{Decides, IsCell, IsPlanned, SelectsCell, SelectsScalar}
use Rattle.lq_plan.specs.Pulling.{item_at, last_if, rest_behind, through_stage}
use Rattle.lq_plan.specs.declared.plans.Plan.{Plan}
use Rattle.lq_plan.specs.declared.stages.Stage.{Stage}
use Rattle.lq_plan.specs.declared.stages.Stage.TheVariants as stage

module _ {R : Type 0} (table_of : R → ℕ) (shown : R → List Scalar) where
  -- a row of which a plan says something is one of its table
  here_by : (plan : Plan) (r : R) (b same : Bool) → (table_of r == plan.table) ≡ same → (if same then verdict plan.condition (shown r) else None) ≡ Some b → table_of r ≡ plan.table
  here_by plan r b true here is = eqb-true (table_of r) plan.table here
  here_by plan r b false here is = absurd (none-some b is)

  pub row_here : (plan : Plan) (r : R) (b : Bool) → row_verdict table_of shown plan r ≡ Some b → table_of r ≡ plan.table
  row_here plan r b is = here_by plan r b (table_of r == plan.table) refl is

  meant_by : (world : World R) (slots : Slots R) (plan : Plan) (f : Form) (r : R) (b same : Bool) → Decides table_of shown world slots plan.table f plan.condition
      → (table_of r == plan.table) ≡ same → (if same then verdict plan.condition (shown r) else None) ≡ Some b
      → truth_in world (form_meaning world f (with_item world slots (value.Row r))) ≡ Ok b
  meant_by world slots plan f r b true decides here is =
      subst (λ o. IfSome o (λ b. truth_in world (form_meaning world f (with_item world slots (value.Row r))) ≡ Ok b)) is (decides.at r (eqb-true (table_of r) plan.table here))
  meant_by world slots plan f r b false decides here is = absurd (none-some b is)

  -- what a plan for one condition says of a row is what the condition means there
  pub row_meant : (world : World R) (slots : Slots R) (plan : Plan) (f : Form) (r : R) (b : Bool) → Decides table_of shown world slots plan.table f plan.condition
      → row_verdict table_of shown plan r ≡ Some b → truth_in world (form_meaning world f (with_item world slots (value.Row r))) ≡ Ok b
  row_meant world slots plan f r b decides is = meant_by world slots plan f r b (table_of r == plan.table) decides refl is

  module _ (world : World R) (slots : Slots R) (st : Stage) (source : Form) (plan : Plan) (planned : IsPlanned table_of shown world slots st source plan) where
    -- what comes of an item at the source and the stage after it
    abbrev comes : Value R → Stream (Value R)
    comes x = through_stage world slots st (item_at world slots source x)

    says_by : (r : R) (b same : Bool) → (table_of r == plan.table) ≡ same → (if same then verdict plan.condition (shown r) else None) ≡ Some b
        → comes (value.Row r) ≡ last_if world slots b st (value.Row r)
    says_by r b true here is =
        subst (λ (t : Option Bool). IfSome t (λ b. comes (value.Row r) ≡ last_if world slots b st (value.Row r))) is (planned.conditions.at r (eqb-true (table_of r) plan.table here))
    says_by r b false here is = absurd (none-some b is)

    -- what a plan says of a row is what comes of it
    pub row_says : (r : R) (b : Bool) → row_verdict table_of shown plan r ≡ Some b → comes (value.Row r) ≡ last_if world slots b st (value.Row r)
    row_says r b is = says_by r b (table_of r == plan.table) refl is

    -- ---- rows that are left out

    abbrev kept_rows : List R → List R
    kept_rows rows = filter (λ r. is_kept_by (row_verdict table_of shown plan r)) rows

    kept_next : (r : R) (t : Option Bool) (xs : List R) (items : List (Value R)) (e : End) → row_verdict table_of shown plan r ≡ t
        → each comes (map value.Row xs ++ items) e ≡ each comes (map value.Row (kept_rows xs) ++ items) e
        → then_stream (comes (value.Row r)) (each comes (map value.Row xs ++ items) e) ≡ each comes (map value.Row (if is_kept_by t then r ∷ kept_rows xs else kept_rows xs) ++ items) e
    kept_next r (Some true) xs items e says rest = ap (then_stream (comes (value.Row r))) rest
    kept_next r None xs items e says rest = ap (then_stream (comes (value.Row r))) rest
    kept_next r (Some false) xs items e says rest = ap (λ (s : Stream (Value R)). then_stream s (each comes (map value.Row xs ++ items) e)) (row_says r false says) ∙ rest

    rows_kept : (xs : List R) (items : List (Value R)) (e : End) → each comes (map value.Row xs ++ items) e ≡ each comes (map value.Row (kept_rows xs) ++ items) e
    rows_kept [] items e = refl
    rows_kept (r ∷ xs) items e = kept_next r (row_verdict table_of shown plan r) xs items e refl (rows_kept xs items e)

    -- nothing comes of the rows that a plan leaves out
    pub rest_kept : {S : Type 0} → (b : Base R S) → rest_behind world slots st source b ≡ each comes (kept_stream table_of shown plan b).0 (kept_stream table_of shown plan b).1
    rest_kept b = rows_kept b.rows (reverse b.items.items) b.end

  -- ---- cells that are planned

  module _ (world : World R) (slots : Slots R) where
    cell_by : (place : Option ℕ) (table : ℕ) (body : Form) (r : R) (s : Scalar) → IfSome place (λ p. IsCell table_of shown world slots table body p) → table_of r ≡ table
        → option_and_then (slice_get (shown r)) place ≡ Some s → form_meaning world body (with_item world slots (value.Row r)) ≡ Ok (value.Scalar s)
    cell_by None table body r s cell here is = absurd (none-some s is)
    cell_by (Some p) table body r s cell here is =
        subst (λ o. IfSome o (λ s. form_meaning world body (with_item world slots (value.Row r)) ≡ Ok (value.Scalar s))) is (cell.at r here)

    -- the cell that a plan gives of a row is what the lambda gives of it
    pub planned_cell : (body : Bor Form) (source : Form) (plan : Plan) (r : R) (s : Scalar) → IsPlanned table_of shown world slots (stage.Select body) source plan → table_of r ≡ plan.table
        → row_cell table_of shown plan r ≡ Some s → form_meaning world body.now (with_item world slots (value.Row r)) ≡ Ok (value.Scalar s)
    planned_cell body source plan r s planned here is = cell_by plan.place plan.table body.now r s planned.cells here is

    -- and so it is where the stage is any that gives a cell of a row
    scalar_by : (st : Stage) (p table : ℕ) (r : R) → SelectsCell table_of shown world slots st table p → table_of r ≡ table
        → IfSome (slice_get (shown r) p) (λ s. SelectsScalar world slots st (value.Row r) s)
    scalar_by stage.Plain p table r cell here = absurd cell
    scalar_by (stage.Where f) p table r cell here = absurd cell
    scalar_by (stage.Select f) p table r cell here = cell.at r here

    item_by : (st : Stage) (place : Option ℕ) (table : ℕ) (r : R) → IfSome place (λ p. SelectsCell table_of shown world slots st table p) → table_of r ≡ table
        → IfSome (option_and_then (slice_get (shown r)) place) (λ s. SelectsScalar world slots st (value.Row r) s)
    item_by st None table r cell here = tt
    item_by st (Some p) table r cell here = scalar_by st p table r cell here

    found_item : (st : Stage) (v : Value R) (found : Option (Bor Scalar)) → IfSome (option_copied found) (λ s. SelectsScalar world slots st v s)
        → IfSome found (λ s. SelectsScalar world slots st v s.now)
    found_item st v None is = tt
    found_item st v (Some s) is = is

    pub item_planned : (st : Stage) (source : Form) (plan : Plan) (r : R) (found : Option (Bor Scalar)) → IsPlanned table_of shown world slots st source plan → table_of r ≡ plan.table
        → option_copied found ≡ row_cell table_of shown plan r → IfSome found (λ s. SelectsScalar world slots st (value.Row r) s.now)
    item_planned st source plan r found planned here is =
        found_item st (value.Row r) found
        (subst (λ o. IfSome o (λ s. SelectsScalar world slots st (value.Row r) s)) (sym is) (item_by st plan.place plan.table r planned.cells here))
