-- Which rows a base hands out as items are pulled from it.
use Rattle.std.specs.Prelude.{◌≡◌, ◌⊎◌, List, [], ℕ, Result, Ok, Err}
use Rattle.lq_value.specs.declared.scalar.Scalar.{Scalar}
use Rattle.lq_value.specs.declared.value.End.{End}
use Rattle.lq_value.specs.declared.value.Value.{Value}
use Rattle.lq_value.specs.declared.value.Value.TheVariants as value
use Rattle.lq_guard.specs.Handing.{DropsAll, Hands}
use Rattle.lq_plan.specs.PlannedRows.{row_verdict}
use Rattle.lq_plan.specs.declared.bases.Base.{Base}
use Rattle.lq_plan.specs.declared.bases.Pulled.{Pulled}
use Rattle.lq_plan.specs.declared.bases.Pulled.TheVariants as pulled
use Rattle.lq_plan.specs.declared.plans.Plan.{Plan}

module _ {R S : Type 0} where
  -- the rows that a base has left to hand out, and how many it has handed out
  abbrev pub rows_to_come : Base R S → List R
  rows_to_come base = base.rows

  abbrev pub handed_out : Base R S → ℕ
  handed_out base = base.handed

  -- the items behind the rows, which were made before
  abbrev pub items_to_come : Base R S → List (Value R)
  items_to_come base = base.items.items

  -- where there is none behind the rows, there is none later
  abbrev pub StaysOfRows : Base R S → Base R S → Type 0
  StaysOfRows old new = items_to_come old ≡ [] → items_to_come new ≡ []

module _ {R : Type 0} (table_of : R → ℕ) (shown : R → List Scalar) (plan : Plan) where
  -- What a pull hands out: the row that it answers, behind rows of which the plan says that they don't pass; or such rows alone, where it answers an
  -- item that was made, or how the items end.
  abbrev pub HandsOut : List R → ℕ → Result (Pulled R) End → List R → ℕ → Type 0
  HandsOut rows n (Ok (pulled.Row r)) left m = Hands (row_verdict table_of shown plan) rows n r left m
  HandsOut rows n (Ok (pulled.Item x)) left m =
      ((r : R) × (x ≡ value.Row r) × Hands (row_verdict table_of shown plan) rows n r left m) ⊎ DropsAll (row_verdict table_of shown plan) rows n left m
  HandsOut rows n (Err e) left m = DropsAll (row_verdict table_of shown plan) rows n left m
