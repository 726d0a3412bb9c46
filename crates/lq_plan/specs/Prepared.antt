-- What is prepared of forms for the rows of one table, where slots stay as they are: the row stands in the slot after them.
use Rattle.std.specs.Prelude.{◌≡◌, List, ℕ, true, IfSome, Ok, slice_get}
use Rattle.lq_value.specs.declared.scalar.Scalar.{Scalar}
use Rattle.lq_value.specs.declared.value.Value.{Value}
use Rattle.lq_value.specs.declared.value.Value.TheVariants as value
use Rattle.lq_language.specs.Worlds.{World}
use Rattle.lq_condition.specs.Verdicts.{verdict}
use Rattle.lq_condition.specs.declared.condition.Condition.{Condition}
use Rattle.lq_tree.specs.FormMeaning.{Slots, form_meaning, with_item}
use Rattle.lq_tree.specs.declared.tree.Form.{Form}
use Rattle.lq_plan.specs.Pulling.{item_at, item_if, last_if, through_stage}
use Rattle.lq_plan.specs.Meanings.{truth_in}
use Rattle.lq_plan.specs.declared.lambdas.Lambda.{Lambda}
use Rattle.lq_plan.specs.declared.plans.Plan.{Plan}
use Rattle.lq_plan.specs.declared.stages.Stage.{Stage}
use Rattle.lq_plan.specs.declared.stages.Stage.TheVariants as stage

module _ {R : Type 0} (world : World R) (slots : Slots R) where
  -- whatever stands in the last slot, a form is that itself
  pub record IsItem (f : Form) : Type 0 where
    pub at : (v : Value R) → form_meaning world f (with_item world slots v) ≡ Ok v

  -- the stage is a lambda that gives the item itself
  abbrev pub SelectsItem : Stage → Type 0
  SelectsItem stage.Plain = ⊥
  SelectsItem (stage.Where f) = ⊥
  SelectsItem (stage.Select f) = IsItem f.now

  -- the stage is a lambda that gives this scalar of an item
  abbrev pub SelectsScalar : Stage → Value R → Scalar → Type 0
  SelectsScalar stage.Plain v s = ⊥
  SelectsScalar (stage.Where f) v s = ⊥
  SelectsScalar (stage.Select f) v s = form_meaning world f.now (with_item world slots v) ≡ Ok (value.Scalar s)

module _ {R : Type 0} (table_of : R → ℕ) (shown : R → List Scalar) (world : World R) (slots : Slots R) where
  -- on each row of the table a form is the cell at this place, if there is one
  pub record IsCell (table : ℕ) (f : Form) (place : ℕ) : Type 0 where
    pub at : (r : R) → table_of r ≡ table
        → IfSome (slice_get (shown r) place) (λ s. form_meaning world f (with_item world slots (value.Row r)) ≡ Ok (value.Scalar s))

  -- whatever stands in the last slot, a form is this scalar
  pub record IsConstant (f : Form) (s : Scalar) : Type 0 where
    pub at : (v : Value R) → form_meaning world f (with_item world slots v) ≡ Ok (value.Scalar s)

  -- where a lambda is known to give a cell, its body is that cell; and where it is known to give the item itself, it is that
  pub record GivesCell (lambda : Lambda) : Type 0 where
    pub cell : IfSome lambda.place (λ place. IsCell lambda.table lambda.body.now place)
    pub item : lambda.is_item ≡ true → IsItem world slots lambda.body.now

  -- what a condition says of a row of the table is what a form means there
  pub record Decides (table : ℕ) (f : Form) (c : Condition) : Type 0 where
    pub at : (r : R) → table_of r ≡ table
        → IfSome (verdict c (shown r)) (λ b. truth_in world (form_meaning world f (with_item world slots (value.Row r))) ≡ Ok b)

  -- what a condition says of a row of the table is whether it passes the conditions above it
  pub record DecidesPassing (table : ℕ) (f : Form) (c : Condition) : Type 0 where
    pub at : (r : R) → table_of r ≡ table
        → IfSome (verdict c (shown r)) (λ b. item_at world slots f (value.Row r) ≡ item_if b (value.Row r))

  -- the same of a source and the stage after it
  pub record DecidesStage (st : Stage) (source : Form) (table : ℕ) (c : Condition) : Type 0 where
    pub at : (r : R) → table_of r ≡ table
        → IfSome (verdict c (shown r)) (λ b. through_stage world slots st (item_at world slots source (value.Row r)) ≡ last_if world slots b st (value.Row r))

  -- the stage is a lambda that gives the cell at this place of each row of the table
  abbrev pub SelectsCell : Stage → ℕ → ℕ → Type 0
  SelectsCell stage.Plain table place = ⊥
  SelectsCell (stage.Where f) table place = ⊥
  SelectsCell (stage.Select f) table place = IsCell table f.now place

  -- what a plan says of rows is so: whether they pass, and which cell the stage gives of them, or that it gives the row itself
  pub record IsPlanned (st : Stage) (source : Form) (plan : Plan) : Type 0 where
    pub conditions : DecidesStage st source plan.table plan.condition
    pub cells : IfSome plan.place (λ place. SelectsCell st plan.table place)
    pub item : plan.gives_row ≡ true → SelectsItem world slots st
