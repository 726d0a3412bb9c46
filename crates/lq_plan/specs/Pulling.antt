-- How items are pulled: one by one from a base, each through the conditions and lambdas that stand between the base and a form.
use Rattle.std.specs.Prelude.{◌∷◌, ◌++◌, if◌then◌else◌, List, [], Bool, Option, Some, None, map, reverse}
use Rattle.lq_value.specs.declared.value.End.{End}
use Rattle.lq_value.specs.declared.value.End.TheVariants as end
use Rattle.lq_value.specs.declared.value.Fault.TheVariants as fault
use Rattle.lq_value.specs.declared.value.Value.{Value}
use Rattle.lq_value.specs.declared.value.Value.TheVariants as value
use Rattle.lq_language.specs.Worlds.{World}
use Rattle.lq_language.specs.OperandMeaning.{stream_of}
use Rattle.lq_language.specs.Stream.{Stream, each, select_by, where_by}
use Rattle.lq_tree.specs.FormMeaning.{Slots, form_meaning, is_true, with_item}
use Rattle.lq_tree.specs.declared.tree.Form.{Form, para-Form}
use Rattle.lq_tree.specs.declared.tree.Form.TheOpen.{Form-F}
use Rattle.lq_plan.specs.declared.bases.Base.{Base}
use Rattle.lq_plan.specs.declared.stages.Outcome.{Outcome}
use Rattle.lq_plan.specs.declared.stages.Outcome.TheVariants as outcome
use Rattle.lq_plan.specs.declared.stages.Stage.{Stage}
use Rattle.lq_plan.specs.declared.stages.Stage.TheVariants as stage

module _ {R : Type 0} where
  -- the items that a base has left, and how they end
  abbrev pub base_stream : {S : Type 0} → Base R S → Stream (Value R)
  base_stream base = (map value.Row base.rows ++ reverse base.items.items, base.end)

  -- the rows of a table and how they end, where it may not be there
  abbrev pub rows_or_none : Option (List R) → List R
  rows_or_none (Some rows) = rows
  rows_or_none None = []

  abbrev pub end_of : Option (List R) → End
  end_of (Some rows) = end.Done
  end_of None = end.Fault fault.NullReference

  -- what an item has become, as a stream of at most one
  abbrev pub outcome_stream : Outcome R → Stream (Value R)
  outcome_stream (outcome.Item x) = (x ∷ [], end.Done)
  outcome_stream outcome.Dropped = ([], end.Done)
  outcome_stream (outcome.Fault f) = ([], end.Fault f)

  -- an item that is let through, or dropped
  abbrev pub item_if : Bool → Value R → Stream (Value R)
  item_if b x = if b then (x ∷ [], end.Done) else ([], end.Done)

module _ {R : Type 0} (world : World R) (slots : Slots R) where
  -- the items of which a condition is true, and what a lambda gives of each
  abbrev pub through_where : Form → Stream (Value R) → Stream (Value R)
  through_where f s = where_by (λ v. is_true world (form_meaning world f) (with_item world slots v)) s.0 s.1

  abbrev pub through_select : Form → Stream (Value R) → Stream (Value R)
  through_select f s = select_by (λ v. form_meaning world f (with_item world slots v)) s.0 s.1

  -- what comes of items at a stage
  abbrev pub through_stage : Stage → Stream (Value R) → Stream (Value R)
  through_stage stage.Plain s = s
  through_stage (stage.Where f) s = through_where f.now s
  through_stage (stage.Select f) s = through_select f.now s

  -- what an item of the base becomes at a form: it goes through each `Where` and `Select` above the base, and past what makes a sequence
  abbrev pub item_step : Form-F (Form × (Value R → Stream (Value R))) → Value R → Stream (Value R)
  item_step (Form-F.Where a f) x = through_where f.0 (a.1 x)
  item_step (Form-F.Select a f) x = through_select f.0 (a.1 x)
  item_step (Form-F.Sequence a) x = a.1 x
  item_step layer x = (x ∷ [], end.Done)

  unfoldable pub item_at : Form → Value R → Stream (Value R)
  item_at = para-Form (Value R → Stream (Value R)) item_step

  -- what comes of the items of a base at a form
  abbrev pub items_at : Form → Stream (Value R) → Stream (Value R)
  items_at f items = each (item_at f) items.0 items.1

  -- the items that are still to come of a source behind its last stage
  abbrev pub rest_behind : {S : Type 0} → Stage → Form → Base R S → Stream (Value R)
  rest_behind st source b = each (λ x. through_stage st (item_at source x)) (base_stream b).0 (base_stream b).1

  -- and all of them
  abbrev pub stream_behind : Stage → Form → Stream (Value R)
  stream_behind st source = through_stage st (stream_of world (form_meaning world source slots))

  -- what comes of an item at a stage whose condition is true of it, and of one that is dropped there or before
  abbrev pub last : Stage → Value R → Stream (Value R)
  last stage.Plain x = (x ∷ [], end.Done)
  last (stage.Where f) x = (x ∷ [], end.Done)
  last (stage.Select f) x = through_select f.now (x ∷ [], end.Done)

  abbrev pub last_if : Bool → Stage → Value R → Stream (Value R)
  last_if b st x = if b then last st x else ([], end.Done)
