-- Chains: conditions and lambdas above a table, and what comes of the table's rows there.
use Rattle.std.specs.Prelude.{◌≡◌, ◌∷◌, List, [], ℕ, Option, Some, None, Result, Ok, Err, slice_get}
use Rattle.lq_value.specs.declared.value.End.{End}
use Rattle.lq_value.specs.declared.value.End.TheVariants as end
use Rattle.lq_value.specs.declared.value.Fault.{Fault}
use Rattle.lq_value.specs.declared.value.Value.{Value, out-Value}
use Rattle.lq_value.specs.declared.value.Value.TheOpen.{Value-F}
use Rattle.lq_value.specs.declared.value.Value.TheVariants as value
use Rattle.lq_language.specs.Stream.{Stream}
use Rattle.lq_language.specs.Worlds.{World}
use Rattle.lq_tree.specs.declared.tree.Form.{Form, fold-Form}
use Rattle.lq_tree.specs.declared.tree.Form.TheOpen.{Form-F}
use Rattle.lq_plan.specs.Pulling.{item_at, rows_or_none}

-- the table at the end of a chain, where a form is one
abbrev pub leaf_step : Form-F (Option ℕ) → Option ℕ
leaf_step (Form-F.Table n) = Some n
leaf_step (Form-F.Where a c) = a
leaf_step (Form-F.Select a g) = a
leaf_step (Form-F.Sequence a) = a
leaf_step layer = None

unfoldable pub leaf_of : Form → Option ℕ
leaf_of = fold-Form (Option ℕ) leaf_step

-- the table that a form is
abbrev pub table_in : Form-F Form → Option ℕ
table_in (Form-F.Table n) = Some n
table_in layer = None

module _ {R : Type 0} (world : World R) where
  -- what comes of a row at the end of a chain
  abbrev pub comes_at : Form → R → Stream (Value R)
  comes_at f r = item_at world [] f (value.Row r)

  -- the rows of a table; none of one that isn't there
  abbrev pub rows_at : ℕ → List R
  rows_at n = rows_or_none (slice_get world.rows n)

module _ {R : Type 0} where
  -- a tree that is a sequence has its items, and every other one its value; a fault is the ending (.NET, IEnumerator.MoveNext)
  abbrev pub items_of_layer : Value R → Value-F R (Value R) → Stream (Value R)
  items_of_layer v (Value-F.Seq xs e) = (xs, e)
  items_of_layer v layer = (v ∷ [], end.Done)

  abbrev pub items_of_value : Value R → Stream (Value R)
  items_of_value v = items_of_layer v (out-Value R v)

  abbrev pub items_of_result : Result (Value R) Fault → Stream (Value R)
  items_of_result (Ok v) = items_of_value v
  items_of_result (Err f) = ([], end.Fault f)

  -- the items of a sequence were taken out of it, or it is no sequence
  abbrev pub HasItems : Value R → Result (List (Value R) × End) (Value R) → Type 0
  HasItems v (Ok items) = items_of_value v ≡ items
  HasItems v (Err w) = items_of_value v ≡ (w ∷ [], end.Done)
