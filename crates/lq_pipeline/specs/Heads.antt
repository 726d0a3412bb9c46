-- What stands above a chain, and which of its rows a tree of that form needs.
use Rattle.std.specs.Prelude.{◌≡◌, ◌||◌, List, [], ℕ, zero, suc, Bool, true, false, Option, Some, None, Result, Ok, slice_get}
use Rattle.std.specs.List.{list_any}
use Rattle.lq_value.specs.SameAndOrder.{same_values}
use Rattle.lq_value.specs.declared.scalar.Scalar.TheVariants as scalar
use Rattle.lq_value.specs.declared.value.Fault.{Fault}
use Rattle.lq_value.specs.declared.value.Value.{Value, out-Value}
use Rattle.lq_value.specs.declared.value.Value.TheOpen.{Value-F}
use Rattle.lq_language.specs.Enumerable.{as_count, is_among}
use Rattle.lq_language.specs.OperandMeaning.{stream_of, table_value}
use Rattle.lq_language.specs.TableRows.{TableRow}
use Rattle.lq_language.specs.Worlds.{World}
use Rattle.lq_language.specs.declared.methods.Given.{Given}
use Rattle.lq_language.specs.declared.methods.Given.TheVariants as given
use Rattle.lq_tree.specs.FormMeaning.{form_meaning, is_true, with_item}
use Rattle.lq_tree.specs.declared.tree.Form.{Form, out-Form, para-Form}
use Rattle.lq_tree.specs.declared.tree.Form.TheOpen.{Form-F}
use Rattle.lq_tree.specs.declared.tree.Form.TheVariants as form
use Rattle.lq_plan.specs.Counts.{given_limit, simple_limit}
use Rattle.lq_plan.specs.Pulling.{items_at}
use Rattle.lq_pipeline.specs.Chains.{comes_at, items_of_result, leaf_of, rows_at}
use Rattle.lq_pipeline.specs.Settling.{has_at_least, needed, reaches}
use Rattle.lq_pipeline.specs.Truths.{is_not_true}
use Rattle.lq_pipeline.specs.declared.chains.Head.{Head}
use Rattle.lq_pipeline.specs.declared.chains.Head.TheVariants as head

-- the `Take` in a form, below what says only that it is a sequence
abbrev pub take_step : Form-F (Form × Option Form) → Option Form
take_step (Form-F.Sequence a) = a.1
take_step (Form-F.Given given.Take a b) = Some (form.Given given.Take a.0 b.0)
take_step layer = None

unfoldable pub take_in : Form → Option Form
take_in = para-Form (Option Form) take_step

abbrev pub unwrapped_by : Form → Option Form → Form
unwrapped_by f None = f
unwrapped_by f (Some g) = g

-- what a layer says is a sequence, and whether it is a `Take`
abbrev pub sequence_layer : Form-F Form → Option Form
sequence_layer (Form-F.Sequence a) = Some a
sequence_layer layer = None

abbrev pub is_take : Given → Bool
is_take given.Take = true
is_take method = false

abbrev pub is_take_layer : Form-F Form → Bool
is_take_layer (Form-F.Given method a b) = is_take method
is_take_layer layer = false

-- a form whose items are the same: this `Take`, or the form itself
abbrev pub unwrapped : Form → Form
unwrapped f = unwrapped_by f (take_in f)

-- a form is this head over this chain
abbrev pub IsHeadOver : Form → Head → Form → Type 0
IsHeadOver f head.Plain a = unwrapped f ≡ a
IsHeadOver f (head.Simple method of) a = unwrapped f ≡ form.Simple method of.now a
IsHeadOver f (head.Given method argument) a = unwrapped f ≡ form.Given method a argument.now
IsHeadOver f (head.All condition) a = unwrapped f ≡ form.All a condition.now

-- the table below the head of a form, where the form is a head over a chain
abbrev pub leaf_under : Form → Form-F Form → Option ℕ
leaf_under f (Form-F.Simple method t a) = leaf_of a
leaf_under f (Form-F.Given method a b) = leaf_of a
leaf_under f (Form-F.All a c) = leaf_of a
leaf_under f layer = leaf_of f

abbrev pub leaf_below : Form → Option ℕ
leaf_below f = leaf_under (unwrapped f) (out-Form (unwrapped f))

-- what a chain means is what comes of the rows of this table, one by one
abbrev pub AreItemsOf : Form → ℕ → Type 0
AreItemsOf f n =
    (world : World TableRow)
    → (items_at world [] f (stream_of world (table_value world (slice_get world.rows n))) ≡ stream_of world (form_meaning world f []))
    × (items_of_result (form_meaning world f []) ≡ stream_of world (form_meaning world f []))

-- the rows of a leaf that are needed for so many pulls, and those that are needed in all; and whether a pull behind so many has anything run, and so may
-- have host predicates asked
pub record Needs (R : Type 0) : Type 0 where
  pub due : ℕ → List R
  pub all : List R
  pub runs : ℕ → Bool

-- always, at the first pull alone, or never
abbrev pub always : ℕ → Bool
always k = true

abbrev pub at_first : ℕ → Bool
at_first zero = true
at_first (suc k) = false

abbrev pub never : ℕ → Bool
never k = false

module _ {R : Type 0} where
  -- none, and nothing is run
  abbrev pub nothing_due : Needs R
  nothing_due = record { due = λ k. []; all = []; runs = never }

  -- none, and the first pull has the whole form run
  abbrev pub run_whole : Needs R
  run_whole = record { due = λ k. []; all = []; runs = at_first }

module _ {R : Type 0} where
  -- what decides a method with an argument: the first item that is the same, for `Contains`, and else how many there are; where the argument is a
  -- fault that is the answer, nothing has to be there
  abbrev pub decides_given : Given → Result (Value R) Fault → List (Value R) → Bool
  decides_given given.Contains (Ok v) = is_among same_values v
  decides_given method argument = reaches (given_limit method argument)

  -- how many items `Take` gives, one by one, where its argument is a number
  abbrev pub taken_of_layer : Value-F R (Value R) → Option ℕ
  taken_of_layer (Value-F.Scalar (scalar.Int n)) = Some (as_count n)
  taken_of_layer layer = None

  abbrev pub taken_by : Given → Result (Value R) Fault → Option ℕ
  taken_by given.Take (Ok v) = taken_of_layer (out-Value R v)
  taken_by method argument = None

module _ {R : Type 0} (world : World R) where
  -- for so many items of a chain, up to a limit, if there is one
  abbrev pub due_for_items : Form → Option ℕ → List R → ℕ → List R
  due_for_items f limit rows zero = []
  due_for_items f limit rows (suc k) = needed (comes_at world f) (λ items. has_at_least (suc k) items || reaches limit items) rows

  -- the items of a chain, one by one, up to a limit
  abbrev pub one_by_one : Form → Option ℕ → List R → Needs R
  one_by_one f limit rows = record { due = due_for_items f limit rows; all = needed (comes_at world f) (reaches limit) rows; runs = always }

  -- what decides a value, which is answered by the first pull
  abbrev pub due_for_value : Form → (List (Value R) → Bool) → List R → ℕ → List R
  due_for_value f decide rows zero = []
  due_for_value f decide rows (suc k) = needed (comes_at world f) decide rows

  abbrev pub at_once : Form → (List (Value R) → Bool) → List R → Needs R
  at_once f decide rows = record { due = due_for_value f decide rows; all = needed (comes_at world f) decide rows; runs = at_first }

  -- whether a condition isn't true of one of these items
  abbrev pub fails : Form → List (Value R) → Bool
  fails condition items = list_any (λ x. is_not_true (is_true world (form_meaning world condition) (with_item world [] x))) items

  abbrev pub given_needs_by : Form → Option ℕ → (List (Value R) → Bool) → List R → Needs R
  given_needs_by f (Some n) decide = one_by_one f (Some n)
  given_needs_by f None decide = at_once f decide

  abbrev pub given_needs : Form → Given → Result (Value R) Fault → List R → Needs R
  given_needs f method argument = given_needs_by f (taken_by method argument) (decides_given method argument)

  -- what is needed of a table, if there is one; a form above none is run whole
  abbrev pub needs_of_leaf : Option ℕ → (List R → Needs R) → Needs R
  needs_of_leaf None by = run_whole
  needs_of_leaf (Some n) by = by (rows_at world n)

  abbrev pub needs_layer : Form → Form-F Form → Needs R
  needs_layer f (Form-F.Simple method t a) = needs_of_leaf (leaf_of a) (at_once a (reaches (simple_limit method)))
  needs_layer f (Form-F.Given method a b) = needs_of_leaf (leaf_of a) (given_needs a method (form_meaning world b []))
  needs_layer f (Form-F.All a c) = needs_of_leaf (leaf_of a) (at_once a (fails c))
  needs_layer f layer = needs_of_leaf (leaf_of f) (one_by_one f None)

  -- The rows that a form hands out. A form that isn't a head over a chain is run whole, and hands out none one by one.
  abbrev pub needs_of : Form → Needs R
  needs_of f = needs_layer (unwrapped f) (out-Form (unwrapped f))
