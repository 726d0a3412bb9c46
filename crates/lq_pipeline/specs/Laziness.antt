-- How few rows a pipe hands out: the shortest front of a table's rows that settles a query, and calls of host predicates about these alone.
use Rattle.std.specs.Prelude.{◌≡◌, ◌∷◌, ◌++◌, ◌+◌, ◌-◌, ◌^◌, ◌⊎◌, List, [], ℕ, pos, negsuc, Bool, true, false, Some, None, Result, Ok, Err, length, min, slice_get}
use Rattle.std.specs.declared.alloc.AllocError.{AllocError}
use Rattle.lq_value.specs.SameAndOrder.{same_values}
use Rattle.lq_value.specs.declared.scalar.Scalar.TheVariants as scalar
use Rattle.lq_value.specs.declared.ty.Ty.{Ty}
use Rattle.lq_value.specs.declared.value.Fault.{Fault}
use Rattle.lq_value.specs.declared.value.Value.{Value}
use Rattle.lq_value.specs.declared.value.Value.TheVariants as value
use Rattle.lq_host.specs.declared.call.Call.{Call}
use Rattle.lq_language.specs.Enumerable.{is_among}
use Rattle.lq_language.specs.Mentions.{Mention, Column, HostAt, Table}
use Rattle.lq_language.specs.Stream.{Stream}
use Rattle.lq_language.specs.TableRows.{TableRow}
use Rattle.lq_language.specs.ValuesOfTypes.{Every}
use Rattle.lq_language.specs.Worlds.{World}
use Rattle.lq_language.specs.declared.methods.Given.TheVariants as given
use Rattle.lq_language.specs.declared.methods.Simple.TheVariants as simple
use Rattle.lq_tree.specs.FormMeaning.{form_meaning}
use Rattle.lq_tree.specs.UsesOfForms.{form_uses}
use Rattle.lq_tree.specs.declared.tree.Form.{Form}
use Rattle.lq_tree.specs.declared.tree.Form.TheVariants as form
use Rattle.lq_pull.specs.Views.{row_facts}
use Rattle.lq_pipeline.specs.Chains.{comes_at, leaf_of, rows_at}
use Rattle.lq_pipeline.specs.Heads.{fails, leaf_below, needs_of}
use Rattle.lq_pipeline.specs.Pulling.{PullsTo, State}
use Rattle.lq_pipeline.specs.Places.{AddsCallsOn, start_of}
use Rattle.lq_pipeline.specs.Settling.{has_at_least, is_settled, needed, over}
use Rattle.lq_pipeline.specs.declared.steps.Step.{Step}
use Rattle.lq_pipeline.specs.declared.steps.Step.TheVariants as step

-- ---- fronts

-- What is needed is a front of the rows. It settles what is decided, or it is all of them; and no shorter front does.
pub record IsShortest {R A : Type 0} (come : R → Stream A) (decide : List A → Bool) (rows front : List R) : Type 0 where
  pub others : List R
  pub is : rows ≡ front ++ others
  pub settles : (is_settled decide (over come front) ≡ true) ⊎ (front ≡ rows)
  pub shorter : (less : List R) (r : R) (more : List R) → front ≡ less ++ r ∷ more → is_settled decide (over come less) ≡ false

abbrev pub NeededIsShortest : Type 0 → Type 0 → Type 0
NeededIsShortest R A = (come : R → Stream A) (decide : List A → Bool) (rows : List R) → IsShortest come decide rows (needed come decide rows)

-- ---- which front

-- Over a chain whose leaf is this table: an item for `First` and `Any`; the item at a number, and behind it, for `ElementAt`; so many for `Take`; the
-- match for `Contains`; and for `All` an item on which the condition isn't true. No row, where there is nothing to look for. A `Take` is a sequence,
-- and says so, in the tree of a statement.
pub record StraightNeeds (world : World TableRow) (a : Form) (n : ℕ) : Type 0 where
  pub first : (t : Ty) → (needs_of world (form.Simple simple.First t a)).all ≡ needed (comes_at world a) (has_at_least 1) (rows_at world n)
  pub any : (t : Ty) → (needs_of world (form.Simple simple.Any t a)).all ≡ needed (comes_at world a) (has_at_least 1) (rows_at world n)
  pub all : (c : Form) → (needs_of world (form.All a c)).all ≡ needed (comes_at world a) (fails world c) (rows_at world n)
  pub contains : (b : Form) (v : Value TableRow) → form_meaning world b [] ≡ Ok v
      → (needs_of world (form.Given given.Contains a b)).all ≡ needed (comes_at world a) (is_among same_values v) (rows_at world n)
  pub element_at : (b : Form) (k : ℕ) → form_meaning world b [] ≡ Ok (value.Scalar (scalar.Int (pos k)))
      → (needs_of world (form.Given given.ElementAt a b)).all ≡ needed (comes_at world a) (has_at_least (k + 1)) (rows_at world n)
  pub take : (b : Form) (k : ℕ) → form_meaning world b [] ≡ Ok (value.Scalar (scalar.Int (pos k)))
      → (needs_of world (form.Given given.Take a b)).all ≡ needed (comes_at world a) (has_at_least k) (rows_at world n)
  pub sequence : (b : Form) → needs_of world (form.Sequence (form.Given given.Take a b)) ≡ needs_of world (form.Given given.Take a b)
  pub below : (b : Form) (k : ℕ) → form_meaning world b [] ≡ Ok (value.Scalar (scalar.Int (negsuc k)))
      → ((needs_of world (form.Given given.ElementAt a b)).all ≡ []) × ((needs_of world (form.Given given.Take a b)).all ≡ [])
  pub fault : (b : Form) (f : Fault) → form_meaning world b [] ≡ Err f
      → ((needs_of world (form.Given given.Contains a b)).all ≡ []) × ((needs_of world (form.Given given.ElementAt a b)).all ≡ [])
      × ((needs_of world (form.Given given.Take a b)).all ≡ [])

abbrev pub ChainsNeed : Type 0
ChainsNeed = (world : World TableRow) (a : Form) (n : ℕ) → leaf_of a ≡ Some n → StraightNeeds world a n

-- ---- pulls one after the other

module _ (world : World TableRow) (f : Form) where
  -- pulls that are answered so
  abbrev pub PullsAll : List (Step TableRow) → State → State → Type 0
  PullsAll [] old new = new ≡ old
  PullsAll (answer ∷ answers) old new = (middle : State) × PullsTo world f old (Ok answer) middle × PullsAll answers middle new

  -- whether the last of them says how the items end
  abbrev pub says_end : Step TableRow → Bool
  says_end (step.Item x) = false
  says_end step.Done = true
  says_end (step.Fault g) = true

  abbrev pub has_ended : List (Step TableRow) → Bool
  has_ended [] = false
  has_ended (answer ∷ []) = says_end answer
  has_ended (answer ∷ answers) = has_ended answers

  -- nothing was pulled
  abbrev pub opened : List Call → State
  opened calls = record { place = Some (start_of world f); handed = 0; calls = calls }

  -- After pulls these rows were handed out: a front of those that are needed in all, and all of them once the end was answered. So many were
  -- counted, up to the largest number of 64 bits, and calls were added about them alone.
  pub record HasHandedOut (answers : List (Step TableRow)) (calls : List Call) (last : State) : Type 0 where
    pub front : List TableRow
    pub others : List TableRow
    pub count : last.handed ≡ min (length front) (2 ^ 64 - 1)
    pub is : (needs_of world f).all ≡ front ++ others
    pub so_many : front ≡ (needs_of world f).due (length answers)
    pub ended : has_ended answers ≡ true → others ≡ []
    pub adds : AddsCallsOn world row_facts f front calls last.calls

abbrev pub PullsHandOut : Type 0
PullsHandOut =
    (world : World TableRow) (f : Form) (answers : List (Step TableRow)) (calls : List Call) (last : State)
    → PullsAll world f answers (opened world f calls) last → HasHandedOut world f answers calls last

-- once a pull said how the items end, each further one says the same, hands out no row and has no host predicate asked
abbrev pub EndsStay : Type 0
EndsStay =
    (world : World TableRow) (f : Form) (answer : Step TableRow) (answers : List (Step TableRow)) (old middle last : State) → says_end world f answer ≡ true
    → PullsTo world f old (Ok answer) middle → PullsAll world f answers middle last
    → Every (λ again. again ≡ answer) answers × (last.handed ≡ middle.handed) × (last.calls ≡ middle.calls)

-- and once one was refused a growth, each further one is refused so
abbrev pub RefusalsStay : Type 0
RefusalsStay =
    (world : World TableRow) (f : Form) (e : AllocError) (answer : Result (Step TableRow) AllocError) (old middle last : State) → PullsTo world f old (Err e) middle
    → PullsTo world f middle answer last
    → ((d : AllocError) × (answer ≡ Err d)) × (last.place ≡ None) × (last.handed ≡ middle.handed) × (last.calls ≡ middle.calls)

-- ---- calls

-- the tables that are named, as often as they are
abbrev pub tables_named : List Mention → List ℕ
tables_named [] = []
tables_named (Table t ∷ named) = t ∷ tables_named named
tables_named (Column t c ∷ named) = tables_named named
tables_named (HostAt p t columns ∷ named) = tables_named named

-- a straight query names one table, once, at the end of the chain below its head
abbrev pub IsStraight : Form → ℕ → Type 0
IsStraight f n = (leaf_below f ≡ Some n) × (tables_named (form_uses f) ≡ n ∷ [])

-- a call about one of these rows
abbrev pub IsOnOne : List TableRow → Call → Type 0
IsOnOne rows call = (place : ℕ) × (r : TableRow) × (slice_get rows place ≡ Some r) × (r.table ≡ call.table) × (r.row.number ≡ call.row)

-- each call that pulls of a straight query add is about a row that was handed out
abbrev pub CallsAreOnHanded : Type 0
CallsAreOnHanded =
    (world : World TableRow) (f : Form) (n : ℕ) → IsStraight f n → (front : List TableRow) (old new : List Call) → AddsCallsOn world row_facts f front old new
    → (calls : List Call) × (new ≡ old ++ calls) × Every (IsOnOne front) calls
