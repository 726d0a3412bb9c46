-- Where a pipe stands: which items are to come, and which rows are handed out for them; and how it goes on from pull to pull.
use Rattle.std.specs.Prelude.{◌≡◌, ◌++◌, ◌&&◌, List, [], ℕ, suc, Bool, true, false, Option, Some, None, Result, Ok, Err, slice_get}
use Rattle.std.specs.List.{list_all}
use Rattle.std.specs.declared.alloc.AllocError.{AllocError}
use Rattle.lq_value.specs.declared.value.End.TheVariants as end
use Rattle.lq_value.specs.declared.value.Value.{Value}
use Rattle.lq_host.specs.declared.call.Call.{Call}
use Rattle.lq_language.specs.Enumerable.{in_front}
use Rattle.lq_language.specs.Stream.{Stream}
use Rattle.lq_language.specs.Worlds.{World}
use Rattle.lq_tree.specs.AllowedCalls.{watch_of}
use Rattle.lq_tree.specs.FormMeaning.{form_meaning}
use Rattle.lq_tree.specs.Watches.{HasGrown, RowFacts, Watch, is_covered, is_covered_above, is_watched_table}
use Rattle.lq_tree.specs.declared.tree.Form.{Form, out-Form}
use Rattle.lq_tree.specs.declared.tree.Form.TheOpen.{Form-F}
use Rattle.lq_guard.specs.Handing.{counted}
use Rattle.lq_pipeline.specs.Chains.{items_of_result}
use Rattle.lq_pipeline.specs.Heads.{Needs, leaf_below, needs_of, nothing_due, unwrapped}
use Rattle.lq_pipeline.specs.declared.steps.Step.{Step}
use Rattle.lq_pipeline.specs.declared.steps.Step.TheVariants as step

-- the items that are to come and how they end, and the rows that are handed out once so many more pulls were answered, and in all
pub record Place (R : Type 0) : Type 0 where
  pub left : Stream (Value R)
  pub needs : Needs R

module _ {R : Type 0} where
  -- these items, for which no row is handed out
  abbrev pub standing : Stream (Value R) → Place R
  standing s = record { left = s; needs = nothing_due }

  -- a pull is answered by the next item, or by how the items end, and so again
  abbrev pub Gives : Stream (Value R) → Step R → Stream (Value R) → Type 0
  Gives s (step.Item x) t = s ≡ in_front x t
  Gives s step.Done t = (s ≡ ([], end.Done)) × (t ≡ ([], end.Done))
  Gives s (step.Fault f) t = (s ≡ ([], end.Fault f)) × (t ≡ ([], end.Fault f))

  -- what is so where an answer isn't an item
  abbrev pub OnEnd : Step R → Type 0 → Type 0
  OnEnd (step.Item x) fact = Unit {0}
  OnEnd step.Done fact = fact
  OnEnd (step.Fault f) fact = fact

  -- no row is handed out there any more, and nothing is run
  abbrev pub IsSpent : Place R → Type 0
  IsSpent place = (place.needs.all ≡ []) × ((k : ℕ) → place.needs.runs k ≡ false)

  -- and these rows are handed out for it; none is any more, and nothing is run, once the end was answered
  pub record Goes (old : Place R) (answer : Step R) (front : List R) (new : Place R) : Type 0 where
    pub items : Gives old.left answer new.left
    pub rows : (k : ℕ) → old.needs.due (suc k) ≡ front ++ new.needs.due k
    pub all : old.needs.all ≡ front ++ new.needs.all
    pub none : new.needs.due 0 ≡ []
    pub runs : (k : ℕ) → new.needs.runs k ≡ true → old.needs.runs (suc k) ≡ true
    pub over : OnEnd answer (IsSpent new)

  -- or a part of them, where a growth is refused; then there is no place any more
  abbrev pub GoesOn : Place R → Result (Step R) AllocError → List R → Option (Place R) → Type 0
  GoesOn old (Ok answer) front (Some new) = Goes old answer front new
  GoesOn old (Ok answer) front None = ⊥
  GoesOn old (Err e) front (Some new) = ⊥
  GoesOn old (Err e) front None = (others : List R) × (old.needs.due 1 ≡ front ++ others)

  -- where there is none, each pull is refused, and nothing is handed out
  abbrev pub GoesFrom : Option (Place R) → Result (Step R) AllocError → List R → Option (Place R) → Type 0
  GoesFrom (Some old) answer front new = GoesOn old answer front new
  GoesFrom None (Ok answer) front new = ⊥
  GoesFrom None (Err e) front new = (front ≡ []) × (new ≡ None)

module _ {R : Type 0} (world : World R) where
  -- at first
  abbrev pub start_of : Form → Place R
  start_of f = record { left = items_of_result (form_meaning world f []); needs = needs_of world f }

  -- whether a watch covers what is run beside the rows of a form's table: conditions, lambdas and arguments
  abbrev pub covered_layer : Watch R → Form → Form-F Form → Bool
  covered_layer w f (Form-F.Simple method t a) = is_covered_above world w a
  covered_layer w f (Form-F.Given method a b) = is_covered_above world w a && is_covered world w b
  covered_layer w f (Form-F.All a c) = is_covered_above world w a && is_covered world w c
  covered_layer w f layer = is_covered_above world w f

  abbrev pub covers_beside : Form → Watch R → Bool
  covers_beside f w = covered_layer w (unwrapped f) (out-Form (unwrapped f))

  -- the rows pass that are read beside those that are handed out: of the tables that conditions, lambdas and arguments name, and of all tables where a
  -- form is run whole
  abbrev pub OthersPass : Option ℕ → Watch R → Form → Type 0
  OthersPass (Some n) w f = covers_beside f w ≡ true
  OthersPass None w f = (n : ℕ) → is_watched_table w (slice_get world.rows n) ≡ true

  -- The log has calls more of the form's host predicates alone. They are about rows that pass each test which these rows pass, and the rows that are read
  -- beside them.
  abbrev pub AddsCallsOn : RowFacts R → Form → List R → List Call → List Call → Type 0
  AddsCallsOn facts f front old new =
      (seen : R → Bool) → list_all seen front ≡ true → OthersPass (leaf_below f) (watch_of seen f) f → HasGrown world facts (watch_of seen f) old new

  -- where nothing is run the log stays, and so it does where there is no place any more
  abbrev pub AddsIf : Bool → RowFacts R → Form → List R → List Call → List Call → Type 0
  AddsIf true facts f front old new = AddsCallsOn facts f front old new
  AddsIf false facts f front old new = new ≡ old

  abbrev pub AddsFrom : Option (Place R) → RowFacts R → Form → List R → List Call → List Call → Type 0
  AddsFrom (Some place) = AddsIf (place.needs.runs 0)
  AddsFrom None = AddsIf false

  -- a pull of a pipe over a form, from a place, a count and a log to others
  pub record Pulls (facts : RowFacts R) (f : Form) (old : Option (Place R)) (n : ℕ) (log : List Call) (answer : Result (Step R) AllocError) (new : Option (Place R))
      (m : ℕ) (more : List Call) : Type 0 where
    pub front : List R
    pub goes : GoesFrom old answer front new
    pub count : m ≡ counted n front
    pub calls : AddsFrom old facts f front log more
