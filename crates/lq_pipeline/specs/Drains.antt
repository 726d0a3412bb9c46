-- What a drain comes to: its items are given to what takes them, and it is pulls one after the other.
use Rattle.std.specs.Prelude.{◌≡◌, ◌∷◌, ◌++◌, ◌⊎◌, List, [], map, Some, Result, Ok, Err}
use Rattle.std.specs.declared.alloc.AllocError.{AllocError}
use Rattle.lq_value.specs.declared.value.End.{End}
use Rattle.lq_value.specs.declared.value.End.TheVariants as end
use Rattle.lq_value.specs.declared.value.Value.{Value}
use Rattle.lq_host.specs.declared.call.Call.{Call}
use Rattle.lq_language.specs.Stream.{Stream}
use Rattle.lq_language.specs.TableRows.{TableRow}
use Rattle.lq_language.specs.Worlds.{World}
use Rattle.lq_tree.specs.declared.tree.Form.{Form}
use Rattle.lq_sink.specs.Draining.{Drains}
use Rattle.lq_sink.specs.declared.sinks.Flow.{Flow}
use Rattle.lq_sink.specs.declared.sinks.Flow.TheVariants as flow
use Rattle.lq_pipeline.specs.Laziness.{HasHandedOut, PullsAll, opened}
use Rattle.lq_pipeline.specs.Places.{Place}
use Rattle.lq_pipeline.specs.Pulling.{DrainsBy, Drained, PullsTo, State}
use Rattle.lq_pipeline.specs.declared.steps.Step.{Step}
use Rattle.lq_pipeline.specs.declared.steps.Step.TheVariants as step

module _ {K : Type 0} (takes : K → Value TableRow → Flow → K → Type 0) where
  -- all of these items are taken, one after the other
  abbrev pub TakesAll : List (Value TableRow) → K → K → Type 0
  TakesAll [] old new = new ≡ old
  TakesAll (x ∷ xs) old new = (middle : K) × takes old x flow.Go middle × TakesAll xs middle new

  -- Items are given in order until something stops or they end, which is answered. Where a growth is refused some were given, from the first on.
  abbrev pub GivesItems : Stream (Value TableRow) → K → Result End AllocError → K → Type 0
  GivesItems s sink (Ok e) rest = Drains takes s.0 s.1 sink e rest
  GivesItems s sink (Err e) rest = (given : List (Value TableRow)) × (others : List (Value TableRow)) × (s.0 ≡ given ++ others) × TakesAll given sink rest

  -- a drain gives the items that are to come
  abbrev pub DrainsGive : Type 0
  DrainsGive =
      (world : World TableRow) (f : Form) (place : Place TableRow) (old last : State) (sink rest : K) (answer : Result End AllocError) → old.place ≡ Some place
      → Drained world f takes old sink answer last rest → GivesItems place.left sink answer rest

-- how a pull says that the items end
abbrev pub step_of : End → Step TableRow
step_of end.Done = step.Done
step_of (end.Fault f) = step.Fault f

abbrev pub items_of : List (Value TableRow) → List (Step TableRow)
items_of xs = map (λ x. step.Item x) xs

-- these pulls, and one that is refused a growth
module _ (world : World TableRow) (f : Form) where
  abbrev pub PullsRefused : List (Step TableRow) → AllocError → State → State → Type 0
  PullsRefused answers e old new = (middle : State) × PullsAll world f answers old middle × PullsTo world f middle (Err e) new

  -- a pull for each item, and where nothing stopped one more
  abbrev pub IsPulls : List (Value TableRow) → State → Result End AllocError → State → Type 0
  IsPulls items old (Ok e) new = PullsAll world f (items_of items) old new ⊎ PullsAll world f (items_of items ++ step_of e ∷ []) old new
  IsPulls items old (Err e) new = PullsRefused (items_of items) e old new

-- a drain is these pulls, and no other
abbrev pub DrainsPull : {K : Type 0} → (K → Value TableRow → Flow → K → Type 0) → Type 0
DrainsPull {K} takes =
    (world : World TableRow) (f : Form) (items : List (Value TableRow)) (old last : State) (sink rest : K) (answer : Result End AllocError)
    → DrainsBy world f takes items old sink answer last rest → IsPulls world f items old answer last

-- After a drain of what was opened, those rows were handed out that so many pulls need as it gave items, or one more, where it came to the end.
abbrev pub DrainsHandOut : {K : Type 0} → (K → Value TableRow → Flow → K → Type 0) → Type 0
DrainsHandOut {K} takes =
    (world : World TableRow) (f : Form) (items : List (Value TableRow)) (calls : List Call) (last : State) (sink rest : K) (e : End)
    → DrainsBy world f takes items (opened world f calls) sink (Ok e) last rest
    → HasHandedOut world f (items_of items) calls last ⊎ HasHandedOut world f (items_of items ++ step_of e ∷ []) calls last
