-- Pulls one after the other, by who keeps a pipe, and by a drain.
use Rattle.std.specs.Prelude.{◌≡◌, ◌∷◌, ◌⊎◌, List, [], ℕ, Option, Some, None, Result, Ok, Err}
use Rattle.std.specs.declared.alloc.AllocError.{AllocError}
use Rattle.lq_value.specs.declared.value.End.{End}
use Rattle.lq_value.specs.declared.value.End.TheVariants as end
use Rattle.lq_value.specs.declared.value.Value.{Value}
use Rattle.lq_host.specs.declared.call.Call.{Call}
use Rattle.lq_language.specs.TableRows.{TableRow}
use Rattle.lq_language.specs.Worlds.{World}
use Rattle.lq_tree.specs.declared.tree.Form.{Form}
use Rattle.lq_sink.specs.Draining.{OnFlow}
use Rattle.lq_sink.specs.declared.sinks.Flow.{Flow}
use Rattle.lq_sink.specs.declared.sinks.Flow.TheVariants as flow
use Rattle.lq_pull.specs.Views.{row_facts}
use Rattle.lq_pipeline.specs.Places.{Place, Pulls}
use Rattle.lq_pipeline.specs.declared.steps.Step.{Step}
use Rattle.lq_pipeline.specs.declared.steps.Step.TheVariants as step

-- where a pipe stands, how many rows it has handed out, and the calls of host predicates so far
pub record State : Type 0 where
  pub place : Option (Place TableRow)
  pub handed : ℕ
  pub calls : List Call

module _ (world : World TableRow) (f : Form) where
  -- a pull
  abbrev pub PullsTo : State → Result (Step TableRow) AllocError → State → Type 0
  PullsTo old answer new = Pulls world row_facts f old.place old.handed old.calls answer new.place new.handed new.calls

  -- a pull that gives no item
  abbrev pub EndsWith : State → Result End AllocError → State → Type 0
  EndsWith old (Ok end.Done) new = PullsTo old (Ok step.Done) new
  EndsWith old (Ok (end.Fault f)) new = PullsTo old (Ok (step.Fault f)) new
  EndsWith old (Err e) new = PullsTo old (Err e) new

  -- One pull, whose item is given to what takes them: it takes more, or its stop is answered as done. Where none comes, how they end is answered.
  abbrev pub GivesOne : {K : Type 0} → (K → Value TableRow → Flow → K → Type 0) → State → K → Result (Option End) AllocError → State → K → Type 0
  GivesOne takes old sink (Ok None) new rest = (x : Value TableRow) × PullsTo old (Ok (step.Item x)) new × takes sink x flow.Go rest
  GivesOne takes old sink (Ok (Some e)) new rest =
      (EndsWith old (Ok e) new × (rest ≡ sink)) ⊎ ((e ≡ end.Done) × (x : Value TableRow) × PullsTo old (Ok (step.Item x)) new × takes sink x flow.Stop rest)
  GivesOne takes old sink (Err e) new rest = EndsWith old (Err e) new × (rest ≡ sink)

  -- Pulls of these items, each of which is given to what takes them before the next pull, and no pull after a stop; and behind them, where nothing
  -- stopped, one that gives none.
  abbrev pub DrainsBy : {K : Type 0} → (K → Value TableRow → Flow → K → Type 0) → List (Value TableRow) → State → K → Result End AllocError → State → K → Type 0
  DrainsBy takes [] old sink answer new rest = EndsWith old answer new × (rest ≡ sink)
  DrainsBy {K} takes (x ∷ xs) old sink answer new rest =
      (middle : State) × (said : Flow) × (taken : K) × PullsTo old (Ok (step.Item x)) middle × takes sink x said taken
      × OnFlow said (DrainsBy takes xs middle taken answer new rest) ((xs ≡ []) × (answer ≡ Ok end.Done) × (new ≡ middle) × (rest ≡ taken))

  -- a drain is such pulls, of whatever items
  abbrev pub Drained : {K : Type 0} → (K → Value TableRow → Flow → K → Type 0) → State → K → Result End AllocError → State → K → Type 0
  Drained takes old sink answer new rest = (items : List (Value TableRow)) × DrainsBy takes items old sink answer new rest
