-- A drain, pull by pull.
use Rattle.std.proofs.Common.{◌≡◌, ◌∷◌, ◌<◌, inl, inr, List, [], ℕ, Option, Some, None, Result, Ok, Err, ap, sym, refl, subst, length, arith}
use Rattle.std.specs.declared.alloc.AllocError.{AllocError}
use Rattle.lq_value.specs.declared.value.End.{End}
use Rattle.lq_value.specs.declared.value.End.TheVariants as end
use Rattle.lq_value.specs.declared.value.Fault.{Fault}
use Rattle.lq_value.specs.declared.value.Value.{Value}
use Rattle.lq_host.specs.Predicates.{Predicate}
use Rattle.lq_language.specs.Enumerable.{in_front}
use Rattle.lq_language.specs.Stream.{Stream}
use Rattle.lq_language.specs.TableRows.{TableRow}
use Rattle.lq_language.specs.Worlds.{World}
use Rattle.lq_tree.specs.declared.tree.Form.{Form}
use Rattle.lq_sink.specs.declared.sinks.Flow.{Flow}
use Rattle.lq_sink.specs.declared.sinks.Flow.TheVariants as flow
use Rattle.lq_pull.specs.Views.{Sight, world_seen}
use Rattle.lq_pipeline.specs.Pulling.{Drained, GivesOne, PullsTo, State}
use Rattle.lq_pipeline.specs.Places.{GoesFrom, Place}
use Rattle.lq_pipeline.specs.declared.steps.Step.{Step}
use Rattle.lq_pipeline.specs.declared.steps.Step.TheVariants as step

-- how many items are to come
abbrev pub items_to_come_in : Option (Place TableRow) → ℕ
items_to_come_in None = 0
items_to_come_in (Some place) = length place.left.0

fewer_left : (old new : Stream (Value TableRow)) (x : Value TableRow) → old ≡ in_front x new → length new.0 < length old.0
fewer_left old new x is = let same : length old.0 ≡ length (x ∷ new.0) = ap (λ (s : Stream (Value TableRow)). length s.0) is in omega (arith, same)

pub fewer_to_come : (old new : Option (Place TableRow)) (x : Value TableRow) (front : List TableRow) → GoesFrom old (Ok (step.Item x)) front new
    → items_to_come_in new < items_to_come_in old
fewer_to_come None new x front goes = absurd goes
fewer_to_come (Some p) None x front goes = absurd goes
fewer_to_come (Some p) (Some q) x front goes = fewer_left p.left q.left x goes.items

module _ (world : World TableRow) (f : Form) {K : Type 0} (takes : K → Value TableRow → Flow → K → Type 0) where
  abbrev Drains : State → K → Result End AllocError → State → K → Type 0
  Drains = Drained world f takes

  -- from a state on, whatever comes of it, comes of the first one
  abbrev pub Extends : State → K → State → K → Type 0
  Extends first start middle sink = (answer : Result End AllocError) (last : State) (rest : K) → Drains middle sink answer last rest → Drains first start answer last rest

  pub extends_itself : (first : State) (start : K) → Extends first start first start
  extends_itself first start answer last rest drains = drains

  pub extends_on : (first middle next : State) (start sink taken : K) → Extends first start middle sink → GivesOne world f takes middle sink (Ok None) next taken
      → Extends first start next taken
  extends_on first middle next start sink taken extends (x, pulls, takes_it) answer last rest drains =
      extends answer last rest (x ∷ drains.0, (next, flow.Go, taken, pulls, takes_it, drains.1))

  -- how a drain ends
  pub ends : (first middle next : State) (start sink rest : K) (e : End) → Extends first start middle sink → GivesOne world f takes middle sink (Ok (Some e)) next rest
      → Drains first start (Ok e) next rest
  ends first middle next start sink rest e extends (inl (ends_so, same)) = extends (Ok e) next rest ([], (ends_so, same))
  ends first middle next start sink rest e extends (inr (done, x, pulls, takes_it)) =
      subst (λ (answer : End). Drains first start (Ok answer) next rest) (sym done)
      (extends (Ok end.Done) next rest (x ∷ [], (next, flow.Stop, rest, pulls, takes_it, (refl, refl, refl, refl))))

  pub refused : (first middle next : State) (start sink rest : K) (e : AllocError) → Extends first start middle sink → GivesOne world f takes middle sink (Err e) next rest
      → Drains first start (Err e) next rest
  refused first middle next start sink rest e extends (ends_so, same) = extends (Err e) next rest ([], (ends_so, same))

  -- ---- one pull, by its answer

  pub gives_item : (old new : State) (result : Result (Step TableRow) AllocError) (x : Value TableRow) (sink rest : K) (said : Flow) → result ≡ Ok (step.Item x)
      → PullsTo world f old result new → takes sink x said rest → said ≡ flow.Go → GivesOne world f takes old sink (Ok None) new rest
  gives_item old new result x sink rest said is pulls takes_it goes =
      (x, subst (λ (r : Result (Step TableRow) AllocError). PullsTo world f old r new) is pulls, subst (λ (s : Flow). takes sink x s rest) goes takes_it)

  pub gives_last : (old new : State) (result : Result (Step TableRow) AllocError) (x : Value TableRow) (sink rest : K) (said : Flow) → result ≡ Ok (step.Item x)
      → PullsTo world f old result new → takes sink x said rest → said ≡ flow.Stop → GivesOne world f takes old sink (Ok (Some end.Done)) new rest
  gives_last old new result x sink rest said is pulls takes_it stops =
      inr (refl, x, subst (λ (r : Result (Step TableRow) AllocError). PullsTo world f old r new) is pulls, subst (λ (s : Flow). takes sink x s rest) stops takes_it)

  pub gives_done : (old new : State) (result : Result (Step TableRow) AllocError) (sink : K) → result ≡ Ok step.Done → PullsTo world f old result new
      → GivesOne world f takes old sink (Ok (Some end.Done)) new sink
  gives_done old new result sink is pulls = inl (subst (λ (r : Result (Step TableRow) AllocError). PullsTo world f old r new) is pulls, refl)

  pub gives_fault : (old new : State) (result : Result (Step TableRow) AllocError) (g : Fault) (sink : K) → result ≡ Ok (step.Fault g) → PullsTo world f old result new
      → GivesOne world f takes old sink (Ok (Some (end.Fault g))) new sink
  gives_fault old new result g sink is pulls = inl (subst (λ (r : Result (Step TableRow) AllocError). PullsTo world f old r new) is pulls, refl)

  pub gives_none : (old new : State) (result : Result (Step TableRow) AllocError) (e : AllocError) (sink : K) → result ≡ Err e → PullsTo world f old result new
      → GivesOne world f takes old sink (Err e) new sink
  gives_none old new result e sink is pulls = (subst (λ (r : Result (Step TableRow) AllocError). PullsTo world f old r new) is pulls, refl)

  -- ---- a drain, by the answer of a pull

  pub goes_on : (first middle next : State) (start sink taken : K) (result : Result (Option End) AllocError) → result ≡ Ok None → Extends first start middle sink
      → GivesOne world f takes middle sink result next taken → Extends first start next taken
  goes_on first middle next start sink taken result is extends gives =
      extends_on first middle next start sink taken extends (subst (λ (r : Result (Option End) AllocError). GivesOne world f takes middle sink r next taken) is gives)

  pub drained : (first middle next : State) (start sink rest : K) (result : Result (Option End) AllocError) (e : End) → result ≡ Ok (Some e) → Extends first start middle sink
      → GivesOne world f takes middle sink result next rest → Drains first start (Ok e) next rest
  drained first middle next start sink rest result e is extends gives =
      ends first middle next start sink rest e extends (subst (λ (r : Result (Option End) AllocError). GivesOne world f takes middle sink r next rest) is gives)

  pub drained_none : (first middle next : State) (start sink rest : K) (result : Result (Option End) AllocError) (e : AllocError) → result ≡ Err e → Extends first start middle sink
      → GivesOne world f takes middle sink result next rest → Drains first start (Err e) next rest
  drained_none first middle next start sink rest result e is extends gives =
      refused first middle next start sink rest e extends (subst (λ (r : Result (Option End) AllocError). GivesOne world f takes middle sink r next rest) is gives)

  fewer_by : (middle next : State) (sink taken : K) → GivesOne world f takes middle sink (Ok None) next taken → items_to_come_in next.place < items_to_come_in middle.place
  fewer_by middle next sink taken (x, pulls, takes_it) = fewer_to_come middle.place next.place x pulls.front pulls.goes

  pub fewer : (middle next : State) (sink taken : K) (result : Result (Option End) AllocError) → result ≡ Ok None → GivesOne world f takes middle sink result next taken
      → items_to_come_in next.place < items_to_come_in middle.place
  fewer middle next sink taken result is gives =
      fewer_by middle next sink taken (subst (λ (r : Result (Option End) AllocError). GivesOne world f takes middle sink r next taken) is gives)

-- over the same tables, form and host predicates
pub gives_over : {K : Type 0} (takes : K → Value TableRow → Flow → K → Type 0) (s t : Sight) (f h : Form) (p q : List Predicate) → s ≡ t → f ≡ h → p ≡ q
    → (old new : List Predicate → State) (sink rest : K) (result : Result (Option End) AllocError) → GivesOne (world_seen s p) f takes (old p) sink result (new p) rest
    → GivesOne (world_seen t q) h takes (old q) sink result (new q) rest
gives_over takes s t f h p q sights forms predicates old new sink rest result gives =
    subst (λ (x : Sight × Form × List Predicate). GivesOne (world_seen x.0 x.2) x.1 takes (old x.2) sink result (new x.2) rest) (λ i. (sights i, forms i, predicates i)) gives
