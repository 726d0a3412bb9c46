-- Drains give the items that are to come, and are pulls one after the other.
use Rattle.std.proofs.Common.{◌≡◌, ◌∷◌, ◌++◌, ◌⊎◌, inl, inr, List, [], Option, Some, None, Result, Ok, Err, ap, ◌∙◌, sym, refl, subst}
use Rattle.std.specs.declared.alloc.AllocError.{AllocError}
use Rattle.lq_value.specs.declared.value.End.{End}
use Rattle.lq_value.specs.declared.value.End.TheVariants as end
use Rattle.lq_value.specs.declared.value.Value.{Value}
use Rattle.lq_language.specs.Enumerable.{in_front}
use Rattle.lq_language.specs.Stream.{Stream}
use Rattle.lq_language.specs.TableRows.{TableRow}
use Rattle.lq_language.specs.Worlds.{World}
use Rattle.lq_tree.specs.declared.tree.Form.{Form}
use Rattle.lq_sink.specs.Draining.{Drains}
use Rattle.lq_sink.specs.declared.sinks.Flow.{Flow}
use Rattle.lq_sink.specs.declared.sinks.Flow.TheVariants as flow
use Rattle.lq_pipeline.specs.Drains.{DrainsGive, DrainsHandOut, DrainsPull, GivesItems, IsPulls, items_of, step_of}
use Rattle.lq_pipeline.specs.Laziness.{HasHandedOut, PullsAll, opened}
use Rattle.lq_pipeline.specs.Places.{GoesFrom, GoesOn, Place}
use Rattle.lq_pipeline.specs.Pulling.{DrainsBy, EndsWith, PullsTo, State}
use Rattle.lq_pipeline.specs.declared.steps.Step.TheVariants as step
use Rattle.lq_pipeline.proofs.LazinessLaws.{pulls_hand_out}

module _ {K : Type 0} (takes : K → Value TableRow → Flow → K → Type 0) (world : World TableRow) (f : Form) where
  -- the end of the items to come
  ends_give : (s : Stream (Value TableRow)) (e : End) (sink rest : K) → s ≡ ([], e) → rest ≡ sink → Drains takes s.0 s.1 sink e rest
  ends_give s e sink rest is same = subst (λ (t : Stream (Value TableRow)). Drains takes t.0 t.1 sink e rest) (sym is) (refl, same)

  end_gives : (p : Place TableRow) (old last : State) (sink rest : K) (answer : Result End AllocError) → old.place ≡ Some p → EndsWith world f old answer last → rest ≡ sink
      → GivesItems takes p.left sink answer rest
  end_gives p old last sink rest (Ok end.Done) at ends same =
      done_gives last.place (subst (λ (o : Option (Place TableRow)). GoesFrom o (Ok step.Done) ends.front last.place) at ends.goes) where
        done_gives : (new : Option (Place TableRow)) → GoesOn p (Ok step.Done) ends.front new → GivesItems takes p.left sink (Ok end.Done) rest
        done_gives None goes = absurd goes
        done_gives (Some q) goes = ends_give p.left end.Done sink rest goes.items.0 same
  end_gives p old last sink rest (Ok (end.Fault g)) at ends same =
      fault_gives last.place (subst (λ (o : Option (Place TableRow)). GoesFrom o (Ok (step.Fault g)) ends.front last.place) at ends.goes) where
        fault_gives : (new : Option (Place TableRow)) → GoesOn p (Ok (step.Fault g)) ends.front new → GivesItems takes p.left sink (Ok (end.Fault g)) rest
        fault_gives None goes = absurd goes
        fault_gives (Some q) goes = ends_give p.left (end.Fault g) sink rest goes.items.0 same
  end_gives p old last sink rest (Err e) at ends same = ([], p.left.0, refl, same)

  -- an item in front of those that are given
  item_first : (s t : Stream (Value TableRow)) (x : Value TableRow) (sink taken rest : K) (answer : Result End AllocError) → s ≡ in_front x t → takes sink x flow.Go taken
      → GivesItems takes t taken answer rest → GivesItems takes s sink answer rest
  item_first s t x sink taken rest (Ok e) is takes_it gives =
      subst (λ (u : Stream (Value TableRow)). Drains takes u.0 u.1 sink e rest) (sym is) (flow.Go, taken, takes_it, gives)
  item_first s t x sink taken rest (Err e) is takes_it (given, others, split, all) =
      (x ∷ given, others, ap (λ (u : Stream (Value TableRow)). u.0) is ∙ ap (λ (l : List (Value TableRow)). x ∷ l) split, (taken, takes_it, all))

  item_last : (s t : Stream (Value TableRow)) (x : Value TableRow) (sink taken : K) → s ≡ in_front x t → takes sink x flow.Stop taken
      → GivesItems takes s sink (Ok end.Done) taken
  item_last s t x sink taken is takes_it =
      subst (λ (u : Stream (Value TableRow)). Drains takes u.0 u.1 sink end.Done taken) (sym is) (flow.Stop, taken, takes_it, (refl, refl))

  -- by what a pull of an item leaves
  abbrev ItemGone : Place TableRow → Value TableRow → State → Type 0
  ItemGone p x middle = (q : Place TableRow) × (middle.place ≡ Some q) × (p.left ≡ in_front x q.left)

  item_gone_by : (p : Place TableRow) (x : Value TableRow) (front : List TableRow) (middle : State) (o : Option (Place TableRow)) → middle.place ≡ o
      → GoesOn p (Ok (step.Item x)) front o → ItemGone p x middle
  item_gone_by p x front middle None at goes = absurd goes
  item_gone_by p x front middle (Some q) at goes = (q, at, goes.items)

  item_gone : (p : Place TableRow) (x : Value TableRow) (old middle : State) → old.place ≡ Some p → PullsTo world f old (Ok (step.Item x)) middle → ItemGone p x middle
  item_gone p x old middle at pulls =
      item_gone_by p x pulls.front middle middle.place refl (subst (λ (o : Option (Place TableRow)). GoesFrom o (Ok (step.Item x)) pulls.front middle.place) at pulls.goes)

  stopped_gives : (p : Place TableRow) (x : Value TableRow) (middle last : State) (sink taken rest : K) (answer : Result End AllocError) → ItemGone p x middle
      → takes sink x flow.Stop taken → answer ≡ Ok end.Done → rest ≡ taken → GivesItems takes p.left sink answer rest
  stopped_gives p x middle last sink taken rest answer (q, at, is) takes_it answers same =
      subst (λ (pair : Result End AllocError × K). GivesItems takes p.left sink pair.0 pair.1) (λ i. (sym answers i, sym same i))
      (item_last p.left q.left x sink taken is takes_it)

  drains_give_by : (items : List (Value TableRow)) (p : Place TableRow) (old last : State) (sink rest : K) (answer : Result End AllocError) → old.place ≡ Some p
      → DrainsBy world f takes items old sink answer last rest → GivesItems takes p.left sink answer rest
  drains_give_by [] p old last sink rest answer at (ends, same) = end_gives p old last sink rest answer at ends same
  drains_give_by (x ∷ xs) p old last sink rest answer at (middle, flow.Go, taken, pulls, takes_it, later) =
      let gone = item_gone p x old middle at pulls in
      item_first p.left gone.0.left x sink taken rest answer gone.2 takes_it (drains_give_by xs gone.0 middle last taken rest answer gone.1 later)
  drains_give_by (x ∷ xs) p old last sink rest answer at (middle, flow.Stop, taken, pulls, takes_it, later) =
      stopped_gives p x middle last sink taken rest answer (item_gone p x old middle at pulls) takes_it later.1 later.3

  -- ---- as pulls

  item_before : (x : Value TableRow) (xs : List (Value TableRow)) (old middle last : State) (answer : Result End AllocError) → PullsTo world f old (Ok (step.Item x)) middle
      → IsPulls world f xs middle answer last → IsPulls world f (x ∷ xs) old answer last
  item_before x xs old middle last (Ok e) pulls (inl rest) = inl (middle, pulls, rest)
  item_before x xs old middle last (Ok e) pulls (inr rest) = inr (middle, pulls, rest)
  item_before x xs old middle last (Err e) pulls (before, all, refused) = (before, (middle, pulls, all), refused)

  end_pulls : (old last : State) (answer : Result End AllocError) → EndsWith world f old answer last → IsPulls world f [] old answer last
  end_pulls old last (Ok end.Done) ends = inr (last, ends, refl)
  end_pulls old last (Ok (end.Fault g)) ends = inr (last, ends, refl)
  end_pulls old last (Err e) ends = (old, refl, ends)

  stopped_pulls : (x : Value TableRow) (xs : List (Value TableRow)) (old middle last : State) (answer : Result End AllocError) → PullsTo world f old (Ok (step.Item x)) middle
      → xs ≡ [] → answer ≡ Ok end.Done → last ≡ middle → IsPulls world f (x ∷ xs) old answer last
  stopped_pulls x xs old middle last answer pulls none answers same =
      subst (λ (t : List (Value TableRow) × Result End AllocError × State). IsPulls world f (x ∷ t.0) old t.1 t.2) (λ i. (sym none i, sym answers i, sym same i))
      (inl (middle, pulls, refl))

  drains_pull_by : (items : List (Value TableRow)) (old last : State) (sink rest : K) (answer : Result End AllocError)
      → DrainsBy world f takes items old sink answer last rest → IsPulls world f items old answer last
  drains_pull_by [] old last sink rest answer (ends, same) = end_pulls old last answer ends
  drains_pull_by (x ∷ xs) old last sink rest answer (middle, flow.Go, taken, pulls, takes_it, later) =
      item_before x xs old middle last answer pulls (drains_pull_by xs middle last taken rest answer later)
  drains_pull_by (x ∷ xs) old last sink rest answer (middle, flow.Stop, taken, pulls, takes_it, later) =
      stopped_pulls x xs old middle last answer pulls later.0 later.1 later.2

pub drains_give : {K : Type 0} (takes : K → Value TableRow → Flow → K → Type 0) → DrainsGive takes
drains_give takes world f place old last sink rest answer at (items, drains) = drains_give_by takes world f items place old last sink rest answer at drains

pub drains_pull : {K : Type 0} (takes : K → Value TableRow → Flow → K → Type 0) → DrainsPull takes
drains_pull takes world f items old last sink rest answer drains = drains_pull_by takes world f items old last sink rest answer drains

-- rows are handed out by these pulls alone
pub drains_hand_out : {K : Type 0} (takes : K → Value TableRow → Flow → K → Type 0) → DrainsHandOut takes
drains_hand_out {K} takes world f items calls last sink rest e drains =
    by (drains_pull takes world f items (opened world f calls) last sink rest (Ok e) drains) where
      by : PullsAll world f (items_of items) (opened world f calls) last ⊎ PullsAll world f (items_of items ++ step_of e ∷ []) (opened world f calls) last
          → HasHandedOut world f (items_of items) calls last ⊎ HasHandedOut world f (items_of items ++ step_of e ∷ []) calls last
      by (inl pulls) = inl (pulls_hand_out world f (items_of items) calls last pulls)
      by (inr pulls) = inr (pulls_hand_out world f (items_of items ++ step_of e ∷ []) calls last pulls)
