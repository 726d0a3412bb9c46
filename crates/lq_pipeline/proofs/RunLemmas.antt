-- What is pulled of a tree is what it means: all that a drain gives of a sequence, and the first item of a value.
use Rattle.std.proofs.Common.{◌≡◌, ◌∷◌, ◌++◌, ◌∙◌, List, [], Bool, true, true≢false, false, Option, Some, None, Result, Ok, Err, ap, sym, subst, append-nil, append_assoc}
use Rattle.std.specs.declared.alloc.AllocError.{AllocError}
use Rattle.lq_value.specs.declared.value.End.{End}
use Rattle.lq_value.specs.declared.value.End.TheVariants as end
use Rattle.lq_value.specs.declared.value.Fault.{Fault}
use Rattle.lq_value.specs.declared.value.Value.{Value}
use Rattle.lq_host.specs.Hosts.{Hosts}
use Rattle.lq_host.specs.Predicates.{Predicate}
use Rattle.lq_language.specs.Enumerable.{in_front}
use Rattle.lq_language.specs.OperandMeaning.{stream_of}
use Rattle.lq_language.specs.Stream.{Stream}
use Rattle.lq_language.specs.TableRows.{TableRow}
use Rattle.lq_tree.specs.declared.tree.Form.{Form, out-Form}
use Rattle.lq_guard.specs.declared.guarded_trees.GuardedTree.{GuardedTree}
use Rattle.lq_sink.specs.Draining.{Drains}
use Rattle.lq_sink.specs.declared.sinks.Flow.{Flow}
use Rattle.lq_sink.specs.declared.sinks.Flow.TheVariants as flow
use Rattle.lq_pull.specs.Views.{Sight, world_seen}
use Rattle.lq_pipeline.specs.Answers.{is_scalar_form, is_sequence_form, one_of}
use Rattle.lq_pipeline.specs.Chains.{items_of_result}
use Rattle.lq_pipeline.specs.Contexts.{IsGuardedForSelect, guarded_value}
use Rattle.lq_pipeline.specs.Drains.{GivesItems}
use Rattle.lq_pipeline.specs.Evaluations.{AddsCallsSeen, meaning_seen}
use Rattle.lq_pipeline.specs.Keeping.{Keeps}
use Rattle.lq_pipeline.specs.Places.{Gives, GoesFrom, Place, start_of}
use Rattle.lq_pipeline.specs.Pulling.{Drained, PullsTo, State}
use Rattle.lq_pipeline.specs.declared.runs.Keeper.{Keeper}
use Rattle.lq_pipeline.specs.declared.steps.Step.{Step}
use Rattle.lq_pipeline.specs.declared.steps.Step.TheVariants as step
use Rattle.lq_pipeline.proofs.ContextLemmas.{guarded_means}
use Rattle.lq_pipeline.proofs.DrainLaws.{drains_pull}
use Rattle.lq_pipeline.proofs.KindLemmas.{enumerated, single}
use Rattle.lq_pipeline.proofs.LazinessLaws.{nil_not_cons}
use Rattle.lq_pipeline.proofs.OwnCallLemmas.{drain_adds_own, pull_adds_own}

-- ---- what is kept

-- all items are there where none was refused
all_kept : (xs : List (Value TableRow)) (e : End) (old : Keeper) (answer : End) (new : Keeper) → Drains Keeps xs e old answer new → new.is_refused ≡ false
    → (new.items ≡ old.items ++ xs) × (answer ≡ e)
all_kept [] e old answer new (ends, same) fine = (ap (λ (k : Keeper). k.items) same ∙ sym (append-nil old.items), ends)
all_kept (x ∷ xs) e old answer new (flow.Go, middle, taken, rest) fine =
    let more = all_kept xs e middle answer new rest fine in
    (more.0 ∙ ap (λ (l : List (Value TableRow)). l ++ xs) taken.0 ∙ append_assoc old.items (x ∷ []) xs, more.1)
all_kept (x ∷ xs) e old answer new (flow.Stop, middle, taken, rest) fine =
    absurd (true≢false (sym taken ∙ sym (ap (λ (k : Keeper). k.is_refused) rest.1) ∙ fine))

-- ---- one value

abbrev first_or : Value TableRow → List (Value TableRow) → Value TableRow
first_or v [] = v
first_or v (x ∷ xs) = x

abbrev is_fault_end : End → Bool
is_fault_end end.Done = false
is_fault_end (end.Fault f) = true

abbrev fault_or : Fault → End → Fault
fault_or g end.Done = g
fault_or g (end.Fault f) = f

item_found : (m : Result (Value TableRow) Fault) (x : Value TableRow) (t : Stream (Value TableRow)) → one_of m ≡ in_front x t → m ≡ Ok x
item_found (Ok v) x t is = ap (λ (s : Stream (Value TableRow)). Ok (first_or v s.0)) is
item_found (Err f) x t is = absurd (nil_not_cons (ap (λ (s : Stream (Value TableRow)). s.0) is))

fault_found : (m : Result (Value TableRow) Fault) (g : Fault) → one_of m ≡ ([], end.Fault g) → m ≡ Err g
fault_found (Ok v) g is = absurd (nil_not_cons (ap (λ (s : Stream (Value TableRow)). s.0) (sym is)))
fault_found (Err f) g is = ap (λ (s : Stream (Value TableRow)). Err (fault_or f s.1)) is

never_done : (m : Result (Value TableRow) Fault) → one_of m ≡ ([], end.Done) → ⊥
never_done (Ok v) is = nil_not_cons (ap (λ (s : Stream (Value TableRow)). s.0) (sym is))
never_done (Err f) is = true≢false (ap (λ (s : Stream (Value TableRow)). is_fault_end s.1) is)

-- ---- pulls of what was opened

-- what comes where this is to come
gives_there : (old : Option (Place TableRow)) (p : Place TableRow) (answer : Step TableRow) (front : List TableRow) (new : Option (Place TableRow)) → old ≡ Some p
    → GoesFrom old (Ok answer) front new → (t : Stream (Value TableRow)) × Gives p.left answer t
gives_there old p answer front None at goes = absurd (subst (λ (o : Option (Place TableRow)). GoesFrom o (Ok answer) front None) at goes)
gives_there old p answer front (Some q) at goes = (q.left, (subst (λ (o : Option (Place TableRow)). GoesFrom o (Ok answer) front (Some q)) at goes).items)

-- over a pipe's own sight and form, which are these
module _ (s t : Sight) (same : t ≡ s) (f g : Form) (is : g ≡ f) (predicates : List Predicate) where
  pub drained_adds : {K : Type 0} (takes : K → Value TableRow → Flow → K → Type 0) (old : State) (sink : K) (answer : Result End AllocError) (last : State) (rest : K)
      → old.place ≡ Some (start_of (world_seen s predicates) f) → Drained (world_seen t predicates) g takes old sink answer last rest
      → AddsCallsSeen s f predicates old.calls last.calls
  drained_adds takes old sink answer last rest at drained =
      let there = subst (λ (p : Sight × Form). Drained (world_seen p.0 predicates) p.1 takes old sink answer last rest) (λ i. (same i, is i)) drained in
      drain_adds_own (world_seen s predicates) f there.0 old answer last at
      (drains_pull takes (world_seen s predicates) f there.0 old last sink rest answer there.1)

  pulled_there : (old : State) (answer : Result (Step TableRow) AllocError) (last : State) → PullsTo (world_seen t predicates) g old answer last
      → PullsTo (world_seen s predicates) f old answer last
  pulled_there old answer last pulls = subst (λ (p : Sight × Form). PullsTo (world_seen p.0 predicates) p.1 old answer last) (λ i. (same i, is i)) pulls

  pub pulled_adds : (old : State) (answer : Result (Step TableRow) AllocError) (last : State) → old.place ≡ Some (start_of (world_seen s predicates) f)
      → PullsTo (world_seen t predicates) g old answer last → AddsCallsSeen s f predicates old.calls last.calls
  pulled_adds old answer last at pulls = pull_adds_own (world_seen s predicates) f old answer last at (pulled_there old answer last pulls)

  comes_first : (old : State) (answer : Step TableRow) (last : State) → old.place ≡ Some (start_of (world_seen s predicates) f)
      → PullsTo (world_seen t predicates) g old (Ok answer) last
      → (u : Stream (Value TableRow)) × Gives (items_of_result (meaning_seen s f predicates)) answer u
  comes_first old answer last at pulls =
      let there = pulled_there old (Ok answer) last pulls in
      gives_there old.place (start_of (world_seen s predicates) f) answer there.front last.place at there.goes

-- ---- of a tree that is guarded for select

module _ (s : Sight) (hosts : Hosts) (g : GuardedTree) (guarded : IsGuardedForSelect s g) where
  -- of a sequence
  pub kept_is_meant : is_sequence_form (out-Form g.tree.form) ≡ true → (answer : End) (old new : Keeper) → old.items ≡ [] → new.is_refused ≡ false
      → GivesItems Keeps (items_of_result (meaning_seen s g.tree.form hosts.predicates)) old (Ok answer) new
      → (new.items, answer) ≡ stream_of (world_seen s hosts.predicates) (guarded_value s hosts g)
  kept_is_meant sequence answer old new empty fine gives =
      let items = items_of_result (meaning_seen s g.tree.form hosts.predicates) in
      let kept = all_kept items.0 items.1 old answer new gives fine in
      (λ i. ((kept.0 ∙ ap (λ (l : List (Value TableRow)). l ++ items.0) empty) i, kept.1 i))
      ∙ enumerated g.tree.form sequence (world_seen s hosts.predicates)
      ∙ ap (stream_of (world_seen s hosts.predicates)) (sym (guarded_means s hosts g guarded))

  module _ (scalar : is_scalar_form (out-Form g.tree.form) ≡ true) (t : Sight) (same : t ≡ s) (f : Form) (is : f ≡ g.tree.form) (old last : State)
      (at : old.place ≡ Some (start_of (world_seen s hosts.predicates) g.tree.form)) where
    abbrev found : Result (Value TableRow) Fault
    found = meaning_seen s g.tree.form hosts.predicates

    alone : one_of found ≡ items_of_result found
    alone = sym (single g.tree.form scalar (world_seen s hosts.predicates))

    -- what a pull has answered
    answered : (said : Step TableRow) (answer : Result (Step TableRow) AllocError) → answer ≡ Ok said → PullsTo (world_seen t hosts.predicates) f old answer last
        → (u : Stream (Value TableRow)) × Gives (items_of_result found) said u
    answered said answer says pulls =
        comes_first s t same g.tree.form f is hosts.predicates old said last at
        (subst (λ (a : Result (Step TableRow) AllocError). PullsTo (world_seen t hosts.predicates) f old a last) says pulls)

    pub item_is_meant : (x : Value TableRow) (answer : Result (Step TableRow) AllocError) → answer ≡ Ok (step.Item x)
        → PullsTo (world_seen t hosts.predicates) f old answer last → Ok x ≡ guarded_value s hosts g
    item_is_meant x answer says pulls =
        let comes = answered (step.Item x) answer says pulls in
        sym (item_found found x comes.0 (alone ∙ comes.1)) ∙ sym (guarded_means s hosts g guarded)

    pub fault_is_meant : (h : Fault) (answer : Result (Step TableRow) AllocError) → answer ≡ Ok (step.Fault h)
        → PullsTo (world_seen t hosts.predicates) f old answer last → Err h ≡ guarded_value s hosts g
    fault_is_meant h answer says pulls =
        let comes = answered (step.Fault h) answer says pulls in
        sym (fault_found found h (alone ∙ comes.1.0)) ∙ sym (guarded_means s hosts g guarded)

    -- one value is there, or a fault
    pub is_not_done : (answer : Result (Step TableRow) AllocError) → answer ≡ Ok step.Done → PullsTo (world_seen t hosts.predicates) f old answer last → ⊥
    is_not_done answer says pulls =
        let comes = answered step.Done answer says pulls in
        never_done found (alone ∙ comes.1.0)
