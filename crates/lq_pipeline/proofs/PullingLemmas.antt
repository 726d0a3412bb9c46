-- Pipes over chains: what comes of rows in a pipe is what comes of them at the end of its chain.
use Rattle.std.proofs.Common.{◌≡◌, ◌∷◌, ◌&&◌, ◌||◌, if◌then◌else◌, List, [], ℕ, Bool, true, false, Result, Ok, Err, IfOk, ap, ◌∙◌, sym, refl, subst, append-nil}
use Rattle.std.specs.declared.alloc.AllocError.{AllocError}
use Rattle.std.specs.Borrow.{Bor}
use Rattle.lq_value.specs.declared.value.End.{End}
use Rattle.lq_value.specs.declared.value.End.TheVariants as end
use Rattle.lq_value.specs.declared.value.Fault.{Fault}
use Rattle.lq_value.specs.declared.value.Value.{Value}
use Rattle.lq_value.specs.declared.value.Value.TheVariants as value
use Rattle.lq_host.specs.declared.call.Call.{Call}
use Rattle.lq_language.specs.Enumerable.{all}
use Rattle.lq_language.specs.Meaning.{as_truth}
use Rattle.lq_language.specs.Operations.{on_ok}
use Rattle.lq_language.specs.Stream.{Stream, each, one, select_by, then_stream}
use Rattle.lq_language.specs.Worlds.{World}
use Rattle.lq_tree.specs.FormMeaning.{form_meaning, is_true, with_item}
use Rattle.lq_tree.specs.Watches.{RowFacts, Watch, is_covered, is_covered_above}
use Rattle.lq_tree.specs.declared.tree.Form.{Form}
use Rattle.lq_tree.proofs.WatchedValueLaws.{both_so}
use Rattle.std.specs.Cmp.{first_so, second_so}
use Rattle.lq_plan.specs.Meanings.{truth_in}
use Rattle.lq_plan.specs.Pipes.{items_left}
use Rattle.lq_plan.specs.Pulling.{base_stream, item_at, items_at, through_select, through_stage}
use Rattle.lq_plan.specs.Watching.{is_covered_stage}
use Rattle.lq_plan.specs.declared.bases.Base.{Base}
use Rattle.lq_plan.specs.declared.pipes.Pipe.{Pipe}
use Rattle.lq_plan.specs.declared.stages.Stage.{Stage}
use Rattle.lq_plan.specs.declared.stages.Stage.TheVariants as stage
use Rattle.lq_plan.proofs.PullLaws.{each_each}
use Rattle.lq_operators.specs.Answers.{IsAnswer}
use Rattle.lq_operators.specs.declared.error.RunError.{RunError}
use Rattle.lq_operators.specs.declared.error.RunError.TheVariants as error
use Rattle.lq_pull.specs.Evaluations.{Finds}
use Rattle.lq_pipe.specs.Handing.{comes_of}
use Rattle.lq_pipeline.specs.Chains.{comes_at}
use Rattle.lq_pipeline.specs.Heads.{fails}
use Rattle.lq_pipeline.specs.Reading.{Reads, Takes, covered_by, covers_all, covers_chain}
use Rattle.lq_pipeline.specs.Settling.{is_fault, is_settled, needed, over, shortest}
use Rattle.lq_pipeline.specs.Truths.{IsTruth, has_untrue, is_not_true, truth_of_value}

and_true : (b : Bool) → (b && true) ≡ b
and_true true = refl
and_true false = refl

or_true : (b : Bool) → (b || true) ≡ true
or_true true = refl
or_true false = refl

module _ {R : Type 0} (world : World R) (pipe : Pipe) (chain : Form) (at : pipe.source.now ≡ chain) where
  -- ---- a pipe without a stage of its own
  module _ (plain : pipe.stage ≡ stage.Plain) where
    pub come_is : comes_of world [] pipe ≡ comes_at world chain
    come_is = λ i r. through_stage world [] (plain i) (item_at world [] (at i) (value.Row r))

    pub items_are : {S : Type 0} (base : Base R S) → items_left world [] pipe base ≡ items_at world [] chain (base_stream base)
    items_are base = λ i. each (λ x. through_stage world [] (plain i) (item_at world [] (at i) x)) (base_stream base).0 (base_stream base).1

    pub cover_is : covered_by world pipe ≡ covers_chain world chain
    cover_is =
        (λ i w. is_covered_stage world w (plain i) && (is_covered_above world w (at i) && true))
        ∙ (λ i w. and_true (is_covered_above world w chain) i)

  -- ---- a pipe with a condition as its lambda
  module _ (c : Bor Form) (selects : pipe.stage ≡ stage.Select c) where
    pub come_selects : comes_of world [] pipe ≡ (λ r. through_select world [] c.now (comes_at world chain r))
    come_selects = λ i r. through_stage world [] (selects i) (item_at world [] (at i) (value.Row r))

    pub items_selected : {S : Type 0} (base : Base R S)
        → items_left world [] pipe base ≡ through_select world [] c.now (items_at world [] chain (base_stream base))
    items_selected base =
        (λ i. each (λ x. through_stage world [] (selects i) (item_at world [] (at i) x)) (base_stream base).0 (base_stream base).1)
        ∙ sym (each_each (λ v. one (form_meaning world c.now (with_item world [] v))) (item_at world [] chain) (base_stream base).0 (base_stream base).1)

    pub cover_selects : (w : Watch R) → covers_all world chain c.now w ≡ true → covered_by world pipe w ≡ true
    cover_selects w h =
        ap (λ (st : Stage). is_covered_stage world w st && (is_covered_above world w pipe.source.now && true)) selects
        ∙ ap (λ (f : Form). is_covered world w c.now && (is_covered_above world w f && true)) at
        ∙ both_so (is_covered world w c.now) (is_covered_above world w chain && true) (second_so (is_covered_above world w chain) (is_covered world w c.now) h)
        (and_true (is_covered_above world w chain) ∙ first_so (is_covered_above world w chain) (is_covered world w c.now) h)

-- ---- what decides, over what a condition gives of items

module _ {R : Type 0} (world : World R) (c : Form) where
  -- what the condition gives of an item, and whether it is true there
  abbrev gives : Value R → Result (Value R) Fault
  gives x = form_meaning world c (with_item world [] x)

  abbrev holds : Value R → Result Bool Fault
  holds x = is_true world (form_meaning world c) (with_item world [] x)

  -- what comes of items behind one of which this is given
  abbrev behind : Result (Value R) Fault → List (Value R) → End → Stream (Value R)
  behind m xs e = then_stream (one m) (select_by gives xs e)

  abbrev truth_in_result : Result (Value R) Fault → Result Bool Fault
  truth_in_result m = truth_in world m

  by_truth : (b : Bool) (xs : List (Value R)) (e : End) → is_settled (has_untrue world) (select_by gives xs e) ≡ is_settled (fails world c) (xs, e)
      → (is_fault (select_by gives xs e).1 || (b || has_untrue world (select_by gives xs e).0)) ≡ (is_fault e || (b || fails world c xs))
  by_truth true xs e rest = or_true (is_fault (select_by gives xs e).1) ∙ sym (or_true (is_fault e))
  by_truth false xs e rest = rest

  settled_at : (x : Value R) (xs : List (Value R)) (e : End) (given : Result (Value R) Fault) → gives x ≡ given
      → is_settled (has_untrue world) (select_by gives xs e) ≡ is_settled (fails world c) (xs, e)
      → is_settled (has_untrue world) (select_by gives (x ∷ xs) e) ≡ is_settled (fails world c) (x ∷ xs, e)
  settled_at x xs e (Ok v) is rest =
      ap (λ (m : Result (Value R) Fault). is_settled (has_untrue world) (behind m xs e)) is
      ∙ by_truth (is_not_true (truth_of_value world v)) xs e rest
      ∙ ap (λ (m : Result (Value R) Fault). is_fault e || (is_not_true (truth_in_result m) || fails world c xs)) (sym is)
  settled_at x xs e (Err f) is rest =
      ap (λ (m : Result (Value R) Fault). is_settled (has_untrue world) (behind m xs e)) is
      ∙ sym (ap (λ (m : Result (Value R) Fault). is_fault e || (is_not_true (truth_in_result m) || fails world c xs)) is ∙ or_true (is_fault e))

  settled_same : (xs : List (Value R)) (e : End) → is_settled (has_untrue world) (select_by gives xs e) ≡ is_settled (fails world c) (xs, e)
  settled_same [] e = refl
  settled_same (x ∷ xs) e = settled_at x xs e (gives x) refl (settled_same xs e)

  pub needed_same : (come : R → Stream (Value R)) (rows : List R)
      → needed (λ r. through_select world [] c (come r)) (has_untrue world) rows ≡ needed come (fails world c) rows
  needed_same come rows =
      (λ i. shortest (λ front. (ap (is_settled (has_untrue world)) (sym (each_each (λ v. one (gives v)) come front end.Done)) ∙ settled_same (over come front).0 (over come front).1) i) rows)

  -- all are true where what the condition gives of them is
  all_at : (x : Value R) (xs : List (Value R)) (e : End) (given : Result (Value R) Fault) → gives x ≡ given
      → all (truth_of_value world) (select_by gives xs e).0 (select_by gives xs e).1 ≡ all holds xs e
      → all (truth_of_value world) (select_by gives (x ∷ xs) e).0 (select_by gives (x ∷ xs) e).1 ≡ all holds (x ∷ xs) e
  all_at x xs e (Ok v) is rest =
      ap (λ (m : Result (Value R) Fault). all (truth_of_value world) (behind m xs e).0 (behind m xs e).1) is
      ∙ ap (λ (r : Result Bool Fault). on_ok (truth_of_value world v) (λ b. if b then r else Ok false)) rest
      ∙ ap (λ (m : Result (Value R) Fault). on_ok (truth_in_result m) (λ b. if b then all holds xs e else Ok false)) (sym is)
  all_at x xs e (Err f) is rest =
      ap (λ (m : Result (Value R) Fault). all (truth_of_value world) (behind m xs e).0 (behind m xs e).1) is
      ∙ sym (ap (λ (m : Result (Value R) Fault). on_ok (truth_in_result m) (λ b. if b then all holds xs e else Ok false)) is)

  pub all_same : (xs : List (Value R)) (e : End) → all (truth_of_value world) (select_by gives xs e).0 (select_by gives xs e).1 ≡ all holds xs e
  all_same [] e = refl
  all_same (x ∷ xs) e = all_at x xs e (gives x) refl (all_same xs e)

-- ---- readings by other words

module _ {R : Type 0} (world : World R) (facts : RowFacts R) where
  -- of the same rows, by a test that passes more watches, and by what decides alike
  pub reads_by : {A : Type 0} (test wider : Watch R → Bool) → ((w : Watch R) → test w ≡ true → wider w ≡ true) → (come other : R → Stream (Value R))
      (decide others : List (Value R) → Bool) → ((rows : List R) → needed come decide rows ≡ needed other others rows)
      → (rows : List R) (n : ℕ) (log : List Call) (result : Result A AllocError) (left : List R) (m : ℕ) (more : List Call)
      → Reads world facts wider come decide rows n log result left m more → Reads world facts test other others rows n log result left m more
  reads_by test wider passes come other decide others same rows n log (Ok a) left m more reads =
      (record { front = reads.0.front; is = reads.0.is; count = reads.0.count; grows = λ w start h. reads.0.grows w start (passes w h) }, sym (same rows) ∙ reads.1)
  reads_by test wider passes come other decide others same rows n log (Err e) left m more reads = (
    record { front = reads.0.front; is = reads.0.is; count = reads.0.count; grows = λ w start h. reads.0.grows w start (passes w h) },
    (reads.1.0, sym (same rows) ∙ reads.1.1),
  )

  -- a growth is refused before anything is read
  pub refused_at_once : (A : Type 0) (test : Watch R → Bool) (come : R → Stream (Value R)) (decide : List (Value R) → Bool) (rows : List R) (n : ℕ) (log : List Call) (e : AllocError)
      → Reads world facts test come {A = A} decide rows n log (Err e) rows n log
  refused_at_once A test come decide rows n log e =
      (record { front = []; is = refl; count = refl; grows = λ w start h pass grown. grown }, (needed come decide rows, refl))

  -- in a pipe over a chain, without a stage of its own
  pub reads_chain : {A : Type 0} (pipe : Pipe) (chain : Form) → pipe.source.now ≡ chain → pipe.stage ≡ stage.Plain → (decide : List (Value R) → Bool) (rows : List R) (n : ℕ)
      (log : List Call) (result : Result A AllocError) (left : List R) (m : ℕ) (more : List Call)
      → Reads world facts (covered_by world pipe) (comes_of world [] pipe) decide rows n log result left m more
      → Reads world facts (covers_chain world chain) (comes_at world chain) decide rows n log result left m more
  reads_chain pipe chain at plain decide rows n log result left m more reads =
      subst (λ (p : (Watch R → Bool) × (R → Stream (Value R))). Reads world facts p.0 p.1 decide rows n log result left m more)
      (λ i. (cover_is world pipe chain at plain i, come_is world pipe chain at plain i)) reads

  -- what was read is answered by a method that has it, or which is refused memory for that
  pub reads_then : {A B : Type 0} (test : Watch R → Bool) (come : R → Stream (Value R)) (decide : List (Value R) → Bool) (rows : List R) (n : ℕ) (log : List Call) (a : A)
      (result : Result B AllocError) (left : List R) (m : ℕ) (more : List Call)
      → Reads world facts test come decide rows n log (Ok a) left m more → Reads world facts test come decide rows n log result left m more
  reads_then test come decide rows n log a (Ok b) left m more reads = reads
  reads_then test come decide rows n log a (Err e) left m more reads = (reads.0, ([], reads.1 ∙ sym (append-nil reads.0.front)))

-- a value or its fault that is found is what an answer is, apart from a refusal of memory
pub found_is : {R : Type 0} (meant : Result (Value R) Fault) (answer : Result (Value R) RunError) (result : Result (Result (Value R) Fault) AllocError) → Finds answer result
    → IsAnswer meant answer → IfOk result (λ found. found ≡ meant)
found_is meant (Ok v) (Ok found) is answers = is ∙ sym answers
found_is meant (Err (error.Fault f)) (Ok found) is answers = is ∙ sym answers
found_is meant (Err error.Memory) (Ok found) is answers = absurd is
found_is meant answer (Err e) is answers = tt

pub truth_is : {R : Type 0} (meant : Result Bool Fault) (truth : Result (Result Bool Fault) AllocError) (result : Result (Result (Value R) Fault) AllocError) → IsTruth truth result
    → IfOk truth (λ t. t ≡ meant) → IfOk result (λ found. found ≡ as_truth meant)
truth_is meant (Ok t) (Ok found) is same = is ∙ ap as_truth same
truth_is meant (Err e) (Err d) is same = tt
truth_is meant (Ok t) (Err d) is same = absurd is
truth_is meant (Err e) (Ok found) is same = absurd is

-- what was read for a truth value is answered by it
pub reads_truth : {R : Type 0} (world : World R) (facts : RowFacts R) (test : Watch R → Bool) (come : R → Stream (Value R)) (decide : List (Value R) → Bool) (rows : List R) (n : ℕ)
    (log : List Call) (truth : Result (Result Bool Fault) AllocError) (result : Result (Result (Value R) Fault) AllocError) (left : List R) (m : ℕ) (more : List Call)
    → IsTruth truth result → Reads world facts test come decide rows n log truth left m more → Reads world facts test come decide rows n log result left m more
reads_truth world facts test come decide rows n log (Ok t) (Ok found) left m more is reads = reads
reads_truth world facts test come decide rows n log (Err e) (Err d) left m more is reads = reads
reads_truth world facts test come decide rows n log (Ok t) (Err d) left m more is reads = absurd is
reads_truth world facts test come decide rows n log (Err e) (Ok found) left m more is reads = absurd is

-- ---- pulls by other words

module _ {R : Type 0} (world : World R) (facts : RowFacts R) where
  pub takes_chain : (pipe : Pipe) (chain : Form) → pipe.source.now ≡ chain → pipe.stage ≡ stage.Plain → (rows : List R) (n : ℕ) (log : List Call)
      (result : Result (Result (Value R) End) AllocError) (left : List R) (m : ℕ) (more : List Call)
      → Takes world facts (covered_by world pipe) (comes_of world [] pipe) rows n log result left m more
      → Takes world facts (covers_chain world chain) (comes_at world chain) rows n log result left m more
  takes_chain pipe chain at plain rows n log result left m more takes =
      subst (λ (p : (Watch R → Bool) × (R → Stream (Value R))). Takes world facts p.0 p.1 rows n log result left m more)
      (λ i. (cover_is world pipe chain at plain i, come_is world pipe chain at plain i)) takes

  pub takes_none : (test : Watch R → Bool) (come : R → Stream (Value R)) (rows : List R) (n : ℕ) (log : List Call) (e : AllocError)
      → Takes world facts test come rows n log (Err e) rows n log
  takes_none test come rows n log e =
      (record { front = []; is = refl; count = refl; grows = λ w start h pass grown. grown }, λ decide wants. (needed come decide rows, refl))
