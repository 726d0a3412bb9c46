-- Pulls of pipes: what was read and answered, as a step from place to place.
use Rattle.std.proofs.Common.{◌≡◌, ◌∷◌, ◌++◌, ◌||◌, List, [], ℕ, zero, suc, Bool, true, false, true≢false, Option, Some, None, Result, Ok, Err, IfOk, ap, ◌∙◌, sym, refl, subst, append-nil}
use Rattle.std.proofs.lemmas.Option.{none-some, same_Some}
use Rattle.std.specs.declared.alloc.AllocError.{AllocError}
use Rattle.lq_value.specs.declared.value.End.{End}
use Rattle.lq_value.specs.declared.value.End.TheVariants as end
use Rattle.lq_value.specs.declared.value.Fault.{Fault}
use Rattle.lq_value.specs.declared.value.Value.{Value}
use Rattle.lq_host.specs.declared.call.Call.{Call}
use Rattle.lq_language.specs.Enumerable.{in_front}
use Rattle.lq_language.specs.Stream.{Stream}
use Rattle.lq_language.specs.TableRows.{TableRow}
use Rattle.lq_language.specs.Worlds.{World}
use Rattle.lq_tree.specs.AllowedCalls.{watch_of}
use Rattle.lq_tree.specs.Watches.{RowFacts, Watch}
use Rattle.lq_tree.specs.declared.tree.Form.{Form}
use Rattle.lq_tree.proofs.LogLaws.{grown_none}
use Rattle.lq_plan.specs.Counts.{one_less, read_first}
use Rattle.lq_plan.specs.Handing.{handed_out, rows_to_come}
use Rattle.lq_plan.specs.Pulling.{base_stream, items_at}
use Rattle.lq_plan.specs.declared.bases.Base.{Base}
use Rattle.lq_pull.specs.Views.{row_facts}
use Rattle.lq_pull.specs.declared.readers.Reader.{Reader}
use Rattle.lq_pipeline.specs.Chains.{comes_at, items_of_result}
use Rattle.lq_pipeline.specs.Heads.{Needs, at_once, due_for_items, leaf_below}
use Rattle.lq_pipeline.specs.Places.{AddsIf, Gives, GoesOn, OnEnd, OthersPass, Place, Pulls, covers_beside}
use Rattle.lq_pipeline.specs.Reading.{Reads, Takes}
use Rattle.lq_pipeline.specs.Settling.{has_at_least, needed, reaches}
use Rattle.lq_pipeline.specs.Standings.{AnswersWith, GivesOn, Pulled, place_by, place_of, rows_place}
use Rattle.lq_pipeline.specs.declared.steps.Opened.{Opened}
use Rattle.lq_pipeline.specs.declared.steps.Standing.{Standing}
use Rattle.lq_pipeline.specs.declared.steps.Standing.TheVariants as stands
use Rattle.lq_pipeline.specs.declared.steps.Step.{Step}
use Rattle.lq_pipeline.specs.declared.steps.Step.TheVariants as step
use Rattle.lq_pipeline.proofs.SettlingLaws.{fewer_wanted, needs_none, open_limit}

-- what is so, is so where an answer isn't an item
on_end : {R : Type 0} (answer : Step R) (fact : Type 0) → fact → OnEnd answer fact
on_end (step.Item x) fact is = tt
on_end step.Done fact is = is
on_end (step.Fault f) fact is = is

-- behind the last pull for which something is run, nothing is
pub ended : {R : Type 0} (answer : Step R) → OnEnd answer ((◌≡◌ {A = List R} [] []) × ((k : ℕ) → false ≡ false))
ended {R} answer = on_end answer ((◌≡◌ {A = List R} [] []) × ((k : ℕ) → false ≡ false)) (refl, λ k. refl)

pub stopped : {R : Type 0} (old : Place R) (k : ℕ) → false ≡ true → old.needs.runs (suc k) ≡ true
stopped old k is = absurd (true≢false (sym is))

module _ (world : World TableRow) (facts : RowFacts TableRow) (test : Watch TableRow → Bool) where
  -- nothing is read, and what is left is given
  pub nothing_read : (f : Form) (old : Place TableRow) (s : Stream (Value TableRow)) (n m : ℕ) (log : List Call) (answer : Step TableRow) (new : Opened)
      → old.left ≡ s → ((k : ℕ) → old.needs.due (suc k) ≡ []) → old.needs.all ≡ [] → GivesOn world f s answer new → m ≡ n
      → Pulled world facts test old n log (Ok answer) (place_of world f new) m log
  nothing_read f old s n m log answer new left_is due_is all_is gives same = record {
    front = [];
    goes = subst (λ (p : Option (Place TableRow)). GoesOn old (Ok answer) [] p) (sym gives.1)
        (record { items = subst (λ (t : Stream (Value TableRow)). Gives t answer gives.0) (sym left_is) gives.2; rows = due_is; all = all_is; none = refl; runs = stopped old; over = ended answer });
    count = same;
    grows = λ w start covered pass grown. grown;
  }

  -- a growth is refused before anything is read
  pub refused_first : (f : Form) (old : Place TableRow) (n m : ℕ) (log : List Call) (e : AllocError) (new : Opened) → new.standing ≡ stands.Lost → m ≡ n
      → Pulled world facts test old n log (Err e) (place_of world f new) m log
  refused_first f old n m log e new lost same = record {
    front = [];
    goes = subst (λ (s : Standing). GoesOn old (Err e) [] (place_by world f new.leaf s)) (sym lost) (old.needs.due 1, refl);
    count = same;
    grows = λ w start covered pass grown. grown;
  }

  -- a value is read and answered
  pub value_read : (f chain : Form) (decide : List (Value TableRow) → Bool) (old : Place TableRow) (rows left : List TableRow) (n m : ℕ) (log more : List Call)
      (found : Result (Result (Value TableRow) Fault) AllocError) (answer : Result (Step TableRow) AllocError) (new : Opened)
      → old.needs ≡ at_once world chain decide rows
      → IfOk found (λ v. old.left ≡ items_of_result v)
      → Reads world facts test (comes_at world chain) decide rows n log found left m more
      → AnswersWith world f found answer new
      → Pulled world facts test old n log answer (place_of world f new) m more
  value_read f chain decide old rows left n m log more (Ok found) (Ok answer) new needs_are left_is reads answers = record {
    front = reads.0.front;
    goes = subst (λ (p : Option (Place TableRow)). GoesOn old (Ok answer) reads.0.front p) (sym answers.1)
        (record {
          items = subst (λ (t : Stream (Value TableRow)). Gives t answer answers.0) (sym left_is) answers.2;
          rows = λ k. ap (λ (needs : Needs TableRow). needs.due (suc k)) needs_are ∙ reads.1 ∙ sym (append-nil reads.0.front);
          all = ap (λ (needs : Needs TableRow). needs.all) needs_are ∙ reads.1 ∙ sym (append-nil reads.0.front);
          none = refl;
          runs = stopped old;
          over = ended answer;
        });
    count = reads.0.count;
    grows = reads.0.grows;
  }
  value_read f chain decide old rows left n m log more (Err e) (Err d) new needs_are left_is reads lost = record {
    front = reads.0.front;
    goes = subst (λ (s : Standing). GoesOn old (Err d) reads.0.front (place_by world f new.leaf s)) (sym lost) (reads.1.0, ap (λ (needs : Needs TableRow). needs.due 1) needs_are ∙ reads.1.1);
    count = reads.0.count;
    grows = reads.0.grows;
  }
  value_read f chain decide old rows left n m log more (Ok found) (Err d) new needs_are left_is reads answers = absurd answers
  value_read f chain decide old rows left n m log more (Err e) (Ok answer) new needs_are left_is reads answers = absurd answers

  -- what was found is answered by a method that has it; the rows were read for it
  pub reads_then : {A B : Type 0} (come : TableRow → Stream (Value TableRow)) (decide : List (Value TableRow) → Bool) (rows left : List TableRow) (n m : ℕ) (log more : List Call) (a : A)
      (result : Result B AllocError) → Reads world facts test come decide rows n log (Ok a) left m more → Reads world facts test come decide rows n log result left m more
  reads_then come decide rows left n m log more a (Ok b) reads = reads
  reads_then come decide rows left n m log more a (Err e) reads = (reads.0, ([], reads.1 ∙ sym (append-nil reads.0.front)))

  -- ---- rows one by one

  module _ (chain : Form) where
    -- what decides that so many items are there, up to a limit
    abbrev enough : ℕ → Option ℕ → List (Value TableRow) → Bool
    enough k limit items = has_at_least k items || reaches limit items

    abbrev come : TableRow → Stream (Value TableRow)
    come = comes_at world chain

    still_open : (limit less : Option ℕ) (k : ℕ) → one_less limit ≡ Some less → enough (suc k) limit [] ≡ false
    still_open None less k is = refl
    still_open (Some zero) less k is = absurd (none-some less is)
    still_open (Some (suc m)) less k is = refl

    -- behind an item one less is wanted
    one_fewer : (limit less : Option ℕ) (k : ℕ) (x : Value TableRow) → one_less limit ≡ Some less
        → (λ (xs : List (Value TableRow)). enough (suc k) limit (x ∷ xs)) ≡ enough k less
    one_fewer None less k x is = ap (enough k) (same_Some None less is)
    one_fewer (Some zero) less k x is = absurd (none-some less is)
    one_fewer (Some (suc m)) less k x is = ap (enough k) (same_Some (Some m) less is)

    due_then : (less : Option ℕ) (k : ℕ) (rows : List TableRow) → needed come (enough k less) rows ≡ due_for_items world chain less rows k
    due_then less zero rows = needs_none come (enough zero less) rows refl
    due_then less (suc k) rows = refl

    pub due_reached : (rows : List TableRow) (limit : Option ℕ) (k : ℕ) → one_less limit ≡ None → due_for_items world chain limit rows (suc k) ≡ []
    due_reached rows (Some zero) k is = needs_none come (enough (suc k) (Some zero)) rows refl
    due_reached rows (Some (suc m)) k is = absurd (none-some (Some m) (sym is))
    due_reached rows None k is = absurd (none-some None (sym is))

    pub all_reached : (rows : List TableRow) (limit : Option ℕ) → one_less limit ≡ None → needed come (reaches limit) rows ≡ []
    all_reached rows (Some zero) is = needs_none come (reaches (Some zero)) rows refl
    all_reached rows (Some (suc m)) is = absurd (none-some (Some m) (sym is))
    all_reached rows None is = absurd (none-some None (sym is))

    left_then : (limit less : Option ℕ) (old new : Stream (Value TableRow)) (x : Value TableRow) → one_less limit ≡ Some less → old ≡ in_front x new
        → read_first limit old ≡ in_front x (read_first less new)
    left_then None less old new x is steps = steps ∙ ap (λ (l : Option ℕ). in_front x (read_first l new)) (same_Some None less is)
    left_then (Some zero) less old new x is steps = absurd (none-some less is)
    left_then (Some (suc m)) less old new x is steps =
        ap (read_first (Some (suc m))) steps ∙ ap (λ (l : Option ℕ). in_front x (read_first l new)) (same_Some (Some m) less is)

    left_ended : (limit less : Option ℕ) (old : Stream (Value TableRow)) (e : End) → one_less limit ≡ Some less → old ≡ ([], e) → read_first limit old ≡ ([], e)
    left_ended None less old e is steps = steps
    left_ended (Some zero) less old e is steps = absurd (none-some less is)
    left_ended (Some (suc m)) less old e is steps = ap (read_first (Some (suc m))) steps

    -- where a limit is reached, nothing is left
    pub left_reached : (limit : Option ℕ) (s : Stream (Value TableRow)) → one_less limit ≡ None → read_first limit s ≡ ([], end.Done)
    left_reached (Some zero) s is = refl
    left_reached (Some (suc m)) s is = absurd (none-some (Some m) (sym is))
    left_reached None s is = absurd (none-some None (sym is))

    -- a pull through the chain, as a step from the rows to come of a leaf
    module _ (limit less : Option ℕ) (more_wanted : one_less limit ≡ Some less) (old leaf : Base TableRow Reader) (log more : List Call) where
      abbrev before : Place TableRow
      before = rows_place world chain limit (Some old)

      abbrev after : Place TableRow
      after = rows_place world chain less (Some leaf)

      abbrev Taking : Result (Result (Value TableRow) End) AllocError → Type 0
      Taking result = Takes world facts test come (rows_to_come old) (handed_out old) log result (rows_to_come leaf) (handed_out leaf) more

      abbrev Answered : Result (Step TableRow) AllocError → Option (Place TableRow) → Type 0
      Answered answer new = Pulled world facts test before (handed_out old) log answer new (handed_out leaf) more

      pub item_pulled : (x : Value TableRow) → Taking (Ok (Ok x)) → items_at world [] chain (base_stream old) ≡ in_front x (items_at world [] chain (base_stream leaf))
          → Answered (Ok (step.Item x)) (Some after)
      item_pulled x takes steps = record {
        front = takes.0.front;
        goes = record {
          items = left_then limit less (items_at world [] chain (base_stream old)) (items_at world [] chain (base_stream leaf)) x more_wanted steps;
          rows = λ k. takes.1 (enough (suc k) limit) (still_open limit less k more_wanted)
              ∙ ap (λ (decide : List (Value TableRow) → Bool). takes.0.front ++ needed come decide (rows_to_come leaf)) (one_fewer limit less k x more_wanted)
              ∙ ap (λ (rows : List TableRow). takes.0.front ++ rows) (due_then less k (rows_to_come leaf));
          all = takes.1 (reaches limit) (open_limit (Value TableRow) limit less more_wanted)
              ∙ ap (λ (decide : List (Value TableRow) → Bool). takes.0.front ++ needed come decide (rows_to_come leaf)) (fewer_wanted (Value TableRow) limit less x more_wanted);
          none = refl;
          runs = λ k is. refl;
          over = tt;
        };
        count = takes.0.count;
        grows = takes.0.grows;
      }

      pub end_pulled : (f : Form) (e : End) (answer : Step TableRow) (new : Opened) → Taking (Ok (Err e)) → items_at world [] chain (base_stream old) ≡ ([], e)
          → GivesOn world f ([], e) answer new → Answered (Ok answer) (place_of world f new)
      end_pulled f e answer new takes steps gives = record {
        front = takes.0.front;
        goes = subst (λ (p : Option (Place TableRow)). GoesOn before (Ok answer) takes.0.front p) (sym gives.1)
            (record {
              items = subst (λ (t : Stream (Value TableRow)). Gives t answer gives.0)
                  (sym (left_ended limit less (items_at world [] chain (base_stream old)) e more_wanted steps)) gives.2;
              rows = λ k. takes.1 (enough (suc k) limit) (still_open limit less k more_wanted) ∙ sym (append-nil takes.0.front);
              all = takes.1 (reaches limit) (open_limit (Value TableRow) limit less more_wanted) ∙ sym (append-nil takes.0.front);
              none = refl;
              runs = stopped before;
              over = ended answer;
            });
        count = takes.0.count;
        grows = takes.0.grows;
      }

      pub refusal_pulled : (e d : AllocError) → Taking (Err e) → Answered (Err d) None
      refusal_pulled e d takes = record {
        front = takes.0.front;
        goes = takes.1 (enough 1 limit) (still_open limit less 0 more_wanted);
        count = takes.0.count;
        grows = takes.0.grows;
      }

-- ---- pulls of a form

module _ (world : World TableRow) (f : Form) where
  -- where the form is a head over a chain, calls are about the rows that are handed out
  pub pulls_rows : (n : ℕ) → leaf_below f ≡ Some n → (old : Place TableRow) → old.needs.runs 0 ≡ true → (k : ℕ) (log : List Call) (answer : Result (Step TableRow) AllocError)
      (new : Option (Place TableRow)) (m : ℕ) (more : List Call) → Pulled world row_facts (covers_beside world f) old k log answer new m more
      → Pulls world row_facts f (Some old) k log answer new m more
  pulls_rows n leaf old runs k log answer new m more pulled = record {
    front = pulled.front;
    goes = pulled.goes;
    count = pulled.count;
    calls = subst (λ (b : Bool). AddsIf world b row_facts f pulled.front log more) (sym runs) (λ seen pass others.
        pulled.grows (watch_of seen f) log (subst (λ (o : Option ℕ). OthersPass world o (watch_of seen f) f) leaf others) pass
        (grown_none world row_facts (watch_of seen f) log));
  }

  -- a test that passes more watches
  pub passes_more : (facts : RowFacts TableRow) (test wider : Watch TableRow → Bool) → ((w : Watch TableRow) → test w ≡ true → wider w ≡ true) → (old : Place TableRow) (k : ℕ)
      (log : List Call) (answer : Result (Step TableRow) AllocError) (new : Option (Place TableRow)) (m : ℕ) (more : List Call)
      → Pulled world facts wider old k log answer new m more → Pulled world facts test old k log answer new m more
  passes_more facts test wider is old k log answer new m more pulled = record {
    front = pulled.front;
    goes = pulled.goes;
    count = pulled.count;
    grows = λ w start h. pulled.grows w start (is w h);
  }
