-- Steps of a log that grows by watched calls alone: no call, one that is asked for, and the calls of pulls.
use Rattle.std.proofs.Common.{◌≡◌, ◌∷◌, ◌++◌, List, [], Bool, true, Some, Result, Ok, Err, ap, ◌∙◌, sym, refl, subst, append_assoc, append-nil}
use Rattle.std.specs.Cmp.{first_so, second_so}
use Rattle.lq_value.specs.declared.value.End.{End}
use Rattle.lq_value.specs.declared.value.Value.{Value}
use Rattle.lq_host.specs.Calls.{LogsCall, arguments_at, entry_of}
use Rattle.lq_host.specs.Predicates.{answer_in}
use Rattle.lq_host.specs.declared.call.Call.{Call}
use Rattle.lq_host.specs.declared.call.Question.{Question}
use Rattle.lq_host.specs.declared.error.HostError.{HostError}
use Rattle.lq_language.specs.Enumerable.{in_front}
use Rattle.lq_language.specs.Stream.{Stream}
use Rattle.lq_language.specs.Worlds.{World}
use Rattle.lq_language.proofs.AlikeStreamLaws.{every_append}
use Rattle.lq_language.proofs.ItemLaws.{every_more, every_none}
use Rattle.lq_tree.specs.Watches.{HasGrown, HasPulled, IsWatched, RowFacts, Watch, has_watched_rows, have_watched_rows}
use Rattle.lq_tree.proofs.WatchedValueLaws.{all_before, all_behind}

module _ {R : Type 0} (world : World R) (facts : RowFacts R) (w : Watch R) where
  pub grown_none : (log : List Call) → HasGrown world facts w log log
  grown_none log = record { calls = []; is = sym (append-nil log); are_watched = every_none (IsWatched world facts w) }

  -- the log is as it was
  pub grown_same : (start log more : List Call) → more ≡ log → HasGrown world facts w start log → HasGrown world facts w start more
  grown_same start log more is g = subst (λ (l : List Call). HasGrown world facts w start l) (sym is) g

  -- one watched call more
  pub grown_called : (start log more : List Call) (call : Call) → IsWatched world facts w call → more ≡ log ++ call ∷ []
      → HasGrown world facts w start log
      → HasGrown world facts w start more
  grown_called start log more call on is g =
      record {
        calls = g.calls ++ call ∷ [];
        is = is ∙ ap (λ (l : List Call). l ++ call ∷ []) g.is ∙ append_assoc start g.calls (call ∷ []);
        are_watched = every_append (IsWatched world facts w) g.calls (call ∷ []) g.are_watched
            (every_more (IsWatched world facts w) call [] on (every_none (IsWatched world facts w)));
      }

  -- a watched predicate is asked about a watched row, or nobody is asked
  pub grown_asked : (start old new : List Call) (question : Question) (result : Result Bool HostError) (row : R)
      → LogsCall (answer_in world.predicates question.predicate question.arguments) question old result new → w.row row ≡ true
      → w.host question.predicate question.table question.columns ≡ true → facts.table row ≡ question.table → facts.number row ≡ question.row
      → arguments_at (facts.cells row) question.columns ≡ Some question.arguments → HasGrown world facts w start old
      → HasGrown world facts w start new
  grown_asked start old new question (Ok given) row logs passes host table number arguments g =
      grown_called start old new (entry_of question given)
      (record { row = row; passes = passes; host = host; table = table; number = number; arguments = arguments; answer = logs.0 }) logs.1 g
  grown_asked start old new question (Err refused) row logs passes host table number arguments g = grown_same start old new logs.1 g

-- ---- items that are taken from the front

module _ {R : Type 0} (w : Watch R) where
  pub front_passes : (old new : Stream (Value R)) (v : Value R) → old ≡ in_front v new → have_watched_rows w old.0 ≡ true
      → has_watched_rows w v ≡ true
  front_passes old new v is h =
      first_so (has_watched_rows w v) (have_watched_rows w new.0) (ap (λ (s : Stream (Value R)). have_watched_rows w s.0) (sym is) ∙ h)

  pub rest_passes : (old new : Stream (Value R)) (v : Value R) → old ≡ in_front v new → have_watched_rows w old.0 ≡ true
      → have_watched_rows w new.0 ≡ true
  rest_passes old new v is h =
      second_so (has_watched_rows w v) (have_watched_rows w new.0) (ap (λ (s : Stream (Value R)). have_watched_rows w s.0) (sym is) ∙ h)

  taken_pass : (all taken left : List (Value R)) → all ≡ taken ++ left → have_watched_rows w all ≡ true → have_watched_rows w taken ≡ true
  taken_pass all taken left is h = all_before (has_watched_rows w) taken left (ap (have_watched_rows w) (sym is) ∙ h)

  left_pass : (all taken left : List (Value R)) → all ≡ taken ++ left → have_watched_rows w all ≡ true → have_watched_rows w left ≡ true
  left_pass all taken left is h = all_behind (has_watched_rows w) taken left (ap (have_watched_rows w) (sym is) ∙ h)

module _ {R : Type 0} (world : World R) (facts : RowFacts R) (test : Watch R → Bool) where
  abbrev Pulled : List (Value R) → List Call → List (Value R) → List Call → Type 0
  Pulled = HasPulled world facts test

  -- nothing is taken
  pub pulled_none : (items : List (Value R)) (log : List Call) → HasPulled world facts test items log items log
  pulled_none items log = record { front = []; is = refl; grows = λ w start t h g. g }

  -- one item more is taken, and what is asked for it is watched
  pub pulled_more : (items : List (Value R)) (s t : Stream (Value R)) (first log more : List Call) (v : Value R)
      → HasPulled world facts test items first s.0 log
      → s ≡ in_front v t
      → ((w : Watch R) (start : List Call) → test w ≡ true → has_watched_rows w v ≡ true → HasGrown world facts w start log
      → HasGrown world facts w start more)
      → HasPulled world facts test items first t.0 more
  pulled_more items s t first log more v pulled is step =
      record {
        front = pulled.front ++ v ∷ [];
        is = pulled.is ∙ ap (λ (u : Stream (Value R)). pulled.front ++ u.0) is ∙ sym (append_assoc pulled.front (v ∷ []) t.0);
        grows =
            λ w start passes h g.
            step w start passes (first_so (has_watched_rows w v) true (all_behind (has_watched_rows w) pulled.front (v ∷ []) h))
            (pulled.grows w start passes (all_before (has_watched_rows w) pulled.front (v ∷ []) h) g);
      }

  -- the items end, and none is left
  pub pulled_over : (items : List (Value R)) (s t : Stream (Value R)) (first log : List Call) (e : End)
      → HasPulled world facts test items first s.0 log
      → s ≡ ([], e) → t.0 ≡ [] → HasPulled world facts test items first t.0 log
  pulled_over items s t first log e pulled is none =
      record {
        front = pulled.front;
        is = pulled.is ∙ ap (λ (u : Stream (Value R)). pulled.front ++ u.0) is ∙ ap (λ (l : List (Value R)). pulled.front ++ l) (sym none);
        grows = pulled.grows;
      }

  -- where all items are watched, so are the calls
  pub pulled_grows : (items left : List (Value R)) (log more : List Call) → HasPulled world facts test items log left more
      → (w : Watch R) (start : List Call)
      → test w ≡ true → have_watched_rows w items ≡ true → HasGrown world facts w start log → HasGrown world facts w start more
  pulled_grows items left log more pulled w start passes h g = pulled.grows w start passes (taken_pass w items pulled.front left pulled.is h) g

  -- and the items that are left
  pub pulled_left : (items left : List (Value R)) (log more : List Call) → HasPulled world facts test items log left more → (w : Watch R)
      → have_watched_rows w items ≡ true → have_watched_rows w left ≡ true
  pulled_left items left log more pulled w h = left_pass w items pulled.front left pulled.is h
