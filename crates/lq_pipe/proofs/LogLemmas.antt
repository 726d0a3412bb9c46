-- How a log grows while forms are run: by the calls that a watch covers, about items that pass it.
use Rattle.std.proofs.Common.{◌≡◌, ◌∷◌, ◌<◌, ◌&&◌, if◌then◌else◌, List, [], map, filter, ℕ, Bool, true, false, Option, Some, None, Result, Ok, Err, ap, ◌∙◌, sym, refl, subst, get_or, length}
use Rattle.std.specs.Cmp.{first_so, second_so}
use Rattle.std.specs.List.{list_all}
use Rattle.std.proofs.lemmas.Option.{slice_get-get_or}
use Rattle.lq_value.specs.SameAndOrder.{same_values as same_keys}
use Rattle.lq_value.specs.declared.scalar.Scalar.{Scalar}
use Rattle.lq_value.specs.declared.value.End.{End}
use Rattle.lq_value.specs.declared.value.End.TheVariants as end
use Rattle.lq_value.specs.declared.value.Fault.{Fault}
use Rattle.lq_value.specs.declared.value.Value.{Value, out-Value}
use Rattle.lq_value.specs.declared.value.Value.TheVariants as value
use Rattle.lq_host.specs.declared.call.Call.{Call}
use Rattle.lq_language.specs.ClauseMeaning.{is_null_layer, matches}
use Rattle.lq_language.specs.Enumerable.{all, in_front}
use Rattle.lq_language.specs.OperandMeaning.{stream_of}
use Rattle.lq_language.specs.Operations.{on_ok}
use Rattle.lq_language.specs.Stream.{Stream, both, elements_of, one}
use Rattle.lq_language.specs.Worlds.{World}
use Rattle.lq_tree.specs.FormMeaning.{Slots, form_meaning, matched, with_item}
use Rattle.lq_tree.specs.Watches.{HasGrown, HasPulled, RowFacts, Watch, has_watched_rows, have_watched_rows, is_covered, is_covered_above}
use Rattle.lq_tree.specs.declared.tree.Form.{Form}
use Rattle.lq_tree.proofs.CoveredLaws.{above_select_body, above_select_source, above_sequence, above_where_body, above_where_source, covered_above, covered_select_body, covered_select_source, covered_sequence, covered_where_body, covered_where_source}
use Rattle.lq_tree.proofs.LogLaws.{front_passes, pulled_grows, pulled_left, pulled_more, pulled_none}
use Rattle.lq_tree.proofs.WatchLaws.{stream_passes}
use Rattle.lq_tree.proofs.WatchedValueLaws.{all_at, all_one, both_so, each_all, sequence_watched}
use Rattle.lq_plan.specs.declared.bases.Base.{Base}
use Rattle.lq_plan.specs.Counts.{read_first}
use Rattle.lq_plan.specs.Pipes.{items_left}
use Rattle.lq_plan.specs.PlannedRows.{kept_stream}
use Rattle.lq_plan.specs.Prepared.{IsPlanned}
use Rattle.lq_plan.specs.Pulling.{base_stream, item_at, stream_behind}
use Rattle.lq_plan.specs.Stages.{IsStageOver}
use Rattle.lq_plan.specs.Watching.{is_covered_pipe, is_covered_stage, matches_pass}
use Rattle.lq_plan.specs.declared.pipes.Pipe.{Pipe}
use Rattle.lq_plan.specs.declared.stages.Stage.{Stage}
use Rattle.lq_plan.specs.declared.stages.Stage.TheVariants as stage
use Rattle.lq_plan.proofs.WatchLaws.{all_pass, item_passes, kept_pass, left_passes, read_passes}
use Rattle.lq_pipe.specs.Items.{keys_and_elements}
use Rattle.lq_pipe.specs.Steps.{Steps}

-- what is so at each place is so of what stands at one
pub all_there : {A : Type 0} (q : A → Bool) (xs : List A) (i : ℕ) (x : A) → list_all q xs ≡ true → x ≡ get_or xs i x → i < length xs → q x ≡ true
all_there q xs i x h is below = all_at q xs i x h (slice_get-get_or xs i x below ∙ ap (λ y. Some y) (sym is))

-- an item of which a condition is true is passed by
pub all_on : {A : Type 0} (holds : A → Result Bool Fault) (old new : Stream A) (x : A) (whole : Result Bool Fault) → old ≡ in_front x new → Ok true ≡ holds x
    → all holds old.0 old.1 ≡ whole → all holds new.0 new.1 ≡ whole
all_on holds old new x whole is gives goes =
    ap (λ (o : Result Bool Fault). on_ok o (λ b. if b then all holds new.0 new.1 else Ok false)) gives
    ∙ sym (ap (λ (s : Stream _). all holds s.0 s.1) is) ∙ goes

-- ---- what is covered of stages and sources

module _ {R : Type 0} (world : World R) (w : Watch R) where
  pub source_of : (st : Stage) (f a : Form) → IsStageOver f st a → is_covered world w f ≡ true → is_covered world w a ≡ true
  source_of stage.Plain f a is h = covered_sequence world w f a a is refl h
  source_of (stage.Where c) f a is h = covered_where_source world w f a c.now a is refl h
  source_of (stage.Select c) f a is h = covered_select_source world w f a c.now a is refl h

  pub stage_over : (st : Stage) (f a : Form) → IsStageOver f st a → is_covered world w f ≡ true → is_covered_stage world w st ≡ true
  stage_over stage.Plain f a is h = refl
  stage_over (stage.Where c) f a is h = covered_where_body world w f a c.now c.now is refl h
  stage_over (stage.Select c) f a is h = covered_select_body world w f a c.now c.now is refl h

  pub above_source : (st : Stage) (f a : Form) → IsStageOver f st a → is_covered_above world w f ≡ true → is_covered_above world w a ≡ true
  above_source stage.Plain f a is h = above_sequence world w f a a is refl h
  above_source (stage.Where c) f a is h = above_where_source world w f a c.now a is refl h
  above_source (stage.Select c) f a is h = above_select_source world w f a c.now a is refl h

  pub above_stage : (st : Stage) (f a : Form) → IsStageOver f st a → is_covered_above world w f ≡ true → is_covered_stage world w st ≡ true
  above_stage stage.Plain f a is h = refl
  above_stage (stage.Where c) f a is h = above_where_body world w f a c.now c.now is refl h
  above_stage (stage.Select c) f a is h = above_select_body world w f a c.now c.now is refl h

  -- of the form and the stage of a pipe
  pub covered_as : (f g : Form) → f ≡ g → is_covered world w g ≡ true → is_covered world w f ≡ true
  covered_as f g is h = ap (is_covered world w) is ∙ h

  pub stage_as : (st st' : Stage) → st ≡ st' → is_covered_stage world w st' ≡ true → is_covered_stage world w st ≡ true
  stage_as st st' is h = ap (is_covered_stage world w) is ∙ h

-- ---- items

module _ {R : Type 0} (world : World R) (w : Watch R) (slots : Slots R) where
  -- an item that came through the conditions and lambdas above a base
  pub passed_item : (f : Form) (x v : Value R) → is_covered_above world w f ≡ true → have_watched_rows w slots ≡ true → has_watched_rows w x ≡ true
      → ◌≡◌ {A = Stream (Value R)} (v ∷ [], end.Done) (item_at world slots f x) → has_watched_rows w v ≡ true
  passed_item f x v above passes k is =
      first_so (has_watched_rows w v) true (ap (λ (s : Stream (Value R)). have_watched_rows w s.0) is ∙ item_passes world w slots passes f above x k)

  -- items that were read of a pipe
  pub items_read : (pipe : Pipe) (limit : Option ℕ) (s : Stream (Value R)) → s ≡ read_first limit (stream_behind world slots pipe.stage pipe.source.now)
      → is_covered world w pipe.source.now ≡ true → is_covered_stage world w pipe.stage ≡ true → have_watched_rows w slots ≡ true → have_watched_rows w s.0 ≡ true
  items_read pipe limit s is covered c passes =
      ap (λ (t : Stream (Value R)). have_watched_rows w t.0) is
      ∙ read_passes w limit (stream_behind world slots pipe.stage pipe.source.now) (all_pass world w slots passes pipe.stage pipe.source.now covered c)

  -- inner items with their keys, and those that a key matches
  abbrev pair_passes : Value R × Value R → Bool
  pair_passes pair = has_watched_rows w pair.1

  one_pair : (x : Value R) → has_watched_rows w x ≡ true → (o : Result (Value R) Fault) → list_all pair_passes (one (both o (Ok x))).0 ≡ true
  one_pair x k (Ok y) = all_one pair_passes (y, x) k
  one_pair x k (Err f) = refl

  pairs_pass : (key : Form) (s : Stream (Value R)) → have_watched_rows w s.0 ≡ true → matches_pass w (keys_and_elements world slots key None s).0 ≡ true
  pairs_pass key s h =
      each_all (has_watched_rows w) pair_passes (λ x. one (both (form_meaning world key (with_item world slots x)) (Ok x)))
      (λ x k. one_pair x k (form_meaning world key (with_item world slots x))) s.0 s.1 h

  pub pairs_match : (inner key : Form) (pairs qs : List (Value R × Value R)) (e : End)
      → (pairs, e) ≡ keys_and_elements world slots key None (stream_of world (form_meaning world inner slots)) → qs ≡ pairs
      → is_covered world w inner ≡ true → have_watched_rows w slots ≡ true → matches_pass w qs ≡ true
  pairs_match inner key pairs qs e is same covered passes =
      ap (matches_pass w) same ∙ ap (λ (t : Stream (Value R × Value R)). matches_pass w t.0) is
      ∙ pairs_pass key (stream_of world (form_meaning world inner slots)) (stream_passes world w inner slots _ refl covered passes)

module _ {R : Type 0} (w : Watch R) where
  abbrev seconds : List (Value R × Value R) → List (Value R)
  seconds found = map (λ (q : Value R × Value R). q.1) found

  kept_of : (b : Bool) (q : Value R × Value R) (found : List (Value R × Value R)) → has_watched_rows w q.1 ≡ true → have_watched_rows w (seconds found) ≡ true
      → have_watched_rows w (seconds (if b then q ∷ found else found)) ≡ true
  kept_of true q found h k = both_so (has_watched_rows w q.1) (have_watched_rows w (seconds found)) h k
  kept_of false q found h k = k

  elements_pass : (key : Value R) (qs : List (Value R × Value R)) → matches_pass w qs ≡ true → have_watched_rows w (elements_of same_keys key qs) ≡ true
  elements_pass key [] h = refl
  elements_pass key (q ∷ qs) h =
      kept_of (same_keys key q.0) q (filter (λ (q : Value R × Value R). same_keys key q.0) qs) (first_so (has_watched_rows w q.1) (matches_pass w qs) h)
      (elements_pass key qs (second_so (has_watched_rows w q.1) (matches_pass w qs) h))

  found_or_none : (b : Bool) (found : List (Value R)) → have_watched_rows w found ≡ true → have_watched_rows w (if b then [] else found) ≡ true
  found_or_none true found h = refl
  found_or_none false found h = h

  found_pass : (key : Value R) (qs : List (Value R × Value R)) → matches_pass w qs ≡ true → have_watched_rows w (matches key qs) ≡ true
  found_pass key qs h = found_or_none (is_null_layer (out-Value R key)) (elements_of same_keys key qs) (elements_pass key qs h)

  pub matched_pass : (world : World R) (grouped : Bool) (key : Value R) (qs : List (Value R × Value R)) → matches_pass w qs ≡ true
      → have_watched_rows w (matched world grouped key qs) ≡ true
  matched_pass world true key qs h =
      all_one (has_watched_rows w) (value.Seq (matches key qs) end.Done) (sequence_watched w (matches key qs, end.Done) (found_pass key qs h))
  matched_pass world false key qs h = found_pass key qs h

-- ---- pipes

-- a watch covers what a pipe's items come from and go through, and passes the rows in the slots
module _ {R : Type 0} (world : World R) (slots : Slots R) (pipe : Pipe) where
  pub record Covers (w : Watch R) : Type 0 where
    pub source_in : is_covered world w pipe.source.now ≡ true
    pub stage_in : is_covered_stage world w pipe.stage ≡ true
    pub slots_in : have_watched_rows w slots ≡ true

  pub covers_pipe : (w : Watch R) → is_covered world w pipe.source.now ≡ true → is_covered_stage world w pipe.stage ≡ true → have_watched_rows w slots ≡ true
      → Covers w
  covers_pipe w a c s = record { source_in = a; stage_in = c; slots_in = s }

  pub pipe_covered : (w : Watch R) → Covers w → is_covered_pipe world w slots pipe ≡ true
  pipe_covered w c =
      both_so (is_covered_stage world w pipe.stage) (is_covered_above world w pipe.source.now && have_watched_rows w slots) c.stage_in
      (both_so (is_covered_above world w pipe.source.now) (have_watched_rows w slots) (covered_above world w pipe.source.now c.source_in) c.slots_in)

module _ {R S : Type 0} (world : World R) (facts : RowFacts R) (table_of : R → ℕ) (shown : R → List Scalar) (slots : Slots R) (pipe : Pipe)
    (P : Watch R → Type 0) where
  -- What a loop over the items of a pipe keeps where a watch is such: the log has grown by watched calls alone, and what a base has left passes.
  pub record Keeps (log more : List Call) (b : Base R S) : Type 0 where
    pub grows : (w : Watch R) (start : List Call) → P w → HasGrown world facts w start log → HasGrown world facts w start more
    pub left : (w : Watch R) → P w → have_watched_rows w (kept_stream table_of shown pipe.plan b).0 ≡ true

  pub opened : (log more : List Call) (b : Base R S)
      → ((w : Watch R) (start : List Call) → P w → HasGrown world facts w start log → HasGrown world facts w start more)
      → ((w : Watch R) → P w → have_watched_rows w (base_stream b).0 ≡ true) → Keeps log more b
  opened log more b grows from = record { grows = grows; left = λ w p. kept_pass w table_of shown pipe.plan b (from w p) }

  -- something more is asked
  pub asked : (log more further : List Call) (b : Base R S) → Keeps log more b
      → ((w : Watch R) (start : List Call) → P w → HasGrown world facts w start more → HasGrown world facts w start further) → Keeps log further b
  asked log more further b k step = record { grows = λ w start p gr. step w start p (k.grows w start p gr); left = k.left }

  module _ (into : (w : Watch R) → P w → Covers world slots pipe w) where
    -- items are pulled
    pub went_on : (log more further : List Call) (old new : Base R S) → Keeps log more old
        → HasPulled world facts (λ w. is_covered_pipe world w slots pipe) (kept_stream table_of shown pipe.plan old).0 more
        (kept_stream table_of shown pipe.plan new).0 further
        → Keeps log further new
    went_on log more further old new k pulled =
        record {
          grows = λ w start p gr.
              pulled_grows world facts (λ w. is_covered_pipe world w slots pipe) (kept_stream table_of shown pipe.plan old).0
              (kept_stream table_of shown pipe.plan new).0 more further pulled w start (pipe_covered world slots pipe w (into w p)) (k.left w p)
              (k.grows w start p gr);
          left = λ w p.
              pulled_left world facts (λ w. is_covered_pipe world w slots pipe) (kept_stream table_of shown pipe.plan old).0
              (kept_stream table_of shown pipe.plan new).0 more further pulled w (k.left w p);
        }

    -- an item is taken, and what is asked for it is watched
    pub took : (log more further : List Call) (old new : Base R S) (x : Value R) → Keeps log more old
        → kept_stream table_of shown pipe.plan old ≡ in_front x (kept_stream table_of shown pipe.plan new)
        → ((w : Watch R) (start : List Call) → is_covered_pipe world w slots pipe ≡ true → has_watched_rows w x ≡ true
        → HasGrown world facts w start more → HasGrown world facts w start further) → Keeps log further new
    took log more further old new x k is step =
        let was = kept_stream table_of shown pipe.plan old in
        went_on log more further old new k
        (pulled_more world facts (λ w. is_covered_pipe world w slots pipe) was.0 was (kept_stream table_of shown pipe.plan new) more more further x
        (pulled_none world facts (λ w. is_covered_pipe world w slots pipe) was.0 more) is step)

    -- the item that comes next passes
    pub next_passes : (log more : List Call) (old : Base R S) (o : Result (Value R) End) (v : Value R) (t : Stream (Value R)) → Keeps log more old
        → IsPlanned table_of shown world slots pipe.stage pipe.source.now pipe.plan → o ≡ Ok v → Steps (items_left world slots pipe old) o t
        → (w : Watch R) → P w → has_watched_rows w v ≡ true
    next_passes log more old o v t k planned is steps w p =
        front_passes w (items_left world slots pipe old) t v (subst (λ (s : Result (Value R) End). Steps (items_left world slots pipe old) s t) is steps)
        (left_passes table_of shown world w slots pipe (pipe_covered world slots pipe w (into w p)) old planned (k.left w p))
