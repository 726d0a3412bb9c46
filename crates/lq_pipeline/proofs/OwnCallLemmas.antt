-- Whatever is pulled of a form, the log has calls more of the form's own host predicates alone, about rows of the tables.
use Rattle.std.proofs.Common.{◌≡◌, ◌∷◌, ◌++◌, ◌||◌, inl, inr, List, [], ℕ, zero, suc, Bool, true, false, Option, Some, None, Result, Ok, Err, ap, ◌∙◌, sym, refl, subst, append_assoc, slice_get}
use Rattle.std.specs.Cmp.{first_so, second_so}
use Rattle.std.specs.List.{list_all}
use Rattle.std.specs.declared.alloc.AllocError.{AllocError}
use Rattle.lq_value.specs.declared.value.End.{End}
use Rattle.lq_value.specs.declared.value.Value.{Value}
use Rattle.lq_host.specs.declared.call.Call.{Call}
use Rattle.lq_language.specs.Stream.{Stream}
use Rattle.lq_language.specs.TableRows.{TableRow}
use Rattle.lq_language.specs.Worlds.{World}
use Rattle.lq_language.proofs.AlikeStreamLaws.{every_append}
use Rattle.lq_tree.specs.AllowedCalls.{AddsOwnCalls, watch_of}
use Rattle.lq_tree.specs.UsesOfForms.{form_uses}
use Rattle.lq_tree.specs.Watches.{HasGrown, IsWatched, Watch, is_covered, is_covered_above, is_watched_table}
use Rattle.lq_tree.specs.declared.tree.Form.{Form, out-Form}
use Rattle.lq_tree.specs.declared.tree.Form.TheOpen.{Form-F}
use Rattle.lq_tree.proofs.CoveredLaws.{covered_above, covered_at}
use Rattle.lq_tree.proofs.LogLaws.{grown_none, grown_same}
use Rattle.lq_tree.proofs.OwnWatchLaws.{all_own, any_table, covered_by_names, is_one_of}
use Rattle.lq_tree.proofs.WatchedValueLaws.{all_before, all_behind, both_so}
use Rattle.lq_plan.specs.Counts.{simple_limit}
use Rattle.lq_plan.specs.Pulling.{rows_or_none}
use Rattle.lq_pull.specs.Views.{row_facts}
use Rattle.lq_tree.specs.FormMeaning.{form_meaning}
use Rattle.lq_pipeline.specs.Chains.{comes_at, leaf_of, rows_at}
use Rattle.lq_pipeline.specs.Drains.{IsPulls, items_of, step_of}
use Rattle.lq_pipeline.specs.Heads.{Needs, at_once, decides_given, fails, given_needs, given_needs_by, leaf_below, needs_layer, needs_of_leaf, one_by_one, taken_by, unwrapped}
use Rattle.lq_pipeline.specs.Laziness.{PullsAll}
use Rattle.lq_pipeline.specs.Places.{AddsFrom, AddsIf, GoesFrom, OthersPass, Place, covered_layer, covers_beside, start_of}
use Rattle.lq_pipeline.specs.Pulling.{PullsTo, State}
use Rattle.lq_pipeline.specs.Settling.{has_at_least, needed, reaches}
use Rattle.lq_pipeline.specs.declared.steps.Step.{Step}
use Rattle.lq_pipeline.proofs.LazinessLaws.{needed_is_shortest}
use Rattle.lq_pipeline.proofs.TakeLemmas.{unwrapped_uses}

-- ---- what is covered

-- what covers a form covers what is run beside the rows of its table
module _ (world : World TableRow) (w : Watch TableRow) where
  beside_by : (g : Form) (layer : Form-F Form) → out-Form g ≡ layer → is_covered world w g ≡ true → covered_layer world w g layer ≡ true
  beside_by g (Form-F.Simple method t a) there h = covered_above world w a (sym (covered_at world w g there) ∙ h)
  beside_by g (Form-F.Given method a b) there h =
      let both = sym (covered_at world w g there) ∙ h in
      both_so (is_covered_above world w a) (is_covered world w b) (covered_above world w a (first_so (is_covered world w a) (is_covered world w b) both))
      (second_so (is_covered world w a) (is_covered world w b) both)
  beside_by g (Form-F.All a c) there h =
      let both = sym (covered_at world w g there) ∙ h in
      both_so (is_covered_above world w a) (is_covered world w c) (covered_above world w a (first_so (is_covered world w a) (is_covered world w c) both))
      (second_so (is_covered world w a) (is_covered world w c) both)
  beside_by g layer there h = covered_above world w g h

  pub covered_beside : (f : Form) → is_covered world w (unwrapped f) ≡ true → covers_beside world f w ≡ true
  covered_beside f h = beside_by (unwrapped f) (out-Form (unwrapped f)) refl h

  -- a log that has grown grows on
  pub grown_further : (first middle last : List Call) → HasGrown world row_facts w first middle → HasGrown world row_facts w middle last
      → HasGrown world row_facts w first last
  grown_further first middle last one more = record {
    calls = one.calls ++ more.calls;
    is = more.is ∙ ap (λ (l : List Call). l ++ more.calls) one.is ∙ append_assoc first one.calls more.calls;
    are_watched = every_append (IsWatched world row_facts w) one.calls more.calls one.are_watched more.are_watched;
  }

-- ---- where the rows of all tables pass

module _ (world : World TableRow) (f : Form) (seen : TableRow → Bool)
    (tables : (n : ℕ) → is_watched_table (watch_of seen f) (slice_get world.rows n) ≡ true) where
  abbrev own : Watch TableRow
  own = watch_of seen f

  abbrev Grown : List Call → List Call → Type 0
  Grown = HasGrown world row_facts (watch_of seen f)

  unwrapped_covered : is_covered world (watch_of seen f) (unwrapped f) ≡ true
  unwrapped_covered =
      covered_by_names world seen (form_uses f) any_table (λ n any. tables n) (unwrapped f)
      (ap (list_all (is_one_of any_table (form_uses f))) (unwrapped_uses world f) ∙ all_own (form_uses f))

  others_pass : (o : Option ℕ) → OthersPass world o (watch_of seen f) f
  others_pass (Some n) = covered_beside world (watch_of seen f) f unwrapped_covered
  others_pass None = tables

  rows_pass : (n : ℕ) → list_all seen (rows_at world n) ≡ true
  rows_pass n = by (slice_get world.rows n) (tables n) where
    by : (o : Option (List TableRow)) → is_watched_table (watch_of seen f) o ≡ true → list_all seen (rows_or_none o) ≡ true
    by (Some rows) h = h
    by None h = refl

  needed_pass : (come : TableRow → Stream (Value TableRow)) (decide : List (Value TableRow) → Bool) (rows : List TableRow) → list_all seen rows ≡ true
      → list_all seen (needed come decide rows) ≡ true
  needed_pass come decide rows pass =
      let front = needed_is_shortest TableRow (Value TableRow) come decide rows in
      all_before seen (needed come decide rows) front.others (sym (ap (list_all seen) front.is) ∙ pass)

  -- the rows that are due for each number of pulls pass
  abbrev AllPass : Needs TableRow → Type 0
  AllPass needs = (k : ℕ) → list_all seen (needs.due k) ≡ true

  items_pass : (a : Form) (limit : Option ℕ) (rows : List TableRow) → list_all seen rows ≡ true → AllPass (one_by_one world a limit rows)
  items_pass a limit rows pass zero = refl
  items_pass a limit rows pass (suc k) = needed_pass (comes_at world a) (λ items. has_at_least (suc k) items || reaches limit items) rows pass

  value_passes : (a : Form) (decide : List (Value TableRow) → Bool) (rows : List TableRow) → list_all seen rows ≡ true → AllPass (at_once world a decide rows)
  value_passes a decide rows pass zero = refl
  value_passes a decide rows pass (suc k) = needed_pass (comes_at world a) decide rows pass

  given_passes : (a : Form) (taken : Option ℕ) (decide : List (Value TableRow) → Bool) (rows : List TableRow) → list_all seen rows ≡ true
      → AllPass (given_needs_by world a taken decide rows)
  given_passes a (Some n) decide = items_pass a (Some n)
  given_passes a None decide = value_passes a decide

  leaf_passes : (o : Option ℕ) (by : List TableRow → Needs TableRow) → ((rows : List TableRow) → list_all seen rows ≡ true → AllPass (by rows))
      → AllPass (needs_of_leaf world o by)
  leaf_passes None by passes = λ k. refl
  leaf_passes (Some n) by passes = passes (rows_at world n) (rows_pass n)

  layer_passes : (g : Form) (layer : Form-F Form) → AllPass (needs_layer world g layer)
  layer_passes g (Form-F.Simple method t a) =
      leaf_passes (leaf_of a) (at_once world a (reaches (simple_limit method))) (value_passes a (reaches (simple_limit method)))
  layer_passes g (Form-F.Given method a b) =
      leaf_passes (leaf_of a) (given_needs world a method (form_meaning world b []))
      (given_passes a (taken_by method (form_meaning world b [])) (decides_given method (form_meaning world b [])))
  layer_passes g (Form-F.All a c) = leaf_passes (leaf_of a) (at_once world a (fails world c)) (value_passes a (fails world c))
  layer_passes g layer = leaf_passes (leaf_of g) (one_by_one world g None) (items_pass g None)

  -- they pass at a place, if there is one
  abbrev PlacePasses : Option (Place TableRow) → Type 0
  PlacePasses None = Unit {0}
  PlacePasses (Some p) = AllPass p.needs

  pub start_passes : (o : Option (Place TableRow)) → o ≡ Some (start_of world f) → PlacePasses o
  start_passes o is = subst PlacePasses (sym is) (layer_passes (unwrapped f) (out-Form (unwrapped f)))

  -- ---- pulls

  adds_grown : (runs : Bool) (front : List TableRow) (log more : List Call) → AddsIf world runs row_facts f front log more → list_all seen front ≡ true → Grown log more
  adds_grown true front log more adds pass = adds seen pass (others_pass (leaf_below f))
  adds_grown false front log more same pass = grown_same world row_facts own log log more same (grown_none world row_facts own log)

  pub pull_grows : (old new : Option (Place TableRow)) (answer : Result (Step TableRow) AllocError) (front : List TableRow) (log more : List Call)
      → GoesFrom old answer front new → AddsFrom world old row_facts f front log more → PlacePasses old → Grown log more × PlacePasses new
  pull_grows None new (Ok answer) front log more goes adds passes = absurd goes
  pull_grows None new (Err e) front log more goes adds passes =
      (grown_same world row_facts own log log more adds (grown_none world row_facts own log), subst PlacePasses (sym goes.1) tt)
  pull_grows (Some p) None (Ok answer) front log more goes adds passes = absurd goes
  pull_grows (Some p) (Some q) (Ok answer) front log more goes adds passes = (
    adds_grown (p.needs.runs 0) front log more adds
        (all_before seen front (q.needs.due 0) (sym (ap (list_all seen) (goes.rows 0)) ∙ passes 1)),
    λ k. all_behind seen front (q.needs.due k) (sym (ap (list_all seen) (goes.rows k)) ∙ passes (suc k)),
  )
  pull_grows (Some p) (Some q) (Err e) front log more goes adds passes = absurd goes
  pull_grows (Some p) None (Err e) front log more goes adds passes =
      (adds_grown (p.needs.runs 0) front log more adds (all_before seen front goes.0 (sym (ap (list_all seen) goes.1) ∙ passes 1)), tt)

  one_grows : (old : State) (answer : Result (Step TableRow) AllocError) (new : State) → PullsTo world f old answer new → PlacePasses old.place
      → Grown old.calls new.calls × PlacePasses new.place
  one_grows old answer new pulls passes = pull_grows old.place new.place answer pulls.front old.calls new.calls pulls.goes pulls.calls passes

  all_grow : (answers : List (Step TableRow)) (old new : State) → PullsAll world f answers old new → PlacePasses old.place
      → Grown old.calls new.calls × PlacePasses new.place
  all_grow [] old new same passes =
      subst (λ (s : State). Grown old.calls s.calls × PlacePasses s.place) (sym same) (grown_none world row_facts own old.calls, passes)
  all_grow (answer ∷ answers) old new (middle, pulls, rest) passes =
      let one = one_grows old (Ok answer) middle pulls passes in
      let more = all_grow answers middle new rest one.1 in
      (grown_further world own old.calls middle.calls new.calls one.0 more.0, more.1)

  drain_grows : (items : List (Value TableRow)) (old : State) (answer : Result End AllocError) (new : State) → IsPulls world f items old answer new
      → PlacePasses old.place → Grown old.calls new.calls
  drain_grows items old (Ok e) new (inl pulls) passes = (all_grow (items_of items) old new pulls passes).0
  drain_grows items old (Ok e) new (inr pulls) passes = (all_grow (items_of items ++ step_of e ∷ []) old new pulls passes).0
  drain_grows items old (Err e) new (middle, pulls, refused) passes =
      let before = all_grow (items_of items) old middle pulls passes in
      grown_further world own old.calls middle.calls new.calls before.0 (one_grows middle (Err e) new refused before.1).0

-- a pull of what was opened
pub pull_adds_own : (world : World TableRow) (f : Form) (old : State) (answer : Result (Step TableRow) AllocError) (new : State) → old.place ≡ Some (start_of world f)
    → PullsTo world f old answer new → AddsOwnCalls world row_facts f [] old.calls new.calls
pull_adds_own world f old answer new at pulls = λ seen tables none. (one_grows world f seen tables old answer new pulls (start_passes world f seen tables old.place at)).0

-- and a drain of it
pub drain_adds_own : (world : World TableRow) (f : Form) (items : List (Value TableRow)) (old : State) (answer : Result End AllocError) (new : State)
    → old.place ≡ Some (start_of world f) → IsPulls world f items old answer new → AddsOwnCalls world row_facts f [] old.calls new.calls
drain_adds_own world f items old answer new at pulls = λ seen tables none. drain_grows world f seen tables items old answer new pulls (start_passes world f seen tables old.place at)
