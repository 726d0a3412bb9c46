-- First pulls of methods with an argument that was evaluated, as steps from where a pipe starts.
use Rattle.std.proofs.Common.{◌≡◌, List, [], ℕ, ℤ, Bool, true, Option, Some, None, Result, Ok, Err, IfOk, ap, ◌∙◌, sym, refl, subst, slice_get}
use Rattle.std.proofs.lemmas.Option.{none-some, same_Some}
use Rattle.std.specs.Cmp.{first_so, second_so}
use Rattle.std.specs.declared.alloc.AllocError.{AllocError}
use Rattle.lq_value.specs.declared.scalar.Scalar.TheVariants as scalar
use Rattle.lq_value.specs.declared.value.Fault.{Fault}
use Rattle.lq_value.specs.declared.value.Value.{Value, out-Value}
use Rattle.lq_value.specs.declared.value.Value.TheOpen.{Value-F}
use Rattle.lq_host.specs.declared.call.Call.{Call}
use Rattle.lq_language.specs.Enumerable.{as_count, take_first}
use Rattle.lq_language.specs.Meaning.{as_sequence, given_meaning, number_of, on_number}
use Rattle.lq_language.specs.OperandMeaning.{scalar_of, stream_of, table_value}
use Rattle.lq_language.specs.Operations.{on_ok}
use Rattle.lq_language.specs.Stream.{Stream}
use Rattle.lq_language.specs.TableRows.{TableRow}
use Rattle.lq_language.specs.Worlds.{World}
use Rattle.lq_language.specs.declared.methods.Given.{Given}
use Rattle.lq_language.specs.declared.methods.Given.TheVariants as given
use Rattle.lq_tree.specs.FormMeaning.{form_meaning}
use Rattle.lq_tree.specs.Watches.{HasGrown, RowFacts, Watch, is_covered, is_covered_above}
use Rattle.lq_tree.specs.declared.tree.Form.{Form}
use Rattle.lq_tree.specs.declared.tree.Form.TheVariants as form
use Rattle.lq_operators.specs.Answers.{IsAnswer}
use Rattle.lq_operators.specs.declared.error.RunError.{RunError}
use Rattle.lq_plan.specs.Counts.{read_first}
use Rattle.lq_plan.specs.Handing.{handed_out, rows_to_come}
use Rattle.lq_plan.specs.Pulling.{base_stream, items_at}
use Rattle.lq_plan.specs.declared.bases.Base.{Base}
use Rattle.lq_pull.specs.Evaluations.{Finds}
use Rattle.lq_pull.specs.declared.readers.Reader.{Reader}
use Rattle.lq_pipeline.specs.Chains.{comes_at, items_of_result, leaf_of, rows_at}
use Rattle.lq_pipeline.specs.Heads.{AreItemsOf, at_once, decides_given, given_needs, given_needs_by, needs_of, one_by_one, taken_by, taken_of_layer, unwrapped}
use Rattle.lq_pipeline.specs.Places.{Place, covers_beside, start_of}
use Rattle.lq_pipeline.specs.Reading.{Reads, covers_chain}
use Rattle.lq_pipeline.specs.Standings.{AnswersWith, Pulled, place_of, rows_place}
use Rattle.lq_pipeline.specs.declared.steps.Opened.{Opened}
use Rattle.lq_pipeline.specs.declared.steps.Step.{Step}
use Rattle.lq_pipeline.proofs.ChainLemmas.{of_sequence}
use Rattle.lq_pipeline.proofs.HeadLemmas.{given_covers, needs_with}
use Rattle.lq_pipeline.proofs.PipeLemmas.{value_read}
use Rattle.lq_pipeline.proofs.PullingLemmas.{found_is}
use Rattle.lq_pipeline.proofs.StartLemmas.{given_means}
use Rattle.lq_pipeline.proofs.TakeLemmas.{unwrapped_items}

-- ---- what `Take` gives of a number

module _ {R : Type 0} (world : World R) where
  of_int : (n : ℤ) (v : Value R) (f : ℤ → Result (Value R) Fault) → out-Value R v ≡ Value-F.Scalar (scalar.Int n) → on_number world (Ok v) f ≡ f n
  of_int n v f is = ap (λ (layer : Value-F R (Value R)). on_ok (on_ok (scalar_of world layer) (number_of world)) f) is

  taken_layer : (v : Value R) (count : ℕ) (s : Stream (Value R)) (layer : Value-F R (Value R)) → out-Value R v ≡ layer → taken_of_layer layer ≡ Some count
      → items_of_result (given_meaning world given.Take (Ok v) s) ≡ read_first (Some count) s
  taken_layer v count s (Value-F.Scalar (scalar.Int m)) is takes =
      ap items_of_result (of_int m v (λ k. as_sequence (take_first (as_count k) s.0 s.1)) is)
      ∙ of_sequence (take_first (as_count m) s.0 s.1)
      ∙ ap (λ (k : ℕ). take_first k s.0 s.1) (same_Some (as_count m) count takes)
  taken_layer v count s (Value-F.Scalar scalar.Null) is takes = absurd (none-some count takes)
  taken_layer v count s (Value-F.Scalar (scalar.Bool b)) is takes = absurd (none-some count takes)
  taken_layer v count s (Value-F.Scalar (scalar.Text t)) is takes = absurd (none-some count takes)
  taken_layer v count s (Value-F.Row r) is takes = absurd (none-some count takes)
  taken_layer v count s (Value-F.Rec ms) is takes = absurd (none-some count takes)
  taken_layer v count s (Value-F.Group k xs) is takes = absurd (none-some count takes)
  taken_layer v count s (Value-F.Seq xs e) is takes = absurd (none-some count takes)

  pub taken_means : (method : Given) (argument : Result (Value R) Fault) (count : ℕ) → taken_by method argument ≡ Some count → (s : Stream (Value R))
      → items_of_result (given_meaning world method argument s) ≡ read_first (Some count) s
  taken_means given.Take (Ok v) count takes s = taken_layer v count s (out-Value R v) refl takes
  taken_means given.Take (Err f) count takes s = absurd (none-some count takes)
  taken_means given.Skip argument count takes s = absurd (none-some count takes)
  taken_means given.ElementAt argument count takes s = absurd (none-some count takes)
  taken_means given.Contains argument count takes s = absurd (none-some count takes)
  taken_means given.Concat argument count takes s = absurd (none-some count takes)
  taken_means given.Union argument count takes s = absurd (none-some count takes)
  taken_means given.Intersect argument count takes s = absurd (none-some count takes)
  taken_means given.Except argument count takes s = absurd (none-some count takes)

-- ---- arguments

-- what was found is what the argument means
pub argument_means : {R : Type 0} (meant : Result (Value R) Fault) (answer : Result (Value R) RunError) (result : Result (Result (Value R) Fault) AllocError) → Finds answer result
    → IsAnswer meant answer → (argument : Result (Value R) Fault) → result ≡ Ok argument → meant ≡ argument
argument_means {R} meant answer result finds answers argument is =
    sym (subst (λ (r : Result (Result (Value R) Fault) AllocError). IfOk r (λ found. found ≡ meant)) is (found_is meant answer result finds answers))

module _ (world : World TableRow) (f : Form) (method : Given) (a b : Form) (is : unwrapped f ≡ form.Given method a b) where
  pub covered_source : (w : Watch TableRow) → covers_beside world f w ≡ true → is_covered_above world w a ≡ true
  covered_source w h = first_so (is_covered_above world w a) (is_covered world w b) (sym (given_covers world f method a b w is) ∙ h)

  pub covered_argument : (w : Watch TableRow) → covers_beside world f w ≡ true → is_covered world w b ≡ true
  covered_argument w h = second_so (is_covered_above world w a) (is_covered world w b) (sym (given_covers world f method a b w is) ∙ h)

-- ---- pulls

-- a pull behind the evaluation of an argument, whose calls the same watches cover
pub behind_argument : (world : World TableRow) (facts : RowFacts TableRow) (test : Watch TableRow → Bool) (old : Place TableRow) (n : ℕ) (log middle : List Call)
    → ((w : Watch TableRow) (start : List Call) → test w ≡ true → HasGrown world facts w start log → HasGrown world facts w start middle)
    → (answer : Result (Step TableRow) AllocError) (new : Option (Place TableRow)) (m : ℕ) (more : List Call)
    → Pulled world facts test old n middle answer new m more → Pulled world facts test old n log answer new m more
behind_argument world facts test old n log middle adds answer new m more pulled = record {
  front = pulled.front;
  goes = pulled.goes;
  count = pulled.count;
  grows = λ w start covered pass grown. pulled.grows w start covered pass (adds w start covered grown);
}

module _ (world : World TableRow) (facts : RowFacts TableRow) (f a b : Form) (method : Given) (is : unwrapped f ≡ form.Given method a b) (n : ℕ) (leaf : leaf_of a ≡ Some n)
    (items : AreItemsOf a n) (argument : Result (Value TableRow) Fault) (means : form_meaning world b [] ≡ argument) (base : Base TableRow Reader)
    (opened : base_stream base ≡ stream_of world (table_value world (slice_get world.rows n))) (rows : rows_to_come base ≡ rows_at world n) (none : handed_out base ≡ 0)
    (log : List Call) where
  abbrev source : Stream (Value TableRow)
  source = items_at world [] a (base_stream base)

  needs_are : needs_of world f ≡ given_needs world a method argument (rows_at world n)
  needs_are = needs_with world f method a b n is leaf ∙ ap (λ (r : Result (Value TableRow) Fault). given_needs world a method r (rows_at world n)) means

  left_are : items_of_result (given_meaning world method argument source) ≡ (start_of world f).left
  left_are =
      ap (λ (r : Result (Value TableRow) Fault). items_of_result (given_meaning world method r source)) (sym means)
      ∙ ap items_of_result (given_means world a n items (base_stream base) opened f method b is) ∙ unwrapped_items world f

  taken_start : (count : ℕ) → taken_by method argument ≡ Some count → rows_place world a (Some count) (Some base) ≡ start_of world f
  taken_start count takes =
      let left : read_first (Some count) source ≡ (start_of world f).left = sym (taken_means world method argument count takes source) ∙ left_are in
      let needs : one_by_one world a (Some count) (rows_to_come base) ≡ needs_of world f =
      ap (one_by_one world a (Some count)) rows
      ∙ sym (needs_are ∙ ap (λ (o : Option ℕ). given_needs_by world a o (decides_given method argument) (rows_at world n)) takes) in
      λ i. record { left = left i; needs = needs i }

  -- item by item
  pub given_rows : (count : ℕ) → taken_by method argument ≡ Some count → (answer : Result (Step TableRow) AllocError) (new : Option (Place TableRow)) (m : ℕ) (more : List Call)
      → Pulled world facts (covers_chain world a) (rows_place world a (Some count) (Some base)) (handed_out base) log answer new m more
      → Pulled world facts (covers_chain world a) (start_of world f) 0 log answer new m more
  given_rows count takes answer new m more pulled =
      subst (λ (p : Place TableRow × ℕ). Pulled world facts (covers_chain world a) p.0 p.1 log answer new m more) (λ i. (taken_start count takes i, none i)) pulled

  found_left : (found : Result (Result (Value TableRow) Fault) AllocError) → IfOk found (λ v. v ≡ given_meaning world method argument source)
      → IfOk found (λ v. (start_of world f).left ≡ items_of_result v)
  found_left (Ok v) same = sym (ap items_of_result same ∙ left_are)
  found_left (Err e) same = tt

  -- or one value
  pub given_found : taken_by method argument ≡ None → (found : Result (Result (Value TableRow) Fault) AllocError) (answer : Result (Step TableRow) AllocError) (new : Opened)
      (left : List TableRow) (m : ℕ) (more : List Call) → IfOk found (λ v. v ≡ given_meaning world method argument source)
      → Reads world facts (covers_chain world a) (comes_at world a) (decides_given method argument) (rows_to_come base) (handed_out base) log found left m more
      → AnswersWith world f found answer new
      → Pulled world facts (covers_chain world a) (start_of world f) 0 log answer (place_of world f new) m more
  given_found takes found answer new left m more same reads answers =
      subst (λ (k : ℕ). Pulled world facts (covers_chain world a) (start_of world f) k log answer (place_of world f new) m more) none
      (value_read world facts (covers_chain world a) f a (decides_given method argument) (start_of world f) (rows_to_come base) left (handed_out base) m log more found answer new
      (needs_are ∙ ap (λ (o : Option ℕ). given_needs_by world a o (decides_given method argument) (rows_at world n)) takes
      ∙ ap (at_once world a (decides_given method argument)) (sym rows)) (found_left found same) reads answers)
