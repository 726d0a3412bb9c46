-- What methods answer of the items that they read, and of tallies.
use Rattle.std.proofs.Common.{◌≡◌, ◌∷◌, ◌+◌, ◌<◌, ◌≤◌, List, [], ℕ, zero, suc, ℤ, pos, negsuc, if◌then◌else◌, Bor, Bool, true, false, Option, Some, None, Result, Ok, Err, ap, ◌∙◌, sym, refl, subst, append-nil, drop, drop-cons, get_or, length, arith}
use Rattle.std.proofs.lemmas.List.{drop_all}
use Rattle.lq_value.specs.declared.scalar.Scalar.{Scalar}
use Rattle.lq_value.specs.declared.scalar.Scalar.TheVariants as scalar
use Rattle.lq_value.specs.declared.ty.Ty.{Ty}
use Rattle.lq_value.specs.declared.value.End.{End}
use Rattle.lq_value.specs.declared.value.End.TheVariants as end
use Rattle.lq_value.specs.declared.value.Fault.{Fault}
use Rattle.lq_value.specs.declared.value.Value.{Value, out-Value}
use Rattle.lq_value.specs.declared.value.Value.TheOpen.{Value-F}
use Rattle.lq_value.specs.declared.value.Value.TheVariants as value
use Rattle.lq_language.specs.Enumerable.{all, as_count, contains, element_at, first, in_front, item_behind, single, take_first}
use Rattle.lq_language.specs.Worlds.{World}
use Rattle.lq_language.specs.OperandMeaning.{as_value, scalar_of}
use Rattle.lq_language.specs.Operations.{on_ok}
use Rattle.lq_language.specs.Stream.{Stream, item_where, one, then_ending, then_stream}
use Rattle.lq_language.specs.Meaning.{as_sequence, given_meaning, number_of, on_number, simple_meaning}
use Rattle.lq_language.specs.declared.methods.Given.{Given}
use Rattle.lq_language.specs.declared.methods.Given.TheVariants as given
use Rattle.lq_language.specs.declared.methods.Simple.{Simple}
use Rattle.lq_language.specs.declared.methods.Simple.TheVariants as simple
use Rattle.lq_operators.specs.Tallies.{begins, goes_on, int_in, tallied, tally_result, tally_with}
use Rattle.lq_operators.specs.declared.numbers.Tally.{Tally}
use Rattle.lq_operators.specs.declared.numbers.Tally.TheVariants as tally
use Rattle.lq_operators.proofs.NumberLaws.{begun, row_on, scalar_on, told_is}
use Rattle.lq_tree.specs.FormMeaning.{Slots, form_meaning, is_true, with_item}
use Rattle.lq_tree.specs.declared.tree.Form.{Form}
use Rattle.lq_plan.specs.Counts.{given_limit, value_limit, simple_limit, number_limit, read_first}
use Rattle.lq_plan.specs.Pipes.{items_left}
use Rattle.lq_plan.specs.PlannedRows.{kept_stream, row_cell, row_verdict}
use Rattle.lq_plan.specs.Prepared.{IsPlanned}
use Rattle.lq_plan.specs.Pulling.{last, through_stage}
use Rattle.lq_plan.specs.declared.bases.Base.{Base}
use Rattle.lq_plan.specs.declared.pipes.Pipe.{Pipe}
use Rattle.lq_plan.specs.declared.stages.Stage.{Stage}
use Rattle.lq_plan.specs.declared.stages.Stage.TheVariants as stage
use Rattle.lq_plan.proofs.PullLaws.{left_opened}
use Rattle.lq_pipe.proofs.PullLaws.{fewer, next_ended, row_selected}

some_is : {A : Type 0} {x y : A} → Some x ≡ Some y → x ≡ y
some_is {A} {x} is = ap (λ (o : Option A). get_or_else o) is where
  get_or_else : Option A → A
  get_or_else None = x
  get_or_else (Some z) = z

none_some : {A : Type 0} {x : A} → None ≡ Some x → ⊥
none_some {A} {x} is = subst (λ (o : Option A). is_none o) is tt where
  is_none : Option A → Type 0
  is_none None = Unit {0}
  is_none (Some y) = ⊥

module _ {R : Type 0} where
  -- one item settles `First`, and two settle `Single`
  of_one : (none : Result (Value R) Fault) (xs : List (Value R)) (e : End) → first none (take_first 1 xs e).0 (take_first 1 xs e).1 ≡ first none xs e
  of_one none [] e = refl
  of_one none (x ∷ xs) e = refl

  of_two : (none : Result (Value R) Fault) (xs : List (Value R)) (e : End) → single none (take_first 2 xs e).0 (take_first 2 xs e).1 ≡ single none xs e
  of_two none [] e = refl
  of_two none (x ∷ []) e = refl
  of_two none (x ∷ y ∷ xs) e = refl

  of_any : (t : Ty) (xs : List (Value R)) (e : End) → simple_meaning simple.Any t (take_first 1 xs e) ≡ simple_meaning simple.Any t (xs, e)
  of_any t [] e = refl
  of_any t (x ∷ xs) e = refl

  simple_limit_is : (method : Simple) (n : ℕ) (t : Ty) (s : Stream (Value R)) → simple_limit method ≡ Some n → simple_meaning method t (take_first n s.0 s.1) ≡ simple_meaning method t s
  simple_limit_is simple.Any n t s is = ap (λ k. simple_meaning simple.Any t (take_first k s.0 s.1)) (sym (some_is is)) ∙ of_any t s.0 s.1
  simple_limit_is simple.First n t s is = ap (λ k. simple_meaning simple.First t (take_first k s.0 s.1)) (sym (some_is is)) ∙ of_one _ s.0 s.1
  simple_limit_is simple.FirstOrDefault n t s is = ap (λ k. simple_meaning simple.FirstOrDefault t (take_first k s.0 s.1)) (sym (some_is is)) ∙ of_one _ s.0 s.1
  simple_limit_is simple.Single n t s is = ap (λ k. simple_meaning simple.Single t (take_first k s.0 s.1)) (sym (some_is is)) ∙ of_two _ s.0 s.1
  simple_limit_is simple.SingleOrDefault n t s is = ap (λ k. simple_meaning simple.SingleOrDefault t (take_first k s.0 s.1)) (sym (some_is is)) ∙ of_two _ s.0 s.1
  simple_limit_is simple.Distinct n t s is = absurd (none_some is)
  simple_limit_is simple.Reverse n t s is = absurd (none_some is)
  simple_limit_is simple.DefaultIfEmpty n t s is = absurd (none_some is)
  simple_limit_is simple.Count n t s is = absurd (none_some is)
  simple_limit_is simple.Last n t s is = absurd (none_some is)
  simple_limit_is simple.Sum n t s is = absurd (none_some is)
  simple_limit_is simple.Min n t s is = absurd (none_some is)
  simple_limit_is simple.Max n t s is = absurd (none_some is)

  simple_by : (method : Simple) (l : Option ℕ) (t : Ty) (items s : Stream (Value R)) → simple_limit method ≡ l → items ≡ read_first l s
      → simple_meaning method t items ≡ simple_meaning method t s
  simple_by method (Some n) t items s is read = ap (simple_meaning method t) read ∙ simple_limit_is method n t s is
  simple_by method None t items s is read = ap (simple_meaning method t) read

  pub simple_read : (method : Simple) (l : Option ℕ) (t : Ty) (items s : Stream (Value R)) → l ≡ simple_limit method → items ≡ read_first l s
      → simple_meaning method t items ≡ simple_meaning method t s
  simple_read method l t items s is read = simple_by method l t items s (sym is) read

  -- ---- tallies

  pub tally_answers : (method : Simple) (k : Tally) → begins method ≡ Some k → (t : Ty) (s : Stream (Value R)) → simple_meaning method t s ≡ as_value (tallied t k s)
  tally_answers method k is t s = begun method k is t s

  pub tally_begins : (t : Ty) (k : Tally) (left all : Stream (Value R)) → left ≡ all → tallied t k left ≡ tallied t k all
  tally_begins t k left all is = ap (tallied t k) is

  -- with what comes of what is pulled
  pub tally_on : (t : Ty) (k : Tally) (found next : Result Tally Fault) (old made new : Stream (Value R)) (all : Result Scalar Fault) → old ≡ then_stream made new
      → ((u : Ty) (s : Stream (Value R)) → tallied u k (then_stream made s) ≡ goes_on u found s) → found ≡ next → tallied t k old ≡ all → goes_on t next new ≡ all
  tally_on t k found next old made new all is steps found_is goes =
      ap (λ o. goes_on t o new) (sym found_is) ∙ sym (steps t new) ∙ ap (tallied t k) (sym is) ∙ goes

  pub tally_ended : (t : Ty) (k : Tally) (old : Stream (Value R)) (e : End) (all : Result Scalar Fault) → old ≡ ([], e) → tallied t k old ≡ all → tally_result t k e ≡ all
  tally_ended t k old e all is goes = told_is R t k e ∙ ap (tallied t k) (sym is) ∙ goes

module _ {R : Type 0} (world : World R) where
  behind : (n : ℕ) (xs : List (Value R)) (e : End) → item_behind n (take_first (n + 1) xs e).0 (take_first (n + 1) xs e).1 ≡ item_behind n xs e
  behind n xs e =
      let same : n + 1 ≡ suc n = omega arith in
      ap (λ k. item_behind n (take_first k xs e).0 (take_first k xs e).1) same ∙ at n xs
    where
      at : (m : ℕ) (ys : List (Value R)) → item_behind m (take_first (suc m) ys e).0 (take_first (suc m) ys e).1 ≡ item_behind m ys e
      at m [] = refl
      at zero (y ∷ ys) = refl
      at (suc m) (y ∷ ys) = at m ys

  taken_again : (n : ℕ) (xs : List (Value R)) (e : End) → take_first n (take_first n xs e).0 (take_first n xs e).1 ≡ take_first n xs e
  taken_again zero xs e = refl
  taken_again (suc n) [] e = refl
  taken_again (suc n) (x ∷ xs) e = ap (in_front x) (taken_again n xs e)

  of_number : (n : ℤ) (v : Value R) (f : ℤ → Result (Value R) Fault) → out-Value R v ≡ Value-F.Scalar (scalar.Int n) → on_number world (Ok v) f ≡ f n
  of_number n v f is = ap (λ (layer : Value-F R (Value R)). on_ok (on_ok (scalar_of world layer) (number_of world)) f) is

  number_limit_is : (method : Given) (m : ℤ) (n : ℕ) (v : Value R) (s : Stream (Value R)) → out-Value R v ≡ Value-F.Scalar (scalar.Int m) → number_limit method m ≡ Some n
      → given_meaning world method (Ok v) (take_first n s.0 s.1) ≡ given_meaning world method (Ok v) s
  number_limit_is given.Take m n v s layer is =
      ap (λ k. given_meaning world given.Take (Ok v) (take_first k s.0 s.1)) (sym (some_is is))
      ∙ of_number m v (λ k. as_sequence (take_first (as_count k) (take_first (as_count m) s.0 s.1).0 (take_first (as_count m) s.0 s.1).1)) layer
      ∙ ap as_sequence (taken_again (as_count m) s.0 s.1)
      ∙ sym (of_number m v (λ k. as_sequence (take_first (as_count k) s.0 s.1)) layer)
  number_limit_is given.ElementAt (pos m) n v s layer is =
      ap (λ k. given_meaning world given.ElementAt (Ok v) (take_first k s.0 s.1)) (sym (some_is is))
      ∙ of_number (pos m) v (λ k. element_at k (take_first (m + 1) s.0 s.1).0 (take_first (m + 1) s.0 s.1).1) layer
      ∙ behind m s.0 s.1
      ∙ sym (of_number (pos m) v (λ k. element_at k s.0 s.1) layer)
  number_limit_is given.ElementAt (negsuc m) n v s layer is =
      of_number (negsuc m) v (λ k. element_at k (take_first n s.0 s.1).0 (take_first n s.0 s.1).1) layer
      ∙ sym (of_number (negsuc m) v (λ k. element_at k s.0 s.1) layer)
  number_limit_is given.Concat m n v s layer is = absurd (none_some is)
  number_limit_is given.Union m n v s layer is = absurd (none_some is)
  number_limit_is given.Intersect m n v s layer is = absurd (none_some is)
  number_limit_is given.Except m n v s layer is = absurd (none_some is)
  number_limit_is given.Skip m n v s layer is = absurd (none_some is)
  number_limit_is given.Contains m n v s layer is = absurd (none_some is)

  by_layer : (method : Given) (n : ℕ) (v : Value R) (s : Stream (Value R)) (layer : Value-F R (Value R)) → out-Value R v ≡ layer → value_limit method layer ≡ Some n
      → given_meaning world method (Ok v) (take_first n s.0 s.1) ≡ given_meaning world method (Ok v) s
  by_layer method n v s (Value-F.Scalar (scalar.Int m)) is needs = number_limit_is method m n v s is needs
  by_layer method n v s (Value-F.Scalar scalar.Null) is needs = absurd (none_some needs)
  by_layer method n v s (Value-F.Scalar (scalar.Bool b)) is needs = absurd (none_some needs)
  by_layer method n v s (Value-F.Scalar (scalar.Text t)) is needs = absurd (none_some needs)
  by_layer method n v s (Value-F.Row r) is needs = absurd (none_some needs)
  by_layer method n v s (Value-F.Rec ms) is needs = absurd (none_some needs)
  by_layer method n v s (Value-F.Group k xs) is needs = absurd (none_some needs)
  by_layer method n v s (Value-F.Seq xs e) is needs = absurd (none_some needs)

  given_limit_is : (method : Given) (argument : Result (Value R) Fault) (n : ℕ) (s : Stream (Value R)) → given_limit method argument ≡ Some n
      → given_meaning world method argument (take_first n s.0 s.1) ≡ given_meaning world method argument s
  given_limit_is method (Ok v) n s is = by_layer method n v s (out-Value R v) refl is
  given_limit_is given.Skip (Err f) n s is = refl
  given_limit_is given.Take (Err f) n s is = refl
  given_limit_is given.ElementAt (Err f) n s is = refl
  given_limit_is given.Contains (Err f) n s is = refl
  given_limit_is given.Concat (Err f) n s is = absurd (none_some is)
  given_limit_is given.Union (Err f) n s is = absurd (none_some is)
  given_limit_is given.Intersect (Err f) n s is = absurd (none_some is)
  given_limit_is given.Except (Err f) n s is = absurd (none_some is)

  given_by : (method : Given) (argument : Result (Value R) Fault) (l : Option ℕ) (items s : Stream (Value R)) → given_limit method argument ≡ l → items ≡ read_first l s
      → given_meaning world method argument items ≡ given_meaning world method argument s
  given_by method argument (Some n) items s is read = ap (given_meaning world method argument) read ∙ given_limit_is method argument n s is
  given_by method argument None items s is read = ap (given_meaning world method argument) read

  pub given_read : (method : Given) (argument : Result (Value R) Fault) (l : Option ℕ) (items s : Stream (Value R)) → l ≡ given_limit method argument → items ≡ read_first l s
      → given_meaning world method argument items ≡ given_meaning world method argument s
  given_read method argument l items s is read = given_by method argument l items s (sym is) read

-- ---- tallies of what is pulled

module _ {R : Type 0} where
  -- a tally goes on with what comes of an item
  abbrev pub Tallies : Tally → Stream (Value R) → Result Tally Fault → Type 0
  Tallies k made found = (t : Ty) (rest : Stream (Value R)) → tallied t k (then_stream made rest) ≡ goes_on t found rest

module _ {R : Type 0} (world : World R) (slots : Slots R) (pipe : Pipe) (r : R) where
  -- a tally goes on with what comes of a row that passes
  abbrev pub RowStep : Tally → Result Tally Fault → Type 0
  RowStep k found = Tallies k (last world slots pipe.stage (value.Row r)) found

  -- a row itself is no number
  pub plain_row : (k : Tally) (found : Result Tally Fault) → pipe.stage ≡ stage.Plain → found ≡ tally_with k None → RowStep k found
  plain_row k found is gives t rest =
      ap (λ st. tallied t k (then_stream (last world slots st (value.Row r)) rest)) is ∙ row_on k r found gives t rest

  pub kept_row : (k : Tally) (found : Result Tally Fault) (c : Bor Form) → pipe.stage ≡ stage.Where c → found ≡ tally_with k None → RowStep k found
  kept_row k found c is gives t rest =
      ap (λ st. tallied t k (then_stream (last world slots st (value.Row r)) rest)) is ∙ row_on k r found gives t rest

  -- its cell may be one
  pub cell_of_row : (table_of : R → ℕ) (shown : R → List Scalar) (k : Tally) (found : Result Tally Fault) (body : Bor Form) (s : Scalar) → pipe.stage ≡ stage.Select body
      → IsPlanned table_of shown world slots pipe.stage pipe.source.now pipe.plan → row_verdict table_of shown pipe.plan r ≡ Some true
      → row_cell table_of shown pipe.plan r ≡ Some s → found ≡ tally_with k (int_in s) → RowStep k found
  cell_of_row table_of shown k found body s is planned passes cell gives t rest =
      ap (λ (m : Stream (Value R)). tallied t k (then_stream m rest)) (row_selected table_of shown world slots pipe body r s s is planned passes cell refl)
      ∙ scalar_on k s found gives t rest

-- nothing is left of a base that ended
module _ {R S : Type 0} (table_of : R → ℕ) (shown : R → List Scalar) (world : World R) (slots : Slots R) (pipe : Pipe) (b : Base R S) where
  pub tally_over : (t : Ty) (k : Tally) (e : End) (all : Result Scalar Fault) → IsPlanned table_of shown world slots pipe.stage pipe.source.now pipe.plan
      → kept_stream table_of shown pipe.plan b ≡ ([], e) → tallied t k (items_left world slots pipe b) ≡ all → tally_result t k e ≡ all
  tally_over t k e all planned is goes =
      tally_ended t k (items_left world slots pipe b) e all (next_ended table_of shown world slots pipe b b e planned refl is) goes

-- ---- tallies over items that stay where they are

module _ {R : Type 0} (world : World R) (slots : Slots R) where
  -- what a tally comes to over what comes of an item at a stage, and then of any others, is what goes on from a step
  abbrev pub TallyStep : Stage → Tally → Value R → Result Tally Fault → Type 0
  TallyStep st k x next =
      (t : Ty) (rest : Stream (Value R)) → tallied t k (then_stream (through_stage world slots st (x ∷ [], end.Done)) rest) ≡ goes_on t next rest

  -- what comes of a list at a stage is what comes of its first item, and then of the others
  then_none : (s : Stream (Value R)) → then_stream s ([], end.Done) ≡ s
  then_none s = at s.0 s.1 where
    at : (xs : List (Value R)) (e : End) → then_ending xs e ([], end.Done) ≡ (xs, e)
    at xs end.Done = ap (λ ys. (ys, end.Done)) (append-nil xs)
    at xs (end.Fault f) = refl

  staged_on : (st : Stage) (x : Value R) (xs : List (Value R)) (e : End)
      → through_stage world slots st (x ∷ xs, e) ≡ then_stream (through_stage world slots st (x ∷ [], end.Done)) (through_stage world slots st (xs, e))
  staged_on stage.Plain x xs e = refl
  staged_on (stage.Where c) x xs e =
      ap (λ (s : Stream (Value R)). then_stream s (through_stage world slots (stage.Where c) (xs, e)))
      (sym (then_none (item_where (is_true world (form_meaning world c.now) (with_item world slots x)) x)))
  staged_on (stage.Select c) x xs e =
      ap (λ (s : Stream (Value R)). then_stream s (through_stage world slots (stage.Select c) (xs, e)))
      (sym (then_none (one (form_meaning world c.now (with_item world slots x)))))

  staged_none : (st : Stage) (e : End) → through_stage world slots st ([], e) ≡ ([], e)
  staged_none stage.Plain e = refl
  staged_none (stage.Where c) e = refl
  staged_none (stage.Select c) e = refl

  -- a tally goes on with the next of the items that are left, and comes to its end behind the last
  pub staged_goes : (st : Stage) (t : Ty) (k : Tally) (found next : Result Tally Fault) (x : Value R) (items : List (Value R)) (i : ℕ) (e : End) (all : Result Scalar Fault)
      → x ≡ get_or items i x → i < length items → TallyStep st k x found → found ≡ next
      → tallied t k (through_stage world slots st (drop i items, e)) ≡ all → goes_on t next (through_stage world slots st (drop (i + 1) items, e)) ≡ all
  staged_goes st t k found next x items i e all is below steps found_is goes =
      let more : suc i ≡ i + 1 = omega arith in
      ap (λ n. goes_on t next (through_stage world slots st (drop n items, e))) (sym more)
      ∙ ap (λ o. goes_on t o (through_stage world slots st (drop (suc i) items, e))) (sym found_is)
      ∙ sym (steps t (through_stage world slots st (drop (suc i) items, e)))
      ∙ ap (tallied t k) (sym (staged_on st x (drop (suc i) items) e))
      ∙ ap (λ y. tallied t k (through_stage world slots st (y ∷ drop (suc i) items, e))) is
      ∙ ap (λ l. tallied t k (through_stage world slots st (l, e))) (sym (drop-cons items i x below)) ∙ goes

  pub staged_ends : (st : Stage) (t : Ty) (k : Tally) (items : List (Value R)) (i : ℕ) (e : End) (all : Result Scalar Fault) → length items ≤ i
      → tallied t k (through_stage world slots st (drop i items, e)) ≡ all → tally_result t k e ≡ all
  staged_ends st t k items i e all over goes =
      told_is R t k e ∙ ap (tallied t k) (sym (staged_none st e))
      ∙ ap (λ l. tallied t k (through_stage world slots st (l, e))) (sym (drop_all i items over)) ∙ goes

module _ {A : Type 0} (same : A → A → Bool) (v : A) where
  -- an item that isn't the value is passed by, and the first that is answers
  pub contains_on : (old new : Stream A) (x : A) (all : Result Bool Fault) → old ≡ in_front x new → same v x ≡ false
      → contains same v old.0 old.1 ≡ all → contains same v new.0 new.1 ≡ all
  contains_on old new x all is other goes =
      sym (ap (λ (s : Stream A). contains same v s.0 s.1) is ∙ ap (λ (b : Bool). if b then Ok true else contains same v new.0 new.1) other) ∙ goes

  pub contains_found : (old new : Stream A) (x : A) (all : Result Bool Fault) → old ≡ in_front x new → same v x ≡ true
      → contains same v old.0 old.1 ≡ all → all ≡ Ok true
  contains_found old new x all is found goes =
      sym goes ∙ ap (λ (s : Stream A). contains same v s.0 s.1) is ∙ ap (λ (b : Bool). if b then Ok true else contains same v new.0 new.1) found

  pub contains_begins : (left all : Stream A) → left ≡ all → contains same v left.0 left.1 ≡ contains same v all.0 all.1
  contains_begins left all is = ap (λ (s : Stream A). contains same v s.0 s.1) is

module _ {A : Type 0} (holds : A → Result Bool Fault) where
  pub all_begins : (left whole : Stream A) → left ≡ whole → all holds left.0 left.1 ≡ all holds whole.0 whole.1
  all_begins left whole is = ap (λ (s : Stream A). all holds s.0 s.1) is

pub ruleset contains_steps = (left_opened, contains_begins, contains_on, contains_found, fewer)

pub ruleset all_steps = (left_opened, all_begins, fewer)

pub ruleset tallies = (left_opened, tally_begins, fewer)

pub ruleset tally_rows = (plain_row, kept_row)
