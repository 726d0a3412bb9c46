-- The shortest front that settles a query, what each straight query needs, and what pulls hand out one after the other.
use Rattle.std.proofs.Common.{◌≡◌, ◌∷◌, ◌++◌, ◌+◌, ◌-◌, ◌^◌, ◌≤◌, ◌⊎◌, inl, inr, if◌then◌else◌, List, [], ℕ, ℤ, pos, negsuc, Bool, true, false, true≢false, Option, Some, None, Result, Ok, Err, ap, ◌∙◌, sym, refl, subst, append_assoc, length, min, arith}
use Rattle.lq_value.specs.declared.scalar.Scalar.TheVariants as scalar
use Rattle.std.specs.declared.alloc.AllocError.{AllocError}
use Rattle.std.proofs.lemmas.Option.{none-some}
use Rattle.lq_value.specs.declared.value.End.{End}
use Rattle.lq_value.specs.declared.value.End.TheVariants as end
use Rattle.lq_value.specs.declared.value.Fault.{Fault}
use Rattle.lq_value.specs.declared.value.Value.{Value, out-Value}
use Rattle.lq_value.specs.declared.value.Value.TheOpen.{Value-F}
use Rattle.lq_value.specs.declared.value.Value.TheVariants as value
use Rattle.lq_host.specs.declared.call.Call.{Call}
use Rattle.lq_language.specs.Enumerable.{as_count}
use Rattle.lq_language.specs.Stream.{Stream}
use Rattle.lq_language.specs.TableRows.{TableRow}
use Rattle.lq_language.specs.Worlds.{World}
use Rattle.lq_language.specs.declared.methods.Given.{Given}
use Rattle.lq_language.specs.declared.methods.Given.TheVariants as given
use Rattle.lq_language.specs.declared.methods.Simple.TheVariants as simple
use Rattle.lq_language.specs.ValuesOfTypes.{Every}
use Rattle.lq_language.proofs.AlikeStreamLaws.{every_append}
use Rattle.lq_language.proofs.ItemLaws.{every_more, every_none}
use Rattle.lq_tree.specs.AllowedCalls.{watch_of}
use Rattle.lq_tree.specs.FormMeaning.{form_meaning}
use Rattle.lq_tree.specs.Watches.{HasGrown, IsWatched, Watch}
use Rattle.lq_tree.specs.declared.tree.Form.{Form, out-Form}
use Rattle.lq_tree.specs.declared.tree.Form.TheOpen.{Form-F}
use Rattle.lq_tree.specs.declared.tree.Form.TheVariants as form
use Rattle.lq_tree.proofs.LogLaws.{grown_none}
use Rattle.lq_tree.proofs.WatchedValueLaws.{all_before, all_behind}
use Rattle.lq_guard.specs.Handing.{counted, one_more}
use Rattle.lq_guard.proofs.HandingLaws.{counted_append}
use Rattle.lq_plan.specs.Counts.{number_limit, simple_limit, value_limit}
use Rattle.lq_pull.specs.Views.{row_facts}
use Rattle.lq_pipeline.specs.Chains.{comes_at, leaf_of, rows_at}
use Rattle.lq_pipeline.specs.Heads.{Needs, at_once, decides_given, fails, given_needs, given_needs_by, needs_layer, needs_of, needs_of_leaf, one_by_one, taken_by, taken_of_layer, unwrapped}
use Rattle.lq_pipeline.specs.Laziness.{ChainsNeed, EndsStay, NeededIsShortest, PullsAll, PullsHandOut, RefusalsStay, StraightNeeds, has_ended, opened, says_end}
use Rattle.lq_pipeline.specs.Pulling.{PullsTo, State}
use Rattle.lq_pipeline.specs.Places.{AddsCallsOn, AddsFrom, AddsIf, Gives, Goes, GoesFrom, GoesOn, IsSpent, OnEnd, Place, start_of}
use Rattle.lq_pipeline.specs.Settling.{has_at_least, is_settled, needed, over, reaches, shortest}
use Rattle.lq_pipeline.specs.declared.steps.Step.{Step}
use Rattle.lq_pipeline.specs.declared.steps.Step.TheVariants as step
use Rattle.lq_pipeline.proofs.HeadLemmas.{needs_all, needs_simple, needs_with}
use Rattle.lq_pipeline.proofs.SettlingLaws.{needs_none}
use Rattle.lq_pipeline.proofs.TakeLemmas.{unwrapped_all, unwrapped_given, unwrapped_simple, unwrapped_take}

-- ---- fronts

module _ {A : Type 0} where
  pub nil_not_cons : {x : A} {xs : List A} → [] ≡ x ∷ xs → ⊥
  nil_not_cons is = subst (λ (l : List A). is_nil l) is tt where
    is_nil : List A → Type 0
    is_nil [] = Unit {0}
    is_nil (y ∷ ys) = ⊥

  abbrev head_or : A → List A → A
  head_or d [] = d
  head_or d (x ∷ xs) = x

  abbrev tail_of : List A → List A
  tail_of [] = []
  tail_of (x ∷ xs) = xs

  -- by what the test says of no item
  front_part : (b : Bool) (x : A) (xs front : List A) → (others : List A) × (xs ≡ front ++ others)
      → (others : List A) × (x ∷ xs ≡ (if b then [] else x ∷ front) ++ others)
  front_part true x xs front rest = (x ∷ xs, refl)
  front_part false x xs front rest = (rest.0, ap (λ (l : List A). x ∷ l) rest.1)

  pub is_front : (p : List A → Bool) (xs : List A) → (others : List A) × (xs ≡ shortest p xs ++ others)
  is_front p [] = ([], refl)
  is_front p (x ∷ xs) = front_part (p []) x xs (shortest (λ ys. p (x ∷ ys)) xs) (is_front (λ ys. p (x ∷ ys)) xs)

  settled_by : (p : List A → Bool) (b : Bool) → p [] ≡ b → (x : A) (xs front : List A) → (p (x ∷ front) ≡ true) ⊎ (front ≡ xs)
      → (p (if b then [] else x ∷ front) ≡ true) ⊎ ((if b then [] else x ∷ front) ≡ x ∷ xs)
  settled_by p true is x xs front rest = inl is
  settled_by p false is x xs front (inl settles) = inl settles
  settled_by p false is x xs front (inr all) = inr (ap (λ (l : List A). x ∷ l) all)

  pub settles : (p : List A → Bool) (xs : List A) → (p (shortest p xs) ≡ true) ⊎ (shortest p xs ≡ xs)
  settles p [] = inr refl
  settles p (x ∷ xs) = settled_by p (p []) refl x xs (shortest (λ ys. p (x ∷ ys)) xs) (settles (λ ys. p (x ∷ ys)) xs)

  none_shorter : (less : List A) (r : A) (more : List A) {B : Type 0} → [] ≡ less ++ r ∷ more → B
  none_shorter [] r more is = absurd (nil_not_cons is)
  none_shorter (y ∷ less) r more is = absurd (nil_not_cons is)

  shorter_by : (p : List A → Bool) (b : Bool) → p [] ≡ b → (x : A) (front : List A)
      → ((less : List A) (r : A) (more : List A) → front ≡ less ++ r ∷ more → p (x ∷ less) ≡ false)
      → (less : List A) (r : A) (more : List A) → (if b then [] else x ∷ front) ≡ less ++ r ∷ more → p less ≡ false
  shorter_by p true is x front rest less r more same = none_shorter less r more same
  shorter_by p false is x front rest [] r more same = is
  shorter_by p false is x front rest (y ∷ less) r more same =
      ap (λ (z : A). p (z ∷ less)) (sym (ap (head_or x) same)) ∙ rest less r more (ap tail_of same)

  pub shorter : (p : List A → Bool) (xs less : List A) (r : A) (more : List A) → shortest p xs ≡ less ++ r ∷ more → p less ≡ false
  shorter p [] less r more is = none_shorter less r more is
  shorter p (x ∷ xs) less r more is =
      shorter_by p (p []) refl x (shortest (λ ys. p (x ∷ ys)) xs) (shorter (λ ys. p (x ∷ ys)) xs) less r more is

pub needed_is_shortest : (R A : Type 0) → NeededIsShortest R A
needed_is_shortest R A come decide rows =
    let p = λ (front : List R). is_settled decide (over come front) in
    let front = is_front p rows in
    record { others = front.0; is = front.1; settles = settles p rows; shorter = shorter p rows }

-- ---- what straight queries need

module _ (world : World TableRow) (a : Form) (n : ℕ) (leaf : leaf_of a ≡ Some n) where
  abbrev rows : List TableRow
  rows = rows_at world n

  abbrev all_of : Needs TableRow → List TableRow
  all_of needs = needs.all

  -- with an argument that has this value, or this fault
  with_argument : (method : Given) (b : Form) (m : Result (Value TableRow) Fault) → form_meaning world b [] ≡ m
      → (needs_of world (form.Given method a b)).all ≡ (given_needs world a method m rows).all
  with_argument method b m is =
      ap all_of (needs_with world (form.Given method a b) method a b n (unwrapped_given method a b) leaf)
      ∙ ap (λ (r : Result (Value TableRow) Fault). (given_needs world a method r rows).all) is

  scalar_out : (k : ℤ) → out-Value TableRow (value.Scalar (scalar.Int k)) ≡ Value-F.Scalar (scalar.Int k)
  scalar_out k = value.outs-Scalar (scalar.Int k)

  element_is : (b : Form) (k : ℤ) → form_meaning world b [] ≡ Ok (value.Scalar (scalar.Int k))
      → (needs_of world (form.Given given.ElementAt a b)).all ≡ needed (comes_at world a) (reaches (number_limit given.ElementAt k)) rows
  element_is b k is =
      with_argument given.ElementAt b (Ok (value.Scalar (scalar.Int k))) is
      ∙ ap (λ (layer : Value-F TableRow (Value TableRow)). needed (comes_at world a) (reaches (value_limit given.ElementAt layer)) rows) (scalar_out k)

  take_is : (b : Form) (k : ℤ) → form_meaning world b [] ≡ Ok (value.Scalar (scalar.Int k))
      → (needs_of world (form.Given given.Take a b)).all ≡ needed (comes_at world a) (has_at_least (as_count k)) rows
  take_is b k is =
      with_argument given.Take b (Ok (value.Scalar (scalar.Int k))) is
      ∙ ap (λ (layer : Value-F TableRow (Value TableRow)).
      (given_needs_by world a (taken_of_layer layer) (decides_given given.Take (Ok (value.Scalar (scalar.Int k)))) rows).all) (scalar_out k)

  none_needed : needed (comes_at world a) (has_at_least 0) rows ≡ []
  none_needed = needs_none (comes_at world a) (has_at_least 0) rows refl

  pub straight_needs : StraightNeeds world a n
  straight_needs = record {
    first = λ t. ap all_of (needs_simple world (form.Simple simple.First t a) simple.First t a n (unwrapped_simple simple.First t a) leaf);
    any = λ t. ap all_of (needs_simple world (form.Simple simple.Any t a) simple.Any t a n (unwrapped_simple simple.Any t a) leaf);
    all = λ c. ap all_of (needs_all world (form.All a c) a c n (unwrapped_all a c) leaf);
    contains = λ b v is. with_argument given.Contains b (Ok v) is;
    element_at = λ b k is. element_is b (pos k) is;
    take = λ b k is. take_is b (pos k) is;
    sequence = λ b. ap (λ (g : Form). needs_layer world g (out-Form g)) (unwrapped_take a b ∙ sym (unwrapped_given given.Take a b));
    below = λ b k is. (element_is b (negsuc k) is ∙ none_needed, take_is b (negsuc k) is ∙ none_needed);
    fault = λ b f is. (
      with_argument given.Contains b (Err f) is ∙ none_needed,
      with_argument given.ElementAt b (Err f) is ∙ none_needed,
      with_argument given.Take b (Err f) is ∙ none_needed,
    );
  }

pub chains_need : ChainsNeed
chains_need world a n leaf = straight_needs world a n leaf

-- ---- pulls one after the other

module _ (world : World TableRow) where
  given_none : (a : Form) (taken : Option ℕ) (decide : List (Value TableRow) → Bool) (rs : List TableRow) → (given_needs_by world a taken decide rs).due 0 ≡ []
  given_none a (Some k) decide rs = refl
  given_none a None decide rs = refl

  leaf_none : (o : Option ℕ) (by : List TableRow → Needs TableRow) → ((rows : List TableRow) → (by rows).due 0 ≡ []) → (needs_of_leaf world o by).due 0 ≡ []
  leaf_none None by none = refl
  leaf_none (Some n) by none = none (rows_at world n)

  layer_none : (f : Form) (layer : Form-F Form) → (needs_layer world f layer).due 0 ≡ []
  layer_none f (Form-F.Simple method t a) = leaf_none (leaf_of a) (at_once world a (reaches (simple_limit method))) (λ rows. refl)
  layer_none f (Form-F.Given method a b) =
      leaf_none (leaf_of a) (given_needs world a method (form_meaning world b []))
      (given_none a (taken_by method (form_meaning world b [])) (decides_given method (form_meaning world b [])))
  layer_none f (Form-F.All a c) = leaf_none (leaf_of a) (at_once world a (fails world c)) (λ rows. refl)
  layer_none f layer = leaf_none (leaf_of f) (one_by_one world f None) (λ rows. refl)

  start_none : (f : Form) → (needs_of world f).due 0 ≡ []
  start_none f = layer_none (unwrapped f) (out-Form (unwrapped f))

  -- ---- logs

  grown_on : (w : Watch TableRow) (first middle last : List Call) → HasGrown world row_facts w first middle → HasGrown world row_facts w middle last
      → HasGrown world row_facts w first last
  grown_on w first middle last one more = record {
    calls = one.calls ++ more.calls;
    is = more.is ∙ ap (λ (l : List Call). l ++ more.calls) one.is ∙ append_assoc first one.calls more.calls;
    are_watched = every_append (IsWatched world row_facts w) one.calls more.calls one.are_watched more.are_watched;
  }

  module _ (f : Form) where
    -- a log that stays has grown by watched calls, too
    adds_on : (b : Bool) (front : List TableRow) (old new : List Call) → AddsIf world b row_facts f front old new → AddsCallsOn world row_facts f front old new
    adds_on true front old new adds = adds
    adds_on false front old new same = λ seen pass others. subst (λ (l : List Call). HasGrown world row_facts (watch_of seen f) old l) (sym same)
        (grown_none world row_facts (watch_of seen f) old)

    -- what pulls from a place have handed out
    record FromPlace (p : Place TableRow) (old : State) (answers : List (Step TableRow)) (last : State) : Type 0 where
      front : List TableRow
      others : List TableRow
      count : last.handed ≡ counted old.handed front
      is : p.needs.all ≡ front ++ others
      so_many : front ≡ p.needs.due (length answers)
      ended : has_ended world f answers ≡ true → others ≡ []
      adds : AddsCallsOn world row_facts f front old.calls last.calls

    no_pull : (p : Place TableRow) (old last : State) → p.needs.due 0 ≡ [] → last ≡ old → FromPlace p old [] last
    no_pull p old last none same = record {
      front = [];
      others = p.needs.all;
      count = ap (λ (s : State). s.handed) same;
      is = refl;
      so_many = sym none;
      ended = λ h. absurd (true≢false (sym h));
      adds = λ seen pass others. subst (λ (s : State). HasGrown world row_facts (watch_of seen f) old.calls s.calls) (sym same)
          (grown_none world row_facts (watch_of seen f) old.calls);
    }

    none_behind : (xs ys : List TableRow) → xs ++ ys ≡ [] → ys ≡ []
    none_behind [] ys is = is
    none_behind (x ∷ xs) ys is = absurd (nil_not_cons (sym is))

    at_end : (answer : Step TableRow) (fact : Type 0) → says_end world f answer ≡ true → OnEnd answer fact → fact
    at_end (step.Item x) fact ends is = absurd (true≢false (sym ends))
    at_end step.Done fact ends is = is
    at_end (step.Fault g) fact ends is = is

    -- where the last of the answers says the end, nothing more is handed out
    ends : (answer : Step TableRow) (answers : List (Step TableRow)) (q : Place TableRow) (front others : List TableRow)
        → OnEnd answer (IsSpent q) → q.needs.all ≡ front ++ others → (has_ended world f answers ≡ true → others ≡ [])
        → has_ended world f (answer ∷ answers) ≡ true → others ≡ []
    ends answer [] q front others over is later h = none_behind front others (sym is ∙ (at_end answer (IsSpent q) h over).0)
    ends answer (next ∷ answers) q front others over is later h = later h

    one_more_pull : (p : Place TableRow) (old middle last : State) (answer : Step TableRow) (answers : List (Step TableRow)) (fr : List TableRow) (q : Place TableRow)
        → Goes p answer fr q → middle.handed ≡ counted old.handed fr → AddsCallsOn world row_facts f fr old.calls middle.calls
        → FromPlace q middle answers last → FromPlace p old (answer ∷ answers) last
    one_more_pull p old middle last answer answers fr q goes count calls rest = record {
      front = fr ++ rest.front;
      others = rest.others;
      count = rest.count ∙ ap (λ (k : ℕ). counted k rest.front) count ∙ sym (counted_append old.handed fr rest.front);
      is = goes.all ∙ ap (λ (l : List TableRow). fr ++ l) rest.is ∙ sym (append_assoc fr rest.front rest.others);
      so_many = ap (λ (l : List TableRow). fr ++ l) rest.so_many ∙ sym (goes.rows (length answers));
      ended = ends answer answers q rest.front rest.others goes.over rest.is rest.ended;
      adds = λ seen pass others.
          grown_on (watch_of seen f) old.calls middle.calls last.calls (calls seen (all_before seen fr rest.front pass) others)
          (rest.adds seen (all_behind seen fr rest.front pass) others);
    }

    -- from what stands behind the first pull
    from_middle : (answer : Step TableRow) (answers : List (Step TableRow)) (old middle last : State) (p : Place TableRow) (fr : List TableRow) (o : Option (Place TableRow))
        → middle.place ≡ o → GoesOn p (Ok answer) fr o → middle.handed ≡ counted old.handed fr → AddsCallsOn world row_facts f fr old.calls middle.calls
        → ((q : Place TableRow) → middle.place ≡ Some q → q.needs.due 0 ≡ [] → FromPlace q middle answers last) → FromPlace p old (answer ∷ answers) last
    from_middle answer answers old middle last p fr None at goes count calls rest = absurd goes
    from_middle answer answers old middle last p fr (Some q) at goes count calls rest =
        one_more_pull p old middle last answer answers fr q goes count calls (rest q at goes.none)

    from_place : (answers : List (Step TableRow)) (old last : State) (p : Place TableRow) → old.place ≡ Some p → p.needs.due 0 ≡ [] → PullsAll world f answers old last
        → FromPlace p old answers last
    from_place [] old last p at none same = no_pull p old last none same
    from_place (answer ∷ answers) old last p at none (middle, pulls, rest) =
        from_middle answer answers old middle last p pulls.front middle.place refl
        (subst (λ (o : Option (Place TableRow)). GoesFrom o (Ok answer) pulls.front middle.place) at pulls.goes) pulls.count
        (adds_on (p.needs.runs 0) pulls.front old.calls middle.calls
        (subst (λ (o : Option (Place TableRow)). AddsFrom world o row_facts f pulls.front old.calls middle.calls) at pulls.calls))
        (λ q behind none_due. from_place answers middle last q behind none_due rest)

-- the count is how many rows there are
counted_is : {R : Type 0} (n : ℕ) (rows : List R) → n ≤ 2 ^ 64 - 1 → counted n rows ≡ min (n + length rows) (2 ^ 64 - 1)
counted_is n [] within = omega (arith, within)
counted_is n (r ∷ rows) within = counted_is (one_more n) rows (omega arith) ∙ omega arith

none_more : (n : ℕ) → 0 + n ≡ n
none_more n = omega arith

pub pulls_hand_out : PullsHandOut
pulls_hand_out world f answers calls last pulls =
    let handed = from_place world f answers (opened world f calls) last (start_of world f) refl (start_none world f) pulls in
    record {
      front = handed.front;
      others = handed.others;
      count = handed.count ∙ counted_is 0 handed.front (omega arith) ∙ ap (λ (k : ℕ). min k (2 ^ 64 - 1)) (none_more (length handed.front));
      is = handed.is;
      so_many = handed.so_many;
      ended = handed.ended;
      adds = handed.adds;
    }

-- ---- pulls behind the end

abbrev is_fault_end : End → Bool
is_fault_end end.Done = false
is_fault_end (end.Fault f) = true

abbrev fault_or : Fault → End → Fault
fault_or g end.Done = g
fault_or g (end.Fault f) = f

module _ (world : World TableRow) (f : Form) where
  -- how a pull says that the items end, and so again
  end_again : (answer : Step TableRow) (s t : Stream (Value TableRow)) → says_end world f answer ≡ true → Gives s answer t → Gives t answer t
  end_again (step.Item x) s t ends gives = absurd (true≢false (sym ends))
  end_again step.Done s t ends gives = (gives.1, gives.1)
  end_again (step.Fault g) s t ends gives = (gives.1, gives.1)

  -- where the items have ended so, no other answer is one
  same_end : (answer again : Step TableRow) (s t : Stream (Value TableRow)) → says_end world f answer ≡ true → Gives s answer s → Gives s again t → again ≡ answer
  same_end (step.Item x) again s t ends gives more = absurd (true≢false (sym ends))
  same_end step.Done (step.Item x) s t ends gives more = absurd (nil_not_cons (ap (λ (u : Stream (Value TableRow)). u.0) (sym gives.0 ∙ more)))
  same_end step.Done step.Done s t ends gives more = refl
  same_end step.Done (step.Fault g) s t ends gives more = absurd (true≢false (ap (λ (u : Stream (Value TableRow)). is_fault_end u.1) (sym more.0 ∙ gives.0)))
  same_end (step.Fault h) (step.Item x) s t ends gives more = absurd (nil_not_cons (ap (λ (u : Stream (Value TableRow)). u.0) (sym gives.0 ∙ more)))
  same_end (step.Fault h) step.Done s t ends gives more = absurd (true≢false (ap (λ (u : Stream (Value TableRow)). is_fault_end u.1) (sym gives.0 ∙ more.0)))
  same_end (step.Fault h) (step.Fault g) s t ends gives more =
      ap (λ (u : Fault). step.Fault u) (ap (λ (u : Stream (Value TableRow)). fault_or g u.1) (sym more.0 ∙ gives.0))

  -- a place where the items have ended so, and nothing is left to do
  abbrev HasEnded : Step TableRow → Option (Place TableRow) → Type 0
  HasEnded answer p = (q : Place TableRow) × (p ≡ Some q) × Gives q.left answer q.left × IsSpent q

  ended_behind : (answer : Step TableRow) → says_end world f answer ≡ true → (old : Option (Place TableRow)) (front : List TableRow) (new : Option (Place TableRow))
      → GoesFrom old (Ok answer) front new → HasEnded answer new
  ended_behind answer ends None front new goes = absurd goes
  ended_behind answer ends (Some p) front None goes = absurd goes
  ended_behind answer ends (Some p) front (Some q) goes =
      (q, refl, end_again answer p.left q.left ends goes.items, at_end world f answer (IsSpent q) ends goes.over)

  front_none : (xs ys : List TableRow) → xs ++ ys ≡ [] → xs ≡ []
  front_none [] ys is = refl
  front_none (x ∷ xs) ys is = absurd (nil_not_cons (sym is))

  goes_again : (answer again : Step TableRow) → says_end world f answer ≡ true → (q : Place TableRow) → Gives q.left answer q.left → IsSpent q → (front : List TableRow)
      (new : Option (Place TableRow)) → GoesOn q (Ok again) front new → (again ≡ answer) × (front ≡ []) × HasEnded answer new
  goes_again answer again ends q gives spent front None goes = absurd goes
  goes_again answer again ends q gives spent front (Some r) goes =
      let same = same_end answer again q.left r.left ends gives goes.items in
      (same, front_none front r.needs.all (sym goes.all ∙ spent.0), ended_behind answer ends (Some q) front (Some r) (subst (λ (a : Step TableRow). Goes q a front r) same goes))

  stays_if : (b : Bool) (front : List TableRow) (old new : List Call) → b ≡ false → AddsIf world b row_facts f front old new → new ≡ old
  stays_if true front old new is adds = absurd (true≢false is)
  stays_if false front old new is same = same

  abbrev Stay : Step TableRow → List (Step TableRow) → State → State → Type 0
  Stay answer answers middle last = Every (λ again. again ≡ answer) answers × (last.handed ≡ middle.handed) × (last.calls ≡ middle.calls)

  one_again : (answer again : Step TableRow) (answers : List (Step TableRow)) (middle next last : State) → says_end world f answer ≡ true → HasEnded answer middle.place
      → PullsTo world f middle (Ok again) next → (HasEnded answer next.place → Stay answer answers next last) → Stay answer (again ∷ answers) middle last
  one_again answer again answers middle next last ends (q, at, gives, spent) pulls rest =
      let goes = goes_again answer again ends q gives spent pulls.front next.place
      (subst (λ (o : Option (Place TableRow)). GoesFrom o (Ok again) pulls.front next.place) at pulls.goes) in
      let later = rest goes.2 in
      let calls = stays_if (q.needs.runs 0) pulls.front middle.calls next.calls (spent.1 0)
      (subst (λ (o : Option (Place TableRow)). AddsFrom world o row_facts f pulls.front middle.calls next.calls) at pulls.calls) in
      (every_more (λ (s : Step TableRow). s ≡ answer) again answers goes.0 later.0, later.1 ∙ pulls.count ∙ ap (counted middle.handed) goes.1, later.2 ∙ calls)

  ended_stay : (answer : Step TableRow) (answers : List (Step TableRow)) (middle last : State) → says_end world f answer ≡ true → HasEnded answer middle.place
      → PullsAll world f answers middle last → Stay answer answers middle last
  ended_stay answer [] middle last ends ended same = (every_none (λ (s : Step TableRow). s ≡ answer), ap (λ (s : State). s.handed) same, ap (λ (s : State). s.calls) same)
  ended_stay answer (again ∷ answers) middle last ends ended (next, pulls, rest) =
      one_again answer again answers middle next last ends ended pulls (λ behind. ended_stay answer answers next last ends behind rest)

  lost_stay : (old : Option (Place TableRow)) (answer : Result (Step TableRow) AllocError) (front : List TableRow) (new : Option (Place TableRow)) (n m : ℕ) (log more : List Call)
      → old ≡ None → GoesFrom old answer front new → m ≡ counted n front → AddsFrom world old row_facts f front log more
      → ((e : AllocError) × (answer ≡ Err e)) × (new ≡ None) × (m ≡ n) × (more ≡ log)
  lost_stay None (Ok answer) front new n m log more lost goes count calls = absurd goes
  lost_stay None (Err e) front new n m log more lost goes count calls = ((e, refl), goes.1, count ∙ ap (counted n) goes.0, calls)
  lost_stay (Some p) answer front new n m log more lost goes count calls = absurd (none-some p (sym lost))

  lost_behind : (old : Option (Place TableRow)) (e : AllocError) (front : List TableRow) (new : Option (Place TableRow)) → GoesFrom old (Err e) front new → new ≡ None
  lost_behind None e front new goes = goes.1
  lost_behind (Some p) e front None goes = refl
  lost_behind (Some p) e front (Some q) goes = absurd goes

pub ends_stay : EndsStay
ends_stay world f answer answers old middle last ends pulls more =
    ended_stay world f answer answers middle last ends (ended_behind world f answer ends old.place pulls.front middle.place pulls.goes) more

pub refusals_stay : RefusalsStay
refusals_stay world f e answer old middle last refused pulls =
    lost_stay world f middle.place answer pulls.front last.place middle.handed last.handed middle.calls last.calls
    (lost_behind world f old.place e refused.front middle.place refused.goes) pulls.goes pulls.count pulls.calls
