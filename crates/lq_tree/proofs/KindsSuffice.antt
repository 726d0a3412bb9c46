-- What is run on operands of the kinds that are asked of them means the same whatever is put where there is no meaning: by induction over
-- what is run.
use Rattle.std.proofs.Common.{◌≡◌, ◌∷◌, ◌++◌, ◌&&◌, if◌then◌else◌, List, [], map, ℕ, zero, suc, ℤ, Bool, true, false, Option, Some, None, Result, Ok, Err, ap, ap₂, ◌∙◌, not, sym, refl, subst, true≢false, option_and_then, option_map, slice_get}
use Rattle.lq_value.specs.SameAndOrder.{same_values as same_keys}
use Rattle.lq_value.specs.declared.scalar.Scalar.{Scalar}
use Rattle.lq_value.specs.declared.scalar.Scalar.TheVariants as scalar
use Rattle.lq_value.specs.declared.value.End.{End}
use Rattle.lq_value.specs.declared.value.End.TheVariants as end
use Rattle.lq_value.specs.declared.value.Fault.{Fault}
use Rattle.lq_value.specs.declared.value.Value.{Value, out-Value}
use Rattle.lq_value.specs.declared.value.Value.TheOpen.{Value-F}
use Rattle.lq_value.specs.declared.value.Value.TheVariants as value
use Rattle.lq_value.specs.declared.value.Value.TheVariants.{outs-Group as outs-value-Group, outs-Rec as outs-value-Rec, outs-Row as outs-value-Row, outs-Scalar, outs-Seq as outs-value-Seq}
use Rattle.lq_language.specs.Arrangement.{Keyed, all_of, arranged, keyed, order_by, with_key}
use Rattle.lq_language.specs.Enumerable.{all, as_count, concat, contains, element_at, except, intersect, skip, take_first, union}
use Rattle.lq_language.specs.Maps.{map_field, map_key}
use Rattle.lq_host.specs.Predicates.{answer_in}
use Rattle.lq_host.specs.declared.call.Pick.{Pick}
use Rattle.lq_host.specs.declared.call.Pick.TheVariants as numbers
use Rattle.lq_language.specs.Worlds.{World}
use Rattle.lq_language.specs.OperandMeaning.{answer_value, as_value, host_answer, answer_about, cell_value, is_null, items_of, on_scalar, on_truth, scalar_of, stream_of, table_value}
use Rattle.lq_language.specs.ClauseMeaning.{as_group}
use Rattle.lq_language.specs.ValuesOfTypes.{assuming}
use Rattle.lq_language.specs.Operations.{of_one, of_two, on_ok, truth_of}
use Rattle.lq_language.specs.Operators.{first, pair, second}
use Rattle.lq_language.specs.Stream.{Stream, both, each, expand_by, group_by, groups_of, join_by, item_where, select_each, on_value, one, select_by, where_by, whole, with_keys}
use Rattle.lq_language.specs.Meaning.{as_sequence, as_truth, given_meaning, number_of, on_number, simple_meaning}
use Rattle.lq_language.specs.declared.methods.Given.{Given}
use Rattle.lq_language.specs.declared.methods.Given.TheVariants as given
use Rattle.lq_language.specs.declared.operation.Op.{Op}
use Rattle.lq_language.specs.declared.operation.Op.TheVariants as op
use Rattle.lq_grammar.specs.declared.syntax.SortKey.{SortKey}
use Rattle.lq_language.proofs.ItemLaws.{each_same}
use Rattle.lq_tree.specs.FormMeaning.{Means, Slots, arguments_at, cell_in, form_meaning, form_step, if_there, is_null_value, is_true, joined_stream, key_in, matched, member_at, members_of, name_of_column, sort_key}
use Rattle.lq_tree.specs.OperandKinds.{Among, Finds, HasArguments, HasCell, HasMember, IsEnumerable, IsGroup, IsScalar, IsScalarThat, MeetsKinds, Run, Runs, RunsFields, RunsKeys, TakesArgument, is_count, is_number, is_text, is_truth, items_in, takes_one, takes_two}
use Rattle.lq_tree.specs.OperandKinds as kind
use Rattle.lq_tree.specs.TypedFormLaws.{KindsSuffice}
use Rattle.lq_tree.specs.declared.tree.Form.{Form, map-Form, out-Form}
use Rattle.lq_tree.specs.declared.tree.Form.TheOpen.{Form-F}
use Rattle.lq_tree.specs.declared.tree.Form.TheVariants as form
use Rattle.lq_tree.specs.declared.tree.Joined.{Joined}
use Rattle.lq_tree.proofs.FormSteps.{meaning_at}

-- ---- scalars

module _ (f g : Fault) where
  one_same : (o : Op) (s : Scalar) → takes_one o s ≡ true → of_one f o s ≡ of_one g o s
  one_same op.Not (scalar.Bool b) h = refl
  one_same op.Not s h = absurd (true≢false (sym h))
  one_same op.Minus (scalar.Int n) h = refl
  one_same op.Minus scalar.Null h = refl
  one_same op.Minus s h = absurd (true≢false (sym h))
  one_same op.HasValue (scalar.Int n) h = refl
  one_same op.HasValue scalar.Null h = refl
  one_same op.HasValue s h = absurd (true≢false (sym h))
  one_same op.Value (scalar.Int n) h = refl
  one_same op.Value scalar.Null h = refl
  one_same op.Value s h = absurd (true≢false (sym h))
  one_same op.Length (scalar.Text t) h = refl
  one_same op.Length scalar.Null h = refl
  one_same op.Length s h = absurd (true≢false (sym h))
  one_same o s h = absurd (true≢false (sym h))

  -- two numbers, two texts, or what may be compared
  abbrev OnNumbers : Op → Type 0
  OnNumbers o = (x y : Scalar) → (is_number x && is_number y) ≡ true → of_two f o x y ≡ of_two g o x y

  abbrev OnTexts : Op → Type 0
  OnTexts o = (x y : Scalar) → (is_text x && is_text y) ≡ true → of_two f o x y ≡ of_two g o x y

  by_numbers : (o : Op) → ((m n : ℤ) → of_two f o (scalar.Int m) (scalar.Int n) ≡ of_two g o (scalar.Int m) (scalar.Int n))
      → ((m : ℤ) → of_two f o (scalar.Int m) scalar.Null ≡ of_two g o (scalar.Int m) scalar.Null)
      → ((n : ℤ) → of_two f o scalar.Null (scalar.Int n) ≡ of_two g o scalar.Null (scalar.Int n))
      → of_two f o scalar.Null scalar.Null ≡ of_two g o scalar.Null scalar.Null → OnNumbers o
  by_numbers o both first second none (scalar.Int m) (scalar.Int n) h = both m n
  by_numbers o both first second none (scalar.Int m) scalar.Null h = first m
  by_numbers o both first second none (scalar.Int m) y h = absurd (true≢false (sym h))
  by_numbers o both first second none scalar.Null (scalar.Int n) h = second n
  by_numbers o both first second none scalar.Null scalar.Null h = none
  by_numbers o both first second none scalar.Null y h = absurd (true≢false (sym h))
  by_numbers o both first second none x y h = absurd (true≢false (sym h))

  by_texts : (o : Op) → ((s t : List ℕ) → of_two f o (scalar.Text s) (scalar.Text t) ≡ of_two g o (scalar.Text s) (scalar.Text t))
      → ((s : List ℕ) → of_two f o (scalar.Text s) scalar.Null ≡ of_two g o (scalar.Text s) scalar.Null)
      → ((t : List ℕ) → of_two f o scalar.Null (scalar.Text t) ≡ of_two g o scalar.Null (scalar.Text t))
      → of_two f o scalar.Null scalar.Null ≡ of_two g o scalar.Null scalar.Null → OnTexts o
  by_texts o both first second none (scalar.Text s) (scalar.Text t) h = both s t
  by_texts o both first second none (scalar.Text s) scalar.Null h = first s
  by_texts o both first second none (scalar.Text s) y h = absurd (true≢false (sym h))
  by_texts o both first second none scalar.Null (scalar.Text t) h = second t
  by_texts o both first second none scalar.Null scalar.Null h = none
  by_texts o both first second none scalar.Null y h = absurd (true≢false (sym h))
  by_texts o both first second none x y h = absurd (true≢false (sym h))

  equal_same : (x y : Scalar) → takes_two op.Equal x y ≡ true → (of_two f op.Equal x y ≡ of_two g op.Equal x y) × (of_two f op.NotEqual x y ≡ of_two g op.NotEqual x y)
  equal_same scalar.Null scalar.Null h = (refl, refl)
  equal_same scalar.Null (scalar.Int n) h = (refl, refl)
  equal_same scalar.Null (scalar.Text t) h = (refl, refl)
  equal_same scalar.Null (scalar.Bool b) h = (refl, refl)
  equal_same (scalar.Int m) scalar.Null h = (refl, refl)
  equal_same (scalar.Int m) (scalar.Int n) h = (refl, refl)
  equal_same (scalar.Int m) (scalar.Text t) h = absurd (true≢false (sym h))
  equal_same (scalar.Int m) (scalar.Bool b) h = absurd (true≢false (sym h))
  equal_same (scalar.Text s) scalar.Null h = (refl, refl)
  equal_same (scalar.Text s) (scalar.Int n) h = absurd (true≢false (sym h))
  equal_same (scalar.Text s) (scalar.Text t) h = (refl, refl)
  equal_same (scalar.Text s) (scalar.Bool b) h = absurd (true≢false (sym h))
  equal_same (scalar.Bool true) (scalar.Bool c) h = (refl, refl)
  equal_same (scalar.Bool false) (scalar.Bool c) h = (refl, refl)
  equal_same (scalar.Bool b) y h = absurd (true≢false (sym h))

  two_same : (o : Op) (x y : Scalar) → takes_two o x y ≡ true → of_two f o x y ≡ of_two g o x y
  two_same op.Concat = by_texts op.Concat (λ s t. refl) (λ s. refl) (λ t. refl) refl
  two_same op.StartsWith = by_texts op.StartsWith (λ s t. refl) (λ s. refl) (λ t. refl) refl
  two_same op.EndsWith = by_texts op.EndsWith (λ s t. refl) (λ s. refl) (λ t. refl) refl
  two_same op.Contains = by_texts op.Contains (λ s t. refl) (λ s. refl) (λ t. refl) refl
  two_same op.Equal = λ x y h. (equal_same x y h).0
  two_same op.NotEqual = λ x y h. (equal_same x y h).1
  two_same op.Multiply = by_numbers op.Multiply (λ m n. refl) (λ m. refl) (λ n. refl) refl
  two_same op.Divide = by_numbers op.Divide (λ m n. refl) (λ m. refl) (λ n. refl) refl
  two_same op.Remainder = by_numbers op.Remainder (λ m n. refl) (λ m. refl) (λ n. refl) refl
  two_same op.Add = by_numbers op.Add (λ m n. refl) (λ m. refl) (λ n. refl) refl
  two_same op.Subtract = by_numbers op.Subtract (λ m n. refl) (λ m. refl) (λ n. refl) refl
  two_same op.Less = by_numbers op.Less (λ m n. refl) (λ m. refl) (λ n. refl) refl
  two_same op.Greater = by_numbers op.Greater (λ m n. refl) (λ m. refl) (λ n. refl) refl
  two_same op.LessOrEqual = by_numbers op.LessOrEqual (λ m n. refl) (λ m. refl) (λ n. refl) refl
  two_same op.GreaterOrEqual = by_numbers op.GreaterOrEqual (λ m n. refl) (λ m. refl) (λ n. refl) refl
  two_same o = λ x y h. absurd (true≢false (sym h))

  truth_same : (s : Scalar) → is_truth s ≡ true → truth_of f s ≡ truth_of g s
  truth_same (scalar.Bool b) h = refl
  truth_same s h = absurd (true≢false (sym h))

-- ---- what follows, and streams

after_same : {A B : Type 0} (m n : Result A Fault) (f g : A → Result B Fault) → m ≡ n → ((x : A) → n ≡ Ok x → f x ≡ g x) → on_ok m f ≡ on_ok n g
after_same m n f g is same = ap (λ o. on_ok o f) is ∙ by n same where
  by : {A B : Type 0} {f g : A → Result B Fault} (o : Result A Fault) → ((x : A) → o ≡ Ok x → f x ≡ g x) → on_ok o f ≡ on_ok o g
  by (Ok x) h = h x refl
  by (Err e) h = refl

value_same : {A B : Type 0} (m n : Result A Fault) (f g : A → Stream B) → m ≡ n → ((x : A) → n ≡ Ok x → f x ≡ g x) → on_value m f ≡ on_value n g
value_same m n f g is same = ap (λ o. on_value o f) is ∙ by n same where
  by : {A B : Type 0} {f g : A → Stream B} (o : Result A Fault) → ((x : A) → o ≡ Ok x → f x ≡ g x) → on_value o f ≡ on_value o g
  by (Ok x) h = h x refl
  by (Err e) h = refl

same_whole : {A B : Type 0} (xs : List A) (e : End) (f g : List A → Stream B) → f xs ≡ g xs → whole xs e f ≡ whole xs e g
same_whole xs end.Done f g h = h
same_whole xs (end.Fault x) f g h = refl

abbrev In : {A : Type 0} → List A → A → Type 0
In xs v = (i : ℕ) × (slice_get xs i ≡ Some v)

each_in : {A B : Type 0} (f g : A → Stream B) (xs : List A) (e : End) → ((v : A) → In xs v → f v ≡ g v) → each f xs e ≡ each g xs e
each_in f g xs e h = each_same (In xs) f g h xs e (λ i v there. (i, there))

join_in : {A B K Q V : Type 0} (qs : Stream Q) (key key' : A → Result K Fault) (found found' : K → List Q → List V) (result result' : A → V → Result B Fault)
    (xs : List A) (e : End) → ((v : A) → In xs v → key' v ≡ key v) → ((k : K) (zs : List Q) → found' k zs ≡ found k zs)
    → ((v : A) (w : V) (k : K) → In xs v → key v ≡ Ok k → In (found k qs.0) w → result' v w ≡ result v w)
    → join_by qs key' found' result' xs e ≡ join_by qs key found result xs e
join_in {A} {B} {K} {Q} {V} qs key key' found found' result result' xs e keys founds results =
    same_whole qs.0 qs.1 (λ zs. each (λ x. on_value (key' x) (λ k. select_each (result' x) (found' k zs, end.Done))) xs e)
    (λ zs. each (λ x. on_value (key x) (λ k. select_each (result x) (found k zs, end.Done))) xs e)
    (each_in (λ x. on_value (key' x) (λ k. select_each (result' x) (found' k qs.0, end.Done))) (λ x. on_value (key x) (λ k. select_each (result x) (found k qs.0, end.Done)))
    xs e
    (λ v there. value_same (key' v) (key v) (λ k. select_each (result' v) (found' k qs.0, end.Done)) (λ k. select_each (result v) (found k qs.0, end.Done)) (keys v there)
    (λ k is. ap (λ (ws : List V). select_each (result' v) (ws, end.Done)) (founds k qs.0)
    ∙ each_in (λ w. one (result' v w)) (λ w. one (result v w)) (found k qs.0) end.Done (λ w w_there. ap one (results v w k there is w_there)))))

all_in : {A : Type 0} (c d : A → Result Bool Fault) (xs : List A) (e : End) → ((v : A) → In xs v → c v ≡ d v) → all c xs e ≡ all d xs e
all_in c d [] e h = refl
all_in c d (x ∷ xs) e h =
    ap₂ (λ (o p : Result Bool Fault). on_ok o (λ b. if b then p else Ok false)) (h x (zero, refl)) (all_in c d xs e (λ v there. h v (suc there.0, there.1)))

gather_in : {A : Type 0} (f g : A → Result Scalar Fault) (xs : List A) → ((v : A) → In xs v → f v ≡ g v) → all_of f xs ≡ all_of g xs
gather_in f g [] h = refl
gather_in f g (x ∷ xs) h =
    ap₂ (λ (o : Result Scalar Fault) (p : Result (List Scalar) Fault). on_ok o (λ y. on_ok p (λ ys. Ok (y ∷ ys)))) (h x (zero, refl))
    (gather_in f g xs (λ v there. h v (suc there.0, there.1)))

module _ {R : Type 0} (world : World R) (unknown : Fault) where
  abbrev other : World R
  other = assuming unknown world

  abbrev mean : Form → Means R
  mean = form_meaning world

  abbrev mean' : Form → Means R
  mean' = form_meaning other

  abbrev items : Form → Slots R → List (Value R)
  items f slots = (stream_of world (mean f slots)).0

  -- ---- operands that are scalars

  scalar_out : (w : World R) (v : Value R) (s : Scalar) → v ≡ value.Scalar s → scalar_of w (out-Value R v) ≡ Ok s
  scalar_out w v s is = ap (λ (x : Value R). scalar_of w (out-Value R x)) is ∙ ap (scalar_of w) (outs-Scalar s)

  scalar_after : {B : Type 0} (m n : Result (Value R) Fault) (f g : Scalar → Result B Fault) → m ≡ n
      → ((v : Value R) → n ≡ Ok v → (s : Scalar) × (v ≡ value.Scalar s) × (f s ≡ g s)) → on_scalar other m f ≡ on_scalar world n g
  scalar_after m n f g is same =
      ap (λ (o : Result (Value R) Fault). on_scalar other o f) is ∙ by n same
    where
      by : (o : Result (Value R) Fault) → ((v : Value R) → o ≡ Ok v → (s : Scalar) × (v ≡ value.Scalar s) × (f s ≡ g s)) → on_scalar other o f ≡ on_scalar world o g
      by (Ok v) h =
          let found = h v refl in
          ap (λ (o : Result Scalar Fault). on_ok o f) (scalar_out other v found.0 found.1) ∙ found.2
          ∙ sym (ap (λ (o : Result Scalar Fault). on_ok o g) (scalar_out world v found.0 found.1))
      by (Err e) h = refl

  truth_after : (m n : Result (Value R) Fault) → m ≡ n → ((v : Value R) → n ≡ Ok v → IsScalarThat is_truth v)
      → on_scalar other m (truth_of unknown) ≡ on_scalar world n (truth_of world.unknown)
  truth_after m n is truths =
      scalar_after m n (truth_of unknown) (truth_of world.unknown) is
      (λ v v_is. let found = truths v v_is in (found.0, found.1, truth_same unknown world.unknown found.0 found.2))

  -- ---- what is enumerated

  stream_same : (m n : Result (Value R) Fault) → m ≡ n → ((v : Value R) → n ≡ Ok v → IsEnumerable v) → stream_of other m ≡ stream_of world n
  stream_same m n is kinds = ap (stream_of other) is ∙ by n kinds where
    of_value : (v : Value R) → IsEnumerable v → items_of other (out-Value R v) ≡ items_of world (out-Value R v)
    of_value v (kind.a_sequence vs e same) =
        ap (λ (x : Value R). items_of other (out-Value R x)) same ∙ ap (items_of other) (outs-value-Seq vs e)
        ∙ sym (ap (λ (x : Value R). items_of world (out-Value R x)) same ∙ ap (items_of world) (outs-value-Seq vs e))
    of_value v (kind.a_group key vs same) =
        ap (λ (x : Value R). items_of other (out-Value R x)) same ∙ ap (items_of other) (outs-value-Group key vs)
        ∙ sym (ap (λ (x : Value R). items_of world (out-Value R x)) same ∙ ap (items_of world) (outs-value-Group key vs))

    by : (o : Result (Value R) Fault) → ((v : Value R) → o ≡ Ok v → IsEnumerable v) → stream_of other o ≡ stream_of world o
    by (Ok v) h = of_value v (h v refl)
    by (Err e) h = refl

  count_after : (m n : Result (Value R) Fault) → m ≡ n → ((v : Value R) → n ≡ Ok v → IsScalarThat is_count v) → (next : ℤ → Result (Value R) Fault)
      → on_number other m next ≡ on_number world n next
  count_after m n is counts next =
      ap (λ (o : Result ℤ Fault). on_ok o next)
      (scalar_after m n (number_of other) (number_of world) is (λ v v_is. let found = counts v v_is in (found.0, found.1, number found.0 found.2)))
    where
      number : (s : Scalar) → is_count s ≡ true → number_of other s ≡ number_of world s
      number (scalar.Int n) h = refl
      number s h = absurd (true≢false (sym h))

  given_same : (method : Given) (m n : Result (Value R) Fault) (s : Stream (Value R)) → m ≡ n → ((v : Value R) → n ≡ Ok v → TakesArgument method v)
      → given_meaning other method m s ≡ given_meaning world method n s
  given_same given.Concat m n s is kinds = ap (λ (z : Stream (Value R)). as_sequence (concat s z)) (stream_same m n is kinds)
  given_same given.Union m n s is kinds = ap (λ (z : Stream (Value R)). as_sequence (union same_keys s z)) (stream_same m n is kinds)
  given_same given.Intersect m n s is kinds = ap (λ (z : Stream (Value R)). as_sequence (intersect same_keys s z)) (stream_same m n is kinds)
  given_same given.Except m n s is kinds = ap (λ (z : Stream (Value R)). as_sequence (except same_keys s z)) (stream_same m n is kinds)
  given_same given.Skip m n s is kinds = count_after m n is kinds (λ k. as_sequence (skip (as_count k) s.0 s.1))
  given_same given.Take m n s is kinds = count_after m n is kinds (λ k. as_sequence (take_first (as_count k) s.0 s.1))
  given_same given.ElementAt m n s is kinds = count_after m n is kinds (λ k. element_at k s.0 s.1)
  given_same given.Contains m n s is kinds = ap (λ (o : Result (Value R) Fault). on_ok o (λ v. as_truth (contains same_keys v s.0 s.1))) is

  -- the items on which a condition is true, where it means the same on each item
  where_same : (c d : Value R → Result (Value R) Fault) (s : Stream (Value R)) → ((v : Value R) → In s.0 v → c v ≡ d v)
      → ((v : Value R) → In s.0 v → (w : Value R) → d v ≡ Ok w → IsScalarThat is_truth w)
      → where_by (λ v. on_scalar other (c v) (truth_of unknown)) s.0 s.1 ≡ where_by (λ v. on_scalar world (d v) (truth_of world.unknown)) s.0 s.1
  where_same c d s same kinds =
      each_in _ _ s.0 s.1 (λ v there. ap (λ (o : Result Bool Fault). item_where o v) (truth_after (c v) (d v) (same v there) (kinds v there)))

  -- ---- parts of values

  cell_same : (n c : ℕ) (v : Value R) → HasCell world n c v → cell_in other n c (out-Value R v) ≡ cell_in world n c (out-Value R v)
  cell_same n c v (kind.a_cell r m s is name cell) =
      let there : option_and_then (world.cell r) (name_of_column world.schemas n c) ≡ Some s = ap (option_and_then (world.cell r)) name ∙ cell in
      ap (λ (x : Value R). cell_in other n c (out-Value R x)) is ∙ ap (cell_in other n c) (outs-value-Row r) ∙ ap (cell_value other) there
      ∙ sym (ap (λ (x : Value R). cell_in world n c (out-Value R x)) is ∙ ap (cell_in world n c) (outs-value-Row r) ∙ ap (cell_value world) there)
  cell_same n c v (kind.no_row is) =
      ap (λ (x : Value R). cell_in other n c (out-Value R x)) is ∙ ap (cell_in other n c) (outs-Scalar scalar.Null)
      ∙ sym (ap (λ (x : Value R). cell_in world n c (out-Value R x)) is ∙ ap (cell_in world n c) (outs-Scalar scalar.Null))

  arguments_alike : (n : ℕ) (columns : Pick) (r : R) → arguments_at other n columns r ≡ arguments_at world n columns r
  arguments_alike n (numbers.One c) r = refl
  arguments_alike n (numbers.Two c d) r = refl

  answer_same : (o : Option Bool) → answer_value other o ≡ answer_value world o
  answer_same (Some b) = refl
  answer_same None = refl

  asked_same : (p n : ℕ) (columns : Pick) (v : Value R) → HasArguments world n columns v
      → answer_about other (Some p) (arguments_at other n columns) (out-Value R v) ≡ answer_about world (Some p) (arguments_at world n columns) (out-Value R v)
  asked_same p n columns v (kind.an_asked r xs is there) =
      ap (λ (x : Value R). answer_about other (Some p) (arguments_at other n columns) (out-Value R x)) is
      ∙ ap (answer_about other (Some p) (arguments_at other n columns)) (outs-value-Row r)
      ∙ ap (host_answer other (Some p)) (arguments_alike n columns r ∙ there) ∙ answer_same (answer_in world.predicates p xs)
      ∙ sym (ap (λ (x : Value R). answer_about world (Some p) (arguments_at world n columns) (out-Value R x)) is
      ∙ ap (answer_about world (Some p) (arguments_at world n columns)) (outs-value-Row r) ∙ ap (host_answer world (Some p)) there)
  asked_same p n columns v (kind.none_asked is) =
      ap (λ (x : Value R). answer_about other (Some p) (arguments_at other n columns) (out-Value R x)) is
      ∙ ap (answer_about other (Some p) (arguments_at other n columns)) (outs-Scalar scalar.Null)
      ∙ sym (ap (λ (x : Value R). answer_about world (Some p) (arguments_at world n columns) (out-Value R x)) is
      ∙ ap (answer_about world (Some p) (arguments_at world n columns)) (outs-Scalar scalar.Null))

  member_same : (place : ℕ) (v : Value R) → HasMember place v → member_at other place (out-Value R v) ≡ member_at world place (out-Value R v)
  member_same place v (kind.a_member vs m is at) =
      let there : option_map (λ (d : List ℕ × Value R). d.1) (slice_get vs place) ≡ Some m.1 = ap (option_map (λ (d : List ℕ × Value R). d.1)) at in
      ap (λ (x : Value R). member_at other place (out-Value R x)) is ∙ ap (member_at other place) (outs-value-Rec vs) ∙ ap (if_there other) there
      ∙ sym (ap (λ (x : Value R). member_at world place (out-Value R x)) is ∙ ap (member_at world place) (outs-value-Rec vs) ∙ ap (if_there world) there)
  member_same place v (kind.no_record is) =
      ap (λ (x : Value R). member_at other place (out-Value R x)) is ∙ ap (member_at other place) (outs-Scalar scalar.Null)
      ∙ sym (ap (λ (x : Value R). member_at world place (out-Value R x)) is ∙ ap (member_at world place) (outs-Scalar scalar.Null))

  key_same : (v : Value R) → IsGroup v → key_in other (out-Value R v) ≡ key_in world (out-Value R v)
  key_same v found =
      ap (λ (x : Value R). key_in other (out-Value R x)) found.2 ∙ ap (key_in other) (outs-value-Group found.0 found.1)
      ∙ sym (ap (λ (x : Value R). key_in world (out-Value R x)) found.2 ∙ ap (key_in world) (outs-value-Group found.0 found.1))

  null_same : (layer : Value-F R (Value R)) → is_null_value other layer ≡ is_null_value world layer
  null_same (Value-F.Scalar s) = refl
  null_same layer = refl

  matched_same : (grouped : Bool) (key : Value R) (qs : List (Value R × Value R)) → matched other grouped key qs ≡ matched world grouped key qs
  matched_same true key qs = refl
  matched_same false key qs = refl

  -- ---- what is run

  -- each key is the same in these slots
  abbrev KeysSame : List (SortKey Form) → Slots R → Type 0
  KeysSame [] slots = Unit {0}
  KeysSame (k ∷ ks) slots = (on_scalar other (mean' k.value slots) (λ s. Ok s) ≡ on_scalar world (mean k.value slots) (λ s. Ok s)) × KeysSame ks slots

  keyed_same : (slots : Slots R) (ks : List (SortKey Form)) (xs : List (Value R)) → ((v : Value R) → In xs v → KeysSame ks (slots ++ v ∷ []))
      → keyed (sort_key other slots) (map (map_key mean') ks) xs ≡ keyed (sort_key world slots) (map (map_key mean) ks) xs
  keyed_same slots [] xs same = refl
  keyed_same slots (k ∷ ks) xs same =
      ap₂ (λ (o : Result (List Scalar) Fault) (q : Result (List (Keyed (Value R))) Fault). on_ok o (λ ls. on_ok q (λ rows. Ok (with_key ls rows))))
      (gather_in _ _ xs (λ v there. (same v there).0)) (keyed_same slots ks xs (λ v there. (same v there).1))

  descending_same : (ks : List (SortKey Form))
      → map (λ (k : SortKey (Means R)). k.descending) (map (map_key mean') ks) ≡ map (λ (k : SortKey (Means R)). k.descending) (map (map_key mean) ks)
  descending_same [] = refl
  descending_same (k ∷ ks) = ap (λ ds. k.descending ∷ ds) (descending_same ks)

  abbrev Same : Run R → Type 0
  Same (Runs f slots) = mean' f slots ≡ mean f slots
  Same (RunsFields fields slots) = members_of other (map (map_field mean') fields) slots ≡ members_of world (map (map_field mean) fields) slots
  Same (RunsKeys ks slots) = KeysSame ks slots

  -- the inner items of a join with their keys
  inner_same : (j : Joined Form) (slots : Slots R) → mean' j.inner slots ≡ mean j.inner slots → ((v : Value R) → mean j.inner slots ≡ Ok v → IsEnumerable v)
      → ((w : Value R) → In (items j.inner slots) w → mean' j.inner_key (slots ++ w ∷ []) ≡ mean j.inner_key (slots ++ w ∷ []))
      → with_keys (λ w. mean' j.inner_key (slots ++ w ∷ [])) (stream_of other (mean' j.inner slots))
      ≡ with_keys (λ w. mean j.inner_key (slots ++ w ∷ [])) (stream_of world (mean j.inner slots))
  inner_same j slots is kinds keys =
      ap (with_keys (λ w. mean' j.inner_key (slots ++ w ∷ []))) (stream_same (mean' j.inner slots) (mean j.inner slots) is kinds)
      ∙ each_in _ _ (items j.inner slots) (stream_of world (mean j.inner slots)).1
      (λ w there. ap (λ (o : Result (Value R) Fault). one (both o (Ok w))) (keys w there))

  abbrev join_means : {Q : Type 0} → World Q → Joined Form → Joined (Means Q)
  join_means w j =
      record { inner = form_meaning w j.inner; outer_key = form_meaning w j.outer_key; inner_key = form_meaning w j.inner_key; grouped = j.grouped; result = form_meaning w j.result }

  -- by what a form's layer means in each world
  by_layer : (slots : Slots R) (f : Form) {layer : Form-F Form} → out-Form f ≡ layer
      → form_step other (map-Form Form (Means R) mean' layer) slots ≡ form_step world (map-Form Form (Means R) mean layer) slots → mean' f slots ≡ mean f slots
  by_layer slots f is same = meaning_at other slots f is ∙ same ∙ sym (meaning_at world slots f is)

  pub same : {run : Run R} → MeetsKinds world run → Same run
  same (kind.at_literal c slots) = by_layer slots _ (form.outs-Literal c) refl
  same (kind.at_slot n slots v there) =
      by_layer slots _ (form.outs-Slot n) (ap (if_there other) there ∙ sym (ap (if_there world) there))
  same (kind.at_table n slots rows there) =
      by_layer slots _ (form.outs-Table n) (ap (table_value other) there ∙ sym (ap (table_value world) there))
  same (kind.at_first a slots h kinds) =
      by_layer slots _ (form.outs-First a) (ap (λ (o : Result (Value R) Fault). on_ok o (λ v. Ok (first v))) (same h))
  same (kind.at_second a slots h kinds) =
      by_layer slots _ (form.outs-Second a) (ap (λ (o : Result (Value R) Fault). on_ok o (λ v. Ok (second v))) (same h))
  same (kind.at_column a n c slots h kinds) =
      by_layer slots _ (form.outs-Column a n c)
      (after_same (mean' a slots) (mean a slots) (λ v. cell_in other n c (out-Value R v)) (λ v. cell_in world n c (out-Value R v)) (same h)
      (λ v is. cell_same n c v (kinds v is)))
  same (kind.at_host p a n columns slots h kinds) =
      by_layer slots _ (form.outs-Host p a n columns)
      (after_same (mean' a slots) (mean a slots) (λ v. answer_about other (Some p) (arguments_at other n columns) (out-Value R v))
      (λ v. answer_about world (Some p) (arguments_at world n columns) (out-Value R v)) (same h) (λ v is. asked_same p n columns v (kinds v is)))
  same (kind.at_member a place slots h kinds) =
      by_layer slots _ (form.outs-Member a place)
      (after_same (mean' a slots) (mean a slots) (λ v. member_at other place (out-Value R v)) (λ v. member_at world place (out-Value R v)) (same h)
      (λ v is. member_same place v (kinds v is)))
  same (kind.at_key a slots h kinds) =
      by_layer slots _ (form.outs-Key a)
      (after_same (mean' a slots) (mean a slots) (λ v. key_in other (out-Value R v)) (λ v. key_in world (out-Value R v)) (same h)
      (λ v is. key_same v (kinds v is)))
  same (kind.at_one o a slots h kinds) =
      by_layer slots _ (form.outs-Unary o a)
      (scalar_after (mean' a slots) (mean a slots) (λ s. as_value (of_one unknown o s)) (λ s. as_value (of_one world.unknown o s)) (same h)
      (λ v is. let found = kinds v is in (found.0, found.1, ap as_value (one_same unknown world.unknown o found.0 found.2))))
  same (kind.at_two o a b slots h k kinds scalars) =
      by_layer slots _ (form.outs-Binary o a b)
      (scalar_after (mean' a slots) (mean a slots) (λ s. on_scalar other (mean' b slots) (λ t. as_value (of_two unknown o s t)))
      (λ s. on_scalar world (mean b slots) (λ t. as_value (of_two world.unknown o s t))) (same h)
      (λ v v_is. let x = scalars v v_is in (
        x.0,
        x.1,
        scalar_after (mean' b slots) (mean b slots) (λ t. as_value (of_two unknown o x.0 t)) (λ t. as_value (of_two world.unknown o x.0 t)) (same k)
            (λ w w_is. let found = kinds v v_is w w_is in (
              found.1,
              found.3,
              ap as_value (two_same unknown world.unknown o x.0 found.1
                  (subst (λ (s : Scalar). takes_two o s found.1 ≡ true) (scalar_is (sym found.2 ∙ x.1)) found.4)),
            )),
      )))
    where
      scalar_is : {s t : Scalar} → ◌≡◌ {A = Value R} (value.Scalar s) (value.Scalar t) → s ≡ t
      scalar_is {s} {t} h = let layers : ◌≡◌ {A = Value-F R (Value R)} (Value-F.Scalar s) (Value-F.Scalar t) = sym (outs-Scalar s) ∙ ap (out-Value R) h ∙ outs-Scalar t in cc
  same (kind.at_and a b slots h k truths others) =
      by_layer slots _ (form.outs-And a b)
      (ap₂ (λ (o : Result Bool Fault) (p : Result (Value R) Fault). on_ok o (λ t. if t then p else Ok (value.Scalar (scalar.Bool false))))
      (truth_after (mean' a slots) (mean a slots) (same h) truths) (same k))
  same (kind.at_or a b slots h k truths others) =
      by_layer slots _ (form.outs-Or a b)
      (ap₂ (λ (o : Result Bool Fault) (p : Result (Value R) Fault). on_ok o (λ t. if t then Ok (value.Scalar (scalar.Bool true)) else p))
      (truth_after (mean' a slots) (mean a slots) (same h) truths) (same k))
  same (kind.at_default a b slots h k scalars others) =
      by_layer slots _ (form.outs-Coalesce a b)
      (scalar_after (mean' a slots) (mean a slots) (λ s. if is_null s then mean' b slots else Ok (value.Scalar s)) (λ s. if is_null s then mean b slots else Ok (value.Scalar s)) (same h)
      (λ v is. let found = scalars v is in
      (found.0, found.1, ap (λ (o : Result (Value R) Fault). if is_null found.0 then o else Ok (value.Scalar found.0)) (same k))))
  same (kind.at_choice c a b slots g h k truths) =
      by_layer slots _ (form.outs-Conditional c a b)
      (ap (λ (o : Result Bool Fault). on_ok o (λ t. if t then mean' a slots else mean' b slots)) (truth_after (mean' c slots) (mean c slots) (same g) truths)
      ∙ ap₂ (λ (x y : Result (Value R) Fault). on_truth world (mean c slots) (λ t. if t then x else y)) (same h) (same k))
  same (kind.at_null_test wanted a slots h kinds) =
      by_layer slots _ (form.outs-IsNull wanted a)
      (after_same (mean' a slots) (mean a slots) _ _ (same h)
      (λ v is. ap (λ (b : Bool). Ok (value.Scalar (scalar.Bool (if wanted then b else not b)))) (null_same (out-Value R v))))
  same (kind.at_record fields slots h) =
      by_layer slots _ (form.outs-Record fields)
      (ap (λ (o : Result (List (List ℕ × Value R)) Fault). on_ok o (λ members. Ok (value.Rec members))) (same h))
  same (kind.no_field slots) = refl
  same (kind.one_field field fields slots h k) =
      ap₂ (λ (o : Result (Value R) Fault) (p : Result (List (List ℕ × Value R)) Fault). on_ok o (λ v. on_ok p (λ members. Ok ((field.name, v) ∷ members))))
      (same h) (same k)
  same (kind.at_pair a b slots h k) =
      by_layer slots _ (form.outs-Pair a b)
      (ap₂ (λ (o p : Result (Value R) Fault). on_ok o (λ v. on_ok p (λ w. Ok (pair v w)))) (same h) (same k))
  same (kind.at_sequence a slots h kinds) =
      by_layer slots _ (form.outs-Sequence a) (ap as_sequence (stream_same (mean' a slots) (mean a slots) (same h) kinds))
  same (kind.at_simple method t a slots h kinds takes suited twos) =
      by_layer slots _ (form.outs-Simple method t a)
      (ap (simple_meaning method t) (stream_same (mean' a slots) (mean a slots) (same h) kinds))
  same (kind.at_given method a b slots h kinds takes k arguments others beside pairs) =
      by_layer slots _ (form.outs-Given method a b)
      (ap (given_meaning other method (mean' b slots)) (stream_same (mean' a slots) (mean a slots) (same h) kinds)
      ∙ given_same method (mean' b slots) (mean b slots) (stream_of world (mean a slots)) (same k) arguments)
  same (kind.at_where a f slots h kinds bodies truths) =
      by_layer slots _ (form.outs-Where a f)
      (ap as_sequence
      (ap (λ (s : Stream (Value R)). where_by (λ v. is_true other (mean' f) (slots ++ v ∷ [])) s.0 s.1)
      (stream_same (mean' a slots) (mean a slots) (same h) kinds)
      ∙ where_same (λ v. mean' f (slots ++ v ∷ [])) (λ v. mean f (slots ++ v ∷ [])) (stream_of world (mean a slots)) (λ v there. same (bodies v there)) truths))
  same (kind.at_select a f slots h kinds bodies) =
      by_layer slots _ (form.outs-Select a f)
      (ap as_sequence
      (ap (λ (s : Stream (Value R)). select_by (λ v. mean' f (slots ++ v ∷ [])) s.0 s.1) (stream_same (mean' a slots) (mean a slots) (same h) kinds)
      ∙ each_in _ _ (items a slots) (stream_of world (mean a slots)).1 (λ v there. ap one (same (bodies v there)))))
  same (kind.at_all a f slots h kinds bodies truths) =
      by_layer slots _ (form.outs-All a f)
      (ap as_truth
      (ap (λ (s : Stream (Value R)). all (λ v. is_true other (mean' f) (slots ++ v ∷ [])) s.0 s.1)
      (stream_same (mean' a slots) (mean a slots) (same h) kinds)
      ∙ all_in _ _ (items a slots) (stream_of world (mean a slots)).1
      (λ v there. truth_after (mean' f (slots ++ v ∷ [])) (mean f (slots ++ v ∷ [])) (same (bodies v there)) (truths v there))))
  same (kind.at_expansion a inner result slots h kinds bodies inners results) =
      by_layer slots _ (form.outs-SelectMany a inner result)
      (ap as_sequence
      (ap (λ (s : Stream (Value R)). expand_by (λ v. stream_of other (mean' inner (slots ++ v ∷ []))) (λ v w. mean' result (slots ++ v ∷ w ∷ [])) s.0 s.1)
      (stream_same (mean' a slots) (mean a slots) (same h) kinds)
      ∙ each_in _ _ (items a slots) (stream_of world (mean a slots)).1
      (λ v there.
      ap (select_each (λ w. mean' result (slots ++ v ∷ w ∷ [])))
      (stream_same (mean' inner (slots ++ v ∷ [])) (mean inner (slots ++ v ∷ [])) (same (bodies v there)) (inners v there))
      ∙ each_in _ _ (items inner (slots ++ v ∷ [])) (stream_of world (mean inner (slots ++ v ∷ []))).1 (λ w w_there. ap one (same (results v w there w_there))))))
  same (kind.at_join a j slots h kinds k inner_kinds outers outer_keys inners inner_keys results matching) =
      by_layer slots _ (form.outs-Join a j)
      (ap as_sequence
      (ap (joined_stream other slots (join_means other j)) (stream_same (mean' a slots) (mean a slots) (same h) kinds)
      ∙ ap (λ (q : Stream (Value R × Value R)). join_by q (λ v. mean' j.outer_key (slots ++ v ∷ [])) (matched other j.grouped)
      (λ v w. mean' j.result (slots ++ v ∷ w ∷ [])) (items a slots) (stream_of world (mean a slots)).1)
      (inner_same j slots (same k) inner_kinds (λ w there. same (inners w there)))
      ∙ join_in (with_keys (λ w. mean j.inner_key (slots ++ w ∷ [])) (stream_of world (mean j.inner slots))) (λ v. mean j.outer_key (slots ++ v ∷ []))
      (λ v. mean' j.outer_key (slots ++ v ∷ [])) (matched world j.grouped) (matched other j.grouped) (λ v w. mean j.result (slots ++ v ∷ w ∷ []))
      (λ v w. mean' j.result (slots ++ v ∷ w ∷ [])) (items a slots) (stream_of world (mean a slots)).1 (λ v there. same (outers v there))
      (matched_same j.grouped) (λ v w key there is w_there. same (results v w key there is w_there))))
  same (kind.at_order a ks slots h kinds keys alike) =
      by_layer slots _ (form.outs-OrderBy a ks)
      (ap as_sequence
      (ap (λ (s : Stream (Value R)). order_by (λ (k : SortKey (Means R)). k.descending) (sort_key other slots) (map (map_key mean') ks) s.0 s.1)
      (stream_same (mean' a slots) (mean a slots) (same h) kinds)
      ∙ same_whole (items a slots) (stream_of world (mean a slots)).1 _ _
      (ap₂ (λ (o : Result (List (Keyed (Value R))) Fault) (ds : List Bool). on_value o (λ rows. (map (λ row. row.1) (arranged ds rows), end.Done)))
      (keyed_same slots ks (items a slots) (λ v there. same (keys v there))) (descending_same ks))))
  same (kind.no_key slots) = tt
  same (kind.one_key k ks slots h scalars others) = (
    scalar_after (mean' k.value slots) (mean k.value slots) (λ s. Ok s) (λ s. Ok s) (same h)
        (λ v is. let found = scalars v is in (found.0, found.1, refl)),
    same others,
  )
  same (kind.at_grouping a key element slots h kinds keys key_kinds elements grouping) =
      by_layer slots _ (form.outs-GroupBy a key element)
      (ap as_sequence
      (ap (λ (s : Stream (Value R)). group_by same_keys (λ v. mean' key (slots ++ v ∷ [])) (λ v. mean' element (slots ++ v ∷ [])) as_group s.0 s.1)
      (stream_same (mean' a slots) (mean a slots) (same h) kinds)
      ∙ ap (λ (z : Stream (Value R × Value R)). whole z.0 z.1 (λ qs. (map as_group (groups_of same_keys qs), end.Done)))
      (each_in _ _ (items a slots) (stream_of world (mean a slots)).1
      (λ v there. ap₂ (λ (o p : Result (Value R) Fault). one (both o p)) (same (keys v there)) (same (elements v there))))))

pub kinds_suffice : {R : Type 0} → KindsSuffice R
kinds_suffice world f slots runs unknown = same world unknown runs
