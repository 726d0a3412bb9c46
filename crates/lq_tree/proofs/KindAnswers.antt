-- What definitions give for operands of the kind that they work on.
use Rattle.std.proofs.Common.{◌≡◌, ◌↔◌, ◌∷◌, ◌++◌, ◌&&◌, ◌||◌, ◌⊎◌, inl, inr, List, [], map, ℕ, ℤ, zero, suc, Bool, true, false, Some, Ok, Err, if◌then◌else◌, ap, ap₂, ◌∙◌, sym, refl, subst, true≢false, bytes_eq, slice_get}
use Rattle.std.specs.Bool.{beq}
use Rattle.std.specs.Cmp.Lexicographic.{pointwise}
use Rattle.std.specs.List.{cons_option}
use Rattle.std.proofs.lemmas.Bool.{and_parts}
use Rattle.std.proofs.lemmas.Option.{none-some, same_Some}
use Rattle.std.proofs.lemmas.Slice.Eq.{bytes_eq-Decides}
use Rattle.lq_value.specs.SameAndOrder.{order_of, same_member, same_scalars, same_values}
use Rattle.lq_value.specs.declared.scalar.Scalar.{Scalar}
use Rattle.lq_value.specs.declared.scalar.Scalar.TheVariants as scalar
use Rattle.lq_value.specs.declared.ty.Ty.{Ty, out-Ty}
use Rattle.lq_value.specs.declared.ty.Ty.TheOpen.{Ty-F}
use Rattle.lq_value.specs.declared.value.Fault.{Fault}
use Rattle.lq_value.specs.declared.value.Fault.TheVariants as fault
use Rattle.lq_value.specs.declared.value.Value.{Value, out-Value, roll-Value}
use Rattle.lq_value.specs.declared.value.Value.TheOpen.{Value-F}
use Rattle.lq_value.specs.declared.value.Value.TheVariants.{outs-Group, outs-Rec, outs-Scalar, outs-Seq, rolls-Scalar}
use Rattle.lq_value.specs.declared.value.Value.TheViews.{roll-out-Value}
use Rattle.lq_language.specs.Meaning.{default_layer, number_in, numbers}
use Rattle.lq_language.specs.OperandMeaning.{items_of}
use Rattle.lq_language.specs.OperationLaws.{AreOfOneKind, IsNumber, IsText, IsTruth}
use Rattle.lq_language.specs.Operations.{same_content}
use Rattle.lq_language.specs.Operators.{first, first_member, pair, second, second_member}
use Rattle.lq_language.specs.Typing.{has_default}
use Rattle.lq_language.specs.OperandTypes.{is_int, is_number as is_number_type}
use Rattle.lq_language.specs.ValuesOfTypes.{Every}
use Rattle.lq_language.specs.Worlds.{World}
use Rattle.lq_language.specs.declared.methods.Given.{Given}
use Rattle.lq_language.specs.declared.methods.Given.TheVariants as given
use Rattle.lq_language.specs.declared.methods.Simple.{Simple}
use Rattle.lq_language.specs.declared.methods.Simple.TheVariants as simple
use Rattle.lq_language.specs.declared.operation.Op.TheVariants as op
use Rattle.lq_grammar.specs.declared.syntax.SortKey.{SortKey}
use Rattle.lq_tree.specs.FormMeaning.{Slots, form_meaning, is_null_value}
use Rattle.lq_tree.specs.KindLaws as law
use Rattle.lq_tree.specs.KindLaws.{AreSame, Compares, EnumeratedAs, HaveSameContent, IsDefault, IsOfNoNumber, Keys, Members, ReadAs, Sameness, StandAs}
use Rattle.lq_tree.specs.OperandKinds as kind
use Rattle.lq_tree.specs.declared.tree.Form.{Form, out-Form}
use Rattle.lq_tree.specs.declared.tree.Form.TheOpen.{Form-F}
use Rattle.lq_tree.specs.declared.tree.Form.TheVariants as form
use Rattle.lq_tree.specs.OperandKinds.{Among, Finds, IsEnumerable, IsPair, IsScalarThat, MayBeSame, MeetsKinds, Run, Runs, RunsFields, RunsKeys, items_in, is_number, is_text, is_truth, takes_one, takes_two}
use Rattle.lq_value.proofs.SamenessLaws.{record_record, same_at, scalar_scalar}

-- ---- operators

number_alike : (s : Scalar) → (is_number s ≡ true) ↔ IsNumber s
number_alike (scalar.Int n) = (λ h. tt, λ h. refl)
number_alike scalar.Null = (λ h. tt, λ h. refl)
number_alike s = (λ h. absurd (true≢false (sym h)), λ h. absurd h)

text_alike : (s : Scalar) → (is_text s ≡ true) ↔ IsText s
text_alike (scalar.Text t) = (λ h. tt, λ h. refl)
text_alike scalar.Null = (λ h. tt, λ h. refl)
text_alike s = (λ h. absurd (true≢false (sym h)), λ h. absurd h)

truth_alike : (s : Scalar) → (is_truth s ≡ true) ↔ IsTruth s
truth_alike (scalar.Bool b) = (λ h. tt, λ h. refl)
truth_alike s = (λ h. absurd (true≢false (sym h)), λ h. absurd h)

-- both of two tests, and one of three
both_alike : (b c : Bool) {P Q : Type 0} → (b ≡ true) ↔ P → (c ≡ true) ↔ Q → ((b && c) ≡ true) ↔ (P × Q)
both_alike b c first second =
    (λ h. let parts = and_parts b c h in (first.0 parts.0, second.0 parts.1), λ h. ap₂ (λ (x y : Bool). x && y) (first.1 h.0) (second.1 h.1))

either_alike : (b c : Bool) {P Q : Type 0} → (b ≡ true) ↔ P → (c ≡ true) ↔ Q → ((b || c) ≡ true) ↔ (P ⊎ Q)
either_alike true c first second = (λ h. inl (first.0 refl), λ h. refl)
either_alike false c {P} {Q} first second = (λ h. inr (second.0 h), there) where
  there : P ⊎ Q → c ≡ true
  there (inl p) = absurd (true≢false (sym (first.1 p)))
  there (inr q) = second.1 q

numbers_alike : (a b : Scalar) → ((is_number a && is_number b) ≡ true) ↔ (IsNumber a × IsNumber b)
numbers_alike a b = both_alike (is_number a) (is_number b) (number_alike a) (number_alike b)

texts_alike : (a b : Scalar) → ((is_text a && is_text b) ≡ true) ↔ (IsText a × IsText b)
texts_alike a b = both_alike (is_text a) (is_text b) (text_alike a) (text_alike b)

truths_alike : (a b : Scalar) → ((is_truth a && is_truth b) ≡ true) ↔ (IsTruth a × IsTruth b)
truths_alike a b = both_alike (is_truth a) (is_truth b) (truth_alike a) (truth_alike b)

kind_alike : (a b : Scalar) → (takes_two op.Equal a b ≡ true) ↔ AreOfOneKind a b
kind_alike a b = (λ h. turn (outer.0 h), λ h. outer.1 (back h)) where
  outer : (takes_two op.Equal a b ≡ true) ↔ (((IsNumber a × IsNumber b) ⊎ (IsText a × IsText b)) ⊎ (IsTruth a × IsTruth b))
  outer =
      either_alike ((is_number a && is_number b) || (is_text a && is_text b)) (is_truth a && is_truth b)
      (either_alike (is_number a && is_number b) (is_text a && is_text b) (numbers_alike a b) (texts_alike a b)) (truths_alike a b)

  turn : ((IsNumber a × IsNumber b) ⊎ (IsText a × IsText b)) ⊎ (IsTruth a × IsTruth b) → AreOfOneKind a b
  turn (inl (inl two)) = inl two
  turn (inl (inr two)) = inr (inr two)
  turn (inr two) = inr (inl two)

  back : AreOfOneKind a b → ((IsNumber a × IsNumber b) ⊎ (IsText a × IsText b)) ⊎ (IsTruth a × IsTruth b)
  back (inl two) = inl (inl two)
  back (inr (inl two)) = inr two
  back (inr (inr two)) = inl (inr two)

pub takes_one_alike : law.TakesOneAlike
takes_one_alike op.Not a = truth_alike a
takes_one_alike op.Minus a = number_alike a
takes_one_alike op.HasValue a = number_alike a
takes_one_alike op.Value a = number_alike a
takes_one_alike op.Length a = text_alike a
takes_one_alike o a = (λ h. absurd (true≢false (sym h)), λ h. absurd h)

pub takes_two_alike : law.TakesTwoAlike
takes_two_alike op.Multiply a b = numbers_alike a b
takes_two_alike op.Divide a b = numbers_alike a b
takes_two_alike op.Remainder a b = numbers_alike a b
takes_two_alike op.Add a b = numbers_alike a b
takes_two_alike op.Subtract a b = numbers_alike a b
takes_two_alike op.Less a b = numbers_alike a b
takes_two_alike op.Greater a b = numbers_alike a b
takes_two_alike op.LessOrEqual a b = numbers_alike a b
takes_two_alike op.GreaterOrEqual a b = numbers_alike a b
takes_two_alike op.Equal a b = kind_alike a b
takes_two_alike op.NotEqual a b = kind_alike a b
takes_two_alike op.Concat a b = texts_alike a b
takes_two_alike op.StartsWith a b = texts_alike a b
takes_two_alike op.EndsWith a b = texts_alike a b
takes_two_alike op.Contains a b = texts_alike a b
takes_two_alike o a b = (λ h. absurd (true≢false (sym h)), λ h. absurd h)

pub orders_numbers : law.OrdersNumbers
orders_numbers unknown test (scalar.Int m) (scalar.Int n) h = (test m n, refl, law.int_to_int m n)
orders_numbers unknown test (scalar.Int m) scalar.Null h = (false, refl, law.int_to_null m)
orders_numbers unknown test scalar.Null (scalar.Int n) h = (false, refl, law.null_to_int n)
orders_numbers unknown test scalar.Null scalar.Null h = (false, refl, law.null_to_null)
orders_numbers unknown test (scalar.Int m) y h = absurd (true≢false (sym h))
orders_numbers unknown test scalar.Null y h = absurd (true≢false (sym h))
orders_numbers unknown test x y h = absurd (true≢false (sym h))

-- two scalars of one kind, case by case
by_kind : (P : Scalar → Scalar → Type 0) → P scalar.Null scalar.Null → ((n : ℤ) → P scalar.Null (scalar.Int n)) → ((t : List ℕ) → P scalar.Null (scalar.Text t))
    → ((m : ℤ) → P (scalar.Int m) scalar.Null) → ((s : List ℕ) → P (scalar.Text s) scalar.Null) → ((m n : ℤ) → P (scalar.Int m) (scalar.Int n))
    → ((b c : Bool) → P (scalar.Bool b) (scalar.Bool c)) → ((s t : List ℕ) → P (scalar.Text s) (scalar.Text t))
    → (x y : Scalar) → takes_two op.Equal x y ≡ true → P x y
by_kind P nn ni nt im tn ii bb ts scalar.Null scalar.Null h = nn
by_kind P nn ni nt im tn ii bb ts scalar.Null (scalar.Int n) h = ni n
by_kind P nn ni nt im tn ii bb ts scalar.Null (scalar.Text t) h = nt t
by_kind P nn ni nt im tn ii bb ts scalar.Null (scalar.Bool b) h = absurd (true≢false (sym h))
by_kind P nn ni nt im tn ii bb ts (scalar.Int m) scalar.Null h = im m
by_kind P nn ni nt im tn ii bb ts (scalar.Int m) (scalar.Int n) h = ii m n
by_kind P nn ni nt im tn ii bb ts (scalar.Int m) (scalar.Text t) h = absurd (true≢false (sym h))
by_kind P nn ni nt im tn ii bb ts (scalar.Int m) (scalar.Bool b) h = absurd (true≢false (sym h))
by_kind P nn ni nt im tn ii bb ts (scalar.Text s) scalar.Null h = tn s
by_kind P nn ni nt im tn ii bb ts (scalar.Text s) (scalar.Int n) h = absurd (true≢false (sym h))
by_kind P nn ni nt im tn ii bb ts (scalar.Text s) (scalar.Text t) h = ts s t
by_kind P nn ni nt im tn ii bb ts (scalar.Text s) (scalar.Bool b) h = absurd (true≢false (sym h))
by_kind P nn ni nt im tn ii bb ts (scalar.Bool b) (scalar.Bool c) h = bb b c
by_kind P nn ni nt im tn ii bb ts (scalar.Bool b) scalar.Null h = absurd (true≢false (sym h))
by_kind P nn ni nt im tn ii bb ts (scalar.Bool b) (scalar.Int n) h = absurd (true≢false (sym h))
by_kind P nn ni nt im tn ii bb ts (scalar.Bool b) (scalar.Text t) h = absurd (true≢false (sym h))

truths_are_same : (unknown : Fault) (b c : Bool) → same_content unknown (scalar.Bool b) (scalar.Bool c) ≡ Ok (beq b c)
truths_are_same unknown true true = refl
truths_are_same unknown true false = refl
truths_are_same unknown false true = refl
truths_are_same unknown false false = refl

pub equals_one_kind : law.EqualsOneKind
equals_one_kind unknown =
    by_kind (λ x y. (b : Bool) × (same_content unknown x y ≡ Ok b) × HaveSameContent x y b) (true, refl, law.two_nulls)
    (λ n. (false, refl, law.null_and_int n)) (λ t. (false, refl, law.null_and_text t))
    (λ m. (false, refl, law.int_and_null m)) (λ s. (false, refl, law.text_and_null s))
    (λ m n. (_, refl, law.two_ints m n)) (λ b c. (beq b c, truths_are_same unknown b c, law.two_truths b c))
    (λ s t. (_, refl, law.two_texts s t))

scalars_are_same : (x y : Scalar) → takes_two op.Equal x y ≡ true → HaveSameContent x y (same_scalars x y)
scalars_are_same =
    by_kind (λ x y. HaveSameContent x y (same_scalars x y)) law.two_nulls (λ n. law.null_and_int n)
    (λ t. law.null_and_text t) (λ m. law.int_and_null m) (λ s. law.text_and_null s)
    (λ m n. law.two_ints m n) (λ b c. law.two_truths b c) (λ s t. law.two_texts s t)

scalars_stand : (x y : Scalar) → takes_two op.Equal x y ≡ true → StandAs x y (order_of x y)
scalars_stand =
    by_kind (λ x y. StandAs x y (order_of x y)) law.two_nulls (λ n. law.null_and_int n) (λ t. law.null_and_text t) (λ m. law.int_and_null m)
    (λ s. law.text_and_null s) (λ m n. law.two_ints m n) (λ b c. law.two_truths b c) (λ s t. law.two_texts s t)

module _ {R : Type 0} where
  -- ---- pairs

  first_of_pair : (a b : Value R) → first (pair a b) ≡ a
  first_of_pair a b = ap (first_member (pair a b)) (outs-Rec (([], a) ∷ ([], b) ∷ []))

  second_of_pair : (a b : Value R) → second (pair a b) ≡ b
  second_of_pair a b = ap (second_member (pair a b)) (outs-Rec (([], a) ∷ ([], b) ∷ []))

  -- ---- keys

  members_are_same : (ms ns : List (List ℕ × Value R)) → map (λ (m : List ℕ × Value R). m.0) ms ≡ map (λ (n : List ℕ × Value R). n.0) ns
      → ((i : ℕ) (m n : List ℕ × Value R) → slice_get ms i ≡ Some m → slice_get ns i ≡ Some n → AreSame (Keys m.1 n.1 (same_values m.1 n.1)))
      → AreSame (Members ms ns (pointwise same_member ms ns))
  members_are_same [] [] names each = law.no_member
  members_are_same [] (n ∷ ns) names each = absurd cc
  members_are_same (m ∷ ms) [] names each = absurd cc
  members_are_same (m ∷ ms) (n ∷ ns) names each =
      subst (λ (b : Bool). AreSame (Members (m ∷ ms) (n ∷ ns) ((b && same_values m.1 n.1) && pointwise same_member ms ns))) (sym same_name)
      (subst (λ (name : List ℕ). AreSame (Members (m ∷ ms) ((name, n.1) ∷ ns) (same_values m.1 n.1 && pointwise same_member ms ns))) named
      (law.one_member m.0 m.1 n.1 ms ns (same_values m.1 n.1) (pointwise same_member ms ns) (each 0 m n refl refl)
      (members_are_same ms ns others (λ i o p there here. each (suc i) o p there here))))
    where
      named : m.0 ≡ n.0
      named = cc names

      others : map (λ (o : List ℕ × Value R). o.0) ms ≡ map (λ (p : List ℕ × Value R). p.0) ns
      others = cc names

      same_name : bytes_eq m.0 n.0 ≡ true
      same_name = (bytes_eq-Decides m.0 n.0).1 named

  at_layers : (v w x y : Value R) → v ≡ x → w ≡ y → same_values v w ≡ same_values x y
  at_layers v w x y v_is w_is = λ i. same_values (v_is i) (w_is i)

  same_keys : {v w : Value R} → MayBeSame v w → AreSame (Keys v w (same_values v w))
  same_keys (kind.two_scalars v w x y v_is w_is h) =
      subst (λ (b : Bool). AreSame (Keys v w b)) (sym (at_layers v w _ _ v_is w_is ∙ scalar_scalar R x y))
      (law.scalars v w x y (same_scalars x y) v_is w_is (scalars_are_same x y h))
  same_keys (kind.null_before v w ms v_is w_is) =
      subst (λ (b : Bool). AreSame (Keys v w b)) (sym (same_at R v w _ _ (ap (out-Value R) v_is ∙ outs-Scalar scalar.Null) (ap (out-Value R) w_is ∙ outs-Rec ms)))
      (law.null_before v w ms v_is w_is)
  same_keys (kind.null_behind v w ms v_is w_is) =
      subst (λ (b : Bool). AreSame (Keys v w b)) (sym (same_at R v w _ _ (ap (out-Value R) v_is ∙ outs-Rec ms) (ap (out-Value R) w_is ∙ outs-Scalar scalar.Null)))
      (law.null_behind v w ms v_is w_is)
  same_keys (kind.two_records v w ms ns v_is w_is names each) =
      subst (λ (b : Bool). AreSame (Keys v w b)) (sym (at_layers v w _ _ v_is w_is ∙ record_record R ms ns))
      (law.records v w ms ns (pointwise same_member ms ns) v_is w_is
      (members_are_same ms ns names (λ i m n there here. same_keys (each i m n there here))))

  -- ---- items

  read : (vs : List (Value R)) → Every (IsScalarThat is_number) vs → ReadAs vs (numbers vs)
  read [] each = law.no_item
  read (v ∷ vs) each = by (each 0 v refl) (read vs (λ i w there. each (suc i) w there)) where
    by : IsScalarThat is_number v → ReadAs vs (numbers vs) → ReadAs (v ∷ vs) (numbers (v ∷ vs))
    by (scalar.Int n, is, h) rest =
        subst (λ (layer : Value-F R (Value R)). ReadAs (v ∷ vs) (cons_option (number_in layer) (numbers vs)))
        (sym (ap (out-Value R) is ∙ outs-Scalar (scalar.Int n))) (law.an_int n v vs (numbers vs) is rest)
    by (scalar.Null, is, h) rest =
        subst (λ (layer : Value-F R (Value R)). ReadAs (v ∷ vs) (cons_option (number_in layer) (numbers vs)))
        (sym (ap (out-Value R) is ∙ outs-Scalar scalar.Null)) (law.a_null v vs (numbers vs) is rest)
    by (s, is, h) rest = absurd (true≢false (sym h))

  enumerated : (world : World R) (v : Value R) → IsEnumerable v → EnumeratedAs v (items_of world (out-Value R v))
  enumerated world v (kind.a_sequence vs e is) =
      subst (EnumeratedAs v) (sym (ap (items_of world) (ap (out-Value R) is ∙ outs-Seq vs e))) (law.of_sequence vs e is)
  enumerated world v (kind.a_group key vs is) =
      subst (EnumeratedAs v) (sym (ap (items_of world) (ap (out-Value R) is ∙ outs-Group key vs))) (law.of_group key vs is)

  default_there : (layer : Ty-F Ty) → has_default layer ≡ true → IsDefault {R = R} layer (default_layer layer)
  default_there Ty-F.Int h = law.zero_of_int
  default_there Ty-F.IntN h = law.null_of_nullable
  default_there Ty-F.Bool h = law.false_of_bool
  default_there Ty-F.Str h = law.null_of_text
  default_there Ty-F.Null h = law.null_of_null
  default_there (Ty-F.Row n) h = law.null_of_row n
  default_there (Ty-F.Rec ms) h = law.null_of_record ms
  default_there layer h = absurd (true≢false (sym h))

  null_of_layer : (world : World R) (layer : Value-F R (Value R)) → is_null_value world layer ≡ true → layer ≡ Value-F.Scalar scalar.Null
  null_of_layer world (Value-F.Scalar scalar.Null) h = refl
  null_of_layer world layer h = absurd (true≢false (sym h))

none_there : (layer : Ty-F Ty) → is_number_type layer ≡ true → IsOfNoNumber layer (if is_int layer then Err fault.InvalidOperation else Ok scalar.Null)
none_there Ty-F.Int h = law.none_of_int
none_there Ty-F.IntN h = law.none_of_nullable
none_there layer h = absurd (true≢false (sym h))

-- ---- the laws

pub pairs_have_parts : (R : Type 0) → law.PairsHaveParts R
pairs_have_parts R v pair_so =
    let is : v ≡ pair pair_so.0 pair_so.1 = pair_so.2 in
    is ∙ sym (ap₂ (λ (a b : Value R). pair a b) (ap first is ∙ first_of_pair pair_so.0 pair_so.1) (ap second is ∙ second_of_pair pair_so.0 pair_so.1))

pub keys_are_same : (R : Type 0) → law.KeysAreSame R
keys_are_same R v w may = same_keys may

pub numbers_are_read : (R : Type 0) → law.NumbersAreRead R
numbers_are_read R vs = (λ each. read vs each, λ each. read vs each, λ each. read vs each)

pub sorts_one_kind : (R : Type 0) → law.SortsOneKind R
sorts_one_kind R world [] slots others alike i k there = absurd (none-some k there)
sorts_one_kind R world (k ∷ ks) slots others alike zero l there = λ v w v_is w_is.
    let same : k ≡ l = same_Some k l there in
    let found = alike.0 v (ap (λ (o : SortKey Form). form_meaning world o.value slots) same ∙ v_is) w (ap (λ (o : SortKey Form). form_meaning world o.value others) same ∙ w_is) in
    (found.0, found.1, found.2, found.3, scalars_stand found.0 found.1 found.4)
sorts_one_kind R world (k ∷ ks) slots others alike (suc i) l there = sorts_one_kind R world ks slots others alike.1 i l there

pub items_are_enumerated : (R : Type 0) → law.ItemsAreEnumerated R
items_are_enumerated R world v may = enumerated world v may

pub defaults_are_there : (R : Type 0) → law.DefaultsAreThere R
defaults_are_there R t = (λ h. default_there (out-Ty t) h, λ h. default_there (out-Ty t) h, λ h. default_there (out-Ty t) h)

pub no_numbers_are_there : law.NoNumbersAreThere
no_numbers_are_there t = (λ h. none_there (out-Ty t) h, λ h. none_there (out-Ty t) h)

pub null_is_null : (R : Type 0) → law.NullIsNull R
null_is_null R world v = (
  λ h. sym (roll-out-Value R v) ∙ ap (roll-Value R) (null_of_layer world (out-Value R v) h) ∙ rolls-Scalar scalar.Null,
  λ is. ap (is_null_value world) (ap (out-Value R) is ∙ outs-Scalar scalar.Null),
)

-- ---- what a form is run on

module _ {R : Type 0} (world : World R) where
  enumerates : (a : Form) (slots : Slots R) → Finds world a slots IsEnumerable → law.IsEnumerated world a slots
  enumerates a slots kinds v is = enumerated world v (kinds v is)

  all_compared : (vs : List (Value R)) → ((v w : Value R) → Among world vs v → Among world vs w → MayBeSame v w) → law.AreAllCompared world vs
  all_compared vs may v w here there = same_keys (may v w here there)

  read_by : (method : Simple) (vs : List (Value R)) → ((v : Value R) → Among world vs v → kind.Takes method v)
      → ((v w : Value R) → Among world vs v → Among world vs w → kind.TakesTwo method v w) → law.IsReadBy world method vs
  read_by simple.Distinct vs each two = all_compared vs two
  read_by simple.Sum vs each two = read vs (λ i v there. each v (i, there))
  read_by simple.Min vs each two = read vs (λ i v there. each v (i, there))
  read_by simple.Max vs each two = read vs (λ i v there. each v (i, there))
  read_by method vs each two = tt

  answered : (method : Simple) (t : Ty) → kind.suits method (out-Ty t) ≡ true → law.IsAnswered world method t
  answered simple.DefaultIfEmpty t suited = default_there (out-Ty t) suited
  answered simple.FirstOrDefault t suited = default_there (out-Ty t) suited
  answered simple.SingleOrDefault t suited = default_there (out-Ty t) suited
  answered simple.Min t suited = none_there (out-Ty t) suited
  answered simple.Max t suited = none_there (out-Ty t) suited
  answered method t suited = tt

  argument : (method : Given) (vs : List (Value R)) (w : Value R) → kind.TakesArgument method w
      → ((v : Value R) → Among world vs v → kind.TakesBeside method w v) → law.IsArgument world method vs w
  argument given.Concat vs w takes beside = enumerated world w takes
  argument given.Union vs w takes beside = enumerated world w takes
  argument given.Intersect vs w takes beside = enumerated world w takes
  argument given.Except vs w takes beside = enumerated world w takes
  argument given.Contains vs w takes beside = λ v there. same_keys (beside v there)
  argument method vs w takes beside = tt

  items_are : (method : Given) (vs : List (Value R)) → ((v w : Value R) → Among world vs v → Among world vs w → kind.TakesTwoItems method v w)
      → law.AreItems world method vs
  items_are given.Union vs two = all_compared vs two
  items_are given.Intersect vs two = all_compared vs two
  items_are given.Except vs two = all_compared vs two
  items_are method vs two = tt

  abbrev RunOn : Run R → Type 0
  RunOn (Runs f slots) = law.IsRunOnKinds world slots (out-Form f)
  RunOn (RunsFields fields slots) = Unit {0}
  RunOn (RunsKeys ks slots) = Unit {0}

  at_layer : (slots : Slots R) (own layer : Form-F Form) → own ≡ layer → law.IsRunOnKinds world slots layer → law.IsRunOnKinds world slots own
  at_layer slots own layer is h = subst (law.IsRunOnKinds world slots) (sym is) h

  runs_on : {r : Run R} → MeetsKinds world r → RunOn r
  runs_on (kind.at_literal c slots) = at_layer slots _ _ (form.outs-Literal c) tt
  runs_on (kind.at_slot n slots v there) = at_layer slots _ _ (form.outs-Slot n) tt
  runs_on (kind.at_table n slots rows there) = at_layer slots _ _ (form.outs-Table n) tt
  runs_on (kind.at_first a slots h kinds) = at_layer slots _ _ (form.outs-First a) (λ v is. pairs_have_parts R v (kinds v is))
  runs_on (kind.at_second a slots h kinds) = at_layer slots _ _ (form.outs-Second a) (λ v is. pairs_have_parts R v (kinds v is))
  runs_on (kind.at_column a n c slots h kinds) = at_layer slots _ _ (form.outs-Column a n c) tt
  runs_on (kind.at_host p a n columns slots h kinds) = at_layer slots _ _ (form.outs-Host p a n columns) tt
  runs_on (kind.at_member a place slots h kinds) = at_layer slots _ _ (form.outs-Member a place) tt
  runs_on (kind.at_key a slots h kinds) = at_layer slots _ _ (form.outs-Key a) tt
  runs_on (kind.at_one o a slots h kinds) =
      at_layer slots _ _ (form.outs-Unary o a) (λ v is. let found = kinds v is in (found.0, found.1, (takes_one_alike o found.0).0 found.2))
  runs_on (kind.at_two o a b slots h k kinds scalars) =
      at_layer slots _ _ (form.outs-Binary o a b)
      (λ v v_is w w_is. let found = kinds v v_is w w_is in (found.0, found.1, found.2, found.3, (takes_two_alike o found.0 found.1).0 found.4))
  runs_on (kind.at_and a b slots h k truths others) = at_layer slots _ _ (form.outs-And a b) tt
  runs_on (kind.at_or a b slots h k truths others) = at_layer slots _ _ (form.outs-Or a b) tt
  runs_on (kind.at_default a b slots h k scalars others) = at_layer slots _ _ (form.outs-Coalesce a b) tt
  runs_on (kind.at_choice c a b slots h k l truths) = at_layer slots _ _ (form.outs-Conditional c a b) tt
  runs_on (kind.at_null_test wanted a slots h kinds) = at_layer slots _ _ (form.outs-IsNull wanted a) tt
  runs_on (kind.at_record fields slots h) = at_layer slots _ _ (form.outs-Record fields) tt
  runs_on (kind.no_field slots) = tt
  runs_on (kind.one_field field fields slots h k) = tt
  runs_on (kind.at_pair a b slots h k) = at_layer slots _ _ (form.outs-Pair a b) tt
  runs_on (kind.at_sequence a slots h kinds) = at_layer slots _ _ (form.outs-Sequence a) (enumerates a slots kinds)
  runs_on (kind.at_simple method t a slots h kinds each suited two) =
      at_layer slots _ _ (form.outs-Simple method t a)
      (enumerates a slots kinds, read_by method (items_in world a slots) each two, answered method t suited)
  runs_on (kind.at_given method a b slots h kinds each k takes others beside two) =
      at_layer slots _ _ (form.outs-Given method a b) (
        enumerates a slots kinds,
        λ w is. argument method (items_in world a slots) w (takes w is) (beside w is),
        items_are method (items_in world a slots ++ items_in world b slots) two,
      )
  runs_on (kind.at_where a f slots h kinds bodies truths) = at_layer slots _ _ (form.outs-Where a f) (enumerates a slots kinds)
  runs_on (kind.at_select a f slots h kinds bodies) = at_layer slots _ _ (form.outs-Select a f) (enumerates a slots kinds)
  runs_on (kind.at_all a f slots h kinds bodies truths) = at_layer slots _ _ (form.outs-All a f) (enumerates a slots kinds)
  runs_on (kind.at_expansion a inner result slots h kinds bodies inner_kinds results) =
      at_layer slots _ _ (form.outs-SelectMany a inner result)
      (enumerates a slots kinds, λ v there. enumerates inner (slots ++ v ∷ []) (inner_kinds v there))
  runs_on (kind.at_join a j slots h kinds k inner_kinds outer outer_keys inner inner_keys results may) =
      at_layer slots _ _ (form.outs-Join a j)
      (enumerates a slots kinds, enumerates j.inner slots inner_kinds, λ v w here there k k_is l l_is. same_keys (may v w here there k k_is l l_is))
  runs_on (kind.at_order a ks slots h kinds keys alike) =
      at_layer slots _ _ (form.outs-OrderBy a ks)
      (enumerates a slots kinds, λ v w here there. sorts_one_kind R world ks (slots ++ v ∷ []) (slots ++ w ∷ []) (alike v w here there))
  runs_on (kind.no_key slots) = tt
  runs_on (kind.one_key k ks slots h scalars others) = tt
  runs_on (kind.at_grouping a key element slots h kinds keys key_kinds elements may) =
      at_layer slots _ _ (form.outs-GroupBy a key element)
      (enumerates a slots kinds, λ v w here there k k_is l l_is. same_keys (may v w here there k k_is l l_is))

pub runs_on_kinds : (R : Type 0) → law.RunsOnKinds R
runs_on_kinds R world f slots meets = runs_on world meets
