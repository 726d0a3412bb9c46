-- Values of a type are of the kind that what works on the type asks of them.
use Rattle.std.proofs.Common.{◌≡◌, ◌∷◌, ◌++◌, ◌&&◌, ◌||◌, ◌⊎◌, inl, inr, if◌then◌else◌, List, [], map, ℕ, zero, suc, Bool, true, false, Some, None, Result, Ok, Err, ap, ap₂, ◌∙◌, sym, refl, subst, true≢false, bytes_eq, codes, slice_get}
use Rattle.std.proofs.lemmas.Bool.{and_parts}
use Rattle.std.proofs.lemmas.Option.{none-some, option_and_then_some, same_Some}
use Rattle.lq_value.specs.SameAndOrder.{IsKey, by_record as key_of_record, by_scalar as key_of_scalar}
use Rattle.lq_value.specs.declared.scalar.Scalar.{Scalar}
use Rattle.lq_value.specs.declared.scalar.Scalar.TheVariants as scalar
use Rattle.lq_value.specs.declared.ty.Ty.{Ty, fold_out-Ty, map-Ty, out-Ty}
use Rattle.lq_value.specs.declared.ty.Ty.TheOpen.{Ty-F}
use Rattle.lq_value.specs.declared.ty.Ty.TheVariants as ty
use Rattle.lq_value.specs.declared.value.Fault.{Fault}
use Rattle.lq_value.specs.declared.value.Value.{Value, out-Value}
use Rattle.lq_value.specs.declared.value.Value.TheOpen.{Value-F}
use Rattle.lq_value.specs.declared.value.Value.TheVariants as value
use Rattle.lq_value.specs.declared.value.Value.TheVariants.{outs-Rec as outs-value-Rec, outs-Scalar}
use Rattle.lq_language.specs.Worlds.{World}
use Rattle.lq_language.specs.OperandMeaning.{items_of, stream_of}
use Rattle.lq_language.specs.ValuesOfTypes.{Every, IsScalarOf}
use Rattle.lq_language.specs.Members.{search_named}
use Rattle.lq_language.specs.Types.{all_members, are_join_keys, are_widened, element_type, is_key, key_step, same_types}
use Rattle.lq_language.specs.OperandTypes.{are_comparable, are_joined, is_bool, is_equality, is_int, is_number, is_scalar, is_text, joined_type, result_type, truth_type}
use Rattle.lq_language.specs.MeaningLaws.{AreMembers, Fits, IsA, IsValueOf, ValueClaim, by_group, by_null_record, by_record, by_row, by_scalar, by_sequence, no_member, one_member}
use Rattle.lq_language.specs.Typing.{are_null_tests, converts, given_type, has_default, if_same, simple_type, takes_null, type_of_operation, widens}
use Rattle.lq_language.specs.declared.methods.Given.{Given}
use Rattle.lq_language.specs.declared.methods.Given.TheVariants as given
use Rattle.lq_language.specs.declared.methods.Simple.{Simple}
use Rattle.lq_language.specs.declared.methods.Simple.TheVariants as simple
use Rattle.lq_language.specs.declared.operation.Op.{Op}
use Rattle.lq_language.specs.declared.operation.Op.TheVariants as op
use Rattle.lq_grammar.specs.declared.syntax.Binary.{Binary}
use Rattle.lq_grammar.specs.declared.syntax.Binary.TheVariants as binary
use Rattle.lq_language.proofs.AlikeStreamLaws.{every_append}
use Rattle.lq_language.proofs.ItemLaws.{every_none}
use Rattle.lq_language.proofs.FindingLaws.{if_by, when_by}
use Rattle.lq_language.proofs.SameTypeLaws.{same_type}
use Rattle.lq_language.proofs.TypedMethodLaws.{stream_alike}
use Rattle.lq_language.proofs.ValueLaws.{Gets, RecordOrNull, RowOrNull, a_record, a_row, group_value, is_plain, no_record, no_row, number_plain, plain_value, record_value, row_value, scalar_is, scalar_plain, sequence_value}
use Rattle.lq_tree.specs.Binding.{is_object, operation_at}
use Rattle.lq_tree.specs.OperandKinds.{IsEnumerable, IsScalar, IsScalarThat, Takes, TakesArgument, TakesItem, a_group, a_sequence, is_count, is_truth, suits, takes_two}
use Rattle.lq_tree.specs.OperandKinds as kind

-- ---- scalars, by the layers of their types

abbrev pub numeric : Ty-F Ty → Bool
numeric Ty-F.Int = true
numeric Ty-F.IntN = true
numeric Ty-F.Null = true
numeric layer = false

abbrev pub textual : Ty-F Ty → Bool
textual Ty-F.Str = true
textual Ty-F.Null = true
textual layer = false

pub number_scalar : (k : Ty-F Ty) → numeric k ≡ true → (x : Scalar) → IsScalarOf k x → kind.is_number x ≡ true
number_scalar Ty-F.Int h (scalar.Int n) fits = refl
number_scalar Ty-F.Int h x fits = absurd fits
number_scalar Ty-F.IntN h (scalar.Int n) fits = refl
number_scalar Ty-F.IntN h scalar.Null fits = refl
number_scalar Ty-F.IntN h x fits = absurd fits
number_scalar Ty-F.Null h scalar.Null fits = refl
number_scalar Ty-F.Null h x fits = absurd fits
number_scalar k h x fits = absurd (true≢false (sym h))

pub text_scalar : (k : Ty-F Ty) → textual k ≡ true → (x : Scalar) → IsScalarOf k x → kind.is_text x ≡ true
text_scalar Ty-F.Str h (scalar.Text t) fits = refl
text_scalar Ty-F.Str h scalar.Null fits = refl
text_scalar Ty-F.Str h x fits = absurd fits
text_scalar Ty-F.Null h scalar.Null fits = refl
text_scalar Ty-F.Null h x fits = absurd fits
text_scalar k h x fits = absurd (true≢false (sym h))

truth_scalar : (k : Ty-F Ty) → is_bool k ≡ true → (x : Scalar) → IsScalarOf k x → is_truth x ≡ true
truth_scalar Ty-F.Bool h (scalar.Bool b) fits = refl
truth_scalar Ty-F.Bool h x fits = absurd fits
truth_scalar k h x fits = absurd (true≢false (sym h))

count_scalar : (k : Ty-F Ty) → is_int k ≡ true → (x : Scalar) → IsScalarOf k x → is_count x ≡ true
count_scalar Ty-F.Int h (scalar.Int n) fits = refl
count_scalar Ty-F.Int h x fits = absurd fits
count_scalar k h x fits = absurd (true≢false (sym h))

pub number_numeric : (k : Ty-F Ty) → is_number k ≡ true → numeric k ≡ true
number_numeric Ty-F.Int h = refl
number_numeric Ty-F.IntN h = refl
number_numeric k h = absurd (true≢false (sym h))

text_textual : (k : Ty-F Ty) → is_text k ≡ true → textual k ≡ true
text_textual Ty-F.Str h = refl
text_textual k h = absurd (true≢false (sym h))

-- what is a scalar's layer
pub text_plain : (k : Ty-F Ty) → is_text k ≡ true → is_plain k ≡ true
text_plain Ty-F.Str h = refl
text_plain k h = absurd (true≢false (sym h))

bool_plain : (k : Ty-F Ty) → is_bool k ≡ true → is_plain k ≡ true
bool_plain Ty-F.Bool h = refl
bool_plain k h = absurd (true≢false (sym h))

int_plain : (k : Ty-F Ty) → is_int k ≡ true → is_plain k ≡ true
int_plain Ty-F.Int h = refl
int_plain k h = absurd (true≢false (sym h))

textual_plain : (k : Ty-F Ty) → textual k ≡ true → is_plain k ≡ true
textual_plain Ty-F.Str h = refl
textual_plain Ty-F.Null h = refl
textual_plain k h = absurd (true≢false (sym h))

-- ---- two operands

-- two layers whose scalars an operator takes together
pub data Alike (k l : Ty-F Ty) : Type 0 where
  numbers : numeric k ≡ true → numeric l ≡ true → Alike k l
  texts : textual k ≡ true → textual l ≡ true → Alike k l
  truths : is_bool k ≡ true → is_bool l ≡ true → Alike k l

comparable_alike : (k l : Ty-F Ty) → are_comparable k l ≡ true → is_object k ≡ false → is_object l ≡ false → Alike k l
comparable_alike Ty-F.Int Ty-F.Int h a b = numbers refl refl
comparable_alike Ty-F.Int Ty-F.IntN h a b = numbers refl refl
comparable_alike Ty-F.Int Ty-F.Null h a b = numbers refl refl
comparable_alike Ty-F.IntN Ty-F.Int h a b = numbers refl refl
comparable_alike Ty-F.IntN Ty-F.IntN h a b = numbers refl refl
comparable_alike Ty-F.IntN Ty-F.Null h a b = numbers refl refl
comparable_alike Ty-F.Bool Ty-F.Bool h a b = truths refl refl
comparable_alike Ty-F.Str Ty-F.Str h a b = texts refl refl
comparable_alike Ty-F.Str Ty-F.Null h a b = texts refl refl
comparable_alike Ty-F.Null Ty-F.Int h a b = numbers refl refl
comparable_alike Ty-F.Null Ty-F.IntN h a b = numbers refl refl
comparable_alike Ty-F.Null Ty-F.Str h a b = texts refl refl
comparable_alike Ty-F.Null Ty-F.Null h a b = numbers refl refl
comparable_alike (Ty-F.Row n) l h a b = absurd (true≢false a)
comparable_alike k (Ty-F.Row n) h a b = absurd (true≢false b)
comparable_alike k l h a b = absurd (true≢false (sym h))

alike_by : (p q r : Bool) → (p ≡ true) ⊎ ((q ≡ true) ⊎ (r ≡ true)) → (p || q || r) ≡ true
alike_by true q r h = refl
alike_by false true r h = refl
alike_by false false true h = refl
alike_by false false false (inl h) = h
alike_by false false false (inr (inl h)) = h
alike_by false false false (inr (inr h)) = h

pub both_so : (p q : Bool) → p ≡ true → q ≡ true → (p && q) ≡ true
both_so p q h k = ap₂ (λ (a b : Bool). a && b) h k

alike_scalars : (k l : Ty-F Ty) → Alike k l → (x y : Scalar) → IsScalarOf k x → IsScalarOf l y → takes_two op.Equal x y ≡ true
alike_scalars k l (numbers h i) x y x_fits y_fits =
    alike_by (kind.is_number x && kind.is_number y) (kind.is_text x && kind.is_text y) (is_truth x && is_truth y)
    (inl (both_so _ _ (number_scalar k h x x_fits) (number_scalar l i y y_fits)))
alike_scalars k l (texts h i) x y x_fits y_fits =
    alike_by (kind.is_number x && kind.is_number y) (kind.is_text x && kind.is_text y) (is_truth x && is_truth y)
    (inr (inl (both_so _ _ (text_scalar k h x x_fits) (text_scalar l i y y_fits))))
alike_scalars k l (truths h i) x y x_fits y_fits =
    alike_by (kind.is_number x && kind.is_number y) (kind.is_text x && kind.is_text y) (is_truth x && is_truth y)
    (inr (inr (both_so _ _ (truth_scalar k h x x_fits) (truth_scalar l i y y_fits))))

sort_alike : (k : Ty-F Ty) → is_scalar k ≡ true → Alike k k
sort_alike Ty-F.Int h = numbers refl refl
sort_alike Ty-F.IntN h = numbers refl refl
sort_alike Ty-F.Bool h = truths refl refl
sort_alike Ty-F.Str h = texts refl refl
sort_alike k h = absurd (true≢false (sym h))

no_null_tests : (k l : Ty-F Ty) → is_object k ≡ false → is_object l ≡ false → are_null_tests k l ≡ false
no_null_tests (Ty-F.Rec ms) Ty-F.Null a b = absurd (true≢false a)
no_null_tests (Ty-F.Group k t) Ty-F.Null a b = absurd (true≢false a)
no_null_tests Ty-F.Null (Ty-F.Rec ms) a b = absurd (true≢false b)
no_null_tests Ty-F.Null (Ty-F.Group k t) a b = absurd (true≢false b)
no_null_tests k l a b = refl

told_by : (c d : Bool) (r : Ty) → (if c then Some ty.Bool else truth_type d) ≡ Some r → ((c || d) ≡ true) × (ty.Bool ≡ r)
told_by true d r h = (refl, same_Some ty.Bool r h)
told_by false true r h = (refl, same_Some ty.Bool r h)
told_by false false r h = absurd (none-some r h)

pub joined_sides : (k l : Ty-F Ty) → are_joined k l ≡ true → (textual k ≡ true) × (textual l ≡ true) × ((is_text k || is_text l) ≡ true)
joined_sides Ty-F.Str Ty-F.Str h = (refl, refl, refl)
joined_sides Ty-F.Str Ty-F.Null h = (refl, refl, refl)
joined_sides Ty-F.Null Ty-F.Str h = (refl, refl, refl)
joined_sides k l h = absurd (true≢false (sym h))

pub number_no_text : (k : Ty-F Ty) → is_number k ≡ true → is_text k ≡ false
number_no_text Ty-F.Int h = refl
number_no_text Ty-F.IntN h = refl
number_no_text k h = absurd (true≢false (sym h))

-- a sign between numbers
signed_numbers : (sign : Binary) (k l : Ty-F Ty) → is_equality sign ≡ false → is_number k ≡ true → is_number l ≡ true → (x y : Scalar)
    → (kind.is_number x && kind.is_number y) ≡ true → takes_two (operation_at sign k l) x y ≡ true
signed_numbers binary.Add k l other h i x y are =
    ap (λ (b : Bool). takes_two (if b then op.Concat else op.Add) x y) (ap₂ (λ (a b : Bool). a || b) (number_no_text k h) (number_no_text l i)) ∙ are
signed_numbers binary.Equal k l other h i x y are = absurd (true≢false other)
signed_numbers binary.NotEqual k l other h i x y are = absurd (true≢false other)
signed_numbers sign k l other h i x y are = are

-- the types of scalars that a sign takes: both are types of scalars, and it works on the scalars of these
abbrev pub TakesSigned : Binary → Ty-F Ty → Ty-F Ty → Type 0
TakesSigned sign k l =
    (is_plain k ≡ true) × (is_plain l ≡ true) × ((x y : Scalar) → IsScalarOf k x → IsScalarOf l y → takes_two (operation_at sign k l) x y ≡ true)

signed_joined : (sign : Binary) (k l : Ty-F Ty) (r : Ty) → joined_type sign k l ≡ Some r → TakesSigned sign k l
signed_joined binary.Add k l r h =
    if_by (are_joined k l) ty.Str r h
    (λ joined is. let sides = joined_sides k l joined in (
      textual_plain k sides.0,
      textual_plain l sides.1,
      λ x y x_fits y_fits. ap (λ (b : Bool). takes_two (if b then op.Concat else op.Add) x y) sides.2
          ∙ both_so _ _ (text_scalar k sides.0 x x_fits) (text_scalar l sides.1 y y_fits),
    ))
signed_joined sign k l r h = absurd (none-some r h)

pub alike_plain : (k l : Ty-F Ty) → Alike k l → (is_plain k ≡ true) × (is_plain l ≡ true)
alike_plain k l (numbers h i) = (numeric_plain k h, numeric_plain l i) where
  numeric_plain : (k : Ty-F Ty) → numeric k ≡ true → is_plain k ≡ true
  numeric_plain Ty-F.Int h = refl
  numeric_plain Ty-F.IntN h = refl
  numeric_plain Ty-F.Null h = refl
  numeric_plain k h = absurd (true≢false (sym h))
alike_plain k l (texts h i) = (textual_plain k h, textual_plain l i)
alike_plain k l (truths h i) = (bool_plain k h, bool_plain l i)

equal_taken : (sign : Binary) (k l : Ty-F Ty) → is_equality sign ≡ true → (x y : Scalar) → takes_two op.Equal x y ≡ true
    → takes_two (operation_at sign k l) x y ≡ true
equal_taken binary.Equal k l h x y are = are
equal_taken binary.NotEqual k l h x y are = are
equal_taken binary.Add k l h x y are = absurd (true≢false (sym h))
equal_taken sign k l h x y are = absurd (true≢false (sym h))

-- ---- what the existence of a result says of the operands' types

pub type_of_equality : (sign : Binary) (k l : Ty-F Ty) (r : Ty) → is_equality sign ≡ true → type_of_operation sign k l ≡ Some r
    → ((are_null_tests k l || are_comparable k l) ≡ true) × (ty.Bool ≡ r)
type_of_equality binary.Equal k l r same h = told_by (are_null_tests k l) (are_comparable k l) r h
type_of_equality binary.NotEqual k l r same h = told_by (are_null_tests k l) (are_comparable k l) r h
type_of_equality sign k l r same h = absurd (true≢false (sym same))

-- two numbers, or texts that are joined
abbrev pub Computes : Binary → Ty-F Ty → Ty-F Ty → Ty → Type 0
Computes sign k l r = ((is_number k ≡ true) × (is_number l ≡ true) × (result_type sign k l ≡ r)) ⊎ (joined_type sign k l ≡ Some r)

pub type_of_computed : (sign : Binary) (k l : Ty-F Ty) (r : Ty) → is_equality sign ≡ false → type_of_operation sign k l ≡ Some r → Computes sign k l r
type_of_computed sign k l r other h =
    by (is_number k && is_number l) refl
    (sym (ap (λ (c : Bool). if c && are_null_tests k l then Some ty.Bool
    else (if c then truth_type (are_comparable k l) else (if is_number k && is_number l then Some (result_type sign k l) else joined_type sign k l))) other) ∙ h)
  where
    by : (b : Bool) → (is_number k && is_number l) ≡ b → (if b then Some (result_type sign k l) else joined_type sign k l) ≡ Some r → Computes sign k l r
    by true so found = let are = and_parts (is_number k) (is_number l) so in inl (are.0, are.1, same_Some _ r found)
    by false so found = inr found

pub computed_plain : (sign : Binary) (k l : Ty-F Ty) (r : Ty) → Computes sign k l r → (is_plain k ≡ true) × (is_plain l ≡ true)
computed_plain sign k l r (inl are) = (number_plain k are.0, number_plain l are.1)
computed_plain binary.Add k l r (inr found) =
    if_by (are_joined k l) ty.Str r found (λ joined is. let sides = joined_sides k l joined in (textual_plain k sides.0, textual_plain l sides.1))
computed_plain sign k l r (inr found) = absurd (none-some r found)

pub compared_alike : (k l : Ty-F Ty) → (are_null_tests k l || are_comparable k l) ≡ true → is_object k ≡ false → is_object l ≡ false → Alike k l
compared_alike k l h a b = comparable_alike k l (sym (ap (λ (c : Bool). c || are_comparable k l) (no_null_tests k l a b)) ∙ h) a b

pub sign_taken : (sign : Binary) (k l : Ty-F Ty) (r : Ty) → is_object k ≡ false → is_object l ≡ false → type_of_operation sign k l ≡ Some r
    → TakesSigned sign k l
sign_taken sign k l r a b h = by (is_equality sign) refl where
  signed : is_equality sign ≡ false → Computes sign k l r → TakesSigned sign k l
  signed other (inl are) = (
    number_plain k are.0,
    number_plain l are.1,
    λ x y x_fits y_fits. signed_numbers sign k l other are.0 are.1 x y
        (both_so _ _ (number_scalar k (number_numeric k are.0) x x_fits) (number_scalar l (number_numeric l are.1) y y_fits)),
  )
  signed other (inr found) = signed_joined sign k l r found

  by : (c : Bool) → is_equality sign ≡ c → TakesSigned sign k l
  by true same =
      let alike = compared_alike k l (type_of_equality sign k l r same h).0 a b in
      let plain = alike_plain k l alike in
      (plain.0, plain.1, λ x y x_fits y_fits. equal_taken sign k l same x y (alike_scalars k l alike x y x_fits y_fits))
  by false other = signed other (type_of_computed sign k l r other h)

-- what holds of the three searches in a text holds of the one that a name refers to
pub search_holds : (P : Op → Type 0) (o : Op) (m : List ℕ) → search_named m ≡ Some o → P op.StartsWith → P op.EndsWith → P op.Contains → P o
search_holds P o m h starts ends has = by (bytes_eq m (codes "StartsWith")) (bytes_eq m (codes "EndsWith")) (bytes_eq m (codes "Contains")) h where
  by : (a b c : Bool) → (if a then Some op.StartsWith else (if b then Some op.EndsWith else (if c then Some op.Contains else None))) ≡ Some o → P o
  by true b c is = subst P (same_Some op.StartsWith o is) starts
  by false true c is = subst P (same_Some op.EndsWith o is) ends
  by false false true is = subst P (same_Some op.Contains o is) has
  by false false false is = absurd (none-some o is)

pub search_taken : (o : Op) (m : List ℕ) → search_named m ≡ Some o → (x y : Scalar) → (kind.is_text x && kind.is_text y) ≡ true → takes_two o x y ≡ true
search_taken o m h x y are = search_holds (λ p. takes_two p x y ≡ true) o m h are are are

-- ---- the types that methods name

pub suited : (method : Simple) (t r : Ty) → simple_type method t ≡ Some r → suits method (out-Ty t) ≡ true
suited simple.DefaultIfEmpty t r h = when_by (has_default (out-Ty t)) _ r h (λ has is. has)
suited simple.FirstOrDefault t r h = when_by (has_default (out-Ty t)) _ r h (λ has is. has)
suited simple.SingleOrDefault t r h = when_by (has_default (out-Ty t)) _ r h (λ has is. has)
suited simple.Min t r h = when_by (is_number (out-Ty t)) _ r h (λ number is. number)
suited simple.Max t r h = when_by (is_number (out-Ty t)) _ r h (λ number is. number)
suited method t r h = refl

-- ---- keys

key_out : (t : Ty) (layer : Ty-F Ty) → out-Ty t ≡ layer → is_key t ≡ key_step (map-Ty Ty Bool is_key layer)
unfolding is_key
key_out t layer is = fold_out-Ty Bool key_step t ∙ ap (λ (l : Ty-F Ty). key_step (map-Ty Ty Bool is_key l)) is

module _ {R : Type 0} (world : World R) where
  abbrev pub Val : Ty → Value R → Type 0
  Val = IsValueOf world

  -- ---- scalars that pass a test

  pub such : (test : Scalar → Bool) (t : Ty) (v : Value R) → is_plain (out-Ty t) ≡ true → ((x : Scalar) → IsScalarOf (out-Ty t) x → test x ≡ true) → Val t v
      → IsScalarThat test v
  such test t v plain passes fits = let found = plain_value world t v plain fits in (found.0, found.1, passes found.0 found.2)

  pub number_value : (t : Ty) (v : Value R) → is_number (out-Ty t) ≡ true → Val t v → IsScalarThat kind.is_number v
  number_value t v h = such kind.is_number t v (number_plain (out-Ty t) h) (number_scalar (out-Ty t) (number_numeric (out-Ty t) h))

  pub text_value : (t : Ty) (v : Value R) → is_text (out-Ty t) ≡ true → Val t v → IsScalarThat kind.is_text v
  text_value t v h = such kind.is_text t v (text_plain (out-Ty t) h) (text_scalar (out-Ty t) (text_textual (out-Ty t) h))

  pub truth_value : (t : Ty) (v : Value R) → is_bool (out-Ty t) ≡ true → Val t v → IsScalarThat is_truth v
  truth_value t v h = such is_truth t v (bool_plain (out-Ty t) h) (truth_scalar (out-Ty t) h)

  pub count_value : (t : Ty) (v : Value R) → is_int (out-Ty t) ≡ true → Val t v → IsScalarThat is_count v
  count_value t v h = such is_count t v (int_plain (out-Ty t) h) (count_scalar (out-Ty t) h)

  pub scalar_value : (t : Ty) (v : Value R) → is_scalar (out-Ty t) ≡ true → Val t v → IsScalar v
  scalar_value t v h fits = let found = plain_value world t v (scalar_plain (out-Ty t) h) fits in (found.0, found.1)

  -- two scalars of one type that may be sorted by
  pub alike_values : (t : Ty) (v w : Value R) → is_scalar (out-Ty t) ≡ true → Val t v → Val t w
      → (x : Scalar) × (y : Scalar) × (v ≡ value.Scalar x) × (w ≡ value.Scalar y) × (takes_two op.Equal x y ≡ true)
  alike_values t v w h v_fits w_fits =
      let x = plain_value world t v (scalar_plain (out-Ty t) h) v_fits in
      let y = plain_value world t w (scalar_plain (out-Ty t) h) w_fits in
      (x.0, y.0, x.1, y.1, alike_scalars (out-Ty t) (out-Ty t) (sort_alike (out-Ty t) h) x.0 y.0 x.2 y.2)

  -- ---- keys

  abbrev Keys : ValueClaim R → Type 0
  Keys (IsA t v) = is_key t ≡ true → IsKey v
  Keys (AreMembers ms vs) =
      all_members (map (λ (m : List ℕ × Ty). (m.0, is_key m.1)) ms) ≡ true → (i : ℕ) (m : List ℕ × Value R) → slice_get vs i ≡ Some m → IsKey m.1

  no_key : (t : Ty) (layer : Ty-F Ty) → out-Ty t ≡ layer → key_step (map-Ty Ty Bool is_key layer) ≡ false → is_key t ≡ true → ⊥
  no_key t layer is none h = true≢false (sym h ∙ key_out t layer is ∙ none)

  next_key : (n : List ℕ) (v : Value R) (vs : List (List ℕ × Value R)) → IsKey v
      → ((i : ℕ) (m : List ℕ × Value R) → slice_get vs i ≡ Some m → IsKey m.1) → (i : ℕ) (m : List ℕ × Value R)
      → slice_get ((n, v) ∷ vs) i ≡ Some m → IsKey m.1
  next_key n v vs here rest zero m h = subst (λ (x : List ℕ × Value R). IsKey x.1) (same_Some (n, v) m h) here
  next_key n v vs here rest (suc i) m h = rest i m h

  keys : {claim : ValueClaim R} → Fits world claim → Keys claim
  keys (by_scalar t s fits) = λ h. key_of_scalar (value.Scalar s) s refl
  keys (by_null_record t ms is) = λ h. key_of_scalar (value.Scalar scalar.Null) scalar.Null refl
  keys (by_row t n r is cells) = λ h. absurd (no_key t (Ty-F.Row n) is refl h)
  keys (by_record t ms vs is fits) = λ h. key_of_record (value.Rec vs) vs refl (keys fits (sym (key_out t (Ty-F.Rec ms) is) ∙ h))
  keys (by_group t k u key vs is fits items) = λ h. absurd (no_key t (Ty-F.Group k u) is refl h)
  keys (by_sequence t u vs e is items) = λ h. absurd (no_key t (Ty-F.Seq u) is refl h)
  keys no_member = λ h i m there. absurd (none-some m there)
  keys (one_member n t v ms vs fits others) =
      λ h. let are = and_parts (is_key t) (all_members (map (λ (m : List ℕ × Ty). (m.0, is_key m.1)) ms)) h in
      next_key n v vs (keys fits are.0) (keys others are.1)

  pub key_value : (t : Ty) (v : Value R) → is_key t ≡ true → Val t v → IsKey v
  key_value t v h fits = keys fits h

  -- ---- two keys of one type

  abbrev Names : ValueClaim R → Type 0
  Names (IsA t v) = Unit {0}
  Names (AreMembers ms vs) = map (λ (m : List ℕ × Value R). m.0) vs ≡ map (λ (m : List ℕ × Ty). m.0) ms

  names : {claim : ValueClaim R} → Fits world claim → Names claim
  names (by_scalar t s fits) = tt
  names (by_null_record t ms is) = tt
  names (by_row t n r is cells) = tt
  names (by_record t ms vs is fits) = tt
  names (by_group t k u key vs is fits items) = tt
  names (by_sequence t u vs e is items) = tt
  names no_member = refl
  names (one_member n t v ms vs fits others) = ap (λ ns. n ∷ ns) (names others)

  abbrev OneKind : ValueClaim R → Type 0
  OneKind (IsA t v) = is_key t ≡ true → (w : Value R) → Val t w → kind.MayBeSame v w
  OneKind (AreMembers ms vs) =
      all_members (map (λ (m : List ℕ × Ty). (m.0, is_key m.1)) ms) ≡ true → (ws : List (List ℕ × Value R)) → Fits world (AreMembers ms ws)
      → (i : ℕ) (m n : List ℕ × Value R) → slice_get vs i ≡ Some m → slice_get ws i ≡ Some n → kind.MayBeSame m.1 n.1

  scalar_kind : (t : Ty) (layer : Ty-F Ty) (x : Scalar) → out-Ty t ≡ layer → is_key t ≡ true → IsScalarOf layer x → Alike layer layer × (is_plain layer ≡ true)
  scalar_kind t Ty-F.Int x is h fits = (numbers refl refl, refl)
  scalar_kind t Ty-F.IntN x is h fits = (numbers refl refl, refl)
  scalar_kind t Ty-F.Bool x is h fits = (truths refl refl, refl)
  scalar_kind t Ty-F.Str x is h fits = (texts refl refl, refl)
  scalar_kind t Ty-F.Null x is h fits = (numbers refl refl, refl)
  scalar_kind t (Ty-F.Row n) x is h fits = absurd (no_key t (Ty-F.Row n) is refl h)
  scalar_kind t (Ty-F.Rec ms) x is h fits = absurd fits
  scalar_kind t (Ty-F.Seq u) x is h fits = absurd fits
  scalar_kind t (Ty-F.Group k u) x is h fits = absurd fits

  first_member : (n : List ℕ) (t : Ty) (v : Value R) (ms : List (List ℕ × Ty)) (vs : List (List ℕ × Value R))
      → ((w : Value R) → Val t w → kind.MayBeSame v w)
      → ((ws : List (List ℕ × Value R)) → Fits world (AreMembers ms ws) → (i : ℕ) (m o : List ℕ × Value R) → slice_get vs i ≡ Some m → slice_get ws i ≡ Some o
      → kind.MayBeSame m.1 o.1)
      → (ws : List (List ℕ × Value R)) → Fits world (AreMembers ((n, t) ∷ ms) ws) → (i : ℕ) (m o : List ℕ × Value R) → slice_get ((n, v) ∷ vs) i ≡ Some m
      → slice_get ws i ≡ Some o → kind.MayBeSame m.1 o.1
  first_member n t v ms vs here rest _ (one_member _ _ w _ ws fits others) zero m o m_is o_is =
      subst (λ (x : List ℕ × Value R). kind.MayBeSame x.1 o.1) (same_Some (n, v) m m_is)
      (subst (λ (y : List ℕ × Value R). kind.MayBeSame v y.1) (same_Some (n, w) o o_is) (here w fits))
  first_member n t v ms vs here rest _ (one_member _ _ w _ ws fits others) (suc i) m o m_is o_is = rest ws others i m o m_is o_is

  one_kind : {claim : ValueClaim R} → Fits world claim → OneKind claim
  one_kind (by_scalar t s fits) = λ h w w_fits.
      let alike = scalar_kind t (out-Ty t) s refl h fits in
      let y = plain_value world t w alike.1 w_fits in
      kind.two_scalars _ w s y.0 refl y.1 (alike_scalars (out-Ty t) (out-Ty t) alike.0 s y.0 fits y.2)
  one_kind (by_null_record t ms is) = λ h w w_fits. null_beside w (record_value world t ms w is w_fits) where
    null_beside : {ms : List (List ℕ × Ty)} (w : Value R) → RecordOrNull world ms w → kind.MayBeSame (value.Scalar scalar.Null) w
    null_beside w (a_record vs members same) = kind.null_before _ w vs refl same
    null_beside w (no_record same) = kind.two_scalars _ w scalar.Null scalar.Null refl same refl
  one_kind (by_row t n r is cells) = λ h w w_fits. absurd (no_key t (Ty-F.Row n) is refl h)
  one_kind (by_record t ms vs is fits) = λ h w w_fits.
      record_beside ms vs w (names fits) (one_kind fits (sym (key_out t (Ty-F.Rec ms) is) ∙ h)) (record_value world t ms w is w_fits)
    where
      record_beside : (ms : List (List ℕ × Ty)) (vs : List (List ℕ × Value R)) (w : Value R)
          → map (λ (m : List ℕ × Value R). m.0) vs ≡ map (λ (m : List ℕ × Ty). m.0) ms
          → ((ws : List (List ℕ × Value R)) → Fits world (AreMembers ms ws) → (i : ℕ) (m n : List ℕ × Value R) → slice_get vs i ≡ Some m
          → slice_get ws i ≡ Some n → kind.MayBeSame m.1 n.1)
          → RecordOrNull world ms w → kind.MayBeSame (value.Rec vs) w
      record_beside ms vs w named pairs (a_record ws members same) = kind.two_records _ w vs ws refl same (named ∙ sym (names members)) (pairs ws members)
      record_beside ms vs w named pairs (no_record same) = kind.null_behind _ w vs refl same
  one_kind (by_group t k u key vs is fits items) = λ h w w_fits. absurd (no_key t (Ty-F.Group k u) is refl h)
  one_kind (by_sequence t u vs e is items) = λ h w w_fits. absurd (no_key t (Ty-F.Seq u) is refl h)
  one_kind no_member = λ h ws fits i m n m_is n_is. absurd (none-some m m_is)
  one_kind (one_member n t v ms vs fits others) =
      λ h. let are = and_parts (is_key t) (all_members (map (λ (m : List ℕ × Ty). (m.0, is_key m.1)) ms)) h in
      first_member n t v ms vs (one_kind fits are.0) (one_kind others are.1)

  pub same_kind : (t : Ty) (v w : Value R) → is_key t ≡ true → Val t v → Val t w → kind.MayBeSame v w
  same_kind t v w h v_fits w_fits = one_kind v_fits h w w_fits

  plain_key : (t : Ty) (v : Value R) → is_plain (out-Ty t) ≡ true → Val t v → IsKey v
  plain_key t v plain fits = let found = plain_value world t v plain fits in key_of_scalar v found.0 found.1

  widens_plain : (k l : Ty-F Ty) → widens k l ≡ true → is_plain k ≡ true
  widens_plain Ty-F.Int l h = refl
  widens_plain Ty-F.Null l h = refl
  widens_plain k l h = absurd (true≢false (sym h))

  converted_key : (u t : Ty) (v : Value R) → converts u t ≡ true → is_key t ≡ true → Val u v → IsKey v
  converted_key u t v h key fits = by (same_types u t) refl h where
    by : (c : Bool) → same_types u t ≡ c → (c || widens (out-Ty u) (out-Ty t)) ≡ true → IsKey v
    by true same found = key_value u v (ap is_key (same_type u t same) ∙ key) fits
    by false same found = plain_key u v (widens_plain (out-Ty u) (out-Ty t) found) fits

  widened_plain : (k l : Ty-F Ty) → are_widened k l ≡ true → (is_plain k ≡ true) × (is_plain l ≡ true)
  widened_plain Ty-F.Int Ty-F.IntN h = (refl, refl)
  widened_plain Ty-F.IntN Ty-F.Int h = (refl, refl)
  widened_plain k l h = absurd (true≢false (sym h))

  -- the two keys of a join
  pub join_keys : (s t : Ty) → are_join_keys (Some s) (Some t) ≡ true → ((v : Value R) → Val s v → IsKey v) × ((v : Value R) → Val t v → IsKey v)
  join_keys s t h = by (is_key s) (same_types s t) refl refl h where
    widened : are_widened (out-Ty s) (out-Ty t) ≡ true → ((v : Value R) → Val s v → IsKey v) × ((v : Value R) → Val t v → IsKey v)
    widened found = let plain = widened_plain (out-Ty s) (out-Ty t) found in ((λ v fits. plain_key s v plain.0 fits), (λ v fits. plain_key t v plain.1 fits))

    by : (a b : Bool) → is_key s ≡ a → same_types s t ≡ b → ((a && b) || are_widened (out-Ty s) (out-Ty t)) ≡ true
        → ((v : Value R) → Val s v → IsKey v) × ((v : Value R) → Val t v → IsKey v)
    by true true key same found =
        ((λ v fits. key_value s v key fits), (λ v fits. key_value t v (ap is_key (sym (same_type s t same)) ∙ key) fits))
    by true false key same found = widened found
    by false b key same found = widened found

  -- a number beside a number
  widened_kind : (s t : Ty) → are_widened (out-Ty s) (out-Ty t) ≡ true → (v w : Value R) → Val s v → Val t w → kind.MayBeSame v w
  widened_kind s t h v w v_fits w_fits =
      let plain = widened_plain (out-Ty s) (out-Ty t) h in
      let x = plain_value world s v plain.0 v_fits in let y = plain_value world t w plain.1 w_fits in
      kind.two_scalars v w x.0 y.0 x.1 y.1 (alike_scalars (out-Ty s) (out-Ty t) (widened_alike (out-Ty s) (out-Ty t) h) x.0 y.0 x.2 y.2)
    where
      widened_alike : (k l : Ty-F Ty) → are_widened k l ≡ true → Alike k l
      widened_alike Ty-F.Int Ty-F.IntN h = numbers refl refl
      widened_alike Ty-F.IntN Ty-F.Int h = numbers refl refl
      widened_alike k l h = absurd (true≢false (sym h))

  pub join_kind : (s t : Ty) → are_join_keys (Some s) (Some t) ≡ true → (v w : Value R) → Val s v → Val t w → kind.MayBeSame v w
  join_kind s t h v w v_fits w_fits = by (is_key s) (same_types s t) refl refl h where
    by : (a b : Bool) → is_key s ≡ a → same_types s t ≡ b → ((a && b) || are_widened (out-Ty s) (out-Ty t)) ≡ true → kind.MayBeSame v w
    by true true key same found = same_kind s v w key v_fits (subst (λ (u : Ty). Val u w) (sym (same_type s t same)) w_fits)
    by true false key same found = widened_kind s t found v w v_fits w_fits
    by false b key same found = widened_kind s t found v w v_fits w_fits

  -- a value of a type that converts to that of a key
  widened_beside : (u t : Ty) (k l : Ty-F Ty) → out-Ty u ≡ k → out-Ty t ≡ l → widens k l ≡ true → is_key t ≡ true → (v w : Value R) → Val u v → Val t w
      → kind.MayBeSame v w
  widened_beside u t Ty-F.Int Ty-F.IntN u_is t_is h key v w v_fits w_fits = widened_kind u t (ap₂ are_widened u_is t_is) v w v_fits w_fits
  widened_beside u t Ty-F.Null l u_is t_is h key v w v_fits w_fits =
      let x = plain_value world u v (ap is_plain u_is) v_fits in
      subst (λ (y : Value R). kind.MayBeSame y w) (sym (x.1 ∙ ap value.Scalar (null_is x.0 (subst (λ (layer : Ty-F Ty). IsScalarOf layer x.0) u_is x.2))))
      (same_kind t (value.Scalar scalar.Null) w key (null_value t l t_is h) w_fits)
    where
      null_is : (s : Scalar) → IsScalarOf Ty-F.Null s → s ≡ scalar.Null
      null_is scalar.Null fits = refl
      null_is s fits = absurd fits

      null_value : (t : Ty) (l : Ty-F Ty) → out-Ty t ≡ l → takes_null l ≡ true → Val t (value.Scalar scalar.Null)
      null_value t Ty-F.IntN is h = scalar_is world t Ty-F.IntN scalar.Null is tt
      null_value t Ty-F.Str is h = scalar_is world t Ty-F.Str scalar.Null is tt
      null_value t (Ty-F.Row n) is h = scalar_is world t (Ty-F.Row n) scalar.Null is tt
      null_value t (Ty-F.Rec ms) is h = by_null_record t ms is
      null_value t l is h = absurd (true≢false (sym h))
  widened_beside u t k l u_is t_is h key v w v_fits w_fits = absurd (true≢false (sym h))

  converted_kind : (u t : Ty) → converts u t ≡ true → is_key t ≡ true → (v w : Value R) → Val u v → Val t w → kind.MayBeSame v w
  converted_kind u t h key v w v_fits w_fits = by (same_types u t) refl h where
    by : (c : Bool) → same_types u t ≡ c → (c || widens (out-Ty u) (out-Ty t)) ≡ true → kind.MayBeSame v w
    by true same found = same_kind t v w key (subst (λ (x : Ty). Val x v) (same_type u t same) v_fits) w_fits
    by false same found = widened_beside u t (out-Ty u) (out-Ty t) refl refl found key v w v_fits w_fits

  pub beside_taken : (method : Given) (t u r : Ty) → given_type method t (Some u) ≡ Some r → (w v : Value R) → Val u w → Val t v → kind.TakesBeside method w v
  beside_taken given.Contains t u r h w v w_fits v_fits =
      when_by (is_key t) _ r h (λ key found. when_by (converts u t) _ r found (λ may is. converted_kind u t may key w v w_fits v_fits))
  beside_taken method t u r h w v w_fits v_fits = tt

  pub two_taken : (method : Simple) (t r : Ty) → simple_type method t ≡ Some r → (v w : Value R) → Val t v → Val t w → kind.TakesTwo method v w
  two_taken simple.Distinct t r h v w v_fits w_fits = when_by (is_key t) _ r h (λ key is. same_kind t v w key v_fits w_fits)
  two_taken method t r h v w v_fits w_fits = tt

  -- ---- what is enumerated, and what is asked whether it is null

  enumerable_by : (t u : Ty) (layer : Ty-F Ty) → out-Ty t ≡ layer → element_type layer ≡ Some u → (v : Value R) → Val t v → IsEnumerable v
  enumerable_by t u (Ty-F.Seq x) is element v fits = let found = sequence_value world t x v is fits in a_sequence found.0 found.1 found.2
  enumerable_by t u (Ty-F.Group k x) is element v fits = let found = group_value world t k x v is fits in a_group found.0 found.1 found.2
  enumerable_by t u layer is element v fits = absurd (none-some u element)

  pub enumerable_value : (t u : Ty) → element_type (out-Ty t) ≡ Some u → (v : Value R) → Val t v → IsEnumerable v
  enumerable_value t u element v fits = enumerable_by t u (out-Ty t) refl element v fits

  object_by : (t : Ty) (layer : Ty-F Ty) → out-Ty t ≡ layer → is_object layer ≡ true → (v : Value R) → Val t v → kind.IsObject v
  object_by t (Ty-F.Row n) is object v fits = by (row_value world t n v is fits) where
    by : RowOrNull world n v → kind.IsObject v
    by (a_row r cells same) = kind.a_row r same
    by (no_row same) = kind.no_object same
  object_by t (Ty-F.Rec ms) is object v fits = by (record_value world t ms v is fits) where
    by : RecordOrNull world ms v → kind.IsObject v
    by (a_record vs members same) = kind.a_record vs same
    by (no_record same) = kind.no_object same
  object_by t (Ty-F.Group k u) is object v fits = let found = group_value world t k u v is fits in kind.a_grouped found.0 found.1 found.2
  object_by t layer is object v fits = absurd (true≢false (sym object))

  pub object_value : (t : Ty) → is_object (out-Ty t) ≡ true → (v : Value R) → Val t v → kind.IsObject v
  object_value t object v fits = object_by t (out-Ty t) refl object v fits

  -- ---- methods

  pub items_taken : (method : Simple) (t r : Ty) → simple_type method t ≡ Some r → (v : Value R) → Val t v → Takes method v
  items_taken simple.Distinct t r h v fits = when_by (is_key t) _ r h (λ key is. key_value t v key fits)
  items_taken simple.Sum t r h v fits = when_by (is_number (out-Ty t)) _ r h (λ number is. number_value t v number fits)
  items_taken simple.Min t r h v fits = when_by (is_number (out-Ty t)) _ r h (λ number is. number_value t v number fits)
  items_taken simple.Max t r h v fits = when_by (is_number (out-Ty t)) _ r h (λ number is. number_value t v number fits)
  items_taken simple.Reverse t r h v fits = tt
  items_taken simple.DefaultIfEmpty t r h v fits = tt
  items_taken simple.Any t r h v fits = tt
  items_taken simple.Count t r h v fits = tt
  items_taken simple.First t r h v fits = tt
  items_taken simple.FirstOrDefault t r h v fits = tt
  items_taken simple.Last t r h v fits = tt
  items_taken simple.Single t r h v fits = tt
  items_taken simple.SingleOrDefault t r h v fits = tt

  pub item_taken : (method : Given) (t u r : Ty) → given_type method t (Some u) ≡ Some r → (v : Value R) → Val t v → TakesItem method v
  item_taken given.Union t u r h v fits = when_by (is_key t) _ r h (λ key is. key_value t v key fits)
  item_taken given.Intersect t u r h v fits = when_by (is_key t) _ r h (λ key is. key_value t v key fits)
  item_taken given.Except t u r h v fits = when_by (is_key t) _ r h (λ key is. key_value t v key fits)
  item_taken given.Contains t u r h v fits = when_by (is_key t) _ r h (λ key is. key_value t v key fits)
  item_taken given.Concat t u r h v fits = tt
  item_taken given.Skip t u r h v fits = tt
  item_taken given.Take t u r h v fits = tt
  item_taken given.ElementAt t u r h v fits = tt

  same_enumerable : (t u r : Ty) → if_same t (Some u) ≡ Some r → (v : Value R) → Val u v → IsEnumerable v
  same_enumerable t u r h v fits = option_and_then_some _ (element_type (out-Ty u)) r h (λ s element found. enumerable_value u s element v fits)

  pub argument_taken : (method : Given) (t u r : Ty) → given_type method t (Some u) ≡ Some r → (v : Value R) → Val u v → TakesArgument method v
  argument_taken given.Concat t u r h v fits = same_enumerable t u r h v fits
  argument_taken given.Union t u r h v fits = when_by (is_key t) _ r h (λ key found. same_enumerable t u r found v fits)
  argument_taken given.Intersect t u r h v fits = when_by (is_key t) _ r h (λ key found. same_enumerable t u r found v fits)
  argument_taken given.Except t u r h v fits = when_by (is_key t) _ r h (λ key found. same_enumerable t u r found v fits)
  argument_taken given.Skip t u r h v fits = when_by (is_int (out-Ty u)) _ r h (λ int is. count_value u v int fits)
  argument_taken given.Take t u r h v fits = when_by (is_int (out-Ty u)) _ r h (λ int is. count_value u v int fits)
  argument_taken given.ElementAt t u r h v fits = when_by (is_int (out-Ty u)) _ r h (λ int is. count_value u v int fits)
  argument_taken given.Contains t u r h v fits =
      when_by (is_key t) _ r h (λ key found. when_by (converts u t) _ r found (λ may is. converted_key u t v may key fits))

  -- the items of a second sequence are such as those of the first
  second_taken : (t u r : Ty) → is_key t ≡ true → if_same t (Some u) ≡ Some r → (m : Result (Value R) Fault) → Gets world u m
      → Every IsKey (stream_of world m).0
  second_taken t u r key h m gets =
      option_and_then_some _ (element_type (out-Ty u)) r h
      (λ s element found. when_by (same_types t s) _ r found
      (λ same is i v there. key_value s v (ap is_key (sym (same_type t s same)) ∙ key)
      ((stream_alike world world.unknown world.unknown u s element m m (refl, gets)).1 i v there)))

  -- a key is enumerated as no item
  key_empty : (v : Value R) → IsKey v → (items_of world (out-Value R v)).0 ≡ []
  key_empty v (key_of_scalar _ s is) = ap (λ (w : Value R). (items_of world (out-Value R w)).0) is ∙ ap (λ (l : Value-F R (Value R)). (items_of world l).0) (outs-Scalar s)
  key_empty v (key_of_record _ ms is members) =
      ap (λ (w : Value R). (items_of world (out-Value R w)).0) is ∙ ap (λ (l : Value-F R (Value R)). (items_of world l).0) (outs-value-Rec ms)

  no_items : (m : Result (Value R) Fault) → ((v : Value R) → m ≡ Ok v → IsKey v) → Every IsKey (stream_of world m).0
  no_items (Ok v) gets = subst (Every IsKey) (sym (key_empty v (gets v refl))) (every_none IsKey)
  no_items (Err e) gets = every_none IsKey

  pub second_items : (method : Given) (t u r : Ty) → given_type method t (Some u) ≡ Some r → (m : Result (Value R) Fault) → Gets world u m
      → Every (TakesItem method) (stream_of world m).0
  second_items given.Union t u r h m gets = when_by (is_key t) _ r h (λ key found. second_taken t u r key found m gets)
  second_items given.Intersect t u r h m gets = when_by (is_key t) _ r h (λ key found. second_taken t u r key found m gets)
  second_items given.Except t u r h m gets = when_by (is_key t) _ r h (λ key found. second_taken t u r key found m gets)
  second_items given.Contains t u r h m gets = no_items m (λ v is. argument_taken given.Contains t u r h v (gets v is))
  second_items given.Concat t u r h m gets = λ i v there. tt
  second_items given.Skip t u r h m gets = λ i v there. tt
  second_items given.Take t u r h m gets = λ i v there. tt
  second_items given.ElementAt t u r h m gets = λ i v there. tt

  -- the items of a second sequence are of the type of those of the first
  second_values : (t u r : Ty) → if_same t (Some u) ≡ Some r → (m : Result (Value R) Fault) → Gets world u m → Every (Val t) (stream_of world m).0
  second_values t u r h m gets =
      option_and_then_some _ (element_type (out-Ty u)) r h
      (λ s element found. when_by (same_types t s) _ r found
      (λ same is. subst (λ (x : Ty). Every (Val x) (stream_of world m).0) (sym (same_type t s same))
      (stream_alike world world.unknown world.unknown u s element m m (refl, gets)).1))

  pairs_of : (t u r : Ty) → is_key t ≡ true → if_same t (Some u) ≡ Some r → (m : Result (Value R) Fault) → Gets world u m → (xs : List (Value R))
      → Every (Val t) xs → (v w : Value R) → kind.Among world (xs ++ (stream_of world m).0) v → kind.Among world (xs ++ (stream_of world m).0) w
      → kind.MayBeSame v w
  pairs_of t u r key h m gets xs ps v w v_in w_in =
      let all = every_append (Val t) xs (stream_of world m).0 ps (second_values t u r h m gets) in
      same_kind t v w key (all v_in.0 v v_in.1) (all w_in.0 w w_in.1)

  pub pairs_taken : (method : Given) (t u r : Ty) → given_type method t (Some u) ≡ Some r → (m : Result (Value R) Fault) → Gets world u m
      → (xs : List (Value R)) → Every (Val t) xs → (v w : Value R) → kind.Among world (xs ++ (stream_of world m).0) v
      → kind.Among world (xs ++ (stream_of world m).0) w → kind.TakesTwoItems method v w
  pairs_taken given.Union t u r h m gets xs ps v w v_in w_in =
      when_by (is_key t) _ r h (λ key found. pairs_of t u r key found m gets xs ps v w v_in w_in)
  pairs_taken given.Intersect t u r h m gets xs ps v w v_in w_in =
      when_by (is_key t) _ r h (λ key found. pairs_of t u r key found m gets xs ps v w v_in w_in)
  pairs_taken given.Except t u r h m gets xs ps v w v_in w_in =
      when_by (is_key t) _ r h (λ key found. pairs_of t u r key found m gets xs ps v w v_in w_in)
  pairs_taken method t u r h m gets xs ps v w v_in w_in = tt
