-- What operators and members give to scalars of the types that they take: the same whatever is used where there is no meaning.
use Rattle.std.proofs.Common.{◌≡◌, ◌==◌, ◌++◌, ◌||◌, ◌⊎◌, if◌then◌else◌, List, [], ℕ, ℤ, Bool, true, false, not, Some, None, Result, Ok, Err, ap, ap₂, ◌∙◌, sym, refl, subst, inl, inr, bytes_eq, int_lt, int_le, true≢false}
use Rattle.std.proofs.lemmas.Bool.{eqb-true}
use Rattle.std.proofs.lemmas.Option.{none-some, same_Some}
use Rattle.std.specs.Prelude.{pos, neg_ℤ, ◌+ℤ◌, ◌-ℤ◌, ◌*ℤ◌, int_div, int_rem}
use Rattle.std.specs.Ordering.{int_eq}
use Rattle.std.specs.Str.{chars}
use Rattle.lq_value.specs.declared.scalar.Scalar.{Scalar}
use Rattle.lq_value.specs.declared.scalar.Scalar.TheVariants as scalar
use Rattle.lq_value.specs.declared.ty.Ty.{Ty, out-Ty}
use Rattle.lq_value.specs.declared.ty.Ty.TheOpen.{Ty-F}
use Rattle.lq_value.specs.declared.ty.Ty.TheVariants as ty
use Rattle.lq_value.specs.declared.ty.Ty.TheVariants.{outs-Bool, outs-Int, outs-IntN, outs-Null, outs-Row, outs-Str}
use Rattle.lq_value.specs.declared.value.Fault.{Fault}
use Rattle.lq_value.specs.declared.value.Fault.TheVariants as fault
use Rattle.lq_language.specs.OperandMeaning.{is_null, operation_on}
use Rattle.lq_language.specs.ValuesOfTypes.{IsScalarOf}
use Rattle.lq_language.specs.Members.{IsSearch, contains, ends, search_named, starts}
use Rattle.lq_language.specs.OperationLaws.{IsNumber, IsText, IsTruth}
use Rattle.lq_language.specs.Operations.{arithmetic, begins_with, checked, computed, divided, ends_in, text_matches, has_in, is_int, left_over, negated, of_one, of_search, of_two, on_ok, operation_of, ordered_by, same_content, searched, truth, utf16_units}
use Rattle.lq_language.specs.OperandTypes.{are_comparable, are_joined, choice_type_of_layers, coalesced, is_comparison, is_number, is_ordering, is_scalar, is_text, item_of, number_type, row_table}
use Rattle.lq_language.specs.declared.operation.Op.{Op}
use Rattle.lq_language.specs.declared.operation.Op.TheVariants as operation
use Rattle.lq_grammar.specs.declared.syntax.Binary.{Binary}
use Rattle.lq_grammar.specs.declared.syntax.Binary.TheVariants as binary

-- ---- layers of types

-- no row and no sequence is of such a type
abbrev pub HasScalars : Ty-F Ty → Type 0
HasScalars layer = (row_table layer ≡ None) × (item_of layer ≡ None)

pub number_scalars : (layer : Ty-F Ty) → is_number layer ≡ true → HasScalars layer
number_scalars Ty-F.Int h = (refl, refl)
number_scalars Ty-F.IntN h = (refl, refl)
number_scalars layer h = absurd (true≢false (sym h))

-- an int or null, a truth value, or a text or null
abbrev HasNumbers : Ty-F Ty → Type 0
HasNumbers Ty-F.Int = Unit {0}
HasNumbers Ty-F.IntN = Unit {0}
HasNumbers Ty-F.Null = Unit {0}
HasNumbers (Ty-F.Row n) = Unit {0}
HasNumbers layer = ⊥

abbrev HasTruths : Ty-F Ty → Type 0
HasTruths Ty-F.Bool = Unit {0}
HasTruths layer = ⊥

abbrev HasTexts : Ty-F Ty → Type 0
HasTexts Ty-F.Str = Unit {0}
HasTexts Ty-F.Null = Unit {0}
HasTexts layer = ⊥

pub number_there : (layer : Ty-F Ty) (s : Scalar) → HasNumbers layer → IsScalarOf layer s → IsNumber s
number_there Ty-F.Int (scalar.Int n) h fits = tt
number_there Ty-F.Int s h fits = absurd fits
number_there Ty-F.IntN (scalar.Int n) h fits = tt
number_there Ty-F.IntN scalar.Null h fits = tt
number_there Ty-F.IntN s h fits = absurd fits
number_there Ty-F.Null scalar.Null h fits = tt
number_there Ty-F.Null s h fits = absurd fits
number_there (Ty-F.Row n) scalar.Null h fits = tt
number_there (Ty-F.Row n) s h fits = absurd fits
number_there layer s h fits = absurd h

truth_there : (layer : Ty-F Ty) (s : Scalar) → HasTruths layer → IsScalarOf layer s → IsTruth s
truth_there Ty-F.Bool (scalar.Bool b) h fits = tt
truth_there Ty-F.Bool s h fits = absurd fits
truth_there layer s h fits = absurd h

text_there : (layer : Ty-F Ty) (s : Scalar) → HasTexts layer → IsScalarOf layer s → IsText s
text_there Ty-F.Str (scalar.Text t) h fits = tt
text_there Ty-F.Str scalar.Null h fits = tt
text_there Ty-F.Str s h fits = absurd fits
text_there Ty-F.Null scalar.Null h fits = tt
text_there Ty-F.Null s h fits = absurd fits
text_there layer s h fits = absurd h

pub number_layer : (layer : Ty-F Ty) → is_number layer ≡ true → HasNumbers layer
number_layer Ty-F.Int h = tt
number_layer Ty-F.IntN h = tt
number_layer layer h = absurd (true≢false (sym h))

text_scalars : (layer : Ty-F Ty) → HasTexts layer → HasScalars layer
text_scalars Ty-F.Str h = (refl, refl)
text_scalars Ty-F.Null h = (refl, refl)
text_scalars layer h = absurd h

numbers_no_items : (layer : Ty-F Ty) (item : Ty) → HasNumbers layer → item_of layer ≡ Some item → ⊥
numbers_no_items (Ty-F.Seq t) item h is = h
numbers_no_items layer item h is = none-some item is

truths_no_items : (layer : Ty-F Ty) (item : Ty) → HasTruths layer → item_of layer ≡ Some item → ⊥
truths_no_items (Ty-F.Seq t) item h is = h
truths_no_items layer item h is = none-some item is

texts_no_items : (layer : Ty-F Ty) (item : Ty) → HasTexts layer → item_of layer ≡ Some item → ⊥
texts_no_items (Ty-F.Seq t) item h is = h
texts_no_items layer item h is = none-some item is

pub bool_layer : (s : Scalar) → IsScalarOf Ty-F.Bool s → (b : Bool) × (s ≡ scalar.Bool b)
bool_layer (scalar.Bool b) fits = (b, refl)
bool_layer s fits = absurd fits

pub row_layer : (n : ℕ) (s : Scalar) → IsScalarOf (Ty-F.Row n) s → s ≡ scalar.Null
row_layer n scalar.Null fits = refl
row_layer n s fits = absurd fits

pub null_scalar : (s : Scalar) → IsScalarOf Ty-F.Null s → s ≡ scalar.Null
null_scalar scalar.Null fits = refl
null_scalar s fits = absurd fits

pub row_is_no_scalar : (layer : Ty-F Ty) (n : ℕ) → row_table layer ≡ Some n → is_scalar layer ≡ true → ⊥
row_is_no_scalar (Ty-F.Row m) n h k = true≢false (sym k)
row_is_no_scalar layer n h k = none-some n h

pub sequence_is_no_scalar : (layer : Ty-F Ty) (item : Ty) → item_of layer ≡ Some item → is_scalar layer ≡ true → ⊥
sequence_is_no_scalar (Ty-F.Seq t) item h k = true≢false (sym k)
sequence_is_no_scalar layer item h k = none-some item h

-- ---- comparisons

-- what a comparison says, whatever is used where there is no meaning
abbrev pub Decides : (Fault → Result Bool Fault) → Type 0
Decides o = (b : Bool) × ((unknown : Fault) → o unknown ≡ Ok b)

pub numbers_ordered : (test : ℤ → ℤ → Bool) (s t : Scalar) → IsNumber s → IsNumber t → Decides (λ unknown. ordered_by unknown test s t)
numbers_ordered test (scalar.Int m) (scalar.Int n) a b = (test m n, λ unknown. refl)
numbers_ordered test (scalar.Int m) scalar.Null a b = (false, λ unknown. refl)
numbers_ordered test (scalar.Int m) t a b = absurd b
numbers_ordered test scalar.Null t a b = (false, λ unknown. refl)
numbers_ordered test s t a b = absurd a

numbers_same : (s t : Scalar) → IsNumber s → IsNumber t → Decides (λ unknown. same_content unknown s t)
numbers_same scalar.Null scalar.Null a b = (true, λ unknown. refl)
numbers_same scalar.Null (scalar.Int n) a b = (false, λ unknown. refl)
numbers_same scalar.Null t a b = absurd b
numbers_same (scalar.Int m) (scalar.Int n) a b = (int_eq m n, λ unknown. refl)
numbers_same (scalar.Int m) scalar.Null a b = (false, λ unknown. refl)
numbers_same (scalar.Int m) t a b = absurd b
numbers_same s t a b = absurd a

truths_same : (s t : Scalar) → IsTruth s → IsTruth t → Decides (λ unknown. same_content unknown s t)
truths_same (scalar.Bool true) (scalar.Bool c) a b = (c, λ unknown. refl)
truths_same (scalar.Bool false) (scalar.Bool c) a b = (not c, λ unknown. refl)
truths_same (scalar.Bool c) t a b = absurd b
truths_same s t a b = absurd a

texts_same : (s t : Scalar) → IsText s → IsText t → Decides (λ unknown. same_content unknown s t)
texts_same scalar.Null scalar.Null a b = (true, λ unknown. refl)
texts_same scalar.Null (scalar.Text y) a b = (false, λ unknown. refl)
texts_same scalar.Null t a b = absurd b
texts_same (scalar.Text x) (scalar.Text y) a b = (bytes_eq x y, λ unknown. refl)
texts_same (scalar.Text x) scalar.Null a b = (false, λ unknown. refl)
texts_same (scalar.Text x) t a b = absurd b
texts_same s t a b = absurd a

-- operands of `==` are two numbers, two truth values or two texts, where a null counts as a number or a text
abbrev AreOfKind : Ty-F Ty → Ty-F Ty → Type 0
AreOfKind k l = (HasNumbers k × HasNumbers l) ⊎ (HasTruths k × HasTruths l) ⊎ (HasTexts k × HasTexts l)

kind_of : (k l : Ty-F Ty) → are_comparable k l ≡ true → AreOfKind k l
kind_of Ty-F.Int Ty-F.Int h = inl (tt, tt)
kind_of Ty-F.Int Ty-F.IntN h = inl (tt, tt)
kind_of Ty-F.Int Ty-F.Null h = inl (tt, tt)
kind_of Ty-F.IntN Ty-F.Int h = inl (tt, tt)
kind_of Ty-F.IntN Ty-F.IntN h = inl (tt, tt)
kind_of Ty-F.IntN Ty-F.Null h = inl (tt, tt)
kind_of Ty-F.Bool Ty-F.Bool h = inr (inl (tt, tt))
kind_of Ty-F.Str Ty-F.Str h = inr (inr (tt, tt))
kind_of Ty-F.Str Ty-F.Null h = inr (inr (tt, tt))
kind_of (Ty-F.Row n) Ty-F.Null h = inl (tt, tt)
kind_of Ty-F.Null Ty-F.Int h = inl (tt, tt)
kind_of Ty-F.Null Ty-F.IntN h = inl (tt, tt)
kind_of Ty-F.Null Ty-F.Str h = inr (inr (tt, tt))
kind_of Ty-F.Null (Ty-F.Row n) h = inl (tt, tt)
kind_of Ty-F.Null Ty-F.Null h = inl (tt, tt)
kind_of k l h = absurd (true≢false (sym h))

pub comparable_same : (k l : Ty-F Ty) → are_comparable k l ≡ true → (s t : Scalar) → IsScalarOf k s → IsScalarOf l t → Decides (λ unknown. same_content unknown s t)
comparable_same k l h s t f g = by (kind_of k l h) where
  by : AreOfKind k l → Decides (λ unknown. same_content unknown s t)
  by (inl numbers) = numbers_same s t (number_there k s numbers.0 f) (number_there l t numbers.1 g)
  by (inr (inl truths)) = truths_same s t (truth_there k s truths.0 f) (truth_there l t truths.1 g)
  by (inr (inr texts)) = texts_same s t (text_there k s texts.0 f) (text_there l t texts.1 g)

pub no_items_before : (k l : Ty-F Ty) (item : Ty) → are_comparable k l ≡ true → item_of k ≡ Some item → ⊥
no_items_before k l item h is = by (kind_of k l h) where
  by : AreOfKind k l → ⊥
  by (inl numbers) = numbers_no_items k item numbers.0 is
  by (inr (inl truths)) = truths_no_items k item truths.0 is
  by (inr (inr texts)) = texts_no_items k item texts.0 is

pub no_items_behind : (k l : Ty-F Ty) (item : Ty) → are_comparable k l ≡ true → item_of l ≡ Some item → ⊥
no_items_behind k l item h is = by (kind_of k l h) where
  by : AreOfKind k l → ⊥
  by (inl numbers) = numbers_no_items l item numbers.1 is
  by (inr (inl truths)) = truths_no_items l item truths.1 is
  by (inr (inr texts)) = texts_no_items l item texts.1 is

-- a row is compared with null alone
pub null_before_row : (k l : Ty-F Ty) (n : ℕ) → are_comparable k l ≡ true → row_table l ≡ Some n → (s : Scalar) → IsScalarOf k s → s ≡ scalar.Null
null_before_row Ty-F.Null (Ty-F.Row m) n h is s fits = null_scalar s fits
null_before_row k (Ty-F.Row m) n h is s fits = absurd (true≢false (sym h))
null_before_row k l n h is s fits = absurd (none-some n is)

pub null_behind_row : (k l : Ty-F Ty) (n : ℕ) → are_comparable k l ≡ true → row_table k ≡ Some n → (s : Scalar) → IsScalarOf l s → s ≡ scalar.Null
null_behind_row (Ty-F.Row m) Ty-F.Null n h is s fits = null_scalar s fits
null_behind_row (Ty-F.Row m) l n h is s fits = absurd (true≢false (sym h))
null_behind_row k l n h is s fits = absurd (none-some n is)

pub no_two_rows : (k l : Ty-F Ty) (m n : ℕ) → are_comparable k l ≡ true → row_table k ≡ Some m → row_table l ≡ Some n → ⊥
no_two_rows (Ty-F.Row a) (Ty-F.Row b) m n h i j = true≢false (sym h)
no_two_rows (Ty-F.Row a) l m n h i j = none-some n j
no_two_rows k l m n h i j = none-some m i

-- ---- operators

-- what an operator gives to scalars, whatever is used where there is no meaning: a scalar of this layer, or a fault
pub data Gives (layer : Ty-F Ty) (o : Fault → Result Scalar Fault) : Type 0 where
  gives : (s : Scalar) → IsScalarOf layer s → ((unknown : Fault) → o unknown ≡ Ok s) → Gives layer o
  faults : (x : Fault) → ((unknown : Fault) → o unknown ≡ Err x) → Gives layer o

-- the same by the type that has the layer
pub given_of : (t : Ty) (layer : Ty-F Ty) (o : Fault → Result Scalar Fault) → out-Ty t ≡ layer → Gives layer o → Gives (out-Ty t) o
given_of t layer o is given = subst (λ (l : Ty-F Ty). Gives l o) (sym is) given

abbrev operated : Op → Scalar → Scalar → Fault → Result Scalar Fault
operated o s t unknown = of_two unknown o s t

truth_given : (o : Fault → Result Bool Fault) → Decides o → Gives Ty-F.Bool (λ unknown. truth unknown (o unknown))
truth_given o decided = gives (scalar.Bool decided.0) tt (λ unknown. ap (truth unknown) (decided.1 unknown))

ordered_given : (op : Binary) → is_ordering op ≡ true → (s t : Scalar) → IsNumber s → IsNumber t → Gives Ty-F.Bool (operated (operation_of op) s t)
ordered_given binary.Less orders s t a b = truth_given _ (numbers_ordered int_lt s t a b)
ordered_given binary.Greater orders s t a b = truth_given _ (numbers_ordered int_lt t s b a)
ordered_given binary.LessOrEqual orders s t a b = truth_given _ (numbers_ordered int_le s t a b)
ordered_given binary.GreaterOrEqual orders s t a b = truth_given _ (numbers_ordered int_le t s b a)
ordered_given op orders s t a b = absurd (true≢false (sym orders))

checked_given : (z : ℤ) → Gives Ty-F.Int (λ unknown. checked z)
checked_given z = by (is_int z) where
  by : (b : Bool) → Gives Ty-F.Int (λ unknown. if b then Ok (scalar.Int z) else Err fault.Overflow)
  by true = gives (scalar.Int z) tt (λ unknown. refl)
  by false = faults fault.Overflow (λ unknown. refl)

divided_given : (m n : ℤ) → Gives Ty-F.Int (λ unknown. divided m n)
divided_given m n = by (int_eq n (pos 0)) where
  by : (b : Bool) → Gives Ty-F.Int (λ unknown. if b then Err fault.DivideByZero else checked (int_div m n))
  by true = faults fault.DivideByZero (λ unknown. refl)
  by false = checked_given (int_div m n)

left_over_given : (m n : ℤ) → Gives Ty-F.Int (λ unknown. left_over m n)
left_over_given m n = by (int_eq n (pos 0)) (is_int (int_div m n)) where
  by : (b c : Bool)
      → Gives Ty-F.Int (λ unknown. if b then Err fault.DivideByZero else on_ok (if c then Ok (scalar.Int (int_div m n)) else Err fault.Overflow) (λ quotient. Ok (scalar.Int (int_rem m n))))
  by true c = faults fault.DivideByZero (λ unknown. refl)
  by false true = gives (scalar.Int (int_rem m n)) tt (λ unknown. refl)
  by false false = faults fault.Overflow (λ unknown. refl)

-- an int may be used as an int?
widened : (o : Fault → Result Scalar Fault) → Gives Ty-F.Int o → Gives Ty-F.IntN o
widened o (gives (scalar.Int n) fits is) = gives (scalar.Int n) tt is
widened o (gives s fits is) = absurd fits
widened o (faults x is) = faults x is

of_int? : (o : Fault → Result Scalar Fault) → Gives Ty-F.IntN o → Gives (out-Ty ty.IntN) o
of_int? o given = subst (λ (layer : Ty-F Ty). Gives layer o) (sym outs-IntN) given

null_given : (o : Fault → Result Scalar Fault) → ((unknown : Fault) → o unknown ≡ Ok scalar.Null) → Gives (out-Ty ty.IntN) o
null_given o is = of_int? o (gives scalar.Null tt is)

module _ (o : Op) (given : (m n : ℤ) → Gives Ty-F.Int (λ unknown. computed unknown o m n)) where
  arithmetic_given : (k l : Ty-F Ty) → is_number k ≡ true → is_number l ≡ true → (s t : Scalar) → IsScalarOf k s → IsScalarOf l t
      → Gives (out-Ty (number_type k l)) (λ unknown. arithmetic unknown o s t)
  arithmetic_given Ty-F.Int Ty-F.Int a b (scalar.Int m) (scalar.Int n) f g = subst (λ (layer : Ty-F Ty). Gives layer (λ unknown. computed unknown o m n)) (sym outs-Int) (given m n)
  arithmetic_given Ty-F.Int Ty-F.Int a b (scalar.Int m) t f g = absurd g
  arithmetic_given Ty-F.Int Ty-F.Int a b s t f g = absurd f
  arithmetic_given Ty-F.Int Ty-F.IntN a b (scalar.Int m) (scalar.Int n) f g = of_int? _ (widened _ (given m n))
  arithmetic_given Ty-F.Int Ty-F.IntN a b (scalar.Int m) scalar.Null f g = null_given _ (λ unknown. refl)
  arithmetic_given Ty-F.Int Ty-F.IntN a b (scalar.Int m) t f g = absurd g
  arithmetic_given Ty-F.Int Ty-F.IntN a b s t f g = absurd f
  arithmetic_given Ty-F.Int l a b s t f g = absurd (true≢false (sym b))
  arithmetic_given Ty-F.IntN Ty-F.Int a b (scalar.Int m) (scalar.Int n) f g = of_int? _ (widened _ (given m n))
  arithmetic_given Ty-F.IntN Ty-F.Int a b scalar.Null (scalar.Int n) f g = null_given _ (λ unknown. refl)
  arithmetic_given Ty-F.IntN Ty-F.Int a b (scalar.Int m) t f g = absurd g
  arithmetic_given Ty-F.IntN Ty-F.Int a b scalar.Null t f g = absurd g
  arithmetic_given Ty-F.IntN Ty-F.Int a b s t f g = absurd f
  arithmetic_given Ty-F.IntN Ty-F.IntN a b (scalar.Int m) (scalar.Int n) f g = of_int? _ (widened _ (given m n))
  arithmetic_given Ty-F.IntN Ty-F.IntN a b (scalar.Int m) scalar.Null f g = null_given _ (λ unknown. refl)
  arithmetic_given Ty-F.IntN Ty-F.IntN a b scalar.Null (scalar.Int n) f g = null_given _ (λ unknown. refl)
  arithmetic_given Ty-F.IntN Ty-F.IntN a b scalar.Null scalar.Null f g = null_given _ (λ unknown. refl)
  arithmetic_given Ty-F.IntN Ty-F.IntN a b (scalar.Int m) t f g = absurd g
  arithmetic_given Ty-F.IntN Ty-F.IntN a b scalar.Null t f g = absurd g
  arithmetic_given Ty-F.IntN Ty-F.IntN a b s t f g = absurd f
  arithmetic_given Ty-F.IntN l a b s t f g = absurd (true≢false (sym b))
  arithmetic_given k l a b s t f g = absurd (true≢false (sym a))

computed_given : (op : Binary) → is_comparison op ≡ false → (k l : Ty-F Ty) → is_number k ≡ true → is_number l ≡ true → (s t : Scalar) → IsScalarOf k s → IsScalarOf l t
    → Gives (out-Ty (number_type k l)) (operated (operation_of op) s t)
computed_given binary.Multiply computes k l a b s t f g = arithmetic_given operation.Multiply (λ m n. checked_given (m *ℤ n)) k l a b s t f g
computed_given binary.Divide computes k l a b s t f g = arithmetic_given operation.Divide divided_given k l a b s t f g
computed_given binary.Remainder computes k l a b s t f g = arithmetic_given operation.Remainder left_over_given k l a b s t f g
computed_given binary.Add computes k l a b s t f g = arithmetic_given operation.Add (λ m n. checked_given (m +ℤ n)) k l a b s t f g
computed_given binary.Subtract computes k l a b s t f g = arithmetic_given operation.Subtract (λ m n. checked_given (m -ℤ n)) k l a b s t f g
computed_given op computes k l a b s t f g = absurd (true≢false computes)

pub minus_given : (layer : Ty-F Ty) → is_number layer ≡ true → (s : Scalar) → IsScalarOf layer s → Gives layer (λ unknown. negated unknown s)
minus_given Ty-F.Int number (scalar.Int n) fits = checked_given (neg_ℤ n)
minus_given Ty-F.Int number s fits = absurd fits
minus_given Ty-F.IntN number (scalar.Int n) fits = widened _ (checked_given (neg_ℤ n))
minus_given Ty-F.IntN number scalar.Null fits = gives scalar.Null tt (λ unknown. refl)
minus_given Ty-F.IntN number s fits = absurd fits
minus_given layer number s fits = absurd (true≢false (sym number))

no_text : (layer : Ty-F Ty) → is_number layer ≡ true → is_text layer ≡ false
no_text Ty-F.Str h = absurd (true≢false (sym h))
no_text layer h = refl

-- between numbers a sign does what it does alone
numbers_added : (s t : Ty) → is_number (out-Ty s) ≡ true → is_number (out-Ty t) ≡ true → (x y : Scalar) → IsNumber x → IsNumber y → operation_on binary.Add (Some s) (Some t) x y ≡ operation.Add
numbers_added s t a b (scalar.Int m) (scalar.Int n) f g = refl
numbers_added s t a b (scalar.Int m) scalar.Null f g = refl
numbers_added s t a b (scalar.Int m) y f g = absurd g
numbers_added s t a b scalar.Null (scalar.Int n) f g = refl
numbers_added s t a b scalar.Null scalar.Null f g = ap₂ (λ (x y : Bool). if x || y then operation.Concat else operation.Add) (no_text (out-Ty s) a) (no_text (out-Ty t) b)
numbers_added s t a b scalar.Null y f g = absurd g
numbers_added s t a b x y f g = absurd f

number_operation : (op : Binary) (s t : Ty) → is_number (out-Ty s) ≡ true → is_number (out-Ty t) ≡ true → (x y : Scalar) → IsNumber x → IsNumber y
    → operation_on op (Some s) (Some t) x y ≡ operation_of op
number_operation binary.Add s t a b x y f g = numbers_added s t a b x y f g
number_operation op s t a b x y f g = refl

-- what a sign gives between scalars of these types
abbrev pub signed : Binary → Ty → Ty → Scalar → Scalar → Fault → Result Scalar Fault
signed op s t x y unknown = of_two unknown (operation_on op (Some s) (Some t) x y) x y

signed_as : (layer : Ty-F Ty) (op : Binary) (s t : Ty) (x y : Scalar) (o : Op) → operation_on op (Some s) (Some t) x y ≡ o → Gives layer (operated o x y) → Gives layer (signed op s t x y)
signed_as layer op s t x y o is given = subst (λ (p : Op). Gives layer (operated p x y)) (sym is) given

pub ordering_given : (op : Binary) (s t : Ty) → is_ordering op ≡ true → is_number (out-Ty s) ≡ true → is_number (out-Ty t) ≡ true → (x y : Scalar) → IsScalarOf (out-Ty s) x → IsScalarOf (out-Ty t) y
    → Gives Ty-F.Bool (signed op s t x y)
ordering_given op s t orders a b x y f g =
    let m = number_there (out-Ty s) x (number_layer (out-Ty s) a) f in
    let n = number_there (out-Ty t) y (number_layer (out-Ty t) b) g in
    signed_as Ty-F.Bool op s t x y (operation_of op) (number_operation op s t a b x y m n) (ordered_given op orders x y m n)

pub arithmetic_of : (op : Binary) (s t : Ty) → is_comparison op ≡ false → is_number (out-Ty s) ≡ true → is_number (out-Ty t) ≡ true → (x y : Scalar) → IsScalarOf (out-Ty s) x → IsScalarOf (out-Ty t) y
    → Gives (out-Ty (number_type (out-Ty s) (out-Ty t))) (signed op s t x y)
arithmetic_of op s t computes a b x y f g =
    let m = number_there (out-Ty s) x (number_layer (out-Ty s) a) f in
    let n = number_there (out-Ty t) y (number_layer (out-Ty t) b) g in
    signed_as (out-Ty (number_type (out-Ty s) (out-Ty t))) op s t x y (operation_of op) (number_operation op s t a b x y m n) (computed_given op computes (out-Ty s) (out-Ty t) a b x y f g)

-- ---- texts

joined_layers : (k l : Ty-F Ty) → are_joined k l ≡ true → (HasTexts k × HasTexts l) × ((is_text k || is_text l) ≡ true)
joined_layers Ty-F.Str Ty-F.Str h = ((tt, tt), refl)
joined_layers Ty-F.Str Ty-F.Null h = ((tt, tt), refl)
joined_layers Ty-F.Null Ty-F.Str h = ((tt, tt), refl)
joined_layers k l h = absurd (true≢false (sym h))

pub joined_scalars : (k l : Ty-F Ty) → are_joined k l ≡ true → HasScalars k × HasScalars l
joined_scalars k l h = let texts = (joined_layers k l h).0 in (text_scalars k texts.0, text_scalars l texts.1)

joined_operation : (s t : Ty) → are_joined (out-Ty s) (out-Ty t) ≡ true → (x y : Scalar) → IsText x → IsText y → operation_on binary.Add (Some s) (Some t) x y ≡ operation.Concat
joined_operation s t h (scalar.Text x) y f g = refl
joined_operation s t h scalar.Null (scalar.Text y) f g = refl
joined_operation s t h scalar.Null scalar.Null f g = ap (λ (b : Bool). if b then operation.Concat else operation.Add) (joined_layers (out-Ty s) (out-Ty t) h).1
joined_operation s t h scalar.Null y f g = absurd g
joined_operation s t h x y f g = absurd f

-- null counts as empty
texts_joined : (s t : Scalar) → IsText s → IsText t → Gives Ty-F.Str (operated operation.Concat s t)
texts_joined (scalar.Text x) (scalar.Text y) a b = gives (scalar.Text (x ++ y)) tt (λ unknown. refl)
texts_joined (scalar.Text x) scalar.Null a b = gives (scalar.Text x) tt (λ unknown. refl)
texts_joined (scalar.Text x) t a b = absurd b
texts_joined scalar.Null (scalar.Text y) a b = gives (scalar.Text y) tt (λ unknown. refl)
texts_joined scalar.Null scalar.Null a b = gives (scalar.Text []) tt (λ unknown. refl)
texts_joined scalar.Null t a b = absurd b
texts_joined s t a b = absurd a

pub joined_given : (s t : Ty) → are_joined (out-Ty s) (out-Ty t) ≡ true → (x y : Scalar) → IsScalarOf (out-Ty s) x → IsScalarOf (out-Ty t) y → Gives Ty-F.Str (signed binary.Add s t x y)
joined_given s t h x y f g =
    let texts = (joined_layers (out-Ty s) (out-Ty t) h).0 in
    let a = text_there (out-Ty s) x texts.0 f in
    let b = text_there (out-Ty t) y texts.1 g in
    signed_as Ty-F.Str binary.Add s t x y operation.Concat (joined_operation s t h x y a b) (texts_joined x y a b)

-- a null text faults, and so does a null argument
texts_searched : (o : Op) → ((x y : List ℕ) → Decides (λ unknown. text_matches unknown o x y)) → (s t : Scalar) → IsText s → IsText t → Gives Ty-F.Bool (λ unknown. truth unknown (searched unknown o s t))
texts_searched o decided (scalar.Text x) (scalar.Text y) a b = truth_given _ (decided x y)
texts_searched o decided (scalar.Text x) scalar.Null a b = faults fault.NullReference (λ unknown. refl)
texts_searched o decided (scalar.Text x) t a b = absurd b
texts_searched o decided scalar.Null (scalar.Text y) a b = faults fault.NullReference (λ unknown. refl)
texts_searched o decided scalar.Null scalar.Null a b = faults fault.NullReference (λ unknown. refl)
texts_searched o decided scalar.Null t a b = absurd b
texts_searched o decided s t a b = absurd a

abbrev pub looked_for : List ℕ → Scalar → Scalar → Fault → Result Scalar Fault
looked_for m s t unknown = of_search unknown (search_named m) s t

search_found : (m : List ℕ) → IsSearch m → (s t : Scalar) → IsText s → IsText t → Gives Ty-F.Bool (looked_for m s t)
search_found m (starts is) s t a b =
    subst (λ (x : List ℕ). Gives Ty-F.Bool (looked_for x s t)) (sym is) (texts_searched operation.StartsWith (λ x y. (begins_with x y, λ unknown. refl)) s t a b)
search_found m (ends is) s t a b =
    subst (λ (x : List ℕ). Gives Ty-F.Bool (looked_for x s t)) (sym is) (texts_searched operation.EndsWith (λ x y. (ends_in x y, λ unknown. refl)) s t a b)
search_found m (contains is) s t a b =
    subst (λ (x : List ℕ). Gives Ty-F.Bool (looked_for x s t)) (sym is) (texts_searched operation.Contains (λ x y. (has_in x y, λ unknown. refl)) s t a b)

pub search_given : (m : List ℕ) → IsSearch m → (s t : Scalar) → IsScalarOf Ty-F.Str s → IsScalarOf Ty-F.Str t → Gives Ty-F.Bool (looked_for m s t)
search_given m is s t f g = search_found m is s t (text_there Ty-F.Str s tt f) (text_there Ty-F.Str t tt g)

-- ---- members

pub has_value_given : (s : Scalar) → IsScalarOf Ty-F.IntN s → Gives Ty-F.Bool (λ unknown. of_one unknown operation.HasValue s)
has_value_given (scalar.Int n) fits = gives (scalar.Bool true) tt (λ unknown. refl)
has_value_given scalar.Null fits = gives (scalar.Bool false) tt (λ unknown. refl)
has_value_given s fits = absurd fits

pub value_given : (s : Scalar) → IsScalarOf Ty-F.IntN s → Gives Ty-F.Int (λ unknown. of_one unknown operation.Value s)
value_given (scalar.Int n) fits = gives (scalar.Int n) tt (λ unknown. refl)
value_given scalar.Null fits = faults fault.InvalidOperation (λ unknown. refl)
value_given s fits = absurd fits

pub length_given : (s : Scalar) → IsScalarOf Ty-F.Str s → Gives Ty-F.Int (λ unknown. of_one unknown operation.Length s)
length_given (scalar.Text x) fits = checked_given (pos (utf16_units (chars x)))
length_given scalar.Null fits = faults fault.NullReference (λ unknown. refl)
length_given s fits = absurd fits

-- ---- types that hold the values of others

-- each value of the one layer is one of the other
pub record Widens (k l : Ty-F Ty) : Type 0 where
  pub scalars : (s : Scalar) → IsScalarOf k s → IsScalarOf l s
  pub rows : (n : ℕ) → row_table k ≡ Some n → row_table l ≡ Some n
  pub items : (item : Ty) → item_of k ≡ Some item → item_of l ≡ Some item

itself : (k : Ty-F Ty) → Widens k k
itself k = record { scalars = λ s fits. fits; rows = λ n is. is; items = λ item is. is }

scalars_widen : (k l : Ty-F Ty) → HasScalars k → ((s : Scalar) → IsScalarOf k s → IsScalarOf l s) → Widens k l
scalars_widen k l none scalars = record { scalars = scalars; rows = λ n is. absurd (none-some n (sym none.0 ∙ is)); items = λ item is. absurd (none-some item (sym none.1 ∙ is)) }

int_widens : Widens Ty-F.Int Ty-F.IntN
int_widens = scalars_widen Ty-F.Int Ty-F.IntN (refl, refl) by where
  by : (s : Scalar) → IsScalarOf Ty-F.Int s → IsScalarOf Ty-F.IntN s
  by (scalar.Int n) fits = tt
  by s fits = absurd fits

null_widens : (layer : Ty-F Ty) → IsScalarOf layer scalar.Null → Widens Ty-F.Null layer
null_widens layer fits = scalars_widen Ty-F.Null layer (refl, refl) (λ s is. subst (λ (x : Scalar). IsScalarOf layer x) (sym (null_scalar s is)) fits)

abbrev pub AreWidened : Ty-F Ty → Ty-F Ty → Ty → Type 0
AreWidened k l r = Widens k (out-Ty r) × Widens l (out-Ty r)

to_type : (k l layer : Ty-F Ty) (t r : Ty) → out-Ty t ≡ layer → Some t ≡ Some r → Widens k layer → Widens l layer → AreWidened k l r
to_type k l layer t r is h a b =
    let same : layer ≡ out-Ty r = sym is ∙ ap out-Ty (same_Some t r h) in (subst (λ (m : Ty-F Ty). Widens k m) same a, subst (λ (m : Ty-F Ty). Widens l m) same b)

rows_chosen : (m n : ℕ) (r : Ty) (b : Bool) → (m == n) ≡ b → (if b then Some (ty.Row m) else None) ≡ Some r → AreWidened (Ty-F.Row m) (Ty-F.Row n) r
rows_chosen m n r true is h =
    to_type (Ty-F.Row m) (Ty-F.Row n) (Ty-F.Row m) (ty.Row m) r (outs-Row m) h (itself (Ty-F.Row m))
    (subst (λ (i : ℕ). Widens (Ty-F.Row i) (Ty-F.Row m)) (eqb-true m n is) (itself (Ty-F.Row m)))
rows_chosen m n r false is h = absurd (none-some r h)

-- both values of a choice are of its type
pub chosen_widens : (k l : Ty-F Ty) (r : Ty) → choice_type_of_layers k l ≡ Some r → AreWidened k l r
chosen_widens Ty-F.Int Ty-F.Int r h = to_type _ _ Ty-F.Int ty.Int r outs-Int h (itself Ty-F.Int) (itself Ty-F.Int)
chosen_widens Ty-F.Int Ty-F.IntN r h = to_type _ _ Ty-F.IntN ty.IntN r outs-IntN h int_widens (itself Ty-F.IntN)
chosen_widens Ty-F.IntN Ty-F.Int r h = to_type _ _ Ty-F.IntN ty.IntN r outs-IntN h (itself Ty-F.IntN) int_widens
chosen_widens Ty-F.IntN Ty-F.IntN r h = to_type _ _ Ty-F.IntN ty.IntN r outs-IntN h (itself Ty-F.IntN) (itself Ty-F.IntN)
chosen_widens Ty-F.IntN Ty-F.Null r h = to_type _ _ Ty-F.IntN ty.IntN r outs-IntN h (itself Ty-F.IntN) (null_widens Ty-F.IntN tt)
chosen_widens Ty-F.Null Ty-F.IntN r h = to_type _ _ Ty-F.IntN ty.IntN r outs-IntN h (null_widens Ty-F.IntN tt) (itself Ty-F.IntN)
chosen_widens Ty-F.Bool Ty-F.Bool r h = to_type _ _ Ty-F.Bool ty.Bool r outs-Bool h (itself Ty-F.Bool) (itself Ty-F.Bool)
chosen_widens Ty-F.Str Ty-F.Str r h = to_type _ _ Ty-F.Str ty.Str r outs-Str h (itself Ty-F.Str) (itself Ty-F.Str)
chosen_widens Ty-F.Str Ty-F.Null r h = to_type _ _ Ty-F.Str ty.Str r outs-Str h (itself Ty-F.Str) (null_widens Ty-F.Str tt)
chosen_widens Ty-F.Null Ty-F.Str r h = to_type _ _ Ty-F.Str ty.Str r outs-Str h (null_widens Ty-F.Str tt) (itself Ty-F.Str)
chosen_widens (Ty-F.Row m) (Ty-F.Row n) r h = rows_chosen m n r (m == n) refl h
chosen_widens (Ty-F.Row n) Ty-F.Null r h = to_type _ _ (Ty-F.Row n) (ty.Row n) r (outs-Row n) h (itself (Ty-F.Row n)) (null_widens (Ty-F.Row n) tt)
chosen_widens Ty-F.Null (Ty-F.Row n) r h = to_type _ _ (Ty-F.Row n) (ty.Row n) r (outs-Row n) h (null_widens (Ty-F.Row n) tt) (itself (Ty-F.Row n))
chosen_widens k l r h = absurd (none-some r h)

-- the type of `a ?? b` has what the first operand is besides null, and the second
abbrev pub Coalesces : Ty-F Ty → Ty-F Ty → Ty → Type 0
Coalesces k l r = HasScalars k × (((s : Scalar) → IsScalarOf k s → is_null s ≡ false → IsScalarOf (out-Ty r) s) × Widens l (out-Ty r))

coalesced_to : (k l layer : Ty-F Ty) (t r : Ty) → out-Ty t ≡ layer → Some t ≡ Some r → HasScalars k → ((s : Scalar) → IsScalarOf k s → is_null s ≡ false → IsScalarOf layer s) → Widens l layer
    → Coalesces k l r
coalesced_to k l layer t r is h none a b =
    let same : layer ≡ out-Ty r = sym is ∙ ap out-Ty (same_Some t r h) in
    (none, ((λ s fits value. subst (λ (m : Ty-F Ty). IsScalarOf m s) same (a s fits value)), subst (λ (m : Ty-F Ty). Widens l m) same b))

int_besides_null : (s : Scalar) → IsScalarOf Ty-F.IntN s → is_null s ≡ false → IsScalarOf Ty-F.Int s
int_besides_null (scalar.Int n) fits h = tt
int_besides_null scalar.Null fits h = absurd (true≢false h)
int_besides_null s fits h = absurd fits

pub coalesced_fits : (k l : Ty-F Ty) (r : Ty) → coalesced k l ≡ Some r → Coalesces k l r
coalesced_fits Ty-F.IntN Ty-F.Int r h = coalesced_to Ty-F.IntN Ty-F.Int Ty-F.Int ty.Int r outs-Int h (refl, refl) int_besides_null (itself Ty-F.Int)
coalesced_fits Ty-F.IntN Ty-F.IntN r h = coalesced_to Ty-F.IntN Ty-F.IntN Ty-F.IntN ty.IntN r outs-IntN h (refl, refl) (λ s fits value. fits) (itself Ty-F.IntN)
coalesced_fits Ty-F.IntN Ty-F.Null r h = coalesced_to Ty-F.IntN Ty-F.Null Ty-F.IntN ty.IntN r outs-IntN h (refl, refl) (λ s fits value. fits) (null_widens Ty-F.IntN tt)
coalesced_fits Ty-F.Str Ty-F.Str r h = coalesced_to Ty-F.Str Ty-F.Str Ty-F.Str ty.Str r outs-Str h (refl, refl) (λ s fits value. fits) (itself Ty-F.Str)
coalesced_fits Ty-F.Str Ty-F.Null r h = coalesced_to Ty-F.Str Ty-F.Null Ty-F.Str ty.Str r outs-Str h (refl, refl) (λ s fits value. fits) (null_widens Ty-F.Str tt)
coalesced_fits k l r h = absurd (none-some r h)
