-- Operators: what the form that the operands' types choose means, is what the sign means between them.
use Rattle.std.proofs.Common.{inl, inr, ◌≡◌, ◌&&◌, ◌||◌, if◌then◌else◌, not, Bool, true, false, Option, Some, Result, Ok, Err, ap, ap₂, ◌∙◌, sym, refl, subst, true≢false}
use Rattle.std.proofs.lemmas.Bool.{and_parts}
use Rattle.std.proofs.lemmas.Option.{none-some, same_Some}
use Rattle.lq_value.specs.declared.scalar.Scalar.{Scalar}
use Rattle.lq_value.specs.declared.scalar.Scalar.TheVariants as scalar
use Rattle.lq_value.specs.declared.ty.Ty.{Ty, out-Ty}
use Rattle.lq_value.specs.declared.ty.Ty.TheOpen.{Ty-F}
use Rattle.lq_value.specs.declared.ty.Ty.TheVariants as ty
use Rattle.lq_value.specs.declared.ty.Ty.TheVariants.{outs-Bool, outs-Str}
use Rattle.lq_value.specs.declared.value.Fault.{Fault}
use Rattle.lq_value.specs.declared.value.Value.{Value, out-Value}
use Rattle.lq_value.specs.declared.value.Value.TheOpen.{Value-F}
use Rattle.lq_value.specs.declared.value.Value.TheVariants as value
use Rattle.lq_value.specs.declared.value.Value.TheVariants.{outs-Group as outs-value-Group, outs-Rec as outs-value-Rec, outs-Row as outs-value-Row, outs-Scalar}
use Rattle.lq_language.specs.Worlds.{World}
use Rattle.lq_language.specs.OperandMeaning.{as_value, is_null, on_scalar, on_truth, operation_on, scalar_of, equality_truth, truth_value}
use Rattle.lq_language.specs.RuleMeaning.{compared_meaning, operated_meaning}
use Rattle.lq_language.specs.ValuesOfTypes.{IsScalarOf}
use Rattle.lq_language.specs.Operations.{negated, of_two, on_ok, operation_of, same_content, truth, truth_of}
use Rattle.lq_language.specs.Operators.{first, pair, second}
use Rattle.lq_language.specs.OperandTypes.{are_comparable, are_joined, coalesced, is_bool, is_equality, is_number, is_ordering, is_text, joined_type, number_type}
use Rattle.lq_language.specs.Meaning.{equality_meaning, same_operands}
use Rattle.lq_language.specs.MeaningLaws.{IsValueOf, by_scalar}
use Rattle.lq_language.specs.Typing.{are_null_tests, type_of_choice, type_of_operation}
use Rattle.lq_language.specs.declared.operation.Op.{Op}
use Rattle.lq_language.specs.declared.operation.Op.TheVariants as op
use Rattle.lq_grammar.specs.declared.syntax.Binary.{Binary}
use Rattle.lq_grammar.specs.declared.syntax.Binary.TheVariants as binary
use Rattle.lq_grammar.specs.declared.syntax.Unary.TheVariants as unary
use Rattle.lq_language.proofs.AlikeStreamLaws.{Agree, agree_err, agree_ok, on_ok_agree}
use Rattle.lq_language.proofs.FindingLaws.{if_by, map_by, when_by}
use Rattle.lq_language.proofs.ScalarResultLaws.{Gives, arithmetic_of, coalesced_fits, given_of, joined_given, minus_given, null_scalar, ordering_given, signed}
use Rattle.lq_language.proofs.TypedMethodLaws.{given_agree, scalar_after, truth_after}
use Rattle.lq_language.proofs.TypedOperatorLaws.{Keeps, choice_keeps, coalesced_plain, decides, plain_keeps}
use Rattle.lq_language.proofs.TypingLaws.{compares_not, is_truth}
use Rattle.lq_language.proofs.ValueLaws.{is_plain, joined_plain, number_plain, plain_value, truth_is}
use Rattle.lq_tree.specs.Binding.{and_tree, binary_form, binary_tree, coalesce_tree, conditional_tree, equality_form, is_literal, is_object, operation_at, or_tree, tested_first, tested_second, tree_of, unary_tree}
use Rattle.lq_tree.specs.FormMeaning.{Slots, form_meaning, is_null_value}
use Rattle.lq_tree.specs.OperandKinds as kind
use Rattle.lq_tree.specs.declared.tree.Form.{Form, out-Form}
use Rattle.lq_tree.specs.declared.tree.Form.TheOpen.{Form-F}
use Rattle.lq_tree.specs.declared.tree.Form.TheVariants as form
use Rattle.lq_tree.specs.declared.tree.Tree.{Tree}
use Rattle.lq_tree.proofs.FormSteps.{meaning_at}
use Rattle.lq_tree.proofs.MeansMembers.{on_ok_twice, same_agree}
use Rattle.lq_tree.proofs.OperandLemmas.{Computes, alike_plain, compared_alike, joined_sides, number_no_text, number_numeric, number_scalar, object_value, text_scalar, type_of_computed, type_of_equality}
use Rattle.lq_tree.proofs.ScopeLaws.{first_of_pair, second_of_pair}

-- ---- which operator a sign is

-- `+` between scalars that aren't texts, of types that aren't either
added : (s t : Ty) (x y : Scalar) → (is_text (out-Ty s) || is_text (out-Ty t)) ≡ false → kind.is_number x ≡ true
    → kind.is_number y ≡ true
    → operation_on binary.Add (Some s) (Some t) x y ≡ operation_at binary.Add (out-Ty s) (out-Ty t)
added s t (scalar.Text x) y none h k = absurd (true≢false (sym h))
added s t x (scalar.Text y) none h k = absurd (true≢false (sym k))
added s t scalar.Null scalar.Null none h k = refl
added s t x y none h k = sym (ap (λ (b : Bool). if b then op.Concat else op.Add) none)

numbers_signed : (sign : Binary) (s t : Ty) → is_number (out-Ty s) ≡ true → is_number (out-Ty t) ≡ true → (x y : Scalar) → IsScalarOf (out-Ty s) x
    → IsScalarOf (out-Ty t) y
    → operation_on sign (Some s) (Some t) x y ≡ operation_at sign (out-Ty s) (out-Ty t)
numbers_signed binary.Add s t h k x y x_fits y_fits =
    added s t x y (ap₂ (λ (a b : Bool). a || b) (number_no_text (out-Ty s) h) (number_no_text (out-Ty t) k))
    (number_scalar (out-Ty s) (number_numeric (out-Ty s) h) x x_fits) (number_scalar (out-Ty t) (number_numeric (out-Ty t) k) y y_fits)
numbers_signed sign s t h k x y x_fits y_fits = refl

texts_signed : (s t : Ty) (x y : Scalar) → (is_text (out-Ty s) || is_text (out-Ty t)) ≡ true → kind.is_text x ≡ true
    → kind.is_text y ≡ true
    → operation_on binary.Add (Some s) (Some t) x y ≡ operation_at binary.Add (out-Ty s) (out-Ty t)
texts_signed s t (scalar.Text x) y some h k = sym (ap (λ (b : Bool). if b then op.Concat else op.Add) some)
texts_signed s t scalar.Null (scalar.Text y) some h k = sym (ap (λ (b : Bool). if b then op.Concat else op.Add) some)
texts_signed s t scalar.Null scalar.Null some h k = refl
texts_signed s t scalar.Null y some h k = absurd (true≢false (sym k))
texts_signed s t x y some h k = absurd (true≢false (sym h))

module _ {R : Type 0} (world : World R) (slots : Slots R) where
  abbrev Val : Ty → Value R → Type 0
  Val = IsValueOf world

  abbrev mean : Form → Result (Value R) Fault
  mean f = form_meaning world f slots

  abbrev Means : Tree → Result (Value R) Fault → Type 0
  Means tree n = Agree (Val tree.ty) (mean tree.form) n

  -- ---- signs that compute or ask for the order

  -- the types of operands that have a result, and what the sign gives
  abbrev Signs : Binary → Ty → Ty → Ty → Type 0
  Signs sign s t r =
      (is_plain (out-Ty s) ≡ true) × (is_plain (out-Ty t) ≡ true)
      × ((x y : Scalar) → IsScalarOf (out-Ty s) x → IsScalarOf (out-Ty t) y
      → Gives (out-Ty r) (signed sign s t x y) × (operation_on sign (Some s) (Some t) x y ≡ operation_at sign (out-Ty s) (out-Ty t)))

  numbers_given : (sign : Binary) (s t : Ty) → is_equality sign ≡ false → is_number (out-Ty s) ≡ true → is_number (out-Ty t) ≡ true → (b : Bool)
      → is_ordering sign ≡ b
      → (x y : Scalar) → IsScalarOf (out-Ty s) x → IsScalarOf (out-Ty t) y
      → Gives (out-Ty (if b then ty.Bool else number_type (out-Ty s) (out-Ty t))) (signed sign s t x y)
  numbers_given sign s t other h k true orders x y x_fits y_fits =
      given_of ty.Bool Ty-F.Bool (signed sign s t x y) outs-Bool (ordering_given sign s t orders h k x y x_fits y_fits)
  numbers_given sign s t other h k false computes x y x_fits y_fits = arithmetic_of sign s t (compares_not sign other computes) h k x y x_fits y_fits

  joined_by : (sign : Binary) (s t r : Ty) → joined_type sign (out-Ty s) (out-Ty t) ≡ Some r → Signs sign s t r
  joined_by binary.Add s t r h =
      if_by (are_joined (out-Ty s) (out-Ty t)) ty.Str r h
      (λ joins is.
      let plain = joined_plain (out-Ty s) (out-Ty t) joins in
      let sides = joined_sides (out-Ty s) (out-Ty t) joins in (
        plain.0,
        plain.1,
        λ x y x_fits y_fits. (
          subst (λ (u : Ty). Gives (out-Ty u) (signed binary.Add s t x y)) is (given_of ty.Str Ty-F.Str (signed binary.Add s t x y) outs-Str
              (joined_given s t joins x y x_fits y_fits)),
          texts_signed s t x y sides.2 (text_scalar (out-Ty s) sides.0 x x_fits) (text_scalar (out-Ty t) sides.1 y y_fits),
        ),
      ))
  joined_by sign s t r h = absurd (none-some r h)

  signs : (sign : Binary) (s t r : Ty) → is_equality sign ≡ false → type_of_operation sign (out-Ty s) (out-Ty t) ≡ Some r → Signs sign s t r
  signs sign s t r other h = by (type_of_computed sign (out-Ty s) (out-Ty t) r other h) where
    by : Computes sign (out-Ty s) (out-Ty t) r → Signs sign s t r
    by (inl are) = (
      number_plain (out-Ty s) are.0,
      number_plain (out-Ty t) are.1,
      λ x y x_fits y_fits. (
        subst (λ (u : Ty). Gives (out-Ty u) (signed sign s t x y)) are.2
            (numbers_given sign s t other are.0 are.1 (is_ordering sign) refl x y x_fits y_fits),
        numbers_signed sign s t are.0 are.1 x y x_fits y_fits,
      ),
    )
    by (inr joins) = joined_by sign s t r joins

  signed_means : (sign : Binary) (a b : Tree) (r : Ty) (m n : Result (Value R) Fault) → Signs sign a.ty b.ty r → Means a m → Means b n
      → Means (tree_of r (form.Binary (operation_at sign (out-Ty a.ty) (out-Ty b.ty)) a.form b.form)) (operated_meaning world sign (Some a.ty) (Some b.ty) m n)
  signed_means sign a b r m n typed first second =
      same_agree world slots r _ _
      (meaning_at world slots _ (form.outs-Binary (operation_at sign (out-Ty a.ty) (out-Ty b.ty)) a.form b.form))
      (scalar_after world world.unknown world.unknown (Agree (Val r)) (agree_err (Val r)) a.ty typed.0 _ _
      (λ x x_fits. scalar_after world world.unknown world.unknown (Agree (Val r)) (agree_err (Val r)) b.ty typed.1 _ _
      (λ y y_fits. let here = typed.2 x y x_fits y_fits in
      same_agree world slots r _ _ (ap (λ (o : Op). as_value (of_two world.unknown o x y)) (sym here.1)) (given_agree world world.unknown world.unknown r
      (signed sign a.ty b.ty x y) here.0))
      (mean b.form) n second) (mean a.form) m first)

  -- ---- `==` and `!=`

  -- what is asked of a value: whether it is null, or that it isn't
  abbrev asked : Bool → Value R → Value R
  asked wanted v = let null = is_null_value world (out-Value R v) in truth_value (if wanted then null else not null)

  told_is : (sign : Binary) (b : Bool) → is_equality sign ≡ true → equality_truth sign b ≡ (if equality_truth sign true then b else not b)
  told_is binary.Equal b h = refl
  told_is binary.NotEqual b h = refl
  told_is sign b h = absurd (true≢false (sym h))

  first_twice : {B : Type 0} (m n : Result (Value R) Fault) (next : Value R → Result B Fault)
      → on_ok (on_ok (on_ok m (λ v. on_ok n (λ w. Ok (pair v w)))) (λ p. Ok (first p))) next ≡ on_ok m (λ v. on_ok n (λ w. next v))
  first_twice (Ok v) (Ok w) next = ap next (first_of_pair world v w)
  first_twice (Ok v) (Err f) next = refl
  first_twice (Err f) n next = refl

  second_twice : {B : Type 0} (m n : Result (Value R) Fault) (next : Value R → Result B Fault)
      → on_ok (on_ok (on_ok m (λ v. on_ok n (λ w. Ok (pair v w)))) (λ p. Ok (second p))) next ≡ on_ok m (λ v. on_ok n (λ w. next w))
  second_twice (Ok v) (Ok w) next = ap next (second_of_pair world v w)
  second_twice (Ok v) (Err f) next = refl
  second_twice (Err f) n next = refl

  pair_first : (a b : Form) → mean (form.First (form.Pair a b)) ≡ on_ok (on_ok (mean a) (λ v. on_ok (mean b) (λ w. Ok (pair v w)))) (λ p. Ok (first p))
  pair_first a b = meaning_at world slots _ (form.outs-First (form.Pair a b)) ∙ ap (λ (o : Result (Value R) Fault). on_ok o (λ p. Ok (first p)))
      (meaning_at world slots _ (form.outs-Pair a b))

  pair_second : (a b : Form) → mean (form.Second (form.Pair a b)) ≡ on_ok (on_ok (mean a) (λ v. on_ok (mean b) (λ w. Ok (pair v w)))) (λ p. Ok (second p))
  pair_second a b = meaning_at world slots _ (form.outs-Second (form.Pair a b)) ∙ ap (λ (o : Result (Value R) Fault). on_ok o (λ p. Ok (second p)))
      (meaning_at world slots _ (form.outs-Pair a b))

  literal_mean : (b : Form) (s : Scalar) → out-Form b ≡ Form-F.Literal s → mean b ≡ Ok (value.Scalar s)
  literal_mean b s is = meaning_at world slots b is

  first_by : (a b : Form) (layer : Form-F Form) → out-Form b ≡ layer → (next : Value R → Result (Value R) Fault)
      → on_ok (mean (if is_literal layer then a else form.First (form.Pair a b))) next ≡ on_ok (mean a) (λ v. on_ok (mean b) (λ w. next v))
  first_by a b (Form-F.Literal s) is next = ap (λ (o : Result (Value R) Fault). on_ok (mean a) (λ v. on_ok o (λ w. next v))) (sym (literal_mean b s is))
  first_by a b layer is next = ap (λ (o : Result (Value R) Fault). on_ok o next) (pair_first a b) ∙ first_twice (mean a) (mean b) next

  literal_before : (m : Result (Value R) Fault) (v : Value R) (n : Result (Value R) Fault) (next : Value R → Result (Value R) Fault) → m ≡ Ok v
      → on_ok n next ≡ on_ok m (λ x. on_ok n next)
  literal_before m v n next is = ap (λ (o : Result (Value R) Fault). on_ok o (λ x. on_ok n next)) (sym is)

  second_by : (a b : Form) (layer : Form-F Form) → out-Form a ≡ layer → (next : Value R → Result (Value R) Fault)
      → on_ok (mean (if is_literal layer then b else form.Second (form.Pair a b))) next ≡ on_ok (mean a) (λ v. on_ok (mean b) next)
  second_by a b (Form-F.Literal s) is next = literal_before (mean a) (value.Scalar s) (mean b) next (literal_mean a s is)
  second_by a b layer is next = ap (λ (o : Result (Value R) Fault). on_ok o next) (pair_second a b) ∙ second_twice (mean a) (mean b) next

  -- what is beside null
  beside_null : (k l : Ty-F Ty) → (are_null_tests k l || are_comparable k l) ≡ true → is_object k ≡ true → l ≡ Ty-F.Null
  beside_null (Ty-F.Row n) Ty-F.Null h object = refl
  beside_null (Ty-F.Rec ms) Ty-F.Null h object = refl
  beside_null (Ty-F.Group k t) Ty-F.Null h object = refl
  beside_null (Ty-F.Row n) l h object = absurd (true≢false (sym h))
  beside_null (Ty-F.Rec ms) l h object = absurd (true≢false (sym h))
  beside_null (Ty-F.Group k t) l h object = absurd (true≢false (sym h))
  beside_null k l h object = absurd (true≢false (sym object))

  null_before : (k l : Ty-F Ty) → (are_null_tests k l || are_comparable k l) ≡ true → is_object l ≡ true → k ≡ Ty-F.Null
  null_before Ty-F.Null (Ty-F.Row n) h object = refl
  null_before Ty-F.Null (Ty-F.Rec ms) h object = refl
  null_before Ty-F.Null (Ty-F.Group k t) h object = refl
  null_before k (Ty-F.Row n) h object = absurd (true≢false (sym h))
  null_before k (Ty-F.Rec ms) h object = absurd (true≢false (sym h))
  null_before k (Ty-F.Group l t) h object = absurd (true≢false (sym h))
  null_before k l h object = absurd (true≢false (sym object))

  null_of : (t : Ty) (v : Value R) → out-Ty t ≡ Ty-F.Null → Val t v → v ≡ value.Scalar scalar.Null
  null_of t v is fits =
      let found = plain_value world t v (ap is_plain is) fits in found.1
      ∙ ap value.Scalar (null_scalar found.0 (subst (λ (u : Ty-F Ty). IsScalarOf u found.0) is found.2))

  abbrev Null : Value-F R (Value R)
  Null = Value-F.Scalar scalar.Null

  -- whether a value is null, as `==` with null decides it, from either side
  abbrev AsksNull : Value R → Type 0
  AsksNull v =
      (same_operands world (out-Value R v) Null ≡ Ok (is_null_value world (out-Value R v))) × (same_operands world Null (out-Value R v)
      ≡ Ok (is_null_value world (out-Value R v)))

  asks_by : (v w : Value R) (layer : Value-F R (Value R)) → v ≡ w → out-Value R w ≡ layer → (same_operands world layer Null ≡ Ok (is_null_value world layer))
      → (same_operands world Null layer ≡ Ok (is_null_value world layer)) → AsksNull v
  asks_by v w layer v_is w_is before behind =
      subst (λ (x : Value R). AsksNull x) (sym v_is)
      (subst (λ (l : Value-F R (Value R)). (same_operands world l Null ≡ Ok (is_null_value world l)) × (same_operands world Null l ≡ Ok (is_null_value world l)))
      (sym w_is) (before, behind))

  asks_null : (v : Value R) → kind.IsObject v → AsksNull v
  asks_null v (kind.a_row r same) = asks_by v _ _ same (outs-value-Row r) refl refl
  asks_null v (kind.a_record vs same) = asks_by v _ _ same (outs-value-Rec vs) refl refl
  asks_null v (kind.a_grouped key xs same) = asks_by v _ _ same (outs-value-Group key xs) refl refl
  asks_null v (kind.no_object same) = asks_by v _ _ same (outs-Scalar scalar.Null) refl refl

  -- what two operands give, where it is known whether they are the same
  told_agree : (sign : Binary) (x : Result (Value R) Fault) (o : Result Bool Fault) (b : Bool) → o ≡ Ok b → x ≡ Ok (truth_value (equality_truth sign b))
      → Agree (Val ty.Bool) x (on_ok o (λ same. Ok (truth_value (equality_truth sign same))))
  told_agree sign x o b o_is x_is =
      subst (λ (p : Result Bool Fault). Agree (Val ty.Bool) x (on_ok p (λ same. Ok (truth_value (equality_truth sign same))))) (sym o_is)
      (same_agree world slots ty.Bool x (Ok (truth_value (equality_truth sign b))) x_is (agree_ok (Val ty.Bool) (truth_value (equality_truth sign b))
      (truth_is world (equality_truth sign b))))

  asked_agree : (sign : Binary) (v : Value R) (o : Result Bool Fault) → is_equality sign ≡ true → o ≡ Ok (is_null_value world (out-Value R v))
      → Agree (Val ty.Bool) (Ok (asked (equality_truth sign true) v)) (on_ok o (λ same. Ok (truth_value (equality_truth sign same))))
  asked_agree sign v o same is =
      told_agree sign (Ok (asked (equality_truth sign true) v)) o (is_null_value world (out-Value R v)) is
      (ap (λ (b : Bool). Ok (truth_value b)) (sym (told_is sign (is_null_value world (out-Value R v)) same)))

  -- scalars
  scalars_same : (x y : Scalar) → same_operands world (Value-F.Scalar x) (Value-F.Scalar y) ≡ same_content world.unknown x y
  scalars_same scalar.Null y = refl
  scalars_same (scalar.Int n) y = refl
  scalars_same (scalar.Bool b) y = refl
  scalars_same (scalar.Text t) y = refl

  compared_scalars : (sign : Binary) (x y : Scalar) (b : Bool) → is_equality sign ≡ true → same_content world.unknown x y ≡ Ok b
      → as_value {R = R} (of_two world.unknown (operation_of sign) x y) ≡ Ok (truth_value (equality_truth sign b))
  compared_scalars binary.Equal x y b h is = ap (λ (o : Result Bool Fault). as_value (truth world.unknown o)) is
  compared_scalars binary.NotEqual x y b h is = ap (λ (o : Result Bool Fault). as_value (truth world.unknown (on_ok o (λ same. Ok (not same))))) is
  compared_scalars sign x y b h is = absurd (true≢false (sym h))

  scalars_agree : (sign : Binary) (s t : Ty) → is_equality sign ≡ true → (are_null_tests (out-Ty s) (out-Ty t) || are_comparable (out-Ty s) (out-Ty t)) ≡ true
      → is_plain (out-Ty s) ≡ true → is_plain (out-Ty t) ≡ true → (v w : Value R) → Val s v → Val t w
      → Agree (Val ty.Bool) (on_ok (scalar_of world (out-Value R v)) (λ x. on_ok (scalar_of world (out-Value R w))
      (λ y. as_value (of_two world.unknown (operation_of sign) x y))))
      (on_ok (same_operands world (out-Value R v) (out-Value R w)) (λ same. Ok (truth_value (equality_truth sign same))))
  scalars_agree sign s t same compares s_plain t_plain v w v_fits w_fits =
      let x = plain_value world s v s_plain v_fits in
      let y = plain_value world t w t_plain w_fits in
      let x_out : out-Value R v ≡ Value-F.Scalar x.0 = ap (out-Value R) x.1 ∙ outs-Scalar x.0 in
      let y_out : out-Value R w ≡ Value-F.Scalar y.0 = ap (out-Value R) y.1 ∙ outs-Scalar y.0 in
      let decided = decides world s t compares v w v_fits w_fits in
      told_agree sign _ _ decided.0 (decided.1 world.unknown)
      (ap₂ (λ (k l : Value-F R (Value R)). on_ok (scalar_of world k) (λ x. on_ok (scalar_of world l)
      (λ y. as_value (of_two world.unknown (operation_of sign) x y)))) x_out y_out
      ∙ compared_scalars sign x.0 y.0 decided.0 same (sym (scalars_same x.0 y.0) ∙ sym (ap₂ (same_operands world) x_out y_out) ∙ decided.1 world.unknown))

  abbrev told_scalars : Binary → Scalar → Scalar → Result (Value R) Fault
  told_scalars sign x y = as_value (of_two world.unknown (operation_of sign) x y)

  turned : (sign : Binary) (n : Result (Value R) Fault) (v : Value R) (x : Scalar) → out-Value R v ≡ Value-F.Scalar x
      → on_ok (scalar_of world (out-Value R v)) (λ y. on_scalar world n (told_scalars sign y))
      ≡ on_ok n (λ w. on_ok (scalar_of world (out-Value R v)) (λ y. on_ok (scalar_of world (out-Value R w)) (told_scalars sign y)))
  turned sign n v x is =
      subst (λ (l : Value-F R (Value R)). on_ok (scalar_of world l) (λ y. on_scalar world n (told_scalars sign y))
      ≡ on_ok n (λ w. on_ok (scalar_of world l) (λ y. on_ok (scalar_of world (out-Value R w)) (told_scalars sign y)))) (sym is)
      (on_ok_twice n (λ w. scalar_of world (out-Value R w)) (told_scalars sign x))

  scalars_means : (sign : Binary) (a b : Tree) (m n : Result (Value R) Fault) → is_equality sign ≡ true
      → (are_null_tests (out-Ty a.ty) (out-Ty b.ty) || are_comparable (out-Ty a.ty) (out-Ty b.ty)) ≡ true → is_plain (out-Ty a.ty) ≡ true
      → is_plain (out-Ty b.ty) ≡ true
      → Means a m → Means b n → Agree (Val ty.Bool) (mean (form.Binary (operation_of sign) a.form b.form)) (equality_meaning world sign m n)
  scalars_means sign a b m n same compares a_plain b_plain first second =
      same_agree world slots ty.Bool _ _
      (meaning_at world slots _ (form.outs-Binary (operation_of sign) a.form b.form)
      ∙ on_ok_twice (mean a.form) (λ v. scalar_of world (out-Value R v)) (λ x. on_scalar world (mean b.form) (told_scalars sign x)))
      (on_ok_agree (Val a.ty) (Val ty.Bool) (λ v. on_ok (scalar_of world (out-Value R v)) (λ x. on_scalar world (mean b.form) (told_scalars sign x)))
      (λ v. on_ok n (λ w. on_ok (same_operands world (out-Value R v) (out-Value R w)) (λ same. Ok (truth_value (equality_truth sign same)))))
      (λ v v_fits. let x = plain_value world a.ty v a_plain v_fits in
      same_agree world slots ty.Bool _ _ (turned sign (mean b.form) v x.0 (ap (out-Value R) x.1 ∙ outs-Scalar x.0))
      (on_ok_agree (Val b.ty) (Val ty.Bool) _ _ (λ w w_fits. scalars_agree sign a.ty b.ty same compares a_plain b_plain v w v_fits w_fits)
      (mean b.form) n second))
      (mean a.form) m first)

  -- what has members or is grouped, beside null
  object_first : (sign : Binary) (a b : Tree) (m n : Result (Value R) Fault) → is_equality sign ≡ true → is_object (out-Ty a.ty) ≡ true → out-Ty b.ty
      ≡ Ty-F.Null → Means a m → Means b n
      → Agree (Val ty.Bool) (mean (form.IsNull (equality_truth sign true) (tested_first a.form b.form))) (equality_meaning world sign m n)
  object_first sign a b m n same object null first second =
      same_agree world slots ty.Bool _ _
      (meaning_at world slots _ (form.outs-IsNull (equality_truth sign true) (tested_first a.form b.form)) ∙ first_by a.form b.form (out-Form b.form) refl
      (λ v. Ok (asked (equality_truth sign true) v)))
      (on_ok_agree (Val a.ty) (Val ty.Bool) _ _ (λ v v_fits. on_ok_agree (Val b.ty) (Val ty.Bool) _ _
      (λ w w_fits. asked_agree sign v _ same
      (ap (λ (x : Value R). same_operands world (out-Value R v) (out-Value R x)) (null_of b.ty w null w_fits) ∙ ap (same_operands world (out-Value R v))
      (outs-Scalar scalar.Null)
      ∙ (asks_null v (object_value world a.ty object v v_fits)).0)) (mean b.form) n second) (mean a.form) m first)

  object_second : (sign : Binary) (a b : Tree) (m n : Result (Value R) Fault) → is_equality sign ≡ true → is_object (out-Ty b.ty) ≡ true → out-Ty a.ty
      ≡ Ty-F.Null → Means a m → Means b n
      → Agree (Val ty.Bool) (mean (form.IsNull (equality_truth sign true) (tested_second a.form b.form))) (equality_meaning world sign m n)
  object_second sign a b m n same object null first second =
      same_agree world slots ty.Bool _ _
      (meaning_at world slots _ (form.outs-IsNull (equality_truth sign true) (tested_second a.form b.form)) ∙ second_by a.form b.form (out-Form a.form) refl
      (λ v. Ok (asked (equality_truth sign true) v)))
      (on_ok_agree (Val a.ty) (Val ty.Bool) _ _ (λ v v_fits. on_ok_agree (Val b.ty) (Val ty.Bool) _ _
      (λ w w_fits. asked_agree sign w _ same
      (ap (λ (x : Value R). same_operands world (out-Value R x) (out-Value R w)) (null_of a.ty v null v_fits)
      ∙ ap (λ (l : Value-F R (Value R)). same_operands world l (out-Value R w)) (outs-Scalar scalar.Null)
      ∙ (asks_null w (object_value world b.ty object w w_fits)).1)) (mean b.form) n second) (mean a.form) m first)

  equality_means : (sign : Binary) (a b : Tree) (m n : Result (Value R) Fault) → is_equality sign ≡ true
      → (are_null_tests (out-Ty a.ty) (out-Ty b.ty) || are_comparable (out-Ty a.ty) (out-Ty b.ty)) ≡ true → Means a m → Means b n
      → Agree (Val ty.Bool) (mean (equality_form sign a b)) (equality_meaning world sign m n)
  equality_means sign a b m n same compares first second = by (is_object (out-Ty a.ty)) (is_object (out-Ty b.ty)) refl refl where
    by : (c d : Bool) → is_object (out-Ty a.ty) ≡ c → is_object (out-Ty b.ty) ≡ d
        → Agree (Val ty.Bool)
        (mean (if c then form.IsNull (equality_truth sign true) (tested_first a.form b.form)
        else (if d then form.IsNull (equality_truth sign true) (tested_second a.form b.form) else form.Binary (operation_of sign) a.form b.form)))
        (equality_meaning world sign m n)
    by true d c_is d_is = object_first sign a b m n same c_is (beside_null (out-Ty a.ty) (out-Ty b.ty) compares c_is) first second
    by false true c_is d_is = object_second sign a b m n same d_is (null_before (out-Ty a.ty) (out-Ty b.ty) compares d_is) first second
    by false false c_is d_is =
        let plain = alike_plain (out-Ty a.ty) (out-Ty b.ty) (compared_alike (out-Ty a.ty) (out-Ty b.ty) compares c_is d_is) in scalars_means sign a b m n same compares plain.0 plain.1 first second

  -- ---- any sign

  -- what a sign means between operands of these types
  abbrev pub sign_meaning : Binary → Option Ty → Option Ty → Result (Value R) Fault → Result (Value R) Fault → Result (Value R) Fault
  sign_meaning sign s t m n =
      if is_equality sign then equality_meaning world sign m n
      else (if is_equality sign then compared_meaning world sign m n else operated_meaning world sign s t m n)

  sign_by : (sign : Binary) (a b : Tree) (r : Ty) (m n : Result (Value R) Fault) → type_of_operation sign (out-Ty a.ty) (out-Ty b.ty) ≡ Some r → Means a m
      → Means b n
      → (c : Bool) → is_equality sign ≡ c
      → Agree (Val r) (mean (if c then equality_form sign a b else form.Binary (operation_at sign (out-Ty a.ty) (out-Ty b.ty)) a.form b.form))
      (if c then equality_meaning world sign m n else (if c then compared_meaning world sign m n else operated_meaning world sign (Some a.ty) (Some b.ty) m n))
  sign_by sign a b r m n h first second true same =
      let types = type_of_equality sign (out-Ty a.ty) (out-Ty b.ty) r same h in
      subst (λ (u : Ty). Agree (Val u) (mean (equality_form sign a b)) (equality_meaning world sign m n)) types.1
      (equality_means sign a b m n same types.0 first second)
  sign_by sign a b r m n h first second false other = signed_means sign a b r m n (signs sign a.ty b.ty r other h) first second

  pub binary_means : (sign : Binary) (a b r : Tree) (m n : Result (Value R) Fault) (s t : Option Ty) → binary_tree sign a b ≡ Some r → s ≡ Some a.ty → t
      ≡ Some b.ty → Means a m → Means b n
      → Means r (sign_meaning sign s t m n)
  binary_means sign a b r m n s t h s_is t_is first second =
      map_by _ (type_of_operation sign (out-Ty a.ty) (out-Ty b.ty)) r h
      (λ u found is. subst (λ (x : Tree). Means x (sign_meaning sign s t m n)) is
      (subst (λ (o : Option Ty). Means (tree_of u (binary_form sign a b)) (sign_meaning sign o t m n)) (sym s_is)
      (subst (λ (o : Option Ty). Means (tree_of u (binary_form sign a b)) (sign_meaning sign (Some a.ty) o m n)) (sym t_is)
      (sign_by sign a b u m n found first second (is_equality sign) refl))))

  -- ---- operators with one operand, and those that may leave one out

  pub minus_means : (a r : Tree) (n : Result (Value R) Fault) → unary_tree unary.Minus a ≡ Some r → Means a n
      → Means r (on_scalar world n (λ s. as_value (negated world.unknown s)))
  minus_means a r n h agree =
      when_by (is_number (out-Ty a.ty)) _ r h
      (λ number is. subst (λ (x : Tree). Means x (on_scalar world n (λ s. as_value (negated world.unknown s)))) (same_Some _ r is)
      (same_agree world slots a.ty _ _ (meaning_at world slots _ (form.outs-Unary op.Minus a.form))
      (scalar_after world world.unknown world.unknown (Agree (Val a.ty)) (agree_err (Val a.ty)) a.ty (number_plain (out-Ty a.ty) number) _ _
      (λ s fits. given_agree world world.unknown world.unknown a.ty (λ unknown. negated unknown s) (minus_given (out-Ty a.ty) number s fits))
      (mean a.form) n agree)))

  bools : (a : Tree) (m : Result (Value R) Fault) → is_bool (out-Ty a.ty) ≡ true → Means a m → Agree (Val ty.Bool) (mean a.form) m
  bools a m truth agree = subst (λ (u : Ty). Agree (Val u) (mean a.form) m) (is_truth a.ty truth) agree

  not_by : (o : Result Bool Fault) → as_value {R = R} (truth world.unknown (on_ok o (λ b. Ok (not b)))) ≡ on_ok o (λ t. Ok (truth_value (not t)))
  not_by (Ok b) = refl
  not_by (Err f) = refl

  pub not_means : (a r : Tree) (n : Result (Value R) Fault) → unary_tree unary.Not a ≡ Some r → Means a n
      → Means r (on_truth world n (λ t. Ok (truth_value (not t))))
  not_means a r n h agree =
      when_by (is_bool (out-Ty a.ty)) _ r h
      (λ truth_type is. subst (λ (x : Tree). Means x (on_truth world n (λ t. Ok (truth_value (not t))))) (same_Some _ r is)
      (same_agree world slots ty.Bool _ (on_truth world (mean a.form) (λ t. Ok (truth_value (not t))))
      (meaning_at world slots _ (form.outs-Unary op.Not a.form)
      ∙ ap (λ (k : Scalar → Result (Value R) Fault). on_scalar world (mean a.form) k) (λ i s. not_by (truth_of world.unknown s) i)
      ∙ sym (on_ok_twice (on_ok (mean a.form) (λ v. scalar_of world (out-Value R v))) (truth_of world.unknown) (λ t. Ok (truth_value (not t)))))
      (truth_after world world.unknown world.unknown ty.Bool (λ t. Ok (truth_value (not t))) (λ t. Ok (truth_value (not t)))
      (λ t. agree_ok (Val ty.Bool) (truth_value (not t)) (truth_is world (not t))) (mean a.form) n (bools a n truth_type agree))))

  both_by : (m n : Result (Value R) Fault) → Agree (Val ty.Bool) m n → (c d : Bool) → Agree (Val ty.Bool) (if c then m else Ok (truth_value d))
      (if c then n else Ok (truth_value d))
  both_by m n agree true d = agree
  both_by m n agree false d = agree_ok (Val ty.Bool) (truth_value d) (truth_is world d)

  either_by : (m n : Result (Value R) Fault) → Agree (Val ty.Bool) m n → (c d : Bool) → Agree (Val ty.Bool) (if c then Ok (truth_value d) else m)
      (if c then Ok (truth_value d) else n)
  either_by m n agree true d = agree_ok (Val ty.Bool) (truth_value d) (truth_is world d)
  either_by m n agree false d = agree

  pub and_means : (a b r : Tree) (m n : Result (Value R) Fault) → and_tree a b ≡ Some r → Means a m → Means b n
      → Means r (on_truth world m (λ t. if t then n else Ok (truth_value false)))
  and_means a b r m n h first second =
      when_by (is_bool (out-Ty a.ty) && is_bool (out-Ty b.ty)) _ r h
      (λ truths is. let are = and_parts (is_bool (out-Ty a.ty)) (is_bool (out-Ty b.ty)) truths in
      subst (λ (x : Tree). Means x (on_truth world m (λ t. if t then n else Ok (truth_value false)))) (same_Some _ r is)
      (same_agree world slots ty.Bool _ _ (meaning_at world slots _ (form.outs-And a.form b.form))
      (truth_after world world.unknown world.unknown ty.Bool _ _ (λ c. both_by (mean b.form) n (bools b n are.1 second) c false) (mean a.form) m
      (bools a m are.0 first))))

  pub or_means : (a b r : Tree) (m n : Result (Value R) Fault) → or_tree a b ≡ Some r → Means a m → Means b n
      → Means r (on_truth world m (λ t. if t then Ok (truth_value true) else n))
  or_means a b r m n h first second =
      when_by (is_bool (out-Ty a.ty) && is_bool (out-Ty b.ty)) _ r h
      (λ truths is. let are = and_parts (is_bool (out-Ty a.ty)) (is_bool (out-Ty b.ty)) truths in
      subst (λ (x : Tree). Means x (on_truth world m (λ t. if t then Ok (truth_value true) else n))) (same_Some _ r is)
      (same_agree world slots ty.Bool _ _ (meaning_at world slots _ (form.outs-Or a.form b.form))
      (truth_after world world.unknown world.unknown ty.Bool _ _ (λ c. either_by (mean b.form) n (bools b n are.1 second) c true) (mean a.form) m
      (bools a m are.0 first))))

  coalesced_by : (s t r : Ty) → coalesced (out-Ty s) (out-Ty t) ≡ Some r → (x : Scalar) → IsScalarOf (out-Ty s) x → (m n : Result (Value R) Fault)
      → Agree (Val t) m n
      → (c : Bool) → is_null x ≡ c → Agree (Val r) (if c then m else Ok (value.Scalar x)) (if c then n else Ok (value.Scalar x))
  coalesced_by s t r h x fits m n agree true is =
      (agree.0, λ v got. plain_keeps world t r (coalesced_plain (out-Ty s) (out-Ty t) r h).1 (coalesced_fits (out-Ty s) (out-Ty t) r h).1.1 v (agree.1 v got))
  coalesced_by s t r h x fits m n agree false is = agree_ok (Val r) (value.Scalar x) (by_scalar r x ((coalesced_fits (out-Ty s) (out-Ty t) r h).1.0 x fits is))

  pub coalesce_means : (a b r : Tree) (m n : Result (Value R) Fault) → coalesce_tree a b ≡ Some r → Means a m → Means b n
      → Means r (on_scalar world m (λ s. if is_null s then n else Ok (value.Scalar s)))
  coalesce_means a b r m n h first second =
      map_by _ (coalesced (out-Ty a.ty) (out-Ty b.ty)) r h
      (λ u found is. subst (λ (x : Tree). Means x (on_scalar world m (λ s. if is_null s then n else Ok (value.Scalar s)))) is
      (same_agree world slots u _ _ (meaning_at world slots _ (form.outs-Coalesce a.form b.form))
      (scalar_after world world.unknown world.unknown (Agree (Val u)) (agree_err (Val u)) a.ty (coalesced_plain (out-Ty a.ty) (out-Ty b.ty) u found).0 _ _
      (λ x fits. coalesced_by a.ty b.ty u found x fits (mean b.form) n second (is_null x) refl) (mean a.form) m first)))

  choice_by : (r s t : Ty) → Keeps world s r → Keeps world t r → (m n k l : Result (Value R) Fault) → Agree (Val s) m n → Agree (Val t) k l → (c : Bool)
      → Agree (Val r) (if c then m else k) (if c then n else l)
  choice_by r s t s_keeps t_keeps m n k l first second true = (first.0, λ v is. s_keeps v (first.1 v is))
  choice_by r s t s_keeps t_keeps m n k l first second false = (second.0, λ v is. t_keeps v (second.1 v is))

  pub conditional_means : (c a b r : Tree) (l m n : Result (Value R) Fault) → conditional_tree c a b ≡ Some r → Means c l → Means a m → Means b n
      → Means r (on_truth world l (λ t. if t then m else n))
  conditional_means c a b r l m n h condition first second =
      when_by (is_bool (out-Ty c.ty)) _ r h
      (λ truth found. map_by _ (type_of_choice (out-Ty a.ty) (out-Ty b.ty)) r found
      (λ u chooses is. let keeps = choice_keeps world a.ty b.ty u chooses in
      subst (λ (x : Tree). Means x (on_truth world l (λ t. if t then m else n))) is
      (same_agree world slots u _ _ (meaning_at world slots _ (form.outs-Conditional c.form a.form b.form))
      (truth_after world world.unknown world.unknown u _ _ (choice_by u a.ty b.ty keeps.0 keeps.1 (mean a.form) m (mean b.form) n first second)
      (mean c.form) l (bools c l truth condition)))))
