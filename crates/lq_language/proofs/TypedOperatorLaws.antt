-- Operators on values of their operands' types: what `==` decides, and what a choice keeps and gives.
use Rattle.std.proofs.Common.{◌≡◌, ◌||◌, if◌then◌else◌, List, ℕ, Bool, true, false, Some, Result, Ok, ap, ap₂, ◌∙◌, sym, refl, subst, true≢false}
use Rattle.std.proofs.lemmas.Option.{none-some, same_Some}
use Rattle.lq_value.specs.declared.scalar.Scalar.{Scalar}
use Rattle.lq_value.specs.declared.scalar.Scalar.TheVariants as scalar
use Rattle.lq_value.specs.declared.ty.Ty.{Ty, out-Ty}
use Rattle.lq_value.specs.declared.ty.Ty.TheOpen.{Ty-F}
use Rattle.lq_value.specs.declared.ty.Ty.TheVariants as ty
use Rattle.lq_value.specs.declared.ty.Ty.TheVariants.{outs-Rec}
use Rattle.lq_value.specs.declared.value.Fault.{Fault}
use Rattle.lq_value.specs.declared.value.Value.{Value, out-Value}
use Rattle.lq_value.specs.declared.value.Value.TheOpen.{Value-F}
use Rattle.lq_value.specs.declared.value.Value.TheVariants as value
use Rattle.lq_value.specs.declared.value.Value.TheVariants.{outs-Group as outs-value-Group, outs-Rec as outs-value-Rec, outs-Row as outs-value-Row, outs-Scalar}
use Rattle.lq_language.specs.Worlds.{World}
use Rattle.lq_language.specs.OperandMeaning.{is_null, truth_value}
use Rattle.lq_language.specs.ValuesOfTypes.{IsScalarOf, assuming}
use Rattle.lq_language.specs.Operations.{same_content}
use Rattle.lq_language.specs.Types.{same_types}
use Rattle.lq_language.specs.OperandTypes.{are_comparable, choice_type_of_layers, coalesced, row_table}
use Rattle.lq_language.specs.Meaning.{same_operands}
use Rattle.lq_language.specs.MeaningLaws.{by_group, by_null_record, by_record, by_row, by_scalar, by_sequence}
use Rattle.lq_language.specs.Typing.{are_null_tests, type_of_choice}
use Rattle.lq_language.proofs.AlikeStreamLaws.{Agree, agree_ok}
use Rattle.lq_language.proofs.FindingLaws.{when_by}
use Rattle.lq_language.proofs.ScalarResultLaws.{Decides, Widens, chosen_widens, coalesced_fits, comparable_same, null_scalar}
use Rattle.lq_language.proofs.SameTypeLaws.{same_type}
use Rattle.lq_language.proofs.TypingLaws.{is_of_layer, type_with}
use Rattle.lq_language.proofs.ValueLaws.{Is, RecordOrNull, RowOrNull, a_record, a_row, group_value, is_plain, no_record, no_row, plain_value, record_value, row_value, truth_is}

-- ---- what `==` compares

data Comparing : Ty-F Ty → Ty-F Ty → Type 0 where
  scalars : (k l : Ty-F Ty) → is_plain k ≡ true → is_plain l ≡ true → are_comparable k l ≡ true → Comparing k l
  row_null : (n : ℕ) → Comparing (Ty-F.Row n) Ty-F.Null
  null_row : (n : ℕ) → Comparing Ty-F.Null (Ty-F.Row n)
  record_null : (ms : List (List ℕ × Ty)) → Comparing (Ty-F.Rec ms) Ty-F.Null
  null_record : (ms : List (List ℕ × Ty)) → Comparing Ty-F.Null (Ty-F.Rec ms)
  group_null : (k t : Ty) → Comparing (Ty-F.Group k t) Ty-F.Null
  null_group : (k t : Ty) → Comparing Ty-F.Null (Ty-F.Group k t)

comparing : (k l : Ty-F Ty) → (are_null_tests k l || are_comparable k l) ≡ true → Comparing k l
comparing Ty-F.Int Ty-F.Int h = scalars _ _ refl refl refl
comparing Ty-F.Int Ty-F.IntN h = scalars _ _ refl refl refl
comparing Ty-F.Int Ty-F.Null h = scalars _ _ refl refl refl
comparing Ty-F.IntN Ty-F.Int h = scalars _ _ refl refl refl
comparing Ty-F.IntN Ty-F.IntN h = scalars _ _ refl refl refl
comparing Ty-F.IntN Ty-F.Null h = scalars _ _ refl refl refl
comparing Ty-F.Bool Ty-F.Bool h = scalars _ _ refl refl refl
comparing Ty-F.Str Ty-F.Str h = scalars _ _ refl refl refl
comparing Ty-F.Str Ty-F.Null h = scalars _ _ refl refl refl
comparing Ty-F.Null Ty-F.Int h = scalars _ _ refl refl refl
comparing Ty-F.Null Ty-F.IntN h = scalars _ _ refl refl refl
comparing Ty-F.Null Ty-F.Str h = scalars _ _ refl refl refl
comparing Ty-F.Null Ty-F.Null h = scalars _ _ refl refl refl
comparing (Ty-F.Row n) Ty-F.Null h = row_null n
comparing Ty-F.Null (Ty-F.Row n) h = null_row n
comparing (Ty-F.Rec ms) Ty-F.Null h = record_null ms
comparing Ty-F.Null (Ty-F.Rec ms) h = null_record ms
comparing (Ty-F.Group k t) Ty-F.Null h = group_null k t
comparing Ty-F.Null (Ty-F.Group k t) h = null_group k t
comparing k l h = absurd (true≢false (sym h))

module _ {R : Type 0} (world : World R) where
  abbrev DecidesLayers : Value-F R (Value R) → Value-F R (Value R) → Type 0
  DecidesLayers x y = Decides (λ unknown. same_operands (assuming unknown world) x y)

  scalars_same : (x y : Scalar) (unknown : Fault) → same_operands (assuming unknown world) (Value-F.Scalar x) (Value-F.Scalar y) ≡ same_content unknown x y
  scalars_same scalar.Null y unknown = refl
  scalars_same (scalar.Int n) y unknown = refl
  scalars_same (scalar.Bool b) y unknown = refl
  scalars_same (scalar.Text t) y unknown = refl

  abbrev pub DecidesSame : Value R → Value R → Type 0
  DecidesSame v w = DecidesLayers (out-Value R v) (out-Value R w)

  at_layers : (v w v' w' : Value R) (x y : Value-F R (Value R)) → v ≡ v' → w ≡ w' → out-Value R v' ≡ x → out-Value R w' ≡ y → DecidesLayers x y → DecidesSame v w
  at_layers v w v' w' x y v_is w_is x_is y_is decided =
      (decided.0, λ unknown. ap₂ (same_operands (assuming unknown world)) (ap (out-Value R) v_is ∙ x_is) (ap (out-Value R) w_is ∙ y_is) ∙ decided.1 unknown)

  null_of : (t : Ty) (v : Value R) → out-Ty t ≡ Ty-F.Null → Is world t v → v ≡ value.Scalar scalar.Null
  null_of t v is fits =
      let found = plain_value world t v (ap is_plain is) fits in found.1 ∙ ap value.Scalar (null_scalar found.0 (subst (λ (u : Ty-F Ty). IsScalarOf u found.0) is found.2))

  two_nulls : (v w : Value R) → v ≡ value.Scalar scalar.Null → w ≡ value.Scalar scalar.Null → DecidesSame v w
  two_nulls v w v_is w_is = at_layers v w _ _ _ _ v_is w_is (outs-Scalar scalar.Null) (outs-Scalar scalar.Null) (true, λ unknown. refl)

  row_by : (n : ℕ) (v w : Value R) → w ≡ value.Scalar scalar.Null → RowOrNull world n v → DecidesSame v w
  row_by n v w w_is (a_row r cells is) = at_layers v w _ _ _ _ is w_is (outs-value-Row r) (outs-Scalar scalar.Null) (false, λ unknown. refl)
  row_by n v w w_is (no_row is) = two_nulls v w is w_is

  by_row_behind : (n : ℕ) (v w : Value R) → v ≡ value.Scalar scalar.Null → RowOrNull world n w → DecidesSame v w
  by_row_behind n v w v_is (a_row r cells is) = at_layers v w _ _ _ _ v_is is (outs-Scalar scalar.Null) (outs-value-Row r) (false, λ unknown. refl)
  by_row_behind n v w v_is (no_row is) = two_nulls v w v_is is

  record_by : (ms : List (List ℕ × Ty)) (v w : Value R) → w ≡ value.Scalar scalar.Null → RecordOrNull world ms v → DecidesSame v w
  record_by ms v w w_is (a_record vs fits is) = at_layers v w _ _ _ _ is w_is (outs-value-Rec vs) (outs-Scalar scalar.Null) (false, λ unknown. refl)
  record_by ms v w w_is (no_record is) = two_nulls v w is w_is

  record_behind : (ms : List (List ℕ × Ty)) (v w : Value R) → v ≡ value.Scalar scalar.Null → RecordOrNull world ms w → DecidesSame v w
  record_behind ms v w v_is (a_record vs fits is) = at_layers v w _ _ _ _ v_is is (outs-Scalar scalar.Null) (outs-value-Rec vs) (false, λ unknown. refl)
  record_behind ms v w v_is (no_record is) = two_nulls v w v_is is

  decides_by : (s t : Ty) (k l : Ty-F Ty) → out-Ty s ≡ k → out-Ty t ≡ l → Comparing k l → (v w : Value R) → Is world s v → Is world t w → DecidesSame v w
  decides_by s t k l s_is t_is (scalars _ _ k_plain l_plain h) v w v_fits w_fits =
      let x = plain_value world s v (ap is_plain s_is ∙ k_plain) v_fits in
      let y = plain_value world t w (ap is_plain t_is ∙ l_plain) w_fits in
      let decided = comparable_same (out-Ty s) (out-Ty t) (ap₂ are_comparable s_is t_is ∙ h) x.0 y.0 x.2 y.2 in
      at_layers v w _ _ _ _ x.1 y.1 (outs-Scalar x.0) (outs-Scalar y.0) (decided.0, λ unknown. scalars_same x.0 y.0 unknown ∙ decided.1 unknown)
  decides_by s t _ _ s_is t_is (row_null n) v w v_fits w_fits = row_by n v w (null_of t w t_is w_fits) (row_value world s n v s_is v_fits)
  decides_by s t _ _ s_is t_is (null_row n) v w v_fits w_fits = by_row_behind n v w (null_of s v s_is v_fits) (row_value world t n w t_is w_fits)
  decides_by s t _ _ s_is t_is (record_null ms) v w v_fits w_fits = record_by ms v w (null_of t w t_is w_fits) (record_value world s ms v s_is v_fits)
  decides_by s t _ _ s_is t_is (null_record ms) v w v_fits w_fits = record_behind ms v w (null_of s v s_is v_fits) (record_value world t ms w t_is w_fits)
  decides_by s t _ _ s_is t_is (group_null k u) v w v_fits w_fits =
      let found = group_value world s k u v s_is v_fits in
      at_layers v w _ _ _ _ found.2 (null_of t w t_is w_fits) (outs-value-Group found.0 found.1) (outs-Scalar scalar.Null) (false, λ unknown. refl)
  decides_by s t _ _ s_is t_is (null_group k u) v w v_fits w_fits =
      let found = group_value world t k u w t_is w_fits in
      at_layers v w _ _ _ _ (null_of s v s_is v_fits) found.2 (outs-Scalar scalar.Null) (outs-value-Group found.0 found.1) (false, λ unknown. refl)

  pub decides : (s t : Ty) → (are_null_tests (out-Ty s) (out-Ty t) || are_comparable (out-Ty s) (out-Ty t)) ≡ true → (v w : Value R) → Is world s v → Is world t w → DecidesSame v w
  decides s t h = decides_by s t (out-Ty s) (out-Ty t) refl refl (comparing (out-Ty s) (out-Ty t) h)

-- ---- what a choice keeps

abbrev is_flat : Ty-F Ty → Bool
is_flat (Ty-F.Row n) = true
is_flat layer = is_plain layer

chosen_flat : (k l : Ty-F Ty) (r : Ty) → choice_type_of_layers k l ≡ Some r → (is_flat k ≡ true) × (is_flat l ≡ true)
chosen_flat Ty-F.Int Ty-F.Int r h = (refl, refl)
chosen_flat Ty-F.Int Ty-F.IntN r h = (refl, refl)
chosen_flat Ty-F.IntN Ty-F.Int r h = (refl, refl)
chosen_flat Ty-F.IntN Ty-F.IntN r h = (refl, refl)
chosen_flat Ty-F.IntN Ty-F.Null r h = (refl, refl)
chosen_flat Ty-F.Null Ty-F.IntN r h = (refl, refl)
chosen_flat Ty-F.Bool Ty-F.Bool r h = (refl, refl)
chosen_flat Ty-F.Str Ty-F.Str r h = (refl, refl)
chosen_flat Ty-F.Str Ty-F.Null r h = (refl, refl)
chosen_flat Ty-F.Null Ty-F.Str r h = (refl, refl)
chosen_flat (Ty-F.Row m) (Ty-F.Row n) r h = (refl, refl)
chosen_flat (Ty-F.Row n) Ty-F.Null r h = (refl, refl)
chosen_flat Ty-F.Null (Ty-F.Row n) r h = (refl, refl)
chosen_flat k l r h = absurd (none-some r h)

pub coalesced_plain : (k l : Ty-F Ty) (r : Ty) → coalesced k l ≡ Some r → (is_plain k ≡ true) × (is_plain l ≡ true)
coalesced_plain Ty-F.IntN Ty-F.Int r h = (refl, refl)
coalesced_plain Ty-F.IntN Ty-F.IntN r h = (refl, refl)
coalesced_plain Ty-F.IntN Ty-F.Null r h = (refl, refl)
coalesced_plain Ty-F.Str Ty-F.Str r h = (refl, refl)
coalesced_plain Ty-F.Str Ty-F.Null r h = (refl, refl)
coalesced_plain k l r h = absurd (none-some r h)

plain_flat : (layer : Ty-F Ty) → is_plain layer ≡ true → is_flat layer ≡ true
plain_flat (Ty-F.Row n) h = refl
plain_flat layer h = h

row_layer_is : (layer : Ty-F Ty) (n : ℕ) → row_table layer ≡ Some n → layer ≡ Ty-F.Row n
row_layer_is (Ty-F.Row m) n h = ap Ty-F.Row (same_Some m n h)
row_layer_is layer n h = absurd (none-some n h)

module _ {R : Type 0} (world : World R) where
  abbrev pub Keeps : Ty → Ty → Type 0
  Keeps t r = (v : Value R) → Is world t v → Is world r v

  flat_keeps : (t r : Ty) → is_flat (out-Ty t) ≡ true → Widens (out-Ty t) (out-Ty r) → Keeps t r
  flat_keeps t r flat widens _ (by_scalar _ s fits) = by_scalar r s (widens.scalars s fits)
  flat_keeps t r flat widens _ (by_null_record _ ms is) = absurd (true≢false (sym flat ∙ ap is_flat is))
  flat_keeps t r flat widens _ (by_row _ n row is cells) = by_row r n row (row_layer_is (out-Ty r) n (widens.rows n (ap row_table is))) cells
  flat_keeps t r flat widens _ (by_record _ ms vs is fits) = absurd (true≢false (sym flat ∙ ap is_flat is))
  flat_keeps t r flat widens _ (by_group _ k u key vs is fits items) = absurd (true≢false (sym flat ∙ ap is_flat is))
  flat_keeps t r flat widens _ (by_sequence _ u vs e is items) = absurd (true≢false (sym flat ∙ ap is_flat is))

  pub plain_keeps : (t r : Ty) → is_plain (out-Ty t) ≡ true → Widens (out-Ty t) (out-Ty r) → Keeps t r
  plain_keeps t r plain = flat_keeps t r (plain_flat (out-Ty t) plain)

  same_keeps : (t r : Ty) → t ≡ r → Keeps t r
  same_keeps t r is v = subst (λ (u : Ty). Is world u v) is

  null_keeps : (t r : Ty) (ms : List (List ℕ × Ty)) → out-Ty t ≡ Ty-F.Null → ty.Rec ms ≡ r → Keeps t r
  null_keeps t r ms is same v fits =
      subst (Is world r) (sym (null_of world t v is fits)) (by_null_record r ms (ap out-Ty (sym same) ∙ outs-Rec ms))

  of_layer : (t : Ty) (layer : Ty-F Ty) → out-Ty t ≡ layer → t ≡ type_with layer
  of_layer t layer is = is_of_layer t ∙ ap type_with is

  choice_by : (s t r : Ty) (k l : Ty-F Ty) → out-Ty s ≡ k → out-Ty t ≡ l → type_of_choice k l ≡ Some r → Keeps s r × Keeps t r
  choice_by s t r (Ty-F.Rec ms) (Ty-F.Rec ns) s_is t_is h =
      when_by (same_types (ty.Rec ms) (ty.Rec ns)) (Some (ty.Rec ms)) r h (λ same is. let made : ty.Rec ms ≡ r = same_Some _ r is in (
        same_keeps s r (of_layer s _ s_is ∙ made),
        same_keeps t r (of_layer t _ t_is ∙ sym (same_type (ty.Rec ms) (ty.Rec ns) same) ∙ made),
      ))
  choice_by s t r (Ty-F.Rec ms) Ty-F.Null s_is t_is h = (same_keeps s r (of_layer s _ s_is ∙ same_Some _ r h), null_keeps t r ms t_is (same_Some _ r h))
  choice_by s t r Ty-F.Null (Ty-F.Rec ms) s_is t_is h = (null_keeps s r ms s_is (same_Some _ r h), same_keeps t r (of_layer t _ t_is ∙ same_Some _ r h))
  choice_by s t r k l s_is t_is h =
      let flat = chosen_flat k l r h in
      let widens = chosen_widens k l r h in (
        flat_keeps s r (ap is_flat s_is ∙ flat.0) (subst (λ (x : Ty-F Ty). Widens x (out-Ty r)) (sym s_is) widens.0),
        flat_keeps t r (ap is_flat t_is ∙ flat.1) (subst (λ (x : Ty-F Ty). Widens x (out-Ty r)) (sym t_is) widens.1),
      )

  pub choice_keeps : (s t r : Ty) → type_of_choice (out-Ty s) (out-Ty t) ≡ Some r → Keeps s r × Keeps t r
  choice_keeps s t r h = choice_by s t r (out-Ty s) (out-Ty t) refl refl h

  -- ---- an outcome of two, each of which is the same in both worlds

  pub and_agrees : (m n : Result (Value R) Fault) → Agree (Is world ty.Bool) m n → (c d : Bool)
      → Agree (Is world ty.Bool) (if c then m else Ok (truth_value d)) (if c then n else Ok (truth_value d))
  and_agrees m n agree true d = agree
  and_agrees m n agree false d = agree_ok (Is world ty.Bool) (truth_value d) (truth_is world d)

  pub or_agrees : (m n : Result (Value R) Fault) → Agree (Is world ty.Bool) m n → (c d : Bool)
      → Agree (Is world ty.Bool) (if c then Ok (truth_value d) else m) (if c then Ok (truth_value d) else n)
  or_agrees m n agree true d = agree_ok (Is world ty.Bool) (truth_value d) (truth_is world d)
  or_agrees m n agree false d = agree

  pub choice_agrees : (r s t : Ty) → Keeps s r → Keeps t r → (m n k l : Result (Value R) Fault) → Agree (Is world s) m n → Agree (Is world t) k l → (c : Bool)
      → Agree (Is world r) (if c then m else k) (if c then n else l)
  choice_agrees r s t s_keeps t_keeps m n k l first second true = (first.0, λ v is. s_keeps v (first.1 v is))
  choice_agrees r s t s_keeps t_keeps m n k l first second false = (second.0, λ v is. t_keeps v (second.1 v is))

  pub coalesced_agrees : (s t r : Ty) → coalesced (out-Ty s) (out-Ty t) ≡ Some r → (x : Scalar) → IsScalarOf (out-Ty s) x → (m n : Result (Value R) Fault)
      → Agree (Is world t) m n → (c : Bool) → is_null x ≡ c → Agree (Is world r) (if c then m else Ok (value.Scalar x)) (if c then n else Ok (value.Scalar x))
  coalesced_agrees s t r h x fits m n agree true is =
      (agree.0, λ v got. plain_keeps t r (coalesced_plain (out-Ty s) (out-Ty t) r h).1 (coalesced_fits (out-Ty s) (out-Ty t) r h).1.1 v (agree.1 v got))
  coalesced_agrees s t r h x fits m n agree false is =
      agree_ok (Is world r) (value.Scalar x) (by_scalar r x ((coalesced_fits (out-Ty s) (out-Ty t) r h).1.0 x fits is))
