-- What a typed form gives, where it gives a value, is such as it is typed to give: by induction over the rules.
use Rattle.std.proofs.Common.{◌≡◌, ◌∷◌, ◌++◌, ◌&&◌, if◌then◌else◌, List, [], map, ℕ, zero, suc, Bool, true, false, Option, Some, None, Result, Ok, Err, ap, ap₂, ◌∙◌, sym, refl, subst, option_map, slice_get}
use Rattle.std.proofs.lemmas.Option.{none-some, same_Some}
use Rattle.lq_value.specs.SameAndOrder.{same_values as same_keys}
use Rattle.lq_value.specs.declared.scalar.Scalar.{Scalar}
use Rattle.lq_value.specs.declared.scalar.Scalar.TheVariants as scalar
use Rattle.lq_value.specs.declared.ty.Ty.{Ty, out-Ty}
use Rattle.lq_value.specs.declared.ty.Ty.TheOpen.{Ty-F}
use Rattle.lq_value.specs.declared.ty.Ty.TheVariants as ty
use Rattle.lq_value.specs.declared.ty.Ty.TheVariants.{outs-Bool, outs-Group, outs-Int, outs-Rec, outs-Row, outs-Seq}
use Rattle.lq_value.specs.declared.value.End.TheVariants as end
use Rattle.lq_value.specs.declared.value.Fault.{Fault}
use Rattle.lq_value.specs.declared.value.Fault.TheVariants as fault
use Rattle.lq_value.specs.declared.value.Value.{Value, out-Value}
use Rattle.lq_value.specs.declared.value.Value.TheOpen.{Value-F}
use Rattle.lq_value.specs.declared.value.Value.TheVariants as value
use Rattle.lq_value.specs.declared.value.Value.TheVariants.{outs-Rec as outs-value-Rec, outs-Scalar, outs-Seq as outs-value-Seq}
use Rattle.lq_host.specs.Predicates.{answer_in}
use Rattle.lq_host.specs.declared.call.Pick2.{Pick2}
use Rattle.lq_language.specs.Maps.{map_field, map_key}
use Rattle.lq_language.specs.Worlds.{World}
use Rattle.lq_language.specs.OperandMeaning.{answer_value, as_value, host_answer, answer_about, items_of, on_scalar, scalar_of, sequence, stream_of, table_value, truth_value}
use Rattle.lq_language.specs.ClauseMeaning.{as_group, matches}
use Rattle.lq_language.specs.ValuesOfTypes.{Every, HasCells, HoldsRows, IsScalarOf}
use Rattle.lq_language.specs.Members.{search_named}
use Rattle.lq_language.specs.Operations.{of_one, of_two, on_ok, searched, truth}
use Rattle.lq_language.specs.Operators.{first, pair, pair_type, second}
use Rattle.lq_language.specs.Stream.{Stream}
use Rattle.lq_language.specs.Types.{when}
use Rattle.lq_language.specs.MeaningLaws.{AreMembers, Fits, IsA, IsValueOf, ValueClaim, by_group, by_null_record, by_record, by_row, by_scalar, by_sequence, no_member, one_member}
use Rattle.lq_language.specs.declared.operation.Op.{Op}
use Rattle.lq_language.specs.declared.operation.Op.TheVariants as op
use Rattle.lq_grammar.specs.declared.syntax.Binary.{Binary}
use Rattle.lq_grammar.specs.declared.syntax.Binary.TheVariants as binary
use Rattle.lq_grammar.specs.declared.syntax.SortKey.{SortKey}
use Rattle.lq_language.proofs.AlikeStreamLaws.{Agree, KeysAlike, Pair, agree_err, both_agree, agree_ok, expand_alike, group_alike, join_alike, order_alike, select_alike, where_alike}
use Rattle.lq_language.proofs.MatchLaws.{every_match}
use Rattle.lq_language.proofs.ItemLaws.{every_map, every_more, every_none}
use Rattle.lq_language.proofs.ScalarResultLaws.{Gives as Given_as, given_of, has_value_given, length_given, value_given}
use Rattle.lq_language.proofs.TypedMethodLaws.{given_agree, given_typed, scalar_after, simple_typed, stream_alike}
use Rattle.lq_language.proofs.TypingLaws.{is_of_layer, type_with}
use Rattle.lq_language.proofs.ValueLaws.{RecordOrNull, a_record, gets_truth as answer_typed, is_plain, no_record, record_value, truth_is}
use Rattle.lq_tree.specs.Binding.{binary_form, is_object, operation_at, tested_first, tested_second, tree_of}
use Rattle.lq_tree.specs.FormMeaning.{Means, Slots, arguments_at, cell_in, form_meaning, if_there, is_true, key_in, matched, member_at, members_of, sort_key}
use Rattle.lq_tree.specs.TypedForms.{Both, FormClaim, Gives, Has, IsTyped, IsTypedForm, Many, Members, Of, Shape, Sorts, matched_items, type_of_shape, with_slot, with_slots}
use Rattle.lq_tree.specs.TypedForms as rule
use Rattle.lq_tree.specs.TypedFormLaws.{AreOfShapes, IsOfShape, KeepsItems, KeepsShapes}
use Rattle.lq_tree.specs.declared.tree.Form.{Form}
use Rattle.lq_tree.specs.declared.tree.Form.TheVariants as form
use Rattle.lq_tree.proofs.FormSteps.{meaning_at}
use Rattle.lq_tree.proofs.MeansMembers.{column_step, key_step}
use Rattle.lq_tree.proofs.MeansOperators.{and_means, binary_means, coalesce_means, conditional_means, minus_means, not_means, or_means}
use Rattle.lq_tree.proofs.OperandLemmas.{search_holds}
use Rattle.lq_tree.proofs.ScopeLaws.{first_of_pair, second_of_pair}

-- a sign between scalars is the operator that its types choose
sign_form : (sign : Binary) (s t : Ty) (a b : Form) → is_object (out-Ty s) ≡ false → is_object (out-Ty t) ≡ false
    → binary_form sign (tree_of s a) (tree_of t b) ≡ form.Binary (operation_at sign (out-Ty s) (out-Ty t)) a b
sign_form binary.Equal s t a b h k =
    ap₂ (λ (c d : Bool). if c then form.IsNull true (tested_first a b) else (if d then form.IsNull true (tested_second a b) else form.Binary op.Equal a b)) h k
sign_form binary.NotEqual s t a b h k =
    ap₂ (λ (c d : Bool). if c then form.IsNull false (tested_first a b) else (if d then form.IsNull false (tested_second a b) else form.Binary op.NotEqual a b)) h k
sign_form sign s t a b h k = refl

module _ {R : Type 0} (world : World R) (holds : HoldsRows world) where
  abbrev Val : Ty → Value R → Type 0
  Val = IsValueOf world

  abbrev Fit : Shape → Value R → Type 0
  Fit = IsOfShape world

  abbrev mean : Form → Means R
  mean = form_meaning world

  -- ---- shapes

  -- what is of a shape is of its type
  pub shape_value : (s : Shape) (v : Value R) → Fit s v → Val (type_of_shape s) v
  shape_value (Of t) v fits = fits
  shape_value (Both s t) v fits =
      subst (Val (pair_type (type_of_shape s) (type_of_shape t))) (sym fits.2)
      (by_record _ (([], type_of_shape s) ∷ ([], type_of_shape t) ∷ []) (([], fits.0) ∷ ([], fits.1) ∷ []) (outs-Rec _)
      (one_member [] (type_of_shape s) fits.0 _ _ (shape_value s fits.0 fits.3)
      (one_member [] (type_of_shape t) fits.1 [] [] (shape_value t fits.1 fits.4) no_member)))
  shape_value (Many s) v fits =
      subst (Val (ty.Seq (type_of_shape s))) (sym fits.2)
      (by_sequence _ (type_of_shape s) fits.0 fits.1 (outs-Seq (type_of_shape s)) (λ i w there. shape_value s w (fits.3 i w there)))

  pub slot_there : (shapes : List Shape) (slots : Slots R) → AreOfShapes world shapes slots → (n : ℕ) (s : Shape) → slice_get shapes n ≡ Some s
      → (v : Value R) × (slice_get slots n ≡ Some v) × Fit s v
  slot_there [] [] fits n s h = absurd (none-some s h)
  slot_there (t ∷ shapes) (v ∷ slots) fits zero s h = (v, refl, subst (λ (u : Shape). Fit u v) (same_Some t s h) fits.0)
  slot_there (t ∷ shapes) (v ∷ slots) fits (suc n) s h = slot_there shapes slots fits.1 n s h
  slot_there [] (v ∷ slots) fits n s h = absurd fits
  slot_there (t ∷ shapes) [] fits n s h = absurd fits

  pub one_more : (shapes : List Shape) (slots : Slots R) (s : Shape) (v : Value R) → AreOfShapes world shapes slots → Fit s v
      → AreOfShapes world (with_slot shapes s) (slots ++ v ∷ [])
  one_more [] [] s v fits more = (more, tt)
  one_more (t ∷ shapes) (w ∷ slots) s v fits more = (fits.0, one_more shapes slots s v fits.1 more)
  one_more [] (w ∷ slots) s v fits more = absurd fits
  one_more (t ∷ shapes) [] s v fits more = absurd fits

  pub two_more : (shapes : List Shape) (slots : Slots R) (s t : Shape) (v w : Value R) → AreOfShapes world shapes slots → Fit s v → Fit t w
      → AreOfShapes world (with_slots shapes s t) (slots ++ v ∷ w ∷ [])
  two_more [] [] s t v w fits more last = (more, (last, tt))
  two_more (u ∷ shapes) (x ∷ slots) s t v w fits more last = (fits.0, two_more shapes slots s t v w fits.1 more last)
  two_more [] (x ∷ slots) s t v w fits more last = absurd fits
  two_more (u ∷ shapes) [] s t v w fits more last = absurd fits

  -- ---- results

  abbrev pub Gets : Shape → Result (Value R) Fault → Type 0
  Gets s m = (v : Value R) → m ≡ Ok v → Fit s v

  gets_ok : (s : Shape) (v : Value R) → Fit s v → Gets s (Ok v)
  gets_ok s v fits w h = let same : v ≡ w = cc in subst (Fit s) same fits

  gets_err : (s : Shape) (e : Fault) → Gets s (Err e)
  gets_err s e v h = absurd cc

  gets_as : (s : Shape) (m n : Result (Value R) Fault) → m ≡ n → Gets s n → Gets s m
  gets_as s m n same gets v is = gets v (sym same ∙ is)

  then_gets : (s r : Shape) (m : Result (Value R) Fault) (next : Value R → Result (Value R) Fault) → Gets s m
      → ((v : Value R) → Fit s v → Gets r (next v)) → Gets r (on_ok m next)
  then_gets s r (Ok v) next gets more = more v (gets v refl)
  then_gets s r (Err e) next gets more = gets_err r e

  after : {A : Type 0} (r : Shape) (m : Result A Fault) (next : A → Result (Value R) Fault) → ((x : A) → Gets r (next x)) → Gets r (on_ok m next)
  after r (Ok x) next more = more x
  after r (Err e) next more = gets_err r e

  gets_truth : (o : Result Bool Fault) → Gets (Of ty.Bool) (as_value (truth world.unknown o))
  gets_truth (Ok b) = gets_ok (Of ty.Bool) (truth_value b) (truth_is world b)
  gets_truth (Err e) = gets_err (Of ty.Bool) e

  gets_one : (o : Op) (t r : Ty) (k l : Ty-F Ty) → out-Ty t ≡ k → out-Ty r ≡ l → is_plain k ≡ true
      → ((x : Scalar) → IsScalarOf k x → Given_as l (λ unknown. of_one unknown o x)) → (m : Result (Value R) Fault) → Gets (Of t) m
      → Gets (Of r) (on_scalar world m (λ s. as_value (of_one world.unknown o s)))
  gets_one o t r k l t_is r_is plain given m gets =
      (scalar_after world world.unknown world.unknown (Agree (Val r)) (agree_err (Val r)) t (ap is_plain t_is ∙ plain) _ _
      (λ x fits. given_agree world world.unknown world.unknown r (λ unknown. of_one unknown o x)
      (given_of r l (λ unknown. of_one unknown o x) r_is (given x (subst (λ (u : Ty-F Ty). IsScalarOf u x) t_is fits)))) m m (refl, gets)).1

  search_gets : (o : Op) (m : List ℕ) → search_named m ≡ Some o → (x y : Scalar) → Gets (Of ty.Bool) (as_value (of_two world.unknown o x y))
  search_gets o m h x y =
      search_holds (λ p. Gets (Of ty.Bool) (as_value (of_two world.unknown p x y))) o m h (gets_truth (searched world.unknown op.StartsWith x y))
      (gets_truth (searched world.unknown op.EndsWith x y)) (gets_truth (searched world.unknown op.Contains x y))

  -- ---- host predicates

  answer_gets : (o : Option Bool) → Gets (Of ty.Bool) (answer_value world o)
  answer_gets (Some b) = gets_ok (Of ty.Bool) (truth_value b) (truth_is world b)
  answer_gets None = gets_err (Of ty.Bool) fault.ArgumentOutOfRange

  asked_gets : (p : ℕ) (o : Option Pick2) → Gets (Of ty.Bool) (host_answer world (Some p) o)
  asked_gets p (Some xs) = answer_gets (answer_in world.predicates p xs)
  asked_gets p None = gets_err (Of ty.Bool) world.unknown

  host_gets : (p : ℕ) (arguments : R → Option Pick2) (layer : Value-F R (Value R)) → Gets (Of ty.Bool) (answer_about world (Some p) arguments layer)
  host_gets p arguments (Value-F.Row r) = asked_gets p (arguments r)
  host_gets p arguments (Value-F.Scalar scalar.Null) = gets_err (Of ty.Bool) fault.NullReference
  host_gets p arguments (Value-F.Scalar s) = gets_err (Of ty.Bool) world.unknown
  host_gets p arguments (Value-F.Rec members) = gets_err (Of ty.Bool) world.unknown
  host_gets p arguments (Value-F.Group key items) = gets_err (Of ty.Bool) world.unknown
  host_gets p arguments (Value-F.Seq items e) = gets_err (Of ty.Bool) world.unknown

  -- ---- members by their places

  abbrev pub MemberAt : ℕ → List ℕ × Ty → ValueClaim R → Type 0
  MemberAt k m (IsA t v) = Unit {0}
  MemberAt k m (AreMembers ms vs) = slice_get ms k ≡ Some m → (w : List ℕ × Value R) × (slice_get vs k ≡ Some w) × Val m.1 w.1

  next_member : (k : ℕ) (m : List ℕ × Ty) (n : List ℕ) (t : Ty) (v : Value R) (ms : List (List ℕ × Ty)) (vs : List (List ℕ × Value R)) → Val t v
      → ((j : ℕ) → MemberAt j m (AreMembers ms vs)) → MemberAt k m (AreMembers ((n, t) ∷ ms) ((n, v) ∷ vs))
  next_member zero m n t v ms vs fits others = λ h. ((n, v), refl, subst (λ (x : List ℕ × Ty). Val x.1 v) (same_Some (n, t) m h) fits)
  next_member (suc k) m n t v ms vs fits others = others k

  pub placed : (m : List ℕ × Ty) {claim : ValueClaim R} → Fits world claim → (k : ℕ) → MemberAt k m claim
  placed m (by_scalar _ s fits) k = tt
  placed m (by_null_record _ ms is) k = tt
  placed m (by_row _ n r is cells) k = tt
  placed m (by_record _ ms vs is fits) k = tt
  placed m (by_group _ l u key vs is fits items) k = tt
  placed m (by_sequence _ u vs e is items) k = tt
  placed m no_member k = λ h. absurd (none-some m h)
  placed m (one_member n t v ms vs fits others) k = next_member k m n t v ms vs fits (placed m others)

  member_gets : (t : Ty) (ms : List (List ℕ × Ty)) (place : ℕ) (m : List ℕ × Ty) → out-Ty t ≡ Ty-F.Rec ms → slice_get ms place ≡ Some m
      → (v : Value R) → Val t v → Gets (Of m.1) (member_at world place (out-Value R v))
  member_gets t ms place m is there v fits = by (record_value world t ms v is fits) where
    by : RecordOrNull world ms v → Gets (Of m.1) (member_at world place (out-Value R v))
    by (a_record vs members same) =
        let found = placed m members place there in
        gets_as (Of m.1) _ (Ok found.0.1)
        (ap (λ (w : Value R). member_at world place (out-Value R w)) same ∙ ap (member_at world place) (outs-value-Rec vs)
        ∙ ap (λ (o : Option (List ℕ × Value R)). if_there world (option_map (λ d. d.1) o)) found.1)
        (gets_ok (Of m.1) found.0.1 found.2)
    by (no_record same) =
        gets_as (Of m.1) _ (Err fault.NullReference)
        (ap (λ (w : Value R). member_at world place (out-Value R w)) same ∙ ap (member_at world place) (outs-Scalar scalar.Null)) (gets_err (Of m.1) fault.NullReference)

  -- ---- what matches in a join

  pub found_fit : (grouped : Bool) (k t : Ty) (key : Value R) (qs : List (Value R × Value R)) → Every (Pair (Val k) (Val t)) qs
      → Every (Val (matched_items grouped t)) (matched world grouped key qs)
  found_fit true k t key qs ps =
      every_more (Val (ty.Seq t)) (value.Seq (matches key qs) end.Done) []
      (by_sequence (ty.Seq t) t (matches key qs) end.Done (outs-Seq t) (every_match (Val k) (Val t) key qs ps)) (every_none (Val (ty.Seq t)))
  found_fit false k t key qs ps = every_match (Val k) (Val t) key qs ps

  keys_alike : (s : Shape) {K : Type 0} (key : K → Value R → Result Scalar Fault) (ks : List K) → KeysAlike (Fit s) key key ks
  keys_alike s key [] = tt
  keys_alike s key (k ∷ ks) = ((λ x p. refl), keys_alike s key ks)

  -- ---- sequences

  gets_sequence : (s : Shape) (z : Stream (Value R)) → Every (Fit s) z.0 → Gets (Many s) (Ok (sequence z))
  gets_sequence s z items = gets_ok (Many s) (value.Seq z.0 z.1) (z.0, z.1, refl, items)

  items_fit : (s : Shape) (m : Result (Value R) Fault) → Gets (Many s) m → Every (Fit s) (stream_of world m).0
  items_fit s (Ok v) gets =
      let found = gets v refl in
      subst (λ (z : Stream (Value R)). Every (Fit s) z.0)
      (sym (ap (λ (w : Value R). items_of world (out-Value R w)) found.2 ∙ ap (items_of world) (outs-value-Seq found.0 found.1))) found.3
  items_fit s (Err e) gets = every_none (Fit s)

  -- ---- the rules

  abbrev Keeps : FormClaim → Type 0
  Keeps (Has shapes f s) = (slots : Slots R) → AreOfShapes world shapes slots → Gets s (mean f slots)
  Keeps (Gives shapes f s) = (slots : Slots R) → AreOfShapes world shapes slots → Every (Fit s) (stream_of world (mean f slots)).0
  Keeps (Members shapes fields ms) =
      (slots : Slots R) → AreOfShapes world shapes slots → (vs : List (List ℕ × Value R)) → members_of world (map (map_field mean) fields) slots ≡ Ok vs
      → Fits world (AreMembers ms vs)
  Keeps (Sorts shapes ks) = Unit {0}

  -- one member more
  field_fits : (m : Result (Value R) Fault) (rest : Result (List (List ℕ × Value R)) Fault) (n : List ℕ) (t : Ty) (ms : List (List ℕ × Ty)) → Gets (Of t) m
      → ((vs : List (List ℕ × Value R)) → rest ≡ Ok vs → Fits world (AreMembers ms vs)) → (vs : List (List ℕ × Value R))
      → on_ok m (λ v. on_ok rest (λ members. Ok ((n, v) ∷ members))) ≡ Ok vs → Fits world (AreMembers ((n, t) ∷ ms) vs)
  field_fits (Ok v) (Ok ws) n t ms gets fits vs h =
      let same : ((n, v) ∷ ws) ≡ vs = cc in
      subst (λ (us : List (List ℕ × Value R)). Fits world (AreMembers ((n, t) ∷ ms) us)) same (one_member n t v ms ws (gets v refl) (fits ws refl))
  field_fits (Ok v) (Err e) n t ms gets fits vs h = absurd cc
  field_fits (Err e) rest n t ms gets fits vs h = absurd cc

  record_fits : (m : Result (List (List ℕ × Value R)) Fault) (ms : List (List ℕ × Ty))
      → ((vs : List (List ℕ × Value R)) → m ≡ Ok vs → Fits world (AreMembers ms vs)) → Gets (Of (ty.Rec ms)) (on_ok m (λ members. Ok (value.Rec members)))
  record_fits (Ok vs) ms fits = gets_ok (Of (ty.Rec ms)) (value.Rec vs) (by_record (ty.Rec ms) ms vs (outs-Rec ms) (fits vs refl))
  record_fits (Err e) ms fits = gets_err (Of (ty.Rec ms)) e

  pub keeps : {claim : FormClaim} → IsTyped world.schemas claim → Keeps claim
  keeps (rule.by_type shapes f s h) = λ slots fit v is. shape_value s v (keeps h slots fit v is)
  keeps (rule.by_items shapes f s h) = λ slots fit. items_fit s (mean f slots) (keeps h slots fit)
  keeps (rule.by_elements shapes f t u h element) = λ slots fit.
      (stream_alike world world.unknown world.unknown t u element (mean f slots) (mean f slots) (refl, keeps h slots fit)).1
  keeps (rule.of_literal shapes c t fits) = λ slots fit.
      gets_as (Of t) _ _ (meaning_at world slots _ (form.outs-Literal c)) (gets_ok (Of t) (value.Scalar c) (by_scalar t c fits))
  keeps (rule.of_slot shapes n s there) = λ slots fit.
      let found = slot_there shapes slots fit n s there in
      gets_as s _ (Ok found.0) (meaning_at world slots _ (form.outs-Slot n) ∙ ap (if_there world) found.1) (gets_ok s found.0 found.2)
  keeps (rule.of_first shapes a s t h) = λ slots fit.
      gets_as s _ _ (meaning_at world slots _ (form.outs-First a))
      (then_gets (Both s t) s (mean a slots) (λ v. Ok (first v)) (keeps h slots fit)
      (λ v p. gets_ok s (first v) (subst (Fit s) (sym (ap first p.2 ∙ first_of_pair world p.0 p.1)) p.3)))
  keeps (rule.of_second shapes a s t h) = λ slots fit.
      gets_as t _ _ (meaning_at world slots _ (form.outs-Second a))
      (then_gets (Both s t) t (mean a slots) (λ v. Ok (second v)) (keeps h slots fit)
      (λ v p. gets_ok t (second v) (subst (Fit t) (sym (ap second p.2 ∙ second_of_pair world p.0 p.1)) p.4)))
  keeps (rule.of_table shapes n schema there) = λ slots fit.
      let rows = holds n schema there in
      gets_as (Of (ty.Seq (ty.Row n))) _ _ (meaning_at world slots _ (form.outs-Table n) ∙ ap (table_value world) rows.1)
      (gets_ok (Of (ty.Seq (ty.Row n))) (value.Seq (map value.Row rows.0) end.Done)
      (by_sequence (ty.Seq (ty.Row n)) (ty.Row n) (map value.Row rows.0) end.Done (outs-Seq (ty.Row n))
      (every_map (HasCells world n) (Val (ty.Row n)) value.Row (λ r cells. by_row (ty.Row n) n r (outs-Row n) cells) rows.0 rows.2)))
  keeps (rule.of_column shapes row n c m t u h is name typed) = λ slots fit.
      gets_as (Of u) _ _ (meaning_at world slots _ (form.outs-Column row n c))
      (then_gets (Of t) (Of u) (mean row slots) (λ v. cell_in world n c (out-Value R v)) (keeps h slots fit)
      (λ v p. (column_step world slots n c m u name typed v (subst (λ (x : Ty). Val x v) (is_of_layer t ∙ ap type_with is) p)).1))
  keeps (rule.of_host shapes p row n columns named t h is names ints) = λ slots fit.
      gets_as (Of ty.Bool) _ _ (meaning_at world slots _ (form.outs-Host p row n columns))
      (then_gets (Of t) (Of ty.Bool) (mean row slots) (λ v. answer_about world (Some p) (arguments_at world n columns) (out-Value R v)) (keeps h slots fit)
      (λ v fits. host_gets p (arguments_at world n columns) (out-Value R v)))
  keeps (rule.of_member shapes a place t ms m h is there) = λ slots fit.
      gets_as (Of m.1) _ _ (meaning_at world slots _ (form.outs-Member a place))
      (then_gets (Of t) (Of m.1) (mean a slots) (λ v. member_at world place (out-Value R v)) (keeps h slots fit)
      (λ v p. member_gets t ms place m is there v p))
  keeps (rule.of_key shapes a t k u h is) = λ slots fit.
      gets_as (Of k) _ _ (meaning_at world slots _ (form.outs-Key a))
      (then_gets (Of t) (Of k) (mean a slots) (λ v. key_in world (out-Value R v)) (keeps h slots fit)
      (λ v p. (key_step world slots [] k u v (subst (λ (x : Ty). Val x v) (is_of_layer t ∙ ap type_with is) p)).1))
  keeps (rule.of_minus shapes a t h number) = λ slots fit.
      (minus_means world slots (tree_of t a) (tree_of t (form.Unary op.Minus a)) (mean a slots) (ap (λ (b : Bool). when b (Some (tree_of t (form.Unary op.Minus a)))) number)
      (refl, keeps h slots fit)).1
  keeps (rule.of_not shapes a t h bool) = λ slots fit.
      (not_means world slots (tree_of t a) (tree_of ty.Bool (form.Unary op.Not a)) (mean a slots) (ap (λ (b : Bool). when b (Some (tree_of ty.Bool (form.Unary op.Not a)))) bool)
      (refl, keeps h slots fit)).1
  keeps (rule.of_has_value shapes a t h is) = λ slots fit.
      gets_as (Of ty.Bool) _ _ (meaning_at world slots _ (form.outs-Unary op.HasValue a))
      (gets_one op.HasValue t ty.Bool Ty-F.IntN Ty-F.Bool is outs-Bool refl has_value_given (mean a slots) (keeps h slots fit))
  keeps (rule.of_value shapes a t h is) = λ slots fit.
      gets_as (Of ty.Int) _ _ (meaning_at world slots _ (form.outs-Unary op.Value a))
      (gets_one op.Value t ty.Int Ty-F.IntN Ty-F.Int is outs-Int refl value_given (mean a slots) (keeps h slots fit))
  keeps (rule.of_length shapes a t h is) = λ slots fit.
      gets_as (Of ty.Int) _ _ (meaning_at world slots _ (form.outs-Unary op.Length a))
      (gets_one op.Length t ty.Int Ty-F.Str Ty-F.Int is outs-Int refl length_given (mean a slots) (keeps h slots fit))
  keeps (rule.of_search shapes a b m o s t h s_text k t_text named) = λ slots fit.
      gets_as (Of ty.Bool) _ _ (meaning_at world slots _ (form.outs-Binary o a b))
      (after (Of ty.Bool) (on_ok (mean a slots) (λ v. scalar_of world (out-Value R v))) _
      (λ x. after (Of ty.Bool) (on_ok (mean b slots) (λ v. scalar_of world (out-Value R v))) _ (λ y. search_gets o m named x y)))
  keeps (rule.of_sign shapes a b sign s t r h s_no k t_no typed) = λ slots fit.
      subst (λ (f : Form). Gets (Of r) (mean f slots)) (sign_form sign s t a b s_no t_no)
      (binary_means world slots sign (tree_of s a) (tree_of t b) (tree_of r (binary_form sign (tree_of s a) (tree_of t b))) (mean a slots) (mean b slots)
      (Some s) (Some t) (ap (option_map (λ u. tree_of u (binary_form sign (tree_of s a) (tree_of t b)))) typed) refl refl (refl, keeps h slots fit)
      (refl, keeps k slots fit)).1
  keeps (rule.of_is_null shapes wanted a t h object) = λ slots fit.
      gets_as (Of ty.Bool) _ _ (meaning_at world slots _ (form.outs-IsNull wanted a))
      (after (Of ty.Bool) (mean a slots) _ (λ v. gets_ok (Of ty.Bool) (truth_value _) (truth_is world _)))
  keeps (rule.of_and shapes a b s t h s_bool k t_bool) = λ slots fit.
      (and_means world slots (tree_of s a) (tree_of t b) (tree_of ty.Bool (form.And a b)) (mean a slots) (mean b slots)
      (ap₂ (λ (c d : Bool). when (c && d) (Some (tree_of ty.Bool (form.And a b)))) s_bool t_bool) (refl, keeps h slots fit) (refl, keeps k slots fit)).1
  keeps (rule.of_or shapes a b s t h s_bool k t_bool) = λ slots fit.
      (or_means world slots (tree_of s a) (tree_of t b) (tree_of ty.Bool (form.Or a b)) (mean a slots) (mean b slots)
      (ap₂ (λ (c d : Bool). when (c && d) (Some (tree_of ty.Bool (form.Or a b)))) s_bool t_bool) (refl, keeps h slots fit) (refl, keeps k slots fit)).1
  keeps (rule.of_coalesce shapes a b s t r h k typed) = λ slots fit.
      (coalesce_means world slots (tree_of s a) (tree_of t b) (tree_of r (form.Coalesce a b)) (mean a slots) (mean b slots)
      (ap (option_map (λ u. tree_of u (form.Coalesce a b))) typed) (refl, keeps h slots fit) (refl, keeps k slots fit)).1
  keeps (rule.of_conditional shapes c a b q s t r g q_bool h k typed) = λ slots fit.
      (conditional_means world slots (tree_of q c) (tree_of s a) (tree_of t b) (tree_of r (form.Conditional c a b)) (mean c slots) (mean a slots) (mean b slots)
      (ap₂ (λ (x : Bool) (o : Option Ty). when x (option_map (λ u. tree_of u (form.Conditional c a b)) o)) q_bool typed) (refl, keeps g slots fit)
      (refl, keeps h slots fit) (refl, keeps k slots fit)).1
  keeps (rule.of_record shapes fields ms h) = λ slots fit.
      gets_as (Of (ty.Rec ms)) _ _ (meaning_at world slots _ (form.outs-Record fields))
      (record_fits (members_of world (map (map_field mean) fields) slots) ms (keeps h slots fit))
  keeps (rule.no_field shapes) = λ slots fit vs h. let same : [] ≡ vs = cc in subst (λ (us : List (List ℕ × Value R)). Fits world (AreMembers [] us)) same no_member
  keeps (rule.one_field shapes field fields t ms h k) = λ slots fit vs is.
      field_fits (mean field.value slots) (members_of world (map (map_field mean) fields) slots) field.name t ms (keeps h slots fit) (keeps k slots fit) vs is
  keeps (rule.of_pair shapes a b s t h k) = λ slots fit.
      gets_as (Both s t) _ _ (meaning_at world slots _ (form.outs-Pair a b))
      (then_gets s (Both s t) (mean a slots) _ (keeps h slots fit)
      (λ v p. then_gets t (Both s t) (mean b slots) _ (keeps k slots fit) (λ w q. gets_ok (Both s t) (pair v w) (v, w, refl, p, q))))
  keeps (rule.of_sequence shapes a s h) = λ slots fit.
      gets_as (Many s) _ _ (meaning_at world slots _ (form.outs-Sequence a)) (gets_sequence s (stream_of world (mean a slots)) (keeps h slots fit))
  keeps (rule.of_simple shapes method t r a h typed) = λ slots fit.
      gets_as (Of r) _ _ (meaning_at world slots _ (form.outs-Simple method t a)) (simple_typed world method t r (stream_of world (mean a slots)) typed (keeps h slots fit))
  keeps (rule.of_given shapes method t u r a b h k typed) = λ slots fit.
      gets_as (Of r) _ _ (meaning_at world slots _ (form.outs-Given method a b))
      (given_typed world world.unknown world.unknown method t u r (stream_of world (mean a slots)) typed (keeps h slots fit) (mean b slots) (mean b slots)
      (refl, keeps k slots fit)).1
  keeps (rule.of_where shapes c a f s h k bool) = λ slots fit.
      gets_as (Many s) _ _ (meaning_at world slots _ (form.outs-Where a f))
      (gets_sequence s _
      (where_alike (Fit s) (λ v. is_true world (mean f) (slots ++ v ∷ [])) (λ v. is_true world (mean f) (slots ++ v ∷ [])) (λ v p. refl)
      (stream_of world (mean a slots)) (stream_of world (mean a slots)) (refl, keeps h slots fit)).1)
  keeps (rule.of_select shapes a f s r h k) = λ slots fit.
      gets_as (Many r) _ _ (meaning_at world slots _ (form.outs-Select a f))
      (gets_sequence r _
      (select_alike (Fit s) (Fit r) (λ v. mean f (slots ++ v ∷ [])) (λ v. mean f (slots ++ v ∷ []))
      (λ v p. (refl, keeps k (slots ++ v ∷ []) (one_more shapes slots s v fit p))) (stream_of world (mean a slots)) (stream_of world (mean a slots))
      (refl, keeps h slots fit)).1)
  keeps (rule.of_all shapes c a f s h k bool) = λ slots fit.
      gets_as (Of ty.Bool) _ _ (meaning_at world slots _ (form.outs-All a f)) (answer_typed world _)
  keeps (rule.of_select_many shapes a inner result s u r h k l) = λ slots fit.
      gets_as (Many r) _ _ (meaning_at world slots _ (form.outs-SelectMany a inner result))
      (gets_sequence r _
      (expand_alike (Fit s) (Fit u) (Fit r) (λ v. stream_of world (mean inner (slots ++ v ∷ []))) (λ v. stream_of world (mean inner (slots ++ v ∷ [])))
      (λ v w. mean result (slots ++ v ∷ w ∷ [])) (λ v w. mean result (slots ++ v ∷ w ∷ []))
      (λ v p. (refl, keeps k (slots ++ v ∷ []) (one_more shapes slots s v fit p)))
      (λ v p w q. (refl, keeps l (slots ++ v ∷ w ∷ []) (two_more shapes slots s u v w fit p q)))
      (stream_of world (mean a slots)) (stream_of world (mean a slots)) (refl, keeps h slots fit)).1)
  keeps (rule.of_join shapes a j s r u k l h inner outer_key inner_key comparable result) = λ slots fit.
      gets_as (Many r) _ _ (meaning_at world slots _ (form.outs-Join a j))
      (gets_sequence r _
      (join_alike (Fit s) (Val (matched_items j.grouped u)) (Fit r) (Val k) (Pair (Val l) (Val u)) (λ v. mean j.outer_key (slots ++ v ∷ []))
      (λ v. mean j.outer_key (slots ++ v ∷ [])) (matched world j.grouped) (matched world j.grouped) (λ v w. mean j.result (slots ++ v ∷ w ∷ []))
      (λ v w. mean j.result (slots ++ v ∷ w ∷ []))
      (λ v p. (refl, keeps outer_key (slots ++ v ∷ []) (one_more shapes slots s v fit p)))
      (λ key qs ps. (refl, found_fit j.grouped l u key qs ps))
      (λ v p w q. (refl, keeps result (slots ++ v ∷ w ∷ []) (two_more shapes slots s (Of (matched_items j.grouped u)) v w fit p q)))
      _ _ (
        refl,
        (select_alike (Val u) (Pair (Val l) (Val u)) _ _
            (λ v p. both_agree (Val l) (Val u) (mean j.inner_key (slots ++ v ∷ [])) _ (Ok v) _
            (refl, keeps inner_key (slots ++ v ∷ []) (one_more shapes slots (Of u) v fit p)) (agree_ok (Val u) v p))
            (stream_of world (mean j.inner slots)) (stream_of world (mean j.inner slots)) (refl, keeps inner slots fit)).1,
      )
      (stream_of world (mean a slots)) (stream_of world (mean a slots)) (refl, keeps h slots fit)).1)
  keeps (rule.of_order shapes a ks s h k) = λ slots fit.
      gets_as (Many s) _ _ (meaning_at world slots _ (form.outs-OrderBy a ks))
      (gets_sequence s _
      (order_alike (Fit s) (λ (x : SortKey (Means R)). x.descending) (sort_key world slots) (sort_key world slots) (map (map_key mean) ks)
      (keys_alike s (sort_key world slots) (map (map_key mean) ks)) (stream_of world (mean a slots)) (stream_of world (mean a slots)) (refl, keeps h slots fit)).1)
  keeps (rule.no_key shapes) = tt
  keeps (rule.one_key shapes k ks t h sortable others) = tt
  keeps (rule.of_group shapes a key element s k e h key_typed is_key element_typed) = λ slots fit.
      gets_as (Many (Of (ty.Group k e))) _ _ (meaning_at world slots _ (form.outs-GroupBy a key element))
      (gets_sequence (Of (ty.Group k e)) _
      (group_alike (Fit s) (Val k) (Val e) (Val (ty.Group k e)) same_keys (λ v. mean key (slots ++ v ∷ [])) (λ v. mean key (slots ++ v ∷ []))
      (λ v. mean element (slots ++ v ∷ [])) (λ v. mean element (slots ++ v ∷ [])) as_group
      (λ v p. (refl, keeps key_typed (slots ++ v ∷ []) (one_more shapes slots s v fit p)))
      (λ v p. (refl, keeps element_typed (slots ++ v ∷ []) (one_more shapes slots s v fit p)))
      (λ x vs p ps. by_group (ty.Group k e) k e x vs (outs-Group k e) p ps)
      (stream_of world (mean a slots)) (stream_of world (mean a slots)) (refl, keeps h slots fit)).1)

pub keeps_shapes : {R : Type 0} → KeepsShapes R
keeps_shapes world holds shapes f s typed slots fit v is = keeps world holds typed slots fit v is

pub keeps_items : {R : Type 0} → KeepsItems R
keeps_items world holds shapes f s typed slots fit = keeps world holds typed slots fit
