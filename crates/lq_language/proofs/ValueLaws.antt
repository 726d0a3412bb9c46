-- Values of a type, as the operators, members and methods take them.
use Rattle.std.proofs.Common.{◌≡◌, ◌∷◌, if◌then◌else◌, List, [], drop, reverse, ℕ, zero, suc, ℤ, pos, negsuc, ◌+ℤ◌, Bool, true, false, Some, None, Result, Ok, Err, ap, ◌∙◌, sym, refl, subst, bytes_eq, true≢false}
use Rattle.std.proofs.lemmas.List.{reverse-append}
use Rattle.std.proofs.lemmas.Option.{none-some, same_Some}
use Rattle.lq_value.specs.declared.scalar.Scalar.{Scalar}
use Rattle.lq_value.specs.declared.scalar.Scalar.TheVariants as scalar
use Rattle.lq_value.specs.declared.ty.Ty.{Ty, out-Ty}
use Rattle.lq_value.specs.declared.ty.Ty.TheOpen.{Ty-F}
use Rattle.lq_value.specs.declared.ty.Ty.TheVariants as ty
use Rattle.lq_value.specs.declared.ty.Ty.TheVariants.{outs-Bool, outs-Int, outs-Rec, outs-Row, outs-Seq}
use Rattle.lq_value.specs.declared.value.End.{End}
use Rattle.lq_value.specs.declared.value.End.TheVariants as end
use Rattle.lq_value.specs.declared.value.Fault.{Fault}
use Rattle.lq_value.specs.declared.value.Fault.TheVariants as fault
use Rattle.lq_value.specs.declared.value.Value.{Value}
use Rattle.lq_value.specs.declared.value.Value.TheVariants as value
use Rattle.lq_value.specs.declared.value.Value.TheVariants.{outs-Group as outs-value-Group, outs-Rec as outs-value-Rec, outs-Row as outs-value-Row, outs-Scalar, outs-Seq as outs-value-Seq}
use Rattle.lq_language.specs.Enumerable.{at_end, default_if_empty, element_at, extreme, first, item_behind, last, last_of, reversed, single, summed, take_first}
use Rattle.lq_language.specs.Worlds.{World}
use Rattle.lq_language.specs.OperandMeaning.{as_value, truth_value}
use Rattle.lq_language.specs.ValuesOfTypes.{Every, HasCells, IsScalarOf}
use Rattle.lq_language.specs.Operations.{is_int as holds_int}
use Rattle.lq_language.specs.Stream.{Stream, whole}
use Rattle.lq_language.specs.OperandTypes.{are_joined, is_int, is_number, is_scalar, row_table}
use Rattle.lq_language.specs.Meaning.{as_sequence, as_truth, default_layer, default_of, has_members, member_in, no_number}
use Rattle.lq_language.specs.MeaningLaws.{AreMembers, Fits, IsA, IsValueOf, ValueClaim, by_group, by_null_record, by_record, by_row, by_scalar, by_sequence, no_member, one_member}
use Rattle.lq_language.specs.Typing.{has_default, member_of}
use Rattle.lq_language.proofs.AlikeStreamLaws.{every_append}
use Rattle.lq_language.proofs.ItemLaws.{every_more, every_none, first_of, others_of}
use Rattle.lq_language.proofs.ScalarResultLaws.{row_layer}

-- types of scalars alone, and that of null
abbrev pub is_plain : Ty-F Ty → Bool
is_plain Ty-F.Int = true
is_plain Ty-F.IntN = true
is_plain Ty-F.Bool = true
is_plain Ty-F.Str = true
is_plain Ty-F.Null = true
is_plain layer = false

pub number_plain : (layer : Ty-F Ty) → is_number layer ≡ true → is_plain layer ≡ true
number_plain Ty-F.Int h = refl
number_plain Ty-F.IntN h = refl
number_plain layer h = absurd (true≢false (sym h))

pub scalar_plain : (layer : Ty-F Ty) → is_scalar layer ≡ true → is_plain layer ≡ true
scalar_plain Ty-F.Int h = refl
scalar_plain Ty-F.IntN h = refl
scalar_plain Ty-F.Bool h = refl
scalar_plain Ty-F.Str h = refl
scalar_plain layer h = absurd (true≢false (sym h))

pub joined_plain : (k l : Ty-F Ty) → are_joined k l ≡ true → (is_plain k ≡ true) × (is_plain l ≡ true)
joined_plain Ty-F.Str Ty-F.Str h = (refl, refl)
joined_plain Ty-F.Str Ty-F.Null h = (refl, refl)
joined_plain Ty-F.Null Ty-F.Str h = (refl, refl)
joined_plain k l h = absurd (true≢false (sym h))

-- a plain type has neither members of a record nor columns of a table
pub no_members : (layer : Ty-F Ty) → is_plain layer ≡ true → (has_members layer ≡ false) × (row_table layer ≡ None)
no_members (Ty-F.Row n) h = absurd (true≢false (sym h))
no_members (Ty-F.Rec ms) h = absurd (true≢false (sym h))
no_members layer h = (refl, refl)

module _ {R : Type 0} (world : World R) where
  abbrev pub Is : Ty → Value R → Type 0
  Is t = IsValueOf world t

  -- ---- by what a type is

  pub plain_value : (t : Ty) (v : Value R) → is_plain (out-Ty t) ≡ true → Is t v → (s : Scalar) × (v ≡ value.Scalar s) × IsScalarOf (out-Ty t) s
  plain_value t _ plain (by_scalar _ s fits) = (s, refl, fits)
  plain_value t _ plain (by_null_record _ ms is) = absurd (true≢false (sym plain ∙ ap is_plain is))
  plain_value t _ plain (by_row _ n r is cells) = absurd (true≢false (sym plain ∙ ap is_plain is))
  plain_value t _ plain (by_record _ ms vs is fits) = absurd (true≢false (sym plain ∙ ap is_plain is))
  plain_value t _ plain (by_group _ k u key vs is fits items) = absurd (true≢false (sym plain ∙ ap is_plain is))
  plain_value t _ plain (by_sequence _ u vs e is items) = absurd (true≢false (sym plain ∙ ap is_plain is))

  pub data RowOrNull (n : ℕ) (v : Value R) : Type 0 where
    a_row : (r : R) → HasCells world n r → v ≡ value.Row r → RowOrNull n v
    no_row : v ≡ value.Scalar scalar.Null → RowOrNull n v

  pub row_value : (t : Ty) (n : ℕ) (v : Value R) → out-Ty t ≡ Ty-F.Row n → Is t v → RowOrNull n v
  row_value t n _ is (by_scalar _ s fits) = no_row (ap value.Scalar (row_layer n s (subst (λ (u : Ty-F Ty). IsScalarOf u s) is fits)))
  row_value t n _ is (by_null_record _ ms other) = no_row refl
  row_value t n _ is (by_row _ m r other cells) = let same : m ≡ n = cc in a_row r (subst (λ (k : ℕ). HasCells world k r) same cells) refl
  row_value t n _ is (by_record _ ms vs other fits) = absurd cc
  row_value t n _ is (by_group _ k u key vs other fits items) = absurd cc
  row_value t n _ is (by_sequence _ u vs e other items) = absurd cc

  pub data RecordOrNull (ms : List (List ℕ × Ty)) (v : Value R) : Type 0 where
    a_record : (vs : List (List ℕ × Value R)) → Fits world (AreMembers ms vs) → v ≡ value.Rec vs → RecordOrNull ms v
    no_record : v ≡ value.Scalar scalar.Null → RecordOrNull ms v

  pub record_value : (t : Ty) (ms : List (List ℕ × Ty)) (v : Value R) → out-Ty t ≡ Ty-F.Rec ms → Is t v → RecordOrNull ms v
  record_value t ms _ is (by_scalar _ s fits) = absurd (subst (λ (u : Ty-F Ty). IsScalarOf u s) is fits)
  record_value t ms _ is (by_null_record _ ns other) = no_record refl
  record_value t ms _ is (by_row _ m r other cells) = absurd cc
  record_value t ms _ is (by_record _ ns vs other fits) =
      let same : ns ≡ ms = cc in a_record vs (subst (λ (os : List (List ℕ × Ty)). Fits world (AreMembers os vs)) same fits) refl
  record_value t ms _ is (by_group _ k u key vs other fits items) = absurd cc
  record_value t ms _ is (by_sequence _ u vs e other items) = absurd cc

  pub group_value : (t k u : Ty) (v : Value R) → out-Ty t ≡ Ty-F.Group k u → Is t v
      → (key : Value R) × (vs : List (Value R)) × (v ≡ value.Group key vs) × Is k key × Every (Is u) vs
  group_value t k u _ is (by_scalar _ s fits) = absurd (subst (λ (l : Ty-F Ty). IsScalarOf l s) is fits)
  group_value t k u _ is (by_null_record _ ns other) = absurd cc
  group_value t k u _ is (by_row _ m r other cells) = absurd cc
  group_value t k u _ is (by_record _ ns vs other fits) = absurd cc
  group_value t k u _ is (by_group _ l w key vs other fits items) =
      let key_same : l ≡ k = cc in let same : w ≡ u = cc in
      (key, vs, refl, subst (λ (x : Ty). Is x key) key_same fits, subst (λ (x : Ty). Every (Is x) vs) same items)
  group_value t k u _ is (by_sequence _ w vs e other items) = absurd cc

  pub sequence_value : (t u : Ty) (v : Value R) → out-Ty t ≡ Ty-F.Seq u → Is t v → (vs : List (Value R)) × (e : End) × (v ≡ value.Seq vs e) × Every (Is u) vs
  sequence_value t u _ is (by_scalar _ s fits) = absurd (subst (λ (l : Ty-F Ty). IsScalarOf l s) is fits)
  sequence_value t u _ is (by_null_record _ ns other) = absurd cc
  sequence_value t u _ is (by_row _ m r other cells) = absurd cc
  sequence_value t u _ is (by_record _ ns vs other fits) = absurd cc
  sequence_value t u _ is (by_group _ l w key vs other fits items) = absurd cc
  sequence_value t u _ is (by_sequence _ w vs e other items) = let same : w ≡ u = cc in (vs, e, refl, subst (λ (x : Ty). Every (Is x) vs) same items)

  -- ---- what is of a type

  pub scalar_is : (t : Ty) (layer : Ty-F Ty) (s : Scalar) → out-Ty t ≡ layer → IsScalarOf layer s → Is t (value.Scalar s)
  scalar_is t layer s is fits = by_scalar t s (subst (λ (l : Ty-F Ty). IsScalarOf l s) (sym is) fits)

  pub truth_is : (b : Bool) → Is ty.Bool (truth_value b)
  truth_is b = scalar_is ty.Bool Ty-F.Bool (scalar.Bool b) outs-Bool tt

  int_by : (t : Ty) (layer : Ty-F Ty) (n : ℤ) → out-Ty t ≡ layer → is_number layer ≡ true → Is t (value.Scalar (scalar.Int n))
  int_by t Ty-F.Int n is h = scalar_is t Ty-F.Int (scalar.Int n) is tt
  int_by t Ty-F.IntN n is h = scalar_is t Ty-F.IntN (scalar.Int n) is tt
  int_by t layer n is h = absurd (true≢false (sym h))

  pub int_is : (t : Ty) (n : ℤ) → is_number (out-Ty t) ≡ true → Is t (value.Scalar (scalar.Int n))
  int_is t n h = int_by t (out-Ty t) n refl h

  default_by : (t : Ty) (layer : Ty-F Ty) → out-Ty t ≡ layer → has_default layer ≡ true → Is t (default_layer layer)
  default_by t Ty-F.Int is h = scalar_is t Ty-F.Int (scalar.Int (pos 0)) is tt
  default_by t Ty-F.IntN is h = scalar_is t Ty-F.IntN scalar.Null is tt
  default_by t Ty-F.Bool is h = scalar_is t Ty-F.Bool (scalar.Bool false) is tt
  default_by t Ty-F.Str is h = scalar_is t Ty-F.Str scalar.Null is tt
  default_by t Ty-F.Null is h = scalar_is t Ty-F.Null scalar.Null is tt
  default_by t (Ty-F.Row n) is h = scalar_is t (Ty-F.Row n) scalar.Null is tt
  default_by t (Ty-F.Rec ms) is h = by_null_record t ms is
  default_by t (Ty-F.Seq u) is h = absurd (true≢false (sym h))
  default_by t (Ty-F.Group k u) is h = absurd (true≢false (sym h))

  pub default_is : (t : Ty) → has_default (out-Ty t) ≡ true → Is t (default_of t)
  default_is t h = default_by t (out-Ty t) refl h

  pub sequence_is : (u : Ty) (s : Stream (Value R)) → Every (Is u) s.0 → Is (ty.Seq u) (value.Seq s.0 s.1)
  sequence_is u s items = by_sequence (ty.Seq u) u s.0 s.1 (outs-Seq u) items

  -- ---- results of a type

  abbrev pub Gets : Ty → Result (Value R) Fault → Type 0
  Gets t m = (v : Value R) → m ≡ Ok v → Is t v

  pub gets_ok : (t : Ty) (v : Value R) → Is t v → Gets t (Ok v)
  gets_ok t v fits w h = let same : v ≡ w = cc in subst (Is t) same fits

  pub gets_err : (t : Ty) (f : Fault) → Gets t (Err f)
  gets_err t f v h = absurd cc

  pub gets_sequence : (u : Ty) (s : Stream (Value R)) → Every (Is u) s.0 → Gets (ty.Seq u) (as_sequence s)
  gets_sequence u s items = gets_ok (ty.Seq u) (value.Seq s.0 s.1) (sequence_is u s items)

  pub gets_truth : (o : Result Bool Fault) → Gets ty.Bool (as_truth o)
  gets_truth (Ok b) = gets_ok ty.Bool (truth_value b) (truth_is b)
  gets_truth (Err f) = gets_err ty.Bool f

  gets_at_end : (t : Ty) (e : End) (o : Result Scalar Fault) → Gets t (as_value o) → Gets t (as_value (at_end e o))
  gets_at_end t end.Done o h = h
  gets_at_end t (end.Fault f) o h = gets_err t f

  -- ---- items

  gets_end : (t : Ty) (e : End) (o : Result (Value R) Fault) → Gets t o → Gets t (at_end e o)
  gets_end t end.Done o h = h
  gets_end t (end.Fault f) o h = gets_err t f

  pub gets_first : (t : Ty) (none : Result (Value R) Fault) → Gets t none → (xs : List (Value R)) (e : End) → Every (Is t) xs → Gets t (first none xs e)
  gets_first t none h [] e ps = gets_end t e none h
  gets_first t none h (x ∷ xs) e ps = gets_ok t x (first_of (Is t) x xs ps)

  gets_last_of : (t : Ty) (none : Result (Value R) Fault) → Gets t none → (xs : List (Value R)) → Every (Is t) xs → Gets t (last_of none xs)
  gets_last_of t none h [] ps = h
  gets_last_of t none h (x ∷ xs) ps = gets_last_of t (Ok x) (gets_ok t x (first_of (Is t) x xs ps)) xs (others_of (Is t) x xs ps)

  pub gets_last : (t : Ty) (none : Result (Value R) Fault) → Gets t none → (xs : List (Value R)) (e : End) → Every (Is t) xs → Gets t (last none xs e)
  gets_last t none h xs e ps = gets_end t e (last_of none xs) (gets_last_of t none h xs ps)

  pub gets_single : (t : Ty) (none : Result (Value R) Fault) → Gets t none → (xs : List (Value R)) (e : End) → Every (Is t) xs → Gets t (single none xs e)
  gets_single t none h [] e ps = gets_end t e none h
  gets_single t none h (x ∷ []) e ps = gets_end t e (Ok x) (gets_ok t x (first_of (Is t) x [] ps))
  gets_single t none h (x ∷ y ∷ ys) e ps = gets_err t fault.InvalidOperation

  gets_item : (t : Ty) (n : ℕ) (xs : List (Value R)) (e : End) → Every (Is t) xs → Gets t (item_behind n xs e)
  gets_item t n [] e ps = gets_end t e (Err fault.ArgumentOutOfRange) (gets_err t fault.ArgumentOutOfRange)
  gets_item t zero (x ∷ xs) e ps = gets_ok t x (first_of (Is t) x xs ps)
  gets_item t (suc n) (x ∷ xs) e ps = gets_item t n xs e (others_of (Is t) x xs ps)

  pub gets_element : (t : Ty) (n : ℤ) (xs : List (Value R)) (e : End) → Every (Is t) xs → Gets t (element_at n xs e)
  gets_element t (pos n) xs e ps = gets_item t n xs e ps
  gets_element t (negsuc n) xs e ps = gets_err t fault.ArgumentOutOfRange

  -- ---- numbers

  sum_by : (t : Ty) (m : ℤ) (ns : List ℤ) (e : End) → Gets t (as_value (summed m ns e)) → (b : Bool) → Gets t (as_value (if b then summed m ns e else Err fault.Overflow))
  sum_by t m ns e h true = h
  sum_by t m ns e h false = gets_err t fault.Overflow

  pub gets_sum : (t : Ty) → is_number (out-Ty t) ≡ true → (total : ℤ) (ns : List ℤ) (e : End) → Gets t (as_value (summed total ns e))
  gets_sum t number total [] e = gets_at_end t e (Ok (scalar.Int total)) (gets_ok t (value.Scalar (scalar.Int total)) (int_is t total number))
  gets_sum t number total (n ∷ ns) e = sum_by t (total +ℤ n) ns e (gets_sum t number (total +ℤ n) ns e) (holds_int (total +ℤ n))

  null_by : (t : Ty) (layer : Ty-F Ty) → out-Ty t ≡ layer → is_number layer ≡ true → is_int layer ≡ false → Is t (value.Scalar scalar.Null)
  null_by t Ty-F.IntN is number other = scalar_is t Ty-F.IntN scalar.Null is tt
  null_by t Ty-F.Int is number other = absurd (true≢false other)
  null_by t layer is number other = absurd (true≢false (sym number))

  gets_no_number : (t : Ty) → is_number (out-Ty t) ≡ true → Gets t (as_value (no_number t))
  gets_no_number t number = by (is_int (out-Ty t)) refl where
    by : (b : Bool) → is_int (out-Ty t) ≡ b → Gets t (as_value (if b then Err fault.InvalidOperation else Ok scalar.Null))
    by true is = gets_err t fault.InvalidOperation
    by false is = gets_ok t (value.Scalar scalar.Null) (null_by t (out-Ty t) refl number is)

  pub gets_extreme : (t : Ty) → is_number (out-Ty t) ≡ true → (choose : ℤ → ℤ → ℤ) (ns : List ℤ) (e : End) → Gets t (as_value (at_end e (extreme choose (no_number t) ns)))
  gets_extreme t number choose [] e = gets_at_end t e (no_number t) (gets_no_number t number)
  gets_extreme t number choose (n ∷ ns) e = gets_at_end t e (extreme choose (no_number t) (n ∷ ns)) (gets_ok t _ (int_is t _ number))

  -- ---- sequences

  pub every_drop : (t : Ty) (n : ℕ) (xs : List (Value R)) → Every (Is t) xs → Every (Is t) (drop n xs)
  every_drop t zero xs ps = ps
  every_drop t (suc n) [] ps = ps
  every_drop t (suc n) (x ∷ xs) ps = every_drop t n xs (others_of (Is t) x xs ps)

  pub every_taken : (t : Ty) (n : ℕ) (xs : List (Value R)) (e : End) → Every (Is t) xs → Every (Is t) (take_first n xs e).0
  every_taken t zero xs e ps = every_none (Is t)
  every_taken t (suc n) [] e ps = every_none (Is t)
  every_taken t (suc n) (x ∷ xs) e ps = every_more (Is t) x _ (first_of (Is t) x xs ps) (every_taken t n xs e (others_of (Is t) x xs ps))

  every_reverse : (t : Ty) (xs : List (Value R)) → Every (Is t) xs → Every (Is t) (reverse xs)
  every_reverse t [] ps = ps
  every_reverse t (x ∷ xs) ps =
      subst (Every (Is t)) (sym (reverse-append (x ∷ []) xs))
      (every_append (Is t) (reverse xs) (x ∷ []) (every_reverse t xs (others_of (Is t) x xs ps)) (every_more (Is t) x [] (first_of (Is t) x xs ps) (every_none (Is t))))

  pub every_whole : (t : Ty) (next : List (Value R) → Stream (Value R)) (xs : List (Value R)) (e : End) → Every (Is t) (next xs).0 → Every (Is t) (whole xs e next).0
  every_whole t next xs end.Done ps = ps
  every_whole t next xs (end.Fault f) ps = every_none (Is t)

  pub every_reversed : (t : Ty) (xs : List (Value R)) (e : End) → Every (Is t) xs → Every (Is t) (reversed xs e).0
  every_reversed t xs e ps = every_whole t (λ ys. (reverse ys, end.Done)) xs e (every_reverse t xs ps)

  pub every_default : (t : Ty) (d : Value R) (xs : List (Value R)) (e : End) → Is t d → Every (Is t) xs → Every (Is t) (default_if_empty d xs e).0
  every_default t d [] end.Done fits ps = every_more (Is t) d [] fits ps
  every_default t d [] (end.Fault f) fits ps = ps
  every_default t d (x ∷ xs) e fits ps = ps

  -- ---- members

  -- what a claim says of a record's member of this name
  abbrev HasMember : List ℕ → Ty → ValueClaim R → Type 0
  HasMember m t (IsA u v) = Unit {0}
  HasMember m t (AreMembers ms vs) = member_of m ms ≡ Some t → (v : Value R) × (member_in world m vs ≡ Some v) × Is t v

  one_of_members : (m n : List ℕ) (t u : Ty) (v : Value R) (ms : List (List ℕ × Ty)) (vs : List (List ℕ × Value R)) → Is u v → HasMember m t (AreMembers ms vs) → (b : Bool)
      → (if b then Some u else member_of m ms) ≡ Some t → (w : Value R) × ((if b then Some v else member_in world m vs) ≡ Some w) × Is t w
  one_of_members m n t u v ms vs fits others true h = (v, refl, subst (λ (x : Ty). Is x v) (same_Some u t h) fits)
  one_of_members m n t u v ms vs fits others false h = others h

  member_there : (m : List ℕ) (t : Ty) {claim : ValueClaim R} → Fits world claim → HasMember m t claim
  member_there m t (by_scalar _ s fits) = tt
  member_there m t (by_null_record _ ms is) = tt
  member_there m t (by_row _ n r is cells) = tt
  member_there m t (by_record _ ms vs is fits) = tt
  member_there m t (by_group _ k u key vs is fits items) = tt
  member_there m t (by_sequence _ u vs e is items) = tt
  member_there m t no_member = λ h. absurd (none-some t h)
  member_there m t (one_member n u v ms vs fits others) = one_of_members m n t u v ms vs fits (member_there m t others) (bytes_eq m n)

  pub has_member : (m : List ℕ) (t : Ty) (ms : List (List ℕ × Ty)) (vs : List (List ℕ × Value R)) → Fits world (AreMembers ms vs) → member_of m ms ≡ Some t
      → (v : Value R) × (member_in world m vs ≡ Some v) × Is t v
  has_member m t ms vs fits = member_there m t fits
