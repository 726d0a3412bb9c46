-- Methods of sequences, members and operators give what their types say, in two worlds that differ only in the fault that is used where
-- there is no meaning.
use Rattle.std.proofs.Common.{◌≡◌, ◌∷◌, if◌then◌else◌, List, [], map, filter, ℕ, ℤ, pos, Bool, true, false, not, Option, Some, Result, Ok, Err, ap, ap₂, ◌∙◌, sym, refl, subst, true≢false, option_and_then}
use Rattle.std.specs.Prelude.{is_some}
use Rattle.std.proofs.lemmas.Option.{none-some, option_and_then_some, same_Some}
use Rattle.lq_value.specs.SameAndOrder.{same_values as same_keys}
use Rattle.lq_value.specs.declared.scalar.Scalar.{Scalar}
use Rattle.lq_value.specs.declared.scalar.Scalar.TheVariants as scalar
use Rattle.lq_value.specs.declared.ty.Ty.{Ty, out-Ty}
use Rattle.lq_value.specs.declared.ty.Ty.TheOpen.{Ty-F}
use Rattle.lq_value.specs.declared.ty.Ty.TheVariants as ty
use Rattle.lq_value.specs.declared.ty.Ty.TheVariants.{outs-Bool, outs-Group, outs-Int, outs-IntN, outs-Rec, outs-Row, outs-Seq, outs-Str}
use Rattle.lq_value.specs.declared.value.End.{End}
use Rattle.lq_value.specs.declared.value.End.TheVariants as end
use Rattle.lq_value.specs.declared.value.Fault.{Fault}
use Rattle.lq_value.specs.declared.value.Fault.TheVariants as fault
use Rattle.lq_value.specs.declared.value.Value.{Value, out-Value}
use Rattle.lq_value.specs.declared.value.Value.TheOpen.{Value-F}
use Rattle.lq_value.specs.declared.value.Value.TheVariants as value
use Rattle.lq_value.specs.declared.value.Value.TheVariants.{outs-Group as outs-value-Group, outs-Rec as outs-value-Rec, outs-Row as outs-value-Row, outs-Scalar, outs-Seq as outs-value-Seq}
use Rattle.lq_language.specs.Enumerable.{all, as_count, concat, contains, element_at, greater, intersect, except, is_among, lesser, skip, take_first, union}
use Rattle.lq_language.specs.EnumerableCalls.{Given, Simple, Through}
use Rattle.lq_language.specs.EnumerableCalls as called
use Rattle.lq_language.specs.HostNames.{are_int_columns, predicate_number}
use Rattle.lq_language.specs.Worlds.{World, known_predicates}
use Rattle.lq_grammar.specs.declared.syntax.Picked.{Picked}
use Rattle.lq_language.specs.OperandMeaning.{as_value, cell_value, host_value, items_of, member_value, on_scalar, on_truth, scalar_of, stream_of, truth_value}
use Rattle.lq_language.specs.ValuesOfTypes.{Every, IsScalarOf, assuming}
use Rattle.lq_language.specs.Members.{member_named}
use Rattle.lq_language.specs.Operations.{of_member, on_ok, truth_of}
use Rattle.lq_language.specs.Stream.{Stream, first_keys, select_by, where_by}
use Rattle.lq_language.specs.Types.{element_type, if_placed, is_key, same_types, when}
use Rattle.lq_language.specs.Names.{column_type}
use Rattle.lq_language.specs.OperandTypes.{is_bool, is_int, is_number}
use Rattle.lq_language.specs.Meaning.{as_sequence, as_truth, default_of, given_meaning, has_members, is_sequence_layer, member_found, none_there, number_of, numbers, on_number, settled, simple_meaning, through_meaning, value_of_member}
use Rattle.lq_language.specs.MeaningLaws.{by_sequence, by_scalar}
use Rattle.lq_language.specs.Typing.{converts, given_type, has_default, if_same, member_of, simple_type, through_type}
use Rattle.lq_language.proofs.AlikeStreamLaws.{Agree, Alike, agree_err, agree_ok, every_concat, every_first_key, on_ok_agree, select_alike, where_alike}
use Rattle.lq_language.proofs.ItemLaws.{every_filter, every_none, first_of, others_of}
use Rattle.lq_language.proofs.FindingLaws.{map_by, when_by}
use Rattle.lq_language.proofs.HostMeaningLaws.{IsAnswered, answered, null_answered, refused, row_answered}
use Rattle.lq_language.proofs.ScalarResultLaws.{Gives, faults, gives}
use Rattle.lq_language.proofs.SameTypeLaws.{same_type}
use Rattle.lq_language.proofs.ValueLaws.{Gets, Is, RecordOrNull, RowOrNull, a_record, a_row, default_is, every_default, every_drop, every_reversed, every_taken, every_whole, gets_element, gets_err, gets_extreme, gets_first, gets_last, gets_ok, gets_sequence, gets_single, gets_sum, gets_truth, group_value, has_member, is_plain, no_members, no_record, no_row, plain_value, record_value, row_value, sequence_value, truth_is}

module _ {R : Type 0} (world : World R) where
  -- ---- methods without an argument

  -- what is typed to be of a type, by the type that it is
  got : (t r : Ty) (m : Result (Value R) Fault) → Some t ≡ Some r → Gets world t m → Gets world r m
  got t r m h = subst (λ (u : Ty). Gets world u m) (same_Some t r h)

  pub simple_typed : (method : Simple) (t r : Ty) (s : Stream (Value R)) → simple_type method t ≡ Some r → Every (Is world t) s.0 → Gets world r (simple_meaning method t s)
  simple_typed called.Distinct t r s h ps =
      when_by (is_key t) (Some (ty.Seq t)) r h (λ key same. got _ r _ same (gets_sequence world t (first_keys same_keys s.0, s.1) (every_first_key (Is world t) same_keys s.0 ps)))
  simple_typed called.Reverse t r s h ps = got _ r _ h (gets_sequence world t _ (every_reversed world t s.0 s.1 ps))
  simple_typed called.DefaultIfEmpty t r s h ps =
      when_by (has_default (out-Ty t)) (Some (ty.Seq t)) r h
      (λ has same. got _ r _ same (gets_sequence world t _ (every_default world t (default_of t) s.0 s.1 (default_is world t has) ps)))
  simple_typed called.Any t r s h ps = got _ r _ h (gets_truth world _)
  simple_typed called.Count t r s h ps = got _ r _ h (gets_sum world ty.Int (ap is_number outs-Int) (pos 0) (map (λ x. pos 1) s.0) s.1)
  simple_typed called.First t r s h ps = got t r _ h (gets_first world t none_there (gets_err world t fault.InvalidOperation) s.0 s.1 ps)
  simple_typed called.FirstOrDefault t r s h ps =
      when_by (has_default (out-Ty t)) (Some t) r h
      (λ has same. got t r _ same (gets_first world t (Ok (default_of t)) (gets_ok world t (default_of t) (default_is world t has)) s.0 s.1 ps))
  simple_typed called.Last t r s h ps = got t r _ h (gets_last world t none_there (gets_err world t fault.InvalidOperation) s.0 s.1 ps)
  simple_typed called.Single t r s h ps = got t r _ h (gets_single world t none_there (gets_err world t fault.InvalidOperation) s.0 s.1 ps)
  simple_typed called.SingleOrDefault t r s h ps =
      when_by (has_default (out-Ty t)) (Some t) r h
      (λ has same. got t r _ same (gets_single world t (Ok (default_of t)) (gets_ok world t (default_of t) (default_is world t has)) s.0 s.1 ps))
  simple_typed called.Sum t r s h ps = when_by (is_number (out-Ty t)) (Some t) r h (λ number same. got t r _ same (gets_sum world t number (pos 0) (numbers s.0) s.1))
  simple_typed called.Min t r s h ps = when_by (is_number (out-Ty t)) (Some t) r h (λ number same. got t r _ same (gets_extreme world t number lesser (numbers s.0) s.1))
  simple_typed called.Max t r s h ps = when_by (is_number (out-Ty t)) (Some t) r h (λ number same. got t r _ same (gets_extreme world t number greater (numbers s.0) s.1))

module _ {R : Type 0} (world : World R) (f g : Fault) where
  abbrev pub left : World R
  left = assuming f world

  abbrev pub right : World R
  right = assuming g world

  -- ---- what follows a scalar or a truth value

  scalar_step : {B : Type 0} (Q : Result B Fault → Result B Fault → Type 0) (k l : Scalar → Result B Fault) (s : Scalar) → Q (k s) (l s)
      → Q (on_ok (scalar_of left (out-Value R (value.Scalar s))) k) (on_ok (scalar_of right (out-Value R (value.Scalar s))) l)
  scalar_step Q k l s h = subst (λ (layer : Value-F R (Value R)). Q (on_ok (scalar_of left layer) k) (on_ok (scalar_of right layer) l)) (sym (outs-Scalar s)) h

  scalar_by : {B : Type 0} (Q : Result B Fault → Result B Fault → Type 0) → ((x : Fault) → Q (Err x) (Err x)) → (t : Ty) → is_plain (out-Ty t) ≡ true → (k l : Scalar → Result B Fault)
      → ((s : Scalar) → IsScalarOf (out-Ty t) s → Q (k s) (l s)) → (m : Result (Value R) Fault) → Gets world t m → Q (on_scalar left m k) (on_scalar right m l)
  scalar_by Q faulty t plain k l same (Ok v) typed =
      let found = plain_value world t v plain (typed v refl) in
      subst (λ (w : Value R). Q (on_scalar left (Ok w) k) (on_scalar right (Ok w) l)) (sym found.1) (scalar_step Q k l found.0 (same found.0 found.2))
  scalar_by Q faulty t plain k l same (Err x) typed = faulty x

  pub scalar_after : {B : Type 0} (Q : Result B Fault → Result B Fault → Type 0) → ((x : Fault) → Q (Err x) (Err x)) → (t : Ty) → is_plain (out-Ty t) ≡ true → (k l : Scalar → Result B Fault)
      → ((s : Scalar) → IsScalarOf (out-Ty t) s → Q (k s) (l s)) → (m n : Result (Value R) Fault) → Agree (Is world t) m n → Q (on_scalar left m k) (on_scalar right n l)
  scalar_after Q faulty t plain k l same m n h = subst (λ (o : Result (Value R) Fault). Q (on_scalar left m k) (on_scalar right o l)) h.0 (scalar_by Q faulty t plain k l same m h.1)

  truth_layer : (s : Scalar) → IsScalarOf Ty-F.Bool s → truth_of f s ≡ truth_of g s
  truth_layer (scalar.Bool b) fits = refl
  truth_layer s fits = absurd fits

  pub truth_same : (m n : Result (Value R) Fault) → Agree (Is world ty.Bool) m n → on_scalar left m (truth_of f) ≡ on_scalar right n (truth_of g)
  truth_same m n h =
      scalar_after (λ o p. o ≡ p) (λ x. refl) ty.Bool (ap is_plain outs-Bool) (truth_of f) (truth_of g) (λ s fits. truth_layer s (subst (λ (u : Ty-F Ty). IsScalarOf u s) outs-Bool fits)) m n h

  pub truth_after : (t : Ty) (next more : Bool → Result (Value R) Fault) → ((b : Bool) → Agree (Is world t) (next b) (more b)) → (m n : Result (Value R) Fault) → Agree (Is world ty.Bool) m n
      → Agree (Is world t) (on_truth left m next) (on_truth right n more)
  truth_after t next more same m n h = on_ok_agree (λ b. Unit {0}) (Is world t) next more (λ b u. same b) _ _ (truth_same m n h, λ b is. tt)

  pub given_agree : (t : Ty) (o : Fault → Result Scalar Fault) → Gives (out-Ty t) o → Agree (Is world t) (as_value (o f)) (as_value (o g))
  given_agree t o (gives s fits is) =
      (ap as_value (is f ∙ sym (is g)), subst (Gets world t) (sym (ap as_value (is f))) (gets_ok world t (value.Scalar s) (by_scalar t s fits)))
  given_agree t o (faults x is) = (ap as_value (is f ∙ sym (is g)), subst (Gets world t) (sym (ap as_value (is f))) (gets_err world t x))

  -- ---- what is enumerated

  enumerated : (t u : Ty) (layer : Ty-F Ty) → out-Ty t ≡ layer → element_type layer ≡ Some u → (v : Value R) → Is world t v
      → (s : Stream (Value R)) × ((w : World R) → items_of w (out-Value R v) ≡ s) × Every (Is world u) s.0
  enumerated t u (Ty-F.Seq x) is element v fits =
      let found = sequence_value world t x v is fits in (
        (found.0, found.1),
        (λ w. ap (λ (y : Value R). items_of w (out-Value R y)) found.2 ∙ ap (items_of w) (outs-value-Seq found.0 found.1)),
        subst (λ (y : Ty). Every (Is world y) found.0) (same_Some x u element) found.3,
      )
  enumerated t u (Ty-F.Group k x) is element v fits =
      let found = group_value world t k x v is fits in (
        (found.1, end.Done),
        (λ w. ap (λ (y : Value R). items_of w (out-Value R y)) found.2 ∙ ap (items_of w) (outs-value-Group found.0 found.1)),
        subst (λ (y : Ty). Every (Is world y) found.1) (same_Some x u element) found.4,
      )
  enumerated t u layer is element v fits = absurd (none-some u element)

  stream_by : (t u : Ty) → element_type (out-Ty t) ≡ Some u → (m : Result (Value R) Fault) → Gets world t m → Alike (Is world u) (stream_of left m) (stream_of right m)
  stream_by t u element (Ok v) typed =
      let found = enumerated t u (out-Ty t) refl element v (typed v refl) in
      (found.1 left ∙ sym (found.1 right), subst (λ (s : Stream (Value R)). Every (Is world u) s.0) (sym (found.1 left)) found.2)
  stream_by t u element (Err x) typed = (refl, every_none (Is world u))

  pub stream_alike : (t u : Ty) → element_type (out-Ty t) ≡ Some u → (m n : Result (Value R) Fault) → Agree (Is world t) m n → Alike (Is world u) (stream_of left m) (stream_of right n)
  stream_alike t u element m n h = subst (λ (o : Result (Value R) Fault). Alike (Is world u) (stream_of left m) (stream_of right o)) h.0 (stream_by t u element m h.1)

  -- ---- what a sequence's type settles

  settled_by : (t : Ty) (layer : Ty-F Ty) → out-Ty t ≡ layer → (m n : Result (Value R) Fault) → Agree (Is world t) m n
      → Agree (Is world t) (if is_sequence_layer layer then as_sequence (stream_of left m) else m) (if is_sequence_layer layer then as_sequence (stream_of right n) else n)
  settled_by t (Ty-F.Seq u) is m n h =
      let items = stream_alike t u (ap element_type is) m n h in
      (ap as_sequence items.0, gets_ok world t _ (by_sequence t u (stream_of left m).0 (stream_of left m).1 is items.1))
  settled_by t Ty-F.Int is m n h = h
  settled_by t Ty-F.IntN is m n h = h
  settled_by t Ty-F.Bool is m n h = h
  settled_by t Ty-F.Str is m n h = h
  settled_by t Ty-F.Null is m n h = h
  settled_by t (Ty-F.Row k) is m n h = h
  settled_by t (Ty-F.Rec ms) is m n h = h
  settled_by t (Ty-F.Group k u) is m n h = h

  pub settled_agree : (t : Ty) (o : Option Ty) → o ≡ Some t → (m n : Result (Value R) Fault) → Agree (Is world t) m n → Agree (Is world t) (settled left o m) (settled right o n)
  settled_agree t o is m n h = subst (λ (p : Option Ty). Agree (Is world t) (settled left p m) (settled right p n)) (sym is) (settled_by t (out-Ty t) refl m n h)

  -- ---- methods with an argument

  same_items : (t u r : Ty) → if_same t (Some u) ≡ Some r → {P : Type 0} → (element_type (out-Ty u) ≡ Some t → Some (ty.Seq t) ≡ Some r → P) → P
  same_items t u r h next =
      option_and_then_some _ (element_type (out-Ty u)) r h (λ s element found. when_by (same_types t s) (Some (ty.Seq t)) r found
      (λ same is. next (element ∙ sym (ap Some (same_type t s same))) is))

  int_layer : (layer : Ty-F Ty) → is_int layer ≡ true → is_plain layer ≡ true
  int_layer Ty-F.Int h = refl
  int_layer layer h = absurd (true≢false (sym h))

  number_there : (layer : Ty-F Ty) (s : Scalar) → is_int layer ≡ true → IsScalarOf layer s → number_of left s ≡ number_of right s
  number_there Ty-F.Int (scalar.Int n) h fits = refl
  number_there Ty-F.Int s h fits = absurd fits
  number_there layer s h fits = absurd (true≢false (sym h))

  on_number_agree : (u r : Ty) → is_int (out-Ty u) ≡ true → (next : ℤ → Result (Value R) Fault) → ((n : ℤ) → Gets world r (next n)) → (m n : Result (Value R) Fault) → Agree (Is world u) m n
      → Agree (Is world r) (on_number left m next) (on_number right n next)
  on_number_agree u r int next typed m n h =
      on_ok_agree (λ k. Unit {0}) (Is world r) next next (λ k p. (refl, typed k)) _ _
      (scalar_after (λ o p. o ≡ p) (λ x. refl) u (int_layer (out-Ty u) int) (number_of left) (number_of right) (λ s fits. number_there (out-Ty u) s int fits) m n h, λ k is. tt)

  int_by : (u t r : Ty) → option_and_then (λ n. when (is_int (out-Ty n)) (Some t)) (Some u) ≡ Some r → {P : Type 0} → (is_int (out-Ty u) ≡ true → Some t ≡ Some r → P) → P
  int_by u t r h next = when_by (is_int (out-Ty u)) (Some t) r h next

  -- a sequence made of a second one, of the same items
  second_agree : (t u r : Ty) (make : Stream (Value R) → Stream (Value R)) → ((s : Stream (Value R)) → Every (Is world t) s.0 → Every (Is world t) (make s).0)
      → if_same t (Some u) ≡ Some r → (m n : Result (Value R) Fault) → Agree (Is world u) m n
      → Agree (Is world r) (as_sequence (make (stream_of left m))) (as_sequence (make (stream_of right n)))
  second_agree t u r make typed h m n same =
      same_items t u r h (λ element is. let items = stream_alike u t element m n same in
      (ap (λ (s : Stream (Value R)). as_sequence (make s)) items.0, got world (ty.Seq t) r _ is (gets_sequence world t (make (stream_of left m)) (typed (stream_of left m) items.1))))

  pub given_typed : (method : Given) (t u r : Ty) (s : Stream (Value R)) → given_type method t (Some u) ≡ Some r → Every (Is world t) s.0 → (m n : Result (Value R) Fault) → Agree (Is world u) m n
      → Agree (Is world r) (given_meaning left method m s) (given_meaning right method n s)
  given_typed called.Concat t u r s h ps m n same = second_agree t u r (λ z. concat s z) (λ z qs. every_concat (Is world t) s z ps qs) h m n same
  given_typed called.Union t u r s h ps m n same =
      when_by (is_key t) _ r h (λ key found. second_agree t u r (λ z. union same_keys s z)
      (λ z qs. every_first_key (Is world t) same_keys (concat s z).0 (every_concat (Is world t) s z ps qs)) found m n same)
  given_typed called.Intersect t u r s h ps m n same =
      when_by (is_key t) _ r h (λ key found. second_agree t u r (λ z. intersect same_keys s z)
      (λ z qs. every_whole world t (λ zs. (filter (λ x. is_among same_keys x zs) (first_keys same_keys s.0), s.1)) z.0 z.1
      (every_filter (Is world t) _ (first_keys same_keys s.0) (every_first_key (Is world t) same_keys s.0 ps))) found m n same)
  given_typed called.Except t u r s h ps m n same =
      when_by (is_key t) _ r h (λ key found. second_agree t u r (λ z. except same_keys s z)
      (λ z qs. every_whole world t (λ zs. (filter (λ x. not (is_among same_keys x zs)) (first_keys same_keys s.0), s.1)) z.0 z.1
      (every_filter (Is world t) _ (first_keys same_keys s.0) (every_first_key (Is world t) same_keys s.0 ps))) found m n same)
  given_typed called.Skip t u r s h ps m n same =
      int_by u (ty.Seq t) r h (λ int is. on_number_agree u r int (λ k. as_sequence (skip (as_count k) s.0 s.1))
      (λ k. got world (ty.Seq t) r _ is (gets_sequence world t (skip (as_count k) s.0 s.1) (every_drop world t (as_count k) s.0 ps))) m n same)
  given_typed called.Take t u r s h ps m n same =
      int_by u (ty.Seq t) r h (λ int is. on_number_agree u r int (λ k. as_sequence (take_first (as_count k) s.0 s.1))
      (λ k. got world (ty.Seq t) r _ is (gets_sequence world t (take_first (as_count k) s.0 s.1) (every_taken world t (as_count k) s.0 s.1 ps))) m n same)
  given_typed called.ElementAt t u r s h ps m n same =
      int_by u t r h (λ int is. on_number_agree u r int (λ k. element_at k s.0 s.1) (λ k. got world t r _ is (gets_element world t k s.0 s.1 ps)) m n same)
  given_typed called.Contains t u r s h ps m n same =
      when_by (is_key t) _ r h (λ key found. when_by (converts u t) (Some ty.Bool) r found
      (λ may is. on_ok_agree (Is world u) (Is world r) (λ v. as_truth (contains same_keys v s.0 s.1)) (λ v. as_truth (contains same_keys v s.0 s.1))
      (λ v fits. (refl, got world ty.Bool r _ is (gets_truth world (contains same_keys v s.0 s.1)))) m n same))

  -- ---- methods with a lambda

  all_same : (t : Ty) (c d : Value R → Result Bool Fault) → ((v : Value R) → Is world t v → c v ≡ d v) → (xs : List (Value R)) (e : End) → Every (Is world t) xs → all c xs e ≡ all d xs e
  all_same t c d same [] e ps = refl
  all_same t c d same (x ∷ xs) e ps =
      ap₂ (λ (o p : Result Bool Fault). on_ok o (λ b. if b then p else Ok false)) (same x (first_of (Is world t) x xs ps)) (all_same t c d same xs e (others_of (Is world t) x xs ps))

  pub through_typed : (method : Through) (t u r : Ty) (c d : Value R → Result Bool Fault) (body other : Value R → Result (Value R) Fault) → through_type method t (Some u) ≡ Some r
      → (is_bool (out-Ty u) ≡ true → (v : Value R) → Is world t v → c v ≡ d v) → ((v : Value R) → Is world t v → Agree (Is world u) (body v) (other v))
      → (s z : Stream (Value R)) → Alike (Is world t) s z → Agree (Is world r) (through_meaning left method t u c body s) (through_meaning right method t u d other z)
  through_typed called.Where t u r c d body other h truths bodies s z all =
      when_by (is_bool (out-Ty u)) (Some (ty.Seq t)) r h (λ truth is. let items = where_alike (Is world t) c d (truths truth) s z all in
      (ap as_sequence items.0, got world (ty.Seq t) r _ is (gets_sequence world t (where_by c s.0 s.1) items.1)))
  through_typed called.Select t u r c d body other h truths bodies s z all =
      map_by ty.Seq _ r h (λ v placed is. option_placed v placed (λ same. let items = select_alike (Is world t) (Is world u) body other bodies s z all in
      (ap as_sequence items.0, got world (ty.Seq u) r _ (ap (λ (x : Ty). Some (ty.Seq x)) same ∙ ap Some is) (gets_sequence world u (select_by body s.0 s.1) items.1))))
    where
      option_placed : {P : Type 0} (v : Ty) → if_placed (Some u) ≡ Some v → (u ≡ v → P) → P
      option_placed v placed next = when_by _ (Some u) v placed (λ has same. next (same_Some u v same))
  through_typed called.All t u r c d body other h truths bodies s z all_alike =
      when_by (is_bool (out-Ty u)) (Some ty.Bool) r h (λ truth is.
      (ap as_truth (all_same t c d (truths truth) s.0 s.1 all_alike.1 ∙ ap (λ (y : Stream (Value R)). all d y.0 y.1) all_alike.0), got world ty.Bool r _ is (gets_truth world (all c s.0 s.1))))
  through_typed (called.Those method) t u r c d body other h truths bodies s z all =
      when_by (is_bool (out-Ty u)) (simple_type method t) r h (λ truth is. let items = where_alike (Is world t) c d (truths truth) s z all in
      (ap (simple_meaning method t) items.0, simple_typed world method t r (where_by c s.0 s.1) is items.1))
  through_typed (called.Values method) t u r c d body other h truths bodies s z all =
      let items = select_alike (Is world t) (Is world u) body other bodies s z all in
      (ap (simple_meaning method u) items.0, simple_typed world method u r (select_by body s.0 s.1) h items.1)

  -- ---- members

  abbrev member_at : World R → Ty → List ℕ → Value R → Result (Value R) Fault
  member_at w t m v = value_of_member w (Some t) m (out-Value R v)

  -- a member of a null row or record
  null_agrees : (t r : Ty) (m : List ℕ) → has_members (out-Ty t) ≡ true → Agree (Is world r) (member_at left t m (value.Scalar scalar.Null)) (member_at right t m (value.Scalar scalar.Null))
  null_agrees t r m has =
      subst (λ (layer : Value-F R (Value R)). Agree (Is world r) (value_of_member left (Some t) m layer) (value_of_member right (Some t) m layer)) (sym (outs-Scalar scalar.Null))
      (subst (λ (b : Bool). Agree (Is world r) (if b then Err fault.NullReference else member_value left (Some t) m (Value-F.Scalar scalar.Null))
      (if b then Err fault.NullReference else member_value right (Some t) m (Value-F.Scalar scalar.Null))) (sym has) (agree_err (Is world r) fault.NullReference))

  at_value : (t r : Ty) (m : List ℕ) (v w : Value R) → v ≡ w → Agree (Is world r) (member_at left t m w) (member_at right t m w) → Agree (Is world r) (member_at left t m v) (member_at right t m v)
  at_value t r m v w is = subst (λ (x : Value R). Agree (Is world r) (member_at left t m x) (member_at right t m x)) (sym is)

  column_by : (n : ℕ) (c : List ℕ) (r : Ty) → column_type world.schemas n c ≡ Some r → (v : Value R) → RowOrNull world n v
      → Agree (Is world r) (member_at left (ty.Row n) c v) (member_at right (ty.Row n) c v)
  column_by n c r column v (a_row row cells is) =
      let cell = cells.1 c r column in
      at_value (ty.Row n) r c v (value.Row row) is
      (subst (λ (layer : Value-F R (Value R)). Agree (Is world r) (value_of_member left (Some (ty.Row n)) c layer) (value_of_member right (Some (ty.Row n)) c layer)) (sym (outs-value-Row row))
      (subst (λ (o : Option Scalar). Agree (Is world r) (cell_value left o) (cell_value right o)) (sym cell.1)
      (agree_ok (Is world r) (value.Scalar cell.0) (by_scalar r cell.0 cell.2))))
  column_by n c r column v (no_row is) = at_value (ty.Row n) r c v (value.Scalar scalar.Null) is (null_agrees (ty.Row n) r c (ap has_members (outs-Row n)))

  pub column_agrees : (n : ℕ) (c : List ℕ) (r : Ty) → column_type world.schemas n c ≡ Some r → (v : Value R) → Is world (ty.Row n) v
      → Agree (Is world r) (member_at left (ty.Row n) c v) (member_at right (ty.Row n) c v)
  column_agrees n c r column v fits = column_by n c r column v (row_value world (ty.Row n) n v (outs-Row n) fits)

  member_by : (ms : List (List ℕ × Ty)) (m : List ℕ) (r : Ty) → member_of m ms ≡ Some r → (v : Value R) → RecordOrNull world ms v
      → Agree (Is world r) (member_at left (ty.Rec ms) m v) (member_at right (ty.Rec ms) m v)
  member_by ms m r member v (a_record vs fits is) =
      let found = has_member world m r ms vs fits member in
      at_value (ty.Rec ms) r m v (value.Rec vs) is
      (subst (λ (layer : Value-F R (Value R)). Agree (Is world r) (value_of_member left (Some (ty.Rec ms)) m layer) (value_of_member right (Some (ty.Rec ms)) m layer)) (sym (outs-value-Rec vs))
      (subst (λ (o : Option (Value R)). Agree (Is world r) (member_found left o) (member_found right o)) (sym found.1)
      (agree_ok (Is world r) found.0 found.2)))
  member_by ms m r member v (no_record is) = at_value (ty.Rec ms) r m v (value.Scalar scalar.Null) is (null_agrees (ty.Rec ms) r m (ap has_members (outs-Rec ms)))

  pub member_agrees : (ms : List (List ℕ × Ty)) (m : List ℕ) (r : Ty) → member_of m ms ≡ Some r → (v : Value R) → Is world (ty.Rec ms) v
      → Agree (Is world r) (member_at left (ty.Rec ms) m v) (member_at right (ty.Rec ms) m v)
  member_agrees ms m r member v fits = member_by ms m r member v (record_value world (ty.Rec ms) ms v (outs-Rec ms) fits)

  pub key_agrees : (k u : Ty) (m : List ℕ) (v : Value R) → Is world (ty.Group k u) v → Agree (Is world k) (member_at left (ty.Group k u) m v) (member_at right (ty.Group k u) m v)
  key_agrees k u m v fits =
      let found = group_value world (ty.Group k u) k u v (outs-Group k u) fits in
      at_value (ty.Group k u) k m v (value.Group found.0 found.1) found.2
      (subst (λ (layer : Value-F R (Value R)). Agree (Is world k) (value_of_member left (Some (ty.Group k u)) m layer) (value_of_member right (Some (ty.Group k u)) m layer))
      (sym (outs-value-Group found.0 found.1)) (agree_ok (Is world k) found.0 found.3))

  -- a member of a scalar, null or not, is found by its name
  of_scalar : (w : World R) (t : Ty) (m : List ℕ) (s : Scalar) → is_plain (out-Ty t) ≡ true → value_of_member w (Some t) m (Value-F.Scalar s) ≡ as_value (of_member w.unknown (member_named m) s)
  of_scalar w t m scalar.Null plain =
      let none = no_members (out-Ty t) plain in
      ap₂ (λ (b : Bool) (o : Option ℕ). if b then Err fault.NullReference else as_value (if is_some o then Err fault.NullReference else of_member w.unknown (member_named m) scalar.Null))
      none.0 none.1
  of_scalar w t m (scalar.Int n) plain = refl
  of_scalar w t m (scalar.Bool b) plain = refl
  of_scalar w t m (scalar.Text x) plain = refl

  pub scalar_member_agrees : (t r : Ty) (m : List ℕ) → is_plain (out-Ty t) ≡ true → ((s : Scalar) → IsScalarOf (out-Ty t) s → Gives (out-Ty r) (λ unknown. of_member unknown (member_named m) s))
      → (v : Value R) → Is world t v → Agree (Is world r) (member_at left t m v) (member_at right t m v)
  scalar_member_agrees t r m plain given v fits =
      let found = plain_value world t v plain fits in
      let here = given_agree r (λ unknown. of_member unknown (member_named m) found.0) (given found.0 found.2) in
      at_value t r m v (value.Scalar found.0) found.1
      (subst (λ (layer : Value-F R (Value R)). Agree (Is world r) (value_of_member left (Some t) m layer) (value_of_member right (Some t) m layer)) (sym (outs-Scalar found.0))
      (subst (λ (o : Result (Value R) Fault). Agree (Is world r) o (value_of_member right (Some t) m (Value-F.Scalar found.0))) (sym (of_scalar left t m found.0 plain))
      (subst (λ (o : Result (Value R) Fault). Agree (Is world r) (as_value (of_member f (member_named m) found.0)) o) (sym (of_scalar right t m found.0 plain)) here)))

  -- ---- host predicates

  answered_agrees : (p : List ℕ) (columns : Picked) (v : Value R) → IsAnswered world p columns v
      → Agree (Is world ty.Bool) (host_value left p columns (out-Value R v)) (host_value right p columns (out-Value R v))
  answered_agrees p columns v (answered b is) =
      subst (λ (o : Result (Value R) Fault). Agree (Is world ty.Bool) o (host_value right p columns (out-Value R v))) (sym (is f))
      (subst (λ (o : Result (Value R) Fault). Agree (Is world ty.Bool) (Ok (truth_value b)) o) (sym (is g)) (agree_ok (Is world ty.Bool) (truth_value b) (truth_is world b)))
  answered_agrees p columns v (refused x is) =
      subst (λ (o : Result (Value R) Fault). Agree (Is world ty.Bool) o (host_value right p columns (out-Value R v))) (sym (is f))
      (subst (λ (o : Result (Value R) Fault). Agree (Is world ty.Bool) (Err x) o) (sym (is g)) (agree_err (Is world ty.Bool) x))

  -- a predicate that is asked about a row, or about a null row
  pub host_agrees : (p : List ℕ) (columns : Picked) (k n : ℕ) → predicate_number (known_predicates world.predicates) p columns ≡ Some k
      → are_int_columns world.schemas n columns ≡ true → (v : Value R) → Is world (ty.Row n) v
      → Agree (Is world ty.Bool) (host_value left p columns (out-Value R v)) (host_value right p columns (out-Value R v))
  host_agrees p columns k n known ints v fits = by (row_value world (ty.Row n) n v (outs-Row n) fits) where
    agrees : Value R → Type 0
    agrees w = Agree (Is world ty.Bool) (host_value left p columns (out-Value R w)) (host_value right p columns (out-Value R w))

    by : RowOrNull world n v → agrees v
    by (a_row r cells is) = subst agrees (sym is) (answered_agrees p columns (value.Row r) (row_answered world p columns k n r known ints cells))
    by (no_row is) = subst agrees (sym is) (answered_agrees p columns (value.Scalar scalar.Null) (null_answered world p columns))
