-- Proofs of the laws of one arrangement: the order of keys is transitive where there is one for each direction, so the first item of
-- two sorted lists with the same ties is the same.
use Rattle.std.proofs.Common.{◌≡◌, ◌∷◌, ◌&&◌, Result, Ok, map, if◌then◌else◌, List, [], filter, length, ℕ, zero, suc, Bool, true, false, Some, ap, ap₂, ◌∙◌, arith, sym, refl, subst, slice_get, drop, true≢false}
use Rattle.std.proofs.lemmas.Bool.{and_from, and_parts}
use Rattle.std.proofs.lemmas.Cmp.{back_total, on_total, then_total, upto}
use Rattle.std.proofs.lemmas.Option.{none-some, same_Some}
use Rattle.std.specs.Cmp.{IsTotalOrder}
use Rattle.std.specs.Ordering.{is_gt, on, ordering_reverse, ordering_then}
use Rattle.std.specs.declared.cmp.Ordering.{Ordering}
use Rattle.std.specs.declared.cmp.Ordering.TheVariants as ordering
use Rattle.lq_value.specs.SameAndOrder.{order_of}
use Rattle.lq_value.specs.declared.scalar.Scalar.{Scalar}
use Rattle.lq_value.specs.declared.scalar.Scalar.TheVariants as scalar
use Rattle.lq_value.specs.declared.value.End.TheVariants as end
use Rattle.lq_value.specs.declared.value.Fault.{Fault}
use Rattle.lq_value.proofs.OrderLaws.{orders_scalars, tells_scalars}
use Rattle.lq_language.specs.Arrangement.{Keyed, all_of, arranged, is_greater, keyed, order_of_keys, turned, with_key}
use Rattle.lq_language.specs.ArrangementLaws.{IsSorted, TellsOne}
use Rattle.lq_language.specs.ValuesOfTypes.{Every}
use Rattle.lq_language.specs.OneArrangement.{AreFound, ArrangesItems, ArrangesOnce, HasTiesOf}
use Rattle.lq_language.specs.Operations.{on_ok}
use Rattle.lq_language.specs.Stream.{on_value}
use Rattle.lq_language.proofs.ArrangementLemmas.{arranges_by_keys, flips, keeps_ties, level}
use Rattle.lq_language.proofs.ItemLaws.{every_filter, every_more, every_none, first_of, others_of}

-- ---- the order of keys is total

abbrev first_key : List Scalar → Scalar
first_key [] = scalar.Null
first_key (k ∷ ks) = k

abbrev other_keys : List Scalar → List Scalar
other_keys [] = []
other_keys (k ∷ ks) = ks

-- the order of keys, where one that is missing is null
abbrev padded : List Bool → List Scalar → List Scalar → Ordering
padded [] ks ls = ordering.Equal
padded (d ∷ ds) ks ls = ordering_then (turned d (order_of (first_key ks) (first_key ls))) (padded ds (other_keys ks) (other_keys ls))

turned_total : {K : Type 0} (R : K → K → Ordering) → IsTotalOrder R → (d : Bool) → IsTotalOrder (λ x y. turned d (R x y))
turned_total R o false = o
turned_total R o true = subst IsTotalOrder (λ i x y. o.antisymm y x i) (back_total o)

level_total : {K : Type 0} → IsTotalOrder (λ (x y : K). ordering.Equal)
level_total = record { antisymm = λ x y. refl; trans = λ x y z p q. p; congr = λ x y z p. refl }

padded_total : (ds : List Bool) → IsTotalOrder (padded ds)
padded_total [] = level_total
padded_total (d ∷ ds) = then_total (turned_total (on first_key order_of) (on_total first_key orders_scalars) d) (on_total other_keys (padded_total ds))

is_padded : (ds : List Bool) (ks ls : List Scalar) → length ks ≡ length ds → length ls ≡ length ds → order_of_keys ds ks ls ≡ padded ds ks ls
is_padded [] ks ls h g = refl
is_padded (d ∷ ds) [] ls h g = absurd (omega (arith, h))
is_padded (d ∷ ds) (k ∷ ks) [] h g = absurd (omega (arith, g))
is_padded (d ∷ ds) (k ∷ ks) (l ∷ ls) h g = ap (ordering_then (turned d (order_of k l))) (is_padded ds ks ls (omega (arith, h)) (omega (arith, g)))

gt_is : (o : Ordering) → is_gt o ≡ is_greater o
gt_is ordering.Less = refl
gt_is ordering.Equal = refl
gt_is ordering.Greater = refl

-- ---- keys that are level are the same

then_level : (o p : Ordering) → ordering_then o p ≡ ordering.Equal → (o ≡ ordering.Equal) × (p ≡ ordering.Equal)
then_level ordering.Less p h = absurd (cc h)
then_level ordering.Equal p h = (refl, h)
then_level ordering.Greater p h = absurd (cc h)

turned_same : (d : Bool) (o : Ordering) → turned d o ≡ ordering.Equal → o ≡ ordering.Equal
turned_same true ordering.Less h = absurd (cc h)
turned_same true ordering.Equal h = refl
turned_same true ordering.Greater h = absurd (cc h)
turned_same false o h = h

level_same : (ds : List Bool) (ks ls : List Scalar) → length ks ≡ length ds → length ls ≡ length ds → order_of_keys ds ks ls ≡ ordering.Equal → ks ≡ ls
level_same [] [] [] h g is = refl
level_same [] [] (l ∷ ls) h g is = absurd (omega (arith, g))
level_same [] (k ∷ ks) ls h g is = absurd (omega (arith, h))
level_same (d ∷ ds) [] ls h g is = absurd (omega (arith, h))
level_same (d ∷ ds) (k ∷ ks) [] h g is = absurd (omega (arith, g))
level_same (d ∷ ds) (k ∷ ks) (l ∷ ls) h g is =
    let both = then_level (turned d (order_of k l)) (order_of_keys ds ks ls) is in
    ap₂ (λ (x : Scalar) (xs : List Scalar). x ∷ xs) ((tells_scalars k l).0 (turned_same d (order_of k l) both.0))
    (level_same ds ks ls (omega (arith, h)) (omega (arith, g)) both.1)

neither_greater : (o : Ordering) → is_greater o ≡ false → is_greater (ordering_reverse o) ≡ false → o ≡ ordering.Equal
neither_greater ordering.Less h g = absurd (true≢false g)
neither_greater ordering.Equal h g = refl
neither_greater ordering.Greater h g = absurd (true≢false h)

-- ---- a test that one list of keys passes

abbrev is_level : Ordering → Bool
is_level ordering.Equal = true
is_level o = false

level_told : (o : Ordering) → is_level o ≡ true → o ≡ ordering.Equal
level_told ordering.Less h = absurd (true≢false (sym h))
level_told ordering.Equal h = refl
level_told ordering.Greater h = absurd (true≢false (sym h))

abbrev are_same : List Scalar → List Scalar → Bool
are_same [] [] = true
are_same (k ∷ ks) (l ∷ ls) = is_level (order_of k l) && are_same ks ls
are_same ks ls = false

same_told : (ks ls : List Scalar) → are_same ks ls ≡ true → ks ≡ ls
same_told [] [] h = refl
same_told [] (l ∷ ls) h = absurd (true≢false (sym h))
same_told (k ∷ ks) [] h = absurd (true≢false (sym h))
same_told (k ∷ ks) (l ∷ ls) h =
    let both = and_parts (is_level (order_of k l)) (are_same ks ls) h in
    ap₂ (λ (x : Scalar) (xs : List Scalar). x ∷ xs) ((tells_scalars k l).0 (level_told (order_of k l) both.0)) (same_told ks ls both.1)

same_itself : (ks : List Scalar) → are_same ks ks ≡ true
same_itself [] = refl
same_itself (k ∷ ks) = and_from (is_level (order_of k k)) (are_same ks ks) (ap is_level ((tells_scalars k k).1 refl)) (same_itself ks)

-- ---- sorted lists with the same ties

module _ {A : Type 0} (ds : List Bool) where
  abbrev HasKeys : Keyed A → Type 0
  HasKeys row = length row.0 ≡ length ds

  abbrev after : Keyed A → Keyed A → Bool
  after row other = is_greater (order_of_keys ds row.0 other.0)

  -- an item doesn't come after another
  abbrev Precedes : Keyed A → Keyed A → Type 0
  Precedes row other = after row other ≡ false

  chained : (x y z : Keyed A) → HasKeys x → HasKeys y → HasKeys z → Precedes x y → Precedes y z → Precedes x z
  chained x y z xs ys zs h g =
      ap is_greater (is_padded ds x.0 z.0 xs zs) ∙ sym (gt_is (padded ds x.0 z.0))
      ∙ upto (padded_total ds) x.0 y.0 z.0 (gt_is (padded ds x.0 y.0) ∙ ap is_greater (sym (is_padded ds x.0 y.0 xs ys)) ∙ h)
      (gt_is (padded ds y.0 z.0) ∙ ap is_greater (sym (is_padded ds y.0 z.0 ys zs)) ∙ g)

  further : (x y : Keyed A) (rows : List (Keyed A)) → HasKeys x → Every HasKeys (y ∷ rows) → Precedes x y → IsSorted ds (y ∷ rows) → Every (Precedes x) (y ∷ rows)
  further x y [] xs all h sorted = every_more (Precedes x) y [] h (every_none (Precedes x))
  further x y (z ∷ rows) xs all h sorted =
      every_more (Precedes x) y (z ∷ rows) h
      (further x z rows xs (others_of HasKeys y (z ∷ rows) all)
      (chained x y z xs (first_of HasKeys y (z ∷ rows) all) (first_of HasKeys z rows (others_of HasKeys y (z ∷ rows) all)) h sorted.0) sorted.1)

  -- the first item of a sorted list comes after none of the list
  first_precedes : (x : Keyed A) (rows : List (Keyed A)) → Every HasKeys (x ∷ rows) → IsSorted ds (x ∷ rows) → Every (Precedes x) (x ∷ rows)
  first_precedes x rows all sorted = further x x rows (first_of HasKeys x rows all) all (ap is_greater (level ds x.0)) sorted

  others_sorted : (x : Keyed A) (rows : List (Keyed A)) → IsSorted ds (x ∷ rows) → IsSorted ds rows
  others_sorted x [] sorted = tt
  others_sorted x (y ∷ rows) sorted = sorted.1

  abbrev of_keys : List Scalar → Keyed A → Bool
  of_keys ks row = are_same row.0 ks

  of_one : (ks : List Scalar) → TellsOne (of_keys ks)
  of_one ks row other h g = same_told row.0 ks h ∙ sym (same_told other.0 ks g)

  -- the first item is among those with its keys
  its_own : (x : Keyed A) (rows : List (Keyed A)) → filter (of_keys x.0) (x ∷ rows) ≡ x ∷ filter (of_keys x.0) rows
  its_own x rows = ap (λ (b : Bool). if b then x ∷ filter (of_keys x.0) rows else filter (of_keys x.0) rows) (same_itself x.0)

  -- what holds of all items of one list holds of the first one of another with the same ties
  first_too : (P : Keyed A → Type 0) (x : Keyed A) (xs ys : List (Keyed A)) → filter (of_keys x.0) ys ≡ filter (of_keys x.0) (x ∷ xs) → Every P ys → P x
  first_too P x xs ys ties all =
      first_of P x (filter (of_keys x.0) xs) (subst (Every P) (ties ∙ its_own x xs) (every_filter P (of_keys x.0) ys all))

  first_same : (x y : Keyed A) (xs ys : List (Keyed A)) → HasTiesOf (x ∷ xs) (y ∷ ys) → Every HasKeys (x ∷ xs) → Every HasKeys (y ∷ ys)
      → IsSorted ds (x ∷ xs) → IsSorted ds (y ∷ ys) → y ≡ x
  first_same x y xs ys ties x_keys y_keys x_sorted y_sorted =
      same_Some y x (ap (λ (rows : List (Keyed A)). slice_get rows 0) (sym (its_own y ys) ∙ ties (of_keys y.0) (of_one y.0) ∙ there))
    where
      y_first : Precedes y x
      y_first = first_too (Precedes y) x xs (y ∷ ys) (ties (of_keys x.0) (of_one x.0)) (first_precedes y ys y_keys y_sorted)

      x_first : Precedes x y
      x_first = first_too (Precedes x) y ys (x ∷ xs) (sym (ties (of_keys y.0) (of_one y.0))) (first_precedes x xs x_keys x_sorted)

      same : x.0 ≡ y.0
      same =
          level_same ds x.0 y.0 (first_of HasKeys x xs x_keys) (first_of HasKeys y ys y_keys)
          (neither_greater (order_of_keys ds x.0 y.0) x_first (ap is_greater (sym (flips ds y.0 x.0)) ∙ y_first))

      there : filter (of_keys y.0) (x ∷ xs) ≡ x ∷ filter (of_keys y.0) xs
      there = subst (λ (ks : List Scalar). filter (of_keys ks) (x ∷ xs) ≡ x ∷ filter (of_keys ks) xs) same (its_own x xs)

  ties_behind : (x : Keyed A) (xs ys : List (Keyed A)) → HasTiesOf (x ∷ xs) (x ∷ ys) → HasTiesOf xs ys
  ties_behind x xs ys ties test one = by (test x) (ties test one) where
    by : (b : Bool) → (if b then x ∷ filter test ys else filter test ys) ≡ (if b then x ∷ filter test xs else filter test xs) → filter test ys ≡ filter test xs
    by true h = ap (drop 1) h
    by false h = h

  not_empty : (x : Keyed A) (xs : List (Keyed A)) → [] ≡ filter (of_keys x.0) (x ∷ xs) → ⊥
  not_empty x xs h = none-some x (ap (λ (rows : List (Keyed A)). slice_get rows 0) (h ∙ its_own x xs))

  same_lists : (xs ys : List (Keyed A)) → HasTiesOf xs ys → Every HasKeys xs → Every HasKeys ys → IsSorted ds xs → IsSorted ds ys → ys ≡ xs
  same_lists [] [] ties x_keys y_keys x_sorted y_sorted = refl
  same_lists [] (y ∷ ys) ties x_keys y_keys x_sorted y_sorted = absurd (not_empty y ys (sym (ties (of_keys y.0) (of_one y.0))))
  same_lists (x ∷ xs) [] ties x_keys y_keys x_sorted y_sorted = absurd (not_empty x xs (ties (of_keys x.0) (of_one x.0)))
  same_lists (x ∷ xs) (y ∷ ys) ties x_keys y_keys x_sorted y_sorted =
      let one : y ≡ x = first_same x y xs ys ties x_keys y_keys x_sorted y_sorted in
      let behind = ties_behind x xs ys (subst (λ (z : Keyed A). HasTiesOf (x ∷ xs) (z ∷ ys)) one ties) in
      ap₂ (λ (z : Keyed A) (zs : List (Keyed A)). z ∷ zs) one
      (same_lists xs ys behind (others_of HasKeys x xs x_keys) (others_of HasKeys y ys y_keys) (others_sorted x xs x_sorted) (others_sorted y ys y_sorted))

  -- ---- each item has its keys

  behind_first : (P : Keyed A → Type 0) (test : Keyed A → Bool) (x : Keyed A) (rows : List (Keyed A)) → Every P (filter test (x ∷ rows)) → Every P (filter test rows)
  behind_first P test x rows = by (test x) where
    by : (b : Bool) → Every P (if b then x ∷ filter test rows else filter test rows) → Every P (filter test rows)
    by true every = others_of P x (filter test rows) every
    by false every = every

  -- an item is among those with its keys
  one_of_them : (P : Keyed A → Type 0) (y : Keyed A) (rows : List (Keyed A)) (place : ℕ) → slice_get rows place ≡ Some y → Every P (filter (of_keys y.0) rows) → P y
  one_of_them P y [] place is every = absurd (none-some y is)
  one_of_them P y (x ∷ rows) zero is every =
      first_of P y (filter (of_keys y.0) rows)
      (subst (Every P) (ap (λ (z : Keyed A). filter (of_keys y.0) (z ∷ rows)) (same_Some x y is) ∙ its_own y rows) every)
  one_of_them P y (x ∷ rows) (suc place) is every = one_of_them P y rows place is (behind_first P (of_keys y.0) x rows every)

  -- what holds of all items holds of all of another list with the same ties
  ties_every : (P : Keyed A → Type 0) (xs ys : List (Keyed A)) → HasTiesOf xs ys → Every P xs → Every P ys
  ties_every P xs ys ties all k y there =
      one_of_them P y ys k there (subst (Every P) (sym (ties (of_keys y.0) (of_one y.0))) (every_filter P (of_keys y.0) xs all))

pub arranges_once : {A : Type 0} → ArrangesOnce A
arranges_once {A} ds rows others keys sorted ties =
    same_lists ds (arranged ds rows) others (λ test one. ties test one ∙ sym (keeps_ties ds rows test one))
    (ties_every ds (λ (row : Keyed A). length row.0 ≡ length ds) rows (arranged ds rows) (keeps_ties ds rows) keys)
    (ties_every ds (λ (row : Keyed A). length row.0 ≡ length ds) rows others ties keys) (arranges_by_keys ds rows) sorted

-- ---- the items with their keys

module _ {A S : Type 0} (key : S → A → Result Scalar Fault) (found : S → A → Scalar) where
  all_found : (s : S) (xs : List A) → Every (λ (x : A). key s x ≡ Ok (found s x)) xs → all_of (key s) xs ≡ Ok (map (found s) xs)
  all_found s [] there = refl
  all_found s (x ∷ xs) there =
      ap (λ (o : Result Scalar Fault). on_ok o (λ k. on_ok (all_of (key s) xs) (λ ks. Ok (k ∷ ks)))) (first_of (λ (y : A). key s y ≡ Ok (found s y)) x xs there)
      ∙ ap (λ (o : Result (List Scalar) Fault). on_ok o (λ ks. Ok (found s x ∷ ks))) (all_found s xs (others_of (λ (y : A). key s y ≡ Ok (found s y)) x xs there))

  abbrev row_of : List S → A → Keyed A
  row_of ss x = (map (λ (s : S). found s x) ss, x)

  one_more : (s : S) (ss : List S) (xs : List A) → with_key (map (found s) xs) (map (row_of ss) xs) ≡ map (row_of (s ∷ ss)) xs
  one_more s ss [] = refl
  one_more s ss (x ∷ xs) = ap (λ (rows : List (Keyed A)). row_of (s ∷ ss) x ∷ rows) (one_more s ss xs)

  all_keyed : (ss : List S) (xs : List A) → AreFound key found ss xs → keyed key ss xs ≡ Ok (map (row_of ss) xs)
  all_keyed [] xs there = refl
  all_keyed (s ∷ ss) xs there =
      ap (λ (o : Result (List Scalar) Fault). on_ok o (λ ks. on_ok (keyed key ss xs) (λ rows. Ok (with_key ks rows))))
      (all_found s xs (first_of (λ (t : S). Every (λ (x : A). key t x ≡ Ok (found t x)) xs) s ss there))
      ∙ ap (λ (o : Result (List (Keyed A)) Fault). on_ok o (λ rows. Ok (with_key (map (found s) xs) rows)))
      (all_keyed ss xs (others_of (λ (t : S). Every (λ (x : A). key t x ≡ Ok (found t x)) xs) s ss there))
      ∙ ap Ok (one_more s ss xs)

pub arranges_items : {A S : Type 0} → ArrangesItems A S
arranges_items descending key found ss xs there =
    ap (λ (o : Result (List (Keyed _)) Fault). on_value o (λ rows. (map (λ (row : Keyed _). row.1) (arranged (map descending ss) rows), end.Done)))
    (all_keyed key found ss xs there)
