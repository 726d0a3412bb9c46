-- An insertion keeps a list sorted, and keeps the order of items with the same keys.
use Rattle.std.proofs.Common.{◌≡◌, ◌∷◌, if◌then◌else◌, List, [], filter, Bool, true, false, ap, ap₂, ◌∙◌, sym, refl, true≢false}
use Rattle.std.specs.Cmp.{then_flip}
use Rattle.std.specs.Ordering.{ordering_reverse, ordering_then}
use Rattle.std.specs.declared.cmp.Ordering.{Ordering}
use Rattle.std.specs.declared.cmp.Ordering.TheVariants as ordering
use Rattle.lq_value.specs.SameAndOrder.{order_of}
use Rattle.lq_value.specs.declared.scalar.Scalar.{Scalar}
use Rattle.lq_value.proofs.OrderLaws.{orders_scalars, tells_scalars}
use Rattle.lq_language.specs.Arrangement.{Keyed, arranged, inserted, is_greater, order_of_keys, turned}
use Rattle.lq_language.specs.ArrangementLaws.{ArrangesByKeys, IsSorted, KeepsTies, TellsOne}

-- ---- keys

turned_flip : (d : Bool) (o : Ordering) → turned d (ordering_reverse o) ≡ ordering_reverse (turned d o)
turned_flip true o = refl
turned_flip false o = refl

-- turning two lists of keys turns the answer
pub flips : (ds : List Bool) (ks ls : List Scalar) → order_of_keys ds ks ls ≡ ordering_reverse (order_of_keys ds ls ks)
flips [] ks ls = refl
flips (d ∷ ds) [] ls = nothing ls where
  nothing : (ls : List Scalar) → order_of_keys (d ∷ ds) [] ls ≡ ordering_reverse (order_of_keys (d ∷ ds) ls [])
  nothing [] = refl
  nothing (l ∷ ls) = refl
flips (d ∷ ds) (k ∷ ks) [] = refl
flips (d ∷ ds) (k ∷ ks) (l ∷ ls) =
    ap₂ ordering_then (ap (turned d) (orders_scalars.antisymm k l) ∙ turned_flip d (order_of l k)) (flips ds ks ls)
    ∙ then_flip (turned d (order_of l k)) (order_of_keys ds ls ks)

turned_level : (d : Bool) → turned d ordering.Equal ≡ ordering.Equal
turned_level true = refl
turned_level false = refl

-- keys are level with themselves
pub level : (ds : List Bool) (ks : List Scalar) → order_of_keys ds ks ks ≡ ordering.Equal
level [] ks = refl
level (d ∷ ds) [] = refl
level (d ∷ ds) (k ∷ ks) = ap₂ ordering_then (ap (turned d) ((tells_scalars k k).1 refl) ∙ turned_level d) (level ds ks)

not_greater : (o : Ordering) → is_greater o ≡ true → is_greater (ordering_reverse o) ≡ false
not_greater ordering.Less h = absurd (true≢false (sym h))
not_greater ordering.Equal h = absurd (true≢false (sym h))
not_greater ordering.Greater h = refl

module _ {A : Type 0} (ds : List Bool) where
  abbrev after : Keyed A → Keyed A → Bool
  after row other = is_greater (order_of_keys ds row.0 other.0)

  -- what comes after something doesn't come before it
  turned_round : (row other : Keyed A) → after row other ≡ true → after other row ≡ false
  turned_round row other h = ap is_greater (flips ds other.0 row.0) ∙ not_greater (order_of_keys ds row.0 other.0) h

  -- ---- sorted

  abbrev Sorted : List (Keyed A) → Type 0
  Sorted rows = IsSorted ds rows

  rest_sorted : (row : Keyed A) (rows : List (Keyed A)) → Sorted (row ∷ rows) → Sorted rows
  rest_sorted row [] sorted = tt
  rest_sorted row (other ∷ rows) sorted = sorted.1

  -- an item inserted after the first one, which it comes after
  insert_behind : (row other : Keyed A) (rows : List (Keyed A)) → after row other ≡ true → Sorted (other ∷ rows) → Sorted (inserted ds row rows) → Sorted (other ∷ inserted ds row rows)
  insert_behind row other [] h sorted behind = (turned_round row other h, tt)
  insert_behind row other (third ∷ rows) h sorted behind = by (after row third) behind where
    by : (g : Bool) → Sorted (if g then third ∷ inserted ds row rows else row ∷ third ∷ rows)
        → Sorted (other ∷ (if g then third ∷ inserted ds row rows else row ∷ third ∷ rows))
    by true behind = (sorted.0, behind)
    by false behind = (turned_round row other h, behind)

  insert_sorted : (row : Keyed A) (rows : List (Keyed A)) → Sorted rows → Sorted (inserted ds row rows)
  insert_sorted row [] sorted = tt
  insert_sorted row (other ∷ rows) sorted = by (after row other) refl (insert_sorted row rows (rest_sorted other rows sorted)) where
    by : (g : Bool) → after row other ≡ g → Sorted (inserted ds row rows) → Sorted (if g then other ∷ inserted ds row rows else row ∷ other ∷ rows)
    by true h behind = insert_behind row other rows h sorted behind
    by false h behind = (h, sorted)

  all_sorted : (rows : List (Keyed A)) → Sorted (arranged ds rows)
  unfolding arranged
  all_sorted [] = tt
  all_sorted (row ∷ rows) = insert_sorted row (arranged ds rows) (all_sorted rows)

  -- ---- ties

  module _ (test : Keyed A → Bool) (one : TellsOne test) where
    -- of two items that aren't level only one passes
    swapped : (row other : Keyed A) (rows : List (Keyed A)) → after row other ≡ true → (b c : Bool) → test row ≡ b → test other ≡ c
        → (if c then other ∷ (if b then row ∷ rows else rows) else (if b then row ∷ rows else rows))
        ≡ (if b then row ∷ (if c then other ∷ rows else rows) else (if c then other ∷ rows else rows))
    swapped row other rows h true true is is_too =
        absurd (true≢false (sym h ∙ ap is_greater (ap (λ ks. order_of_keys ds ks other.0) (one row other is is_too) ∙ level ds other.0)))
    swapped row other rows h true false is is_too = refl
    swapped row other rows h false true is is_too = refl
    swapped row other rows h false false is is_too = refl

    insert_by : (row other : Keyed A) (rows : List (Keyed A)) → filter test (inserted ds row rows) ≡ filter test (row ∷ rows) → (g : Bool) → after row other ≡ g
        → filter test (if g then other ∷ inserted ds row rows else row ∷ other ∷ rows) ≡ filter test (row ∷ other ∷ rows)
    insert_by row other rows kept true h =
        ap (λ more. if test other then other ∷ more else more) kept ∙ swapped row other (filter test rows) h (test row) (test other) refl refl
    insert_by row other rows kept false h = refl

    insert_kept : (row : Keyed A) (rows : List (Keyed A)) → filter test (inserted ds row rows) ≡ filter test (row ∷ rows)
    insert_kept row [] = refl
    insert_kept row (other ∷ rows) = insert_by row other rows (insert_kept row rows) (after row other) refl

    all_kept : (rows : List (Keyed A)) → filter test (arranged ds rows) ≡ filter test rows
    unfolding arranged
    all_kept [] = refl
    all_kept (row ∷ rows) = insert_kept row (arranged ds rows) ∙ ap (λ more. if test row then row ∷ more else more) (all_kept rows)

pub arranges_by_keys : {A : Type 0} → ArrangesByKeys A
arranges_by_keys ds rows = all_sorted ds rows

pub keeps_ties : {A : Type 0} → KeepsTies A
keeps_ties ds rows test one = all_kept ds test one rows
