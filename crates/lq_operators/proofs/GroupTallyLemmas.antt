-- Tallies as one row more comes: number by number, and in the group of the row's key.
use Rattle.std.proofs.Common.{◌≡◌, ◌∷◌, ◌++◌, ◌<◌, ◌≤◌, if◌then◌else◌, List, [], map, ℕ, zero, suc, ℤ, Bool, true, Option, Some, None, Result, Ok, ap, ◌∙◌, sym, refl, subst, length, get_or, slice_get, slice_set, take, drop, add-one, ◌+◌, arith}
use Rattle.std.proofs.lemmas.Option.{none-some, same_Some}
use Rattle.std.proofs.Math.Seq.{drop-nil}
use Rattle.std.proofs.lemmas.List.{length-map, map-append}
use Rattle.std.proofs.lemmas.List.Sums.{fold-append}
use Rattle.lq_value.specs.SameAndOrder.{same_values}
use Rattle.lq_value.specs.declared.value.Fault.{Fault}
use Rattle.lq_value.specs.declared.value.Value.{Value}
use Rattle.lq_language.specs.Stream.{groups_of}
use Rattle.lq_operators.specs.GroupTallies.{AddsRow, group_tallies, more, row_more, tallies_of, with_row_at}
use Rattle.lq_operators.specs.Places.{AreUnlike, IsPlaceOf, passes_at, place_in, pushed_at}
use Rattle.lq_operators.specs.declared.numbers.Tally.{Tally}
use Rattle.lq_operators.proofs.GroupLemmas.{added_past, added_within, groups_more, is_of, near, pair_added, passes_within, unlike_groups}
use Rattle.lq_operators.proofs.KnownLemmas.{one_value}

abbrev Kept : Type 0
Kept = Result Tally Fault

abbrev Row : Type 0
Row = List (Option ℤ)

-- ---- one row, number by number

-- the tally at a place gets its number
next_to : (ts : List Kept) (ns : Row) (i : ℕ) (d : Kept) (n : Option ℤ) → i < length ts → i < length ns → n ≡ get_or ns i n
    → let us : List Kept = slice_set ts i (more (get_or ts i d) n) in
    take (suc i) us ++ row_more (drop (suc i) us) (drop (suc i) ns) ≡ take i ts ++ row_more (drop i ts) (drop i ns)
next_to [] ns i d n h g is = absurd (omega (arith, h))
next_to (t ∷ ts) [] i d n h g is = absurd (omega (arith, g))
next_to (t ∷ ts) (m ∷ ns) zero d n h g is = λ i. more t (is i) ∷ row_more ts ns
next_to (t ∷ ts) (m ∷ ns) (suc i) d n h g is = ap (λ (us : List Kept). t ∷ us) (next_to ts ns i d n (omega (arith, h)) (omega (arith, g)) is)

no_numbers : (ts : List Kept) → ts ≡ row_more ts []
no_numbers [] = refl
no_numbers (t ∷ ts) = refl

-- where the row has no number at a place, the tally there stays
next_past : (ts : List Kept) (ns : Row) (i : ℕ) (d : Kept) → i < length ts → length ns ≤ i
    → let us : List Kept = slice_set ts i (get_or ts i d) in
    take (suc i) us ++ row_more (drop (suc i) us) (drop (suc i) ns) ≡ take i ts ++ row_more (drop i ts) (drop i ns)
next_past [] ns i d h g = absurd (omega (arith, h))
next_past (t ∷ ts) [] zero d h g = ap (λ (us : List Kept). t ∷ us) (sym (no_numbers ts))
next_past (t ∷ ts) [] (suc i) d h g = ap (λ (us : List Kept). t ∷ us) (simp drop-nil at (next_past ts [] i d (omega (arith, h)) (omega (arith, g))))
next_past (t ∷ ts) (n ∷ ns) zero d h g = absurd (omega (arith, g))
next_past (t ∷ ts) (n ∷ ns) (suc i) d h g = ap (λ (us : List Kept). t ∷ us) (next_past ts ns i d (omega (arith, h)) (omega (arith, g)))

-- the same in a loop over the places, where all comes to what it came to before
pub number_next : (ts us : List Kept) (ns : Row) (i : ℕ) (d x : Kept) (n : Option ℤ) (all : List Kept) → i < length ts → i < length ns → n ≡ get_or ns i n
    → x ≡ more (get_or ts i d) n → us ≡ slice_set ts i x → take i ts ++ row_more (drop i ts) (drop i ns) ≡ all
    → take (i + 1) us ++ row_more (drop (i + 1) us) (drop (i + 1) ns) ≡ all
number_next ts us ns i d x n all h g is got put so_far =
    let set : us ≡ slice_set ts i (more (get_or ts i d) n) = put ∙ ap (slice_set ts i) got in
    rw (add-one, set) (next_to ts ns i d n h g is ∙ so_far)

pub number_past : (ts us : List Kept) (ns : Row) (i : ℕ) (d : Kept) (all : List Kept) → i < length ts → length ns ≤ i → us ≡ slice_set ts i (get_or ts i d)
    → take i ts ++ row_more (drop i ts) (drop i ns) ≡ all → take (i + 1) us ++ row_more (drop (i + 1) us) (drop (i + 1) ns) ≡ all
number_past ts us ns i d all h g put so_far = rw (add-one, put) (next_past ts ns i d h g ∙ so_far)

-- the same by what is found at the place
found_at : (ns : Row) (i : ℕ) (n : Option ℤ) → slice_get ns i ≡ Some n → (i < length ns) × (n ≡ get_or ns i n)
found_at [] i n is = absurd (none-some n is)
found_at (m ∷ ns) zero n is = (omega arith, sym (same_Some m n is))
found_at (m ∷ ns) (suc i) n is = let rest = found_at ns i n is in (let below : i < length ns = rest.0 in omega (arith, below), rest.1)

missed_at : (ns : Row) (i : ℕ) → slice_get ns i ≡ None → length ns ≤ i
missed_at [] i is = omega arith
missed_at (m ∷ ns) zero is = absurd (none-some m (sym is))
missed_at (m ∷ ns) (suc i) is = let rest = missed_at ns i is in omega (arith, rest)

pub number_put : (ts us : List Kept) (ns : Row) (i : ℕ) (d x : Kept) (n : Option ℤ) (all : List Kept) → i < length ts → slice_get ns i ≡ Some n
    → x ≡ more (get_or ts i d) n → us ≡ slice_set ts i x → take i ts ++ row_more (drop i ts) (drop i ns) ≡ all
    → take (i + 1) us ++ row_more (drop (i + 1) us) (drop (i + 1) ns) ≡ all
number_put ts us ns i d x n all h is got put so_far =
    let found = found_at ns i n is in number_next ts us ns i d x n all h found.0 found.1 got put so_far

pub number_missed : (ts us : List Kept) (ns : Row) (i : ℕ) (d : Kept) (all : List Kept) → i < length ts → slice_get ns i ≡ None
    → us ≡ slice_set ts i (get_or ts i d) → take i ts ++ row_more (drop i ts) (drop i ns) ≡ all
    → take (i + 1) us ++ row_more (drop (i + 1) us) (drop (i + 1) ns) ≡ all
number_missed ts us ns i d all h is put so_far = number_past ts us ns i d all h (missed_at ns i is) put so_far

-- ---- one row more at a place

module _ {K : Type 0} where
  pub row_put : (gs : List (K × List Kept)) (n : ℕ) (g : K × List Kept) (ts : List Kept) (row : Row) → n < length gs → g ≡ get_or gs n g
      → ts ≡ row_more g.1 row → slice_set gs n (g.0, ts) ≡ with_row_at gs n row
  row_put [] n g ts row h at is = absurd (omega (arith, h))
  row_put (f ∷ gs) zero g ts row h at is =
      λ i. (ap (λ (q : K × List Kept). q.0) at i, (is ∙ ap (λ (q : K × List Kept). row_more q.1 row) at) i) ∷ gs
  row_put (f ∷ gs) (suc n) g ts row h at is = ap (λ (hs : List (K × List Kept)). f ∷ hs) (row_put gs n g ts row (omega (arith, h)) at is)

  pub no_row_put : (gs : List (K × List Kept)) (n : ℕ) (row : Row) → length gs ≤ n → gs ≡ with_row_at gs n row
  no_row_put [] n row h = refl
  no_row_put (g ∷ gs) zero row h = absurd (omega (arith, h))
  no_row_put (g ∷ gs) (suc n) row h = ap (λ (hs : List (K × List Kept)). g ∷ hs) (no_row_put gs n row (omega (arith, h)))

-- ---- keys with tallies, and the same keys with their rows

abbrev told : {K : Type 0} → List Tally → K × List Row → K × List Kept
told begins g = (g.0, tallies_of begins g.1)

module _ {K : Type 0} (begins : List Tally) where
  heads_told : (gs : List (K × List Row)) → map (λ (g : K × List Kept). g.0) (map (told begins) gs) ≡ map (λ (g : K × List Row). g.0) gs
  heads_told [] = refl
  heads_told (g ∷ gs) = ap (λ (ks : List K). g.0 ∷ ks) (heads_told gs)

  place_told : (test : K → Bool) (gs : List (K × List Row)) → place_in (λ g. test g.0) (map (told begins) gs) ≡ place_in (λ g. test g.0) gs
  place_told test [] = refl
  place_told test (g ∷ gs) = ap (λ (n : ℕ). if test g.0 then 0 else suc n) (place_told test gs)

  -- a row more of the key at a place
  told_more : (gs : List (K × List Row)) (n : ℕ) (row : Row) → map (told begins) (pushed_at gs n row) ≡ with_row_at (map (told begins) gs) n row
  told_more [] n row = refl
  told_more (g ∷ gs) zero row =
      ap (λ (ts : List Kept). (g.0, ts) ∷ map (told begins) gs) (fold-append row_more (map (λ t. Ok t) begins) g.1 (row ∷ []))
  told_more (g ∷ gs) (suc n) row = ap (λ (hs : List (K × List Kept)). told begins g ∷ hs) (told_more gs n row)

-- ---- rows of values

module _ {R : Type 0} where
  unlike_told : (begins : List Tally) (gs : List (Value R × List Kept)) (done : List (Value R × Row)) → gs ≡ group_tallies begins done
      → AreUnlike same_values (map (λ g. g.0) gs)
  unlike_told begins gs done is =
      subst (λ (ks : List (Value R)). AreUnlike same_values ks)
      (sym (ap (λ (hs : List (Value R × List Kept)). map (λ g. g.0) hs) is ∙ heads_told begins (groups_of same_values done)))
      (unlike_groups (groups_of same_values done) done refl)

  -- the place of a key among its tallies is that among its rows
  place_done : (begins : List Tally) (gs : List (Value R × List Kept)) (k : Value R) (n : ℕ) (done : List (Value R × Row)) → IsPlaceOf k gs n
      → gs ≡ group_tallies begins done → n ≡ place_in (is_of k) (groups_of same_values done)
  place_done begins gs k n done at is =
      at (unlike_told begins gs done is) ∙ ap (λ (hs : List (Value R × List Kept)). place_in (is_of k) hs) is
      ∙ place_told begins (λ v. same_values v k) (groups_of same_values done)

  length_done : (begins : List Tally) (gs : List (Value R × List Kept)) (done : List (Value R × Row)) → gs ≡ group_tallies begins done
      → length gs ≡ length (groups_of same_values done)
  length_done begins gs done is = ap length is ∙ length-map (groups_of same_values done) (told begins)

  more_done : (begins : List Tally) (k : Value R) (row : Row) (done : List (Value R × Row))
      → map (told begins) (pair_added same_values (k, row) (groups_of same_values done)) ≡ group_tallies begins (done ++ (k, row) ∷ [])
  more_done begins k row done = ap (map (told begins)) (sym (groups_more same_values one_value done (k, row)))

  -- The place of a key is asked among some groups, which are those so far. The row of a key that has a group is put there:
  pub row_within : (begins : List Tally) (gs asked more : List (Value R × List Kept)) (k : Value R) (row : Row) (n : ℕ) → asked ≡ gs → IsPlaceOf k asked n
      → n < length asked → more ≡ with_row_at gs n row → AddsRow begins gs more k row
  row_within begins gs asked more k row n are at h put = λ done is.
      let place : n ≡ place_in (is_of k) (groups_of same_values done) = place_done begins asked k n done at (are ∙ is) in
      let within : place_in (is_of k) (groups_of same_values done) < length (groups_of same_values done) =
      subst (λ (m : ℕ). m < length (groups_of same_values done)) place (subst (λ (m : ℕ). n < m) (length_done begins asked done (are ∙ is)) h) in
      put ∙ (λ i. with_row_at (is i) (place i) row)
      ∙ sym (told_more begins (groups_of same_values done) (place_in (is_of k) (groups_of same_values done)) row)
      ∙ ap (map (told begins)) (sym (added_within same_values (groups_of same_values done) (k, row) within)) ∙ more_done begins k row done

  -- the same where the group at a hint is that of the key
  pub row_at : (begins : List Tally) (gs asked more : List (Value R × List Kept)) (k : Value R) (row : Row) (n : ℕ) (b : Bool) → asked ≡ gs
      → b ≡ passes_at (is_of k) asked n → b ≡ true → more ≡ with_row_at gs n row → AddsRow begins gs more k row
  row_at begins gs asked more k row n b are here holds put =
      row_within begins gs asked more k row n are (near k asked n (sym here ∙ holds)) (passes_within (is_of k) asked n (sym here ∙ holds)) put

  -- the first row of a key opens a group, with tallies as they begin
  pub row_past : (begins firsts : List Tally) (gs asked more : List (Value R × List Kept)) (k : Value R) (row : Row) (n : ℕ) (g : Value R × List Kept)
      → firsts ≡ begins → asked ≡ gs → IsPlaceOf k asked n → length asked ≤ n
      → g ≡ (k, tallies_of firsts (if same_values k k then row ∷ [] else [])) → more ≡ gs ++ g ∷ [] → AddsRow begins gs more k row
  row_past begins firsts gs asked more k row n g first are at h opened pushed = λ done is.
      let place : n ≡ place_in (is_of k) (groups_of same_values done) = place_done begins asked k n done at (are ∙ is) in
      let past : length (groups_of same_values done) ≤ place_in (is_of k) (groups_of same_values done) =
      subst (λ (m : ℕ). length (groups_of same_values done) ≤ m) place (subst (λ (m : ℕ). m ≤ n) (length_done begins asked done (are ∙ is)) h) in
      let fresh : Value R × List Row = (k, (if same_values k k then row ∷ [] else [])) in
      pushed ∙ (λ i. is i ++ (opened ∙ ap (λ (ts : List Tally). told ts fresh) first) i ∷ [])
      ∙ sym (map-append (told begins) (groups_of same_values done) (fresh ∷ []))
      ∙ ap (map (told begins)) (sym (added_past same_values (groups_of same_values done) (k, row) past)) ∙ more_done begins k row done
