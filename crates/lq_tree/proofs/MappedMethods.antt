-- Methods of sequences whose items are replaced: what each gives of them is what it gave of the items, replaced.
use Rattle.std.proofs.Common.{◌≡◌, ◌∷◌, ◌||◌, if◌then◌else◌, List, [], filter, map, ℕ, zero, suc, ℤ, pos, negsuc, Bool, true, false, not, Option, Result, Ok, ap, ap₂, ◌∙◌, refl, reverse}
use Rattle.std.specs.List.{cons_option, drop-map, filter_map}
use mathlib.Core.List.{reverse_aux}
use Rattle.lq_value.specs.declared.value.End.{End}
use Rattle.lq_value.specs.declared.value.End.TheVariants as end
use Rattle.lq_value.specs.declared.value.Fault.{Fault}
use Rattle.lq_language.specs.Enumerable.{all, any, at_end, concat, contains, count, default_if_empty, distinct, element_at, except, first, in_front, intersect, is_among, item_behind, last, last_of, reversed, single, skip, summed, take_first, union}
use Rattle.lq_language.specs.Operations.{on_ok}
use Rattle.lq_language.specs.Stream.{Stream, first_keys}
use Rattle.lq_tree.specs.Rows.{result_map, stream_map}
use Rattle.lq_language.proofs.StreamLaws.{map_twice, then_mapped}
use Rattle.lq_tree.proofs.MappedStreamLaws.{filter_natural, first_keys_natural, whole_natural}

module _ {A B : Type 0} (g : A → B) where
  -- ---- sequences

  turned : (xs ys : List A) → reverse_aux (map g xs) (map g ys) ≡ map g (reverse_aux xs ys)
  turned [] ys = refl
  turned (x ∷ xs) ys = turned xs (x ∷ ys)

  pub reversed_natural : (xs : List A) (e : End) → reversed (map g xs) e ≡ stream_map g (reversed xs e)
  reversed_natural xs e =
      whole_natural g g (λ ys. (reverse ys, end.Done)) (λ ys. (reverse ys, end.Done)) (λ ys. ap (λ (zs : List B). (zs, end.Done)) (turned ys [])) xs e

  pub skip_natural : (n : ℕ) (xs : List A) (e : End) → skip n (map g xs) e ≡ stream_map g (skip n xs e)
  skip_natural n xs e = ap (λ (ys : List B). (ys, e)) (drop-map g n xs)

  pub take_natural : (n : ℕ) (xs : List A) (e : End) → take_first n (map g xs) e ≡ stream_map g (take_first n xs e)
  take_natural zero xs e = refl
  take_natural (suc n) [] e = refl
  take_natural (suc n) (x ∷ xs) e = ap (in_front (g x)) (take_natural n xs e)

  pub default_natural : (d : A) (xs : List A) (e : End) → default_if_empty (g d) (map g xs) e ≡ stream_map g (default_if_empty d xs e)
  default_natural d [] end.Done = refl
  default_natural d [] (end.Fault f) = refl
  default_natural d (x ∷ xs) e = refl

  -- ---- truth values and counts

  pub any_natural : (xs : List A) (e : End) → any (map g xs) e ≡ any xs e
  any_natural [] e = refl
  any_natural (x ∷ xs) e = refl

  pub all_natural : (c : A → Result Bool Fault) (k : B → Result Bool Fault) → ((x : A) → k (g x) ≡ c x) → (xs : List A) (e : End)
      → all k (map g xs) e ≡ all c xs e
  all_natural c k h [] e = refl
  all_natural c k h (x ∷ xs) e =
      ap₂ (λ (o rest : Result Bool Fault). on_ok o (λ holds. if holds then rest else Ok false)) (h x) (all_natural c k h xs e)

  pub count_natural : (xs : List A) (e : End) → count (map g xs) e ≡ count xs e
  count_natural xs e = ap (λ (ns : List ℤ). summed (pos 0) ns e) (map_twice g (λ x. pos 1) xs)

  pub filter_map_natural : {C : Type 0} (p : A → Option C) (q : B → Option C) → ((x : A) → q (g x) ≡ p x) → (xs : List A)
      → filter_map q (map g xs) ≡ filter_map p xs
  filter_map_natural p q h [] = refl
  filter_map_natural p q h (x ∷ xs) = ap₂ cons_option (h x) (filter_map_natural p q h xs)

  -- ---- items

  pub end_natural : (e : End) (o : Result A Fault) → at_end e (result_map g o) ≡ result_map g (at_end e o)
  end_natural end.Done o = refl
  end_natural (end.Fault f) o = refl

  pub first_natural : (none : Result A Fault) (xs : List A) (e : End) → first (result_map g none) (map g xs) e ≡ result_map g (first none xs e)
  first_natural none [] e = end_natural e none
  first_natural none (x ∷ xs) e = refl

  last_found : (none : Result A Fault) (xs : List A) → last_of (result_map g none) (map g xs) ≡ result_map g (last_of none xs)
  last_found none [] = refl
  last_found none (x ∷ xs) = last_found (Ok x) xs

  pub last_natural : (none : Result A Fault) (xs : List A) (e : End) → last (result_map g none) (map g xs) e ≡ result_map g (last none xs e)
  last_natural none xs e = ap (at_end e) (last_found none xs) ∙ end_natural e (last_of none xs)

  pub single_natural : (none : Result A Fault) (xs : List A) (e : End) → single (result_map g none) (map g xs) e ≡ result_map g (single none xs e)
  single_natural none [] e = end_natural e none
  single_natural none (x ∷ []) e = end_natural e (Ok x)
  single_natural none (x ∷ y ∷ ys) e = refl

  behind_natural : (n : ℕ) (xs : List A) (e : End) → item_behind n (map g xs) e ≡ result_map g (item_behind n xs e)
  behind_natural n [] end.Done = refl
  behind_natural n [] (end.Fault f) = refl
  behind_natural zero (x ∷ xs) e = refl
  behind_natural (suc n) (x ∷ xs) e = behind_natural n xs e

  pub element_natural : (n : ℤ) (xs : List A) (e : End) → element_at n (map g xs) e ≡ result_map g (element_at n xs e)
  element_natural (pos n) xs e = behind_natural n xs e
  element_natural (negsuc n) xs e = refl

  -- ---- what compares items

  pub concat_natural : (xs ys : Stream A) → concat (stream_map g xs) (stream_map g ys) ≡ stream_map g (concat xs ys)
  concat_natural xs ys = then_mapped g xs.0 xs.1 ys

  module _ (same : A → A → Bool) (alike : B → B → Bool) (h : (x y : A) → alike (g x) (g y) ≡ same x y) where
    pub distinct_natural : (xs : List A) (e : End) → distinct alike (map g xs) e ≡ stream_map g (distinct same xs e)
    distinct_natural xs e = ap (λ (ys : List B). (ys, e)) (first_keys_natural g same alike h xs)

    pub union_natural : (xs ys : Stream A) → union alike (stream_map g xs) (stream_map g ys) ≡ stream_map g (union same xs ys)
    union_natural xs ys =
        ap (λ (s : Stream B). distinct alike s.0 s.1) (concat_natural xs ys) ∙ distinct_natural (concat xs ys).0 (concat xs ys).1

    among_natural : (x : A) (ys : List A) → is_among alike (g x) (map g ys) ≡ is_among same x ys
    among_natural x [] = refl
    among_natural x (y ∷ ys) = ap₂ (λ (b c : Bool). b || c) (h x y) (among_natural x ys)

    -- the distinct items of the first that pass a test, which asks whether an item is in the second
    chosen_natural : (test : Bool → Bool) (xs ys : List A) (e : End)
        → (filter (λ x. test (is_among alike x (map g ys))) (first_keys alike (map g xs)), e)
        ≡ stream_map g (filter (λ x. test (is_among same x ys)) (first_keys same xs), e)
    chosen_natural test xs ys e =
        ap (λ (zs : List B). (zs, e))
        (ap (filter (λ x. test (is_among alike x (map g ys)))) (first_keys_natural g same alike h xs)
        ∙ filter_natural g (λ x. test (is_among same x ys)) (λ x. test (is_among alike x (map g ys))) (λ x. ap test (among_natural x ys))
        (first_keys same xs))

    pub intersect_natural : (xs ys : Stream A) → intersect alike (stream_map g xs) (stream_map g ys) ≡ stream_map g (intersect same xs ys)
    intersect_natural xs ys =
        whole_natural g g (λ zs. (filter (λ x. is_among same x zs) (first_keys same xs.0), xs.1))
        (λ zs. (filter (λ x. is_among alike x zs) (first_keys alike (map g xs.0)), xs.1))
        (λ zs. chosen_natural (λ b. b) xs.0 zs xs.1) ys.0 ys.1

    pub except_natural : (xs ys : Stream A) → except alike (stream_map g xs) (stream_map g ys) ≡ stream_map g (except same xs ys)
    except_natural xs ys =
        whole_natural g g (λ zs. (filter (λ x. not (is_among same x zs)) (first_keys same xs.0), xs.1))
        (λ zs. (filter (λ x. not (is_among alike x zs)) (first_keys alike (map g xs.0)), xs.1))
        (λ zs. chosen_natural not xs.0 zs xs.1) ys.0 ys.1

    pub contains_natural : (v : A) (xs : List A) (e : End) → contains alike (g v) (map g xs) e ≡ contains same v xs e
    contains_natural v [] e = refl
    contains_natural v (x ∷ xs) e = ap₂ (λ (b : Bool) (rest : Result Bool Fault). if b then Ok true else rest) (h v x) (contains_natural v xs e)
