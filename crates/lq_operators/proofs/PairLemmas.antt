-- The elements of a key, picked at the places of the key; and pairs that were split.
use Rattle.std.proofs.Common.{◌≡◌, ◌∷◌, ◌++◌, if◌then◌else◌, List, [], map, filter, ℕ, zero, suc, Bool, true, false, Option, Some, None, ap, ◌∙◌, sym, refl, true≢false, drop, slice_get, append-nil}
use Rattle.std.specs.List.{zip}
use Rattle.std.specs.Option.{option_to_list}
use Rattle.lq_value.specs.KeyTests.{key_is}
use Rattle.lq_value.specs.Keys.{key_value}
use Rattle.lq_value.specs.Lookups.{places, places_from}
use Rattle.lq_value.specs.SameAndOrder.{same_values}
use Rattle.lq_value.specs.declared.value.Value.{Value}
use Rattle.lq_language.specs.Stream.{elements_of}
use Rattle.lq_operators.specs.Places.{passes, passes_at, picked}
use Rattle.lq_operators.proofs.PlaceLemmas.{head_there, places_of_keys, same_keyed}

module _ {A B : Type 0} where
  pub zip_split : (ps : List (A × B)) → zip (map (λ p. p.0) ps) (map (λ p. p.1) ps) ≡ ps
  zip_split [] = refl
  zip_split (p ∷ ps) = ap (λ (qs : List (A × B)). p ∷ qs) (zip_split ps)

  pub zip_both : (ps : List (A × B)) (ks : List A) (xs : List B) → ks ≡ map (λ p. p.0) ps → xs ≡ map (λ p. p.1) ps → zip ks xs ≡ ps
  zip_both ps ks xs e f = (λ i. zip (e i) (f i)) ∙ zip_split ps

module _ {B : Type 0} where
  -- nothing is past the end
  none_there : (m : ℕ) (ys : List B) → drop m ys ≡ [] → (slice_get ys m ≡ None) × (drop (suc m) ys ≡ [])
  none_there zero [] h = (refl, refl)
  none_there zero (y ∷ ys) h = absurd (cc h)
  none_there (suc m) [] h = (refl, refl)
  none_there (suc m) (y ∷ ys) h = none_there m ys h

module _ {A B : Type 0} where
  module _ (test key : A → Bool) (keyed : (x : A) → test x ≡ true → key x ≡ true) where
    nothing_by : (b : Bool) (o : Option B) → o ≡ None → (if b then option_to_list o else []) ≡ []
    nothing_by true o h = ap option_to_list h
    nothing_by false o h = refl

    none_here : (ks : List A) (xs : List B) (m : ℕ) (ps : List ℕ) → slice_get xs m ≡ None → picked test ks xs ps ≡ [] → (c : Bool)
        → picked test ks xs (if c then m ∷ ps else ps) ≡ []
    none_here ks xs m ps none rest true = ap (λ (ys : List B). ys ++ picked test ks xs ps) (nothing_by (passes_at test ks m) (slice_get xs m) none) ∙ rest
    none_here ks xs m ps none rest false = rest

    none_picked : (ks ls : List A) (xs : List B) (m : ℕ) → drop m xs ≡ [] → picked test ks xs (places_from key m ls) ≡ []
    none_picked ks [] xs m h = refl
    none_picked ks (l ∷ ls) xs m h =
        let none = none_there m xs h in
        none_here ks xs m (places_from key (suc m) ls) none.0 (none_picked ks ls xs (suc m) none.1) (key l)

    picked_here : (ks : List A) (xs : List B) (m : ℕ) (ps : List ℕ) (k : A) (x : B) (rest : List B) → slice_get ks m ≡ Some k → slice_get xs m ≡ Some x
        → picked test ks xs ps ≡ rest
        → (c b : Bool) → key k ≡ c → test k ≡ b → picked test ks xs (if c then m ∷ ps else ps) ≡ (if b then x ∷ rest else rest)
    picked_here ks xs m ps k x rest at there others true true h e =
        ap (λ (b : Bool). (if b then option_to_list (slice_get xs m) else []) ++ picked test ks xs ps) (ap (passes test) at ∙ e)
        ∙ ap (λ (o : Option B). option_to_list o ++ picked test ks xs ps) there ∙ ap (λ (ys : List B). x ∷ ys) others
    picked_here ks xs m ps k x rest at there others true false h e =
        ap (λ (b : Bool). (if b then option_to_list (slice_get xs m) else []) ++ picked test ks xs ps) (ap (passes test) at ∙ e) ∙ others
    picked_here ks xs m ps k x rest at there others false true h e = absurd (true≢false (sym (keyed k e) ∙ h))
    picked_here ks xs m ps k x rest at there others false false h e = others

    abbrev kept : List A → List B → List B
    kept ls ys = map (λ q. q.1) (filter (λ q. test q.0) (zip ls ys))

    kept_here : (l : A) (y : B) (ls : List A) (ys : List B) (b : Bool)
        → (if b then y ∷ kept ls ys else kept ls ys)
        ≡ map (λ q. q.1) (if b then (l, y) ∷ filter (λ q. test q.0) (zip ls ys) else filter (λ q. test q.0) (zip ls ys))
    kept_here l y ls ys true = refl
    kept_here l y ls ys false = refl

    picked_from : (ks ls : List A) (xs ys : List B) (m : ℕ) → drop m ks ≡ ls → drop m xs ≡ ys → picked test ks xs (places_from key m ls) ≡ kept ls ys
    picked_from ks [] xs ys m h e = refl
    picked_from ks (l ∷ ls) xs [] m h e = none_picked ks (l ∷ ls) xs m e
    picked_from ks (l ∷ ls) xs (y ∷ ys) m h e =
        let at = head_there m ks ls l h in
        let there = head_there m xs ys y e in
        picked_here ks xs m (places_from key (suc m) ls) l y (kept ls ys) at.0 there.0 (picked_from ks ls xs ys (suc m) at.1 there.1) (key l) (test l) refl refl
        ∙ kept_here l y ls ys (test l)

-- nothing put after what is there
pub none_pushed : {B : Type 0} (made : List B) (o : Option B) → o ≡ None → made ≡ made ++ option_to_list o
none_pushed {B} made o h = sym (ap (λ (p : Option B). made ++ option_to_list p) h ∙ append-nil made)

module _ {R : Type 0} where
  pub elements_picked : (k : Value R) (ks xs : List (Value R)) (ps : List ℕ) → ps ≡ places (key_is (key_value k)) (map key_value ks)
      → picked (same_values k) ks xs ps ≡ elements_of same_values k (zip ks xs)
  elements_picked k ks xs ps is =
      ap (picked (same_values k) ks xs) (is ∙ places_of_keys (key_value k) 0 ks)
      ∙ picked_from (same_values k) (λ w. key_is (key_value k) (key_value w)) (same_keyed k) ks ks xs xs 0 refl refl
