-- Places of what passes a test, among the places of what has one key.
use Rattle.std.proofs.Common.{◌≡◌, ◌∷◌, ◌||◌, if◌then◌else◌, List, [], map, ℕ, zero, suc, Bool, true, false, Some, ap, ◌∙◌, sym, refl, true≢false, drop, slice_get}
use Rattle.std.specs.List.{list_any}
use Rattle.lq_value.specs.KeyTests.{key_is}
use Rattle.lq_value.specs.Keys.{key_value}
use Rattle.lq_value.specs.Lookups.{places, places_from}
use Rattle.lq_value.specs.SameAndOrder.{same_values}
use Rattle.lq_value.specs.declared.key.Key.{Key}
use Rattle.lq_value.specs.declared.value.Value.{Value}
use Rattle.lq_value.proofs.KeyLaws.{tells_equal_keys}
use Rattle.lq_value.proofs.SamenessLaws.{tells_keys}
use Rattle.lq_language.specs.Enumerable.{is_among}
use Rattle.lq_operators.specs.Places.{passes, passes_at}

module _ {A : Type 0} where
  -- what is at a place, and what comes after it
  pub head_there : (m : ℕ) (ys xs : List A) (x : A) → drop m ys ≡ x ∷ xs → (slice_get ys m ≡ Some x) × (drop (suc m) ys ≡ xs)
  head_there zero [] xs x h = absurd (cc h)
  head_there zero (y ∷ ys) xs x h = (cc h, cc h)
  head_there (suc m) [] xs x h = absurd (cc h)
  head_there (suc m) (y ∷ ys) xs x h = head_there m ys xs x h

  -- What passes has the key, and so is among the places of the key.
  module _ (test key : A → Bool) (keyed : (x : A) → test x ≡ true → key x ≡ true) where
    any_here : (f : ℕ → Bool) (m : ℕ) (ps : List ℕ) (x : A) (rest : Bool) → f m ≡ test x → list_any f ps ≡ rest
        → (c b : Bool) → key x ≡ c → test x ≡ b → list_any f (if c then m ∷ ps else ps) ≡ (b || rest)
    any_here f m ps x rest e others true b k h = λ i. (e ∙ h) i || others i
    any_here f m ps x rest e others false true k h = absurd (true≢false (sym (keyed x h) ∙ k))
    any_here f m ps x rest e others false false k h = others

    any_from : (ys xs : List A) (m : ℕ) → drop m ys ≡ xs → list_any (passes_at test ys) (places_from key m xs) ≡ list_any test xs
    any_from ys [] m h = refl
    any_from ys (x ∷ xs) m h =
        let at = head_there m ys xs x h in
        any_here (passes_at test ys) m (places_from key (suc m) xs) x (list_any test xs) (ap (passes test) at.0) (any_from ys xs (suc m) at.1) (key x)
        (test x) refl refl

    pub any_at_places : (xs : List A) → list_any (passes_at test xs) (places key xs) ≡ list_any test xs
    any_at_places xs = any_from xs xs 0 refl

-- ---- values

module _ {R : Type 0} where
  pub places_of_keys : (q : Key) (m : ℕ) (vs : List (Value R)) → places_from (key_is q) m (map key_value vs) ≡ places_from (λ v. key_is q (key_value v)) m vs
  places_of_keys q m [] = refl
  places_of_keys q m (v ∷ vs) = by (key_is q (key_value v)) (places_of_keys q (suc m) vs) where
    by : (b : Bool) → places_from (key_is q) (suc m) (map key_value vs) ≡ places_from (λ v. key_is q (key_value v)) (suc m) vs
        → (if b then m ∷ places_from (key_is q) (suc m) (map key_value vs) else places_from (key_is q) (suc m) (map key_value vs))
        ≡ (if b then m ∷ places_from (λ v. key_is q (key_value v)) (suc m) vs else places_from (λ v. key_is q (key_value v)) (suc m) vs)
    by true rest = ap (λ (ps : List ℕ). m ∷ ps) rest
    by false rest = rest

  -- what is the same has the same key
  pub same_keyed : (v w : Value R) → same_values v w ≡ true → key_is (key_value v) (key_value w) ≡ true
  same_keyed v w h = (tells_equal_keys (key_value v) (key_value w)).1 (ap key_value ((tells_keys R v w).0 h).1)

  among_any : (v : Value R) (ws : List (Value R)) → list_any (same_values v) ws ≡ is_among same_values v ws
  among_any v [] = refl
  among_any v (w ∷ ws) = ap (λ (b : Bool). same_values v w || b) (among_any v ws)

  -- whether a value is the same as one of these, asked at the places of its key
  pub among_places : (v : Value R) (ws : List (Value R)) (ps : List ℕ) → ps ≡ places (key_is (key_value v)) (map key_value ws)
      → list_any (passes_at (same_values v) ws) ps ≡ is_among same_values v ws
  among_places v ws ps is =
      ap (list_any (passes_at (same_values v) ws)) (is ∙ places_of_keys (key_value v) 0 ws)
      ∙ any_at_places (same_values v) (λ w. key_is (key_value v) (key_value w)) (same_keyed v) ws ∙ among_any v ws
