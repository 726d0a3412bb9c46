-- One item more: it is put to the one of its key, or after the last one where there is none.
use Rattle.std.proofs.Common.{◌≡◌, ◌∷◌, ◌||◌, if◌then◌else◌, not, List, [], filter, Bool, true, false, ap, ◌∙◌, sym, refl, true≢false}

pub neither : (b c : Bool) → (b || c) ≡ false → (b ≡ false) × (c ≡ false)
neither true c h = absurd (true≢false h)
neither false c h = (refl, h)

module _ {A K : Type 0} (same : K → K → Bool) (key : A → K) where
  -- an item is put to the one whose key is the same as k, or is the last one where there is none
  abbrev pub added : K → A → (A → A) → List A → List A
  added k fresh grown [] = fresh ∷ []
  added k fresh grown (x ∷ xs) = if same (key x) k then grown x ∷ xs else x ∷ added k fresh grown xs

  -- the items of other keys
  abbrev pub others : K → List A → List A
  others k xs = filter (λ x. not (same k (key x))) xs

-- Items that have keys, where what is the same is one key.
module _ {A K : Type 0} (same : K → K → Bool) (told : (k l : K) → same k l ≡ true → k ≡ l) (key : A → K) where
  module _ (k : K) (fresh : A) (grown : A → A) (fresh_is : key fresh ≡ k) (grown_is : (x : A) → key (grown x) ≡ key x) where
    abbrev more : List A → List A
    more xs = added same key k fresh grown xs

    -- where k is the same as l, it makes no difference to the others
    pub others_same : (l : K) → same l k ≡ true → (xs : List A) → others same key l (more xs) ≡ others same key l xs
    others_same l e [] = ap (λ (b : Bool). if not b then fresh ∷ [] else []) (ap (same l) fresh_is ∙ e)
    others_same l e (x ∷ xs) = by (same (key x) k) refl (others_same l e xs) where
      by : (b : Bool) → same (key x) k ≡ b → others same key l (more xs) ≡ others same key l xs
          → others same key l (if b then grown x ∷ xs else x ∷ more xs) ≡ others same key l (x ∷ xs)
      by true h rest =
          let here : same l (key x) ≡ true = ap (same l) (told (key x) k h) ∙ e in
          ap (λ (c : Bool). if not c then grown x ∷ others same key l xs else others same key l xs) (ap (same l) (grown_is x) ∙ here)
          ∙ sym (ap (λ (c : Bool). if not c then x ∷ others same key l xs else others same key l xs) here)
      by false h rest = λ i. if not (same l (key x)) then x ∷ rest i else rest i

    -- and else it is one of the others
    pub others_more : (l : K) → same l k ≡ false → (xs : List A) → others same key l (more xs) ≡ more (others same key l xs)
    others_more l e [] = ap (λ (b : Bool). if not b then fresh ∷ [] else []) (ap (same l) fresh_is ∙ e)
    others_more l e (x ∷ xs) = by (same (key x) k) (same l (key x)) refl refl (others_more l e xs) where
      by : (b c : Bool) → same (key x) k ≡ b → same l (key x) ≡ c → others same key l (more xs) ≡ more (others same key l xs)
          → others same key l (if b then grown x ∷ xs else x ∷ more xs) ≡ more (if not c then x ∷ others same key l xs else others same key l xs)
      by true c h f rest =
          let here : same l (key x) ≡ false = ap (same l) (told (key x) k h) ∙ e in
          ap (λ (d : Bool). if not d then grown x ∷ others same key l xs else others same key l xs) (ap (same l) (grown_is x) ∙ here)
          ∙ sym (ap (λ (b : Bool). if b then grown x ∷ others same key l xs else x ∷ more (others same key l xs)) h)
          ∙ ap (λ (d : Bool). more (if not d then x ∷ others same key l xs else others same key l xs)) (sym here ∙ f)
      by false true h f rest = ap (λ (d : Bool). if not d then x ∷ others same key l (more xs) else others same key l (more xs)) f ∙ rest
      by false false h f rest =
          ap (λ (d : Bool). if not d then x ∷ others same key l (more xs) else others same key l (more xs)) f
          ∙ ap (λ (ys : List A). x ∷ ys) rest
          ∙ sym (ap (λ (b : Bool). if b then grown x ∷ others same key l xs else x ∷ more (others same key l xs)) h)
