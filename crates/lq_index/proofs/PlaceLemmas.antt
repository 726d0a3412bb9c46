-- Places of items that pass.
use Rattle.std.proofs.Common.{◌≡◌, ◌+◌, ℕ, suc, Bool, true, false, List, [], ◌∷◌, ◌++◌, length, refl, arith, if◌then◌else◌, Some, ap, sym, ◌∙◌}
use Rattle.std.specs.Prelude.{slice_get}
use Rattle.lq_value.specs.Lookups.{places, places_from}

module _ {A : Type 0} (test : A → Bool) where
  -- an item that passes and its place, counted from n
  pub record IsAt (xs : List A) (n p : ℕ) : Type 0 where
    pub i : ℕ
    pub is : p ≡ n + i
    pub item : A
    pub there : slice_get xs i ≡ Some item
    pub passes : test item ≡ true

  -- the first of the places is one of an item that passes
  pub first_from : (n : ℕ) (xs : List A) (p : ℕ) (ps : List ℕ) → places_from test n xs ≡ p ∷ ps → IsAt xs n p
  first_from n [] p ps e = absurd (cc e)
  first_from n (x ∷ xs) p ps e = by (first_from (suc n) xs p ps) (test x) refl
    where
      by : (places_from test (suc n) xs ≡ p ∷ ps → IsAt xs (suc n) p) → (b : Bool) → test x ≡ b → IsAt (x ∷ xs) n p
      by next true f =
          let e1 : n ∷ places_from test (suc n) xs ≡ p ∷ ps = rw f at e in
          let same : p ≡ n = cc in
          record { i = 0; is = omega (arith, same); item = x; there = refl; passes = f }
      by next false f =
          let e1 : places_from test (suc n) xs ≡ p ∷ ps = rw f at e in
          let more = next e1 in
          record { i = suc more.i; is = omega (arith, more.is); item = more.item; there = more.there; passes = more.passes }

  pub first_is : (xs : List A) (p : ℕ) (ps : List ℕ) → places test xs ≡ p ∷ ps → (x : A) × (slice_get xs p ≡ Some x) × (test x ≡ true)
  first_is xs p ps e =
      read (first_from 0 xs p ps e)
    where
      there_at : (i : ℕ) (x : A) → i ≡ p → slice_get xs i ≡ Some x → slice_get xs p ≡ Some x
      there_at i x same there = rw (sym same) there

      read : IsAt xs 0 p → (x : A) × (slice_get xs p ≡ Some x) × (test x ≡ true)
      read at = (at.item, there_at at.i at.item (omega (arith, at.is)) at.there, at.passes)

  -- one more item
  pub places_push : (n : ℕ) (xs : List A) (x : A)
      → places_from test n (xs ++ x ∷ []) ≡ (if test x then places_from test n xs ++ (n + length xs) ∷ [] else places_from test n xs)
  places_push n [] x = by (test x) refl
    where
      by : (b : Bool) → test x ≡ b → places_from test n (x ∷ []) ≡ (if test x then (n + 0) ∷ [] else [])
      by true f = let e : n ≡ n + 0 = omega arith in rw f (ap (λ (k : ℕ). k ∷ []) e)
      by false f = rw f refl
  places_push n (y ∷ xs) x = by (places_push (suc n) xs x) (test y) refl (test x) refl
    where
      by : places_from test (suc n) (xs ++ x ∷ []) ≡ (if test x then places_from test (suc n) xs ++ (suc n + length xs) ∷ [] else places_from test (suc n) xs)
          → (b : Bool) → test y ≡ b → (c : Bool) → test x ≡ c → places_from test n ((y ∷ xs) ++ x ∷ [])
          ≡ (if test x then places_from test n (y ∷ xs) ++ (n + length (y ∷ xs)) ∷ [] else places_from test n (y ∷ xs))
      by more true f true g =
          let e : suc n + length xs ≡ n + suc (length xs) = omega arith in
          let m : places_from test (suc n) (xs ++ x ∷ []) ≡ places_from test (suc n) xs ++ (suc n + length xs) ∷ [] = rw g at more in
          rw (f, g) (ap (λ (l : List ℕ). n ∷ l) (m ∙ ap (λ (k : ℕ). places_from test (suc n) xs ++ k ∷ []) e))
      by more true f false g =
          let m : places_from test (suc n) (xs ++ x ∷ []) ≡ places_from test (suc n) xs = rw g at more in
          rw (f, g) (ap (λ (l : List ℕ). n ∷ l) m)
      by more false f true g =
          let e : suc n + length xs ≡ n + suc (length xs) = omega arith in
          let m : places_from test (suc n) (xs ++ x ∷ []) ≡ places_from test (suc n) xs ++ (suc n + length xs) ∷ [] = rw g at more in
          rw (f, g) (m ∙ ap (λ (k : ℕ). places_from test (suc n) xs ++ k ∷ []) e)
      by more false f false g = rw (f, g) (let m : places_from test (suc n) (xs ++ x ∷ []) ≡ places_from test (suc n) xs = rw g at more in m)
