-- One more row.
use Rattle.std.proofs.Common.{◌≡◌, ◌<◌, ◌+◌, ℕ, Bool, true, false, List, [], ◌∷◌, ◌++◌, length, refl, arith, Some, ap, sym, ◌∙◌, ◌⊎◌, inl, inr, if◌then◌else◌}
use Rattle.std.proofs.lemmas.Option.{slice_get_within}
use Rattle.std.specs.Prelude.{slice_get}
use Rattle.lq_value.specs.SameAndOrder.{same_scalars}
use Rattle.lq_value.specs.Lookups.{places}
use Rattle.lq_value.specs.declared.scalar.Scalar.{Scalar}
use Rattle.lq_index.specs.Hashes.{hash_of}
use Rattle.lq_index.specs.Entries.{IsIndex, Reaches, Entry}
use Rattle.lq_index.proofs.PlaceLemmas.{first_from, places_push}
use Rattle.lq_index.proofs.SearchLemmas.{one_first, one_key, order, same_self}

-- an item that is read is there
below_length : {A : Type 0} (xs : List A) (i : ℕ) (x : A) → slice_get xs i ≡ Some x → i < length xs
below_length xs i x e = slice_get_within xs i x e

-- places are below the number of items
first_below : {A : Type 0} (test : A → Bool) (xs : List A) (p : ℕ) (ps : List ℕ) → places test xs ≡ p ∷ ps → p < length xs
first_below test xs p ps e =
    let a = first_from test 0 xs p ps e in
    let b : a.i < length xs = below_length xs a.i a.item a.there in
    omega (arith, a.is, b)

pub same_or_not : (t s : ℕ) → (t ≡ s) ⊎ (t ≡ s → ⊥)
same_or_not t s = by (order t s)
  where
    by : (t < s) ⊎ ((t ≡ s) ⊎ (s < t)) → (t ≡ s) ⊎ (t ≡ s → ⊥)
    by (inl lt) = inr (λ e. omega (arith, lt, e))
    by (inr (inl e)) = inl e
    by (inr (inr gt)) = inr (λ e. omega (arith, gt, e))

module _ (width : ℕ) (at new : ℕ → Entry) (cells : List Scalar) (index : IsIndex width at cells) (q : Scalar) (s : ℕ)
    (had : (at s).places ≡ places (same_scalars q) cells) (reach : Reaches width at (hash_of q) s)
    (free : (new s).free ≡ false) (hash : (new s).hash ≡ hash_of q) (has : (new s).places ≡ places (same_scalars q) cells ++ length cells ∷ [])
    (others : (t : ℕ) → (t ≡ s → ⊥) → new t ≡ at t) where
  -- the places of a key with one row more
  more_of : (r : Scalar) (b : Bool) → same_scalars r q ≡ b
      → places (same_scalars r) (cells ++ q ∷ []) ≡ (if b then places (same_scalars r) cells ++ length cells ∷ [] else places (same_scalars r) cells)
  more_of r b e = let p = places_push (same_scalars r) 0 cells q in
      let z : 0 + length cells ≡ length cells = omega arith in
      rw (z, e) at p

  own : places (same_scalars q) (cells ++ q ∷ []) ≡ places (same_scalars q) cells ++ length cells ∷ []
  own = more_of q true (same_self q)

  -- a key whose places are those of q is q
  is_own : (t p : ℕ) (ps : List ℕ) (r : Scalar) → (t ≡ s → ⊥) → (at t).places ≡ p ∷ ps → (at t).places ≡ places (same_scalars r) cells → same_scalars r q ≡ false
  is_own t p ps r apart e f = by (same_scalars r q) refl
    where
      by : (b : Bool) → same_scalars r q ≡ b → same_scalars r q ≡ false
      by false g = g
      by true g =
          let one : r ≡ q = one_key r q g in
          let here : (at s).places ≡ p ∷ ps = had ∙ rw (sym one) (sym f ∙ e) in
          absurd (apart (index.alone t s p ps ps e here))

  still_taken : (t : ℕ) → (at t).free ≡ false → (new t).free ≡ false
  still_taken t e = by (same_or_not t s)
    where
      by : (t ≡ s) ⊎ (t ≡ s → ⊥) → (new t).free ≡ false
      by (inl f) = rw f free
      by (inr f) = rw (others t f) e

  reaches : (h t : ℕ) → Reaches width at h t → Reaches width new h t
  reaches h t r = (r.0, λ u low high. still_taken u (r.1 u low high))

  reach_new : (t : ℕ) → (new t).free ≡ false → Reaches width new (new t).hash t
  reach_new t e = by (same_or_not t s)
    where
      by : (t ≡ s) ⊎ (t ≡ s → ⊥) → Reaches width new (new t).hash t
      by (inl f) = rw (f, hash) (reaches (hash_of q) s reach)
      by (inr f) =
          let g : (at t).free ≡ false = rw (others t f) at e in
          rw (others t f) (reaches (at t).hash t (index.reach t g))

  bare_new : (t : ℕ) → (new t).free ≡ true → (new t).places ≡ []
  bare_new t e = by (same_or_not t s)
    where
      by : (t ≡ s) ⊎ (t ≡ s → ⊥) → (new t).places ≡ []
      by (inl f) = let clash : false ≡ true = sym free ∙ rw f at e in absurd (cc clash)
      by (inr f) = let g : (at t).free ≡ true = rw (others t f) at e in rw (others t f) (index.bare t g)

  sound_new : (t p : ℕ) (ps : List ℕ) → (new t).places ≡ p ∷ ps
      → (r : Scalar) × ((new t).hash ≡ hash_of r) × ((new t).places ≡ places (same_scalars r) (cells ++ q ∷ []))
  sound_new t p ps e = by (same_or_not t s)
    where
      by : (t ≡ s) ⊎ (t ≡ s → ⊥) → (r : Scalar) × ((new t).hash ≡ hash_of r) × ((new t).places ≡ places (same_scalars r) (cells ++ q ∷ []))
      by (inl f) = (q, rw f hash, rw f (has ∙ sym own))
      by (inr f) =
          let g : (at t).places ≡ p ∷ ps = rw (others t f) at e in
          let k = index.sound t p ps g in
          let apart = is_own t p ps k.0 f g k.2 in
          (k.0, rw (others t f) k.1, rw (others t f) (k.2 ∙ sym (more_of k.0 false apart)))

  whole_new : (r : Scalar) (p : ℕ) (ps : List ℕ) → places (same_scalars r) (cells ++ q ∷ []) ≡ p ∷ ps
      → (t : ℕ) × ((new t).places ≡ places (same_scalars r) (cells ++ q ∷ []))
  whole_new r p ps e = by (same_scalars r q) refl
    where
      at_other : same_scalars r q ≡ false → (t : ℕ) → (at t).places ≡ places (same_scalars r) cells → places (same_scalars r) cells ≡ p ∷ ps
          → (t ≡ s) ⊎ (t ≡ s → ⊥) → (new t).places ≡ places (same_scalars r) cells
      at_other apart t f g (inl same) =
          let here : places (same_scalars q) cells ≡ p ∷ ps = sym had ∙ rw (sym same) (f ∙ g) in
          let one : r ≡ q = one_first r q cells p ps ps g here in
          let clash : false ≡ true = sym apart ∙ rw one (same_self q) in
          absurd (cc clash)
      at_other apart t f g (inr other) = rw (others t other) f

      by : (b : Bool) → same_scalars r q ≡ b → (t : ℕ) × ((new t).places ≡ places (same_scalars r) (cells ++ q ∷ []))
      by true f = let one : r ≡ q = one_key r q f in (s, rw one (has ∙ sym own))
      by false f =
          let m = more_of r false f in
          let g : places (same_scalars r) cells ≡ p ∷ ps = sym m ∙ e in
          let t = index.whole r p ps g in
          (t.0, at_other f t.0 t.1 g (same_or_not t.0 s) ∙ sym m)

  -- no other slot begins as the new one does
  only : (t p : ℕ) (ps qs : List ℕ) → (new s).places ≡ p ∷ ps → (t ≡ s → ⊥) → (at t).places ≡ p ∷ qs → ⊥
  only t p ps qs e apart f = by (places (same_scalars q) cells) refl
    where
      by : (old : List ℕ) → places (same_scalars q) cells ≡ old → ⊥
      by [] g =
          let n : length cells ∷ [] ≡ p ∷ ps = rw (has, g) at e in
          let is : p ≡ length cells = cc in
          let k = index.sound t p qs f in
          let low : p < length cells = first_below (same_scalars k.0) cells p qs (sym k.2 ∙ f) in
          omega (arith, is, low)
      by (p' ∷ old) g =
          let n : p' ∷ (old ++ length cells ∷ []) ≡ p ∷ ps = rw (has, g) at e in
          let is : p' ≡ p = cc in
          let here : (at s).places ≡ p ∷ old = had ∙ g ∙ ap (λ (k : ℕ). k ∷ old) is in
          apart (index.alone t s p qs old f here)

  alone_new : (t u p : ℕ) (ps qs : List ℕ) → (new t).places ≡ p ∷ ps → (new u).places ≡ p ∷ qs → t ≡ u
  alone_new t u p ps qs e f = by (same_or_not t s) (same_or_not u s)
    where
      by : (t ≡ s) ⊎ (t ≡ s → ⊥) → (u ≡ s) ⊎ (u ≡ s → ⊥) → t ≡ u
      by (inl a) (inl b) = a ∙ sym b
      by (inl a) (inr b) = absurd (only u p ps qs (rw a at e) b (rw (others u b) at f))
      by (inr a) (inl b) = absurd (only t p qs ps (rw b at f) a (rw (others t a) at e))
      by (inr a) (inr b) = index.alone t u p ps qs (rw (others t a) at e) (rw (others u b) at f)

  -- the index with one row more
  pub one_row_more : IsIndex width new (cells ++ q ∷ [])
  one_row_more = record { reach = reach_new; bare = bare_new; sound = sound_new; whole = whole_new; alone = alone_new }
