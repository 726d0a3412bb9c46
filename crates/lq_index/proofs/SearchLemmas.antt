-- What a search finds.
use Rattle.std.proofs.Common.{◌≡◌, ◌<◌, ◌≤◌, ◌+◌, ℕ, Bool, true, false, ◌&&◌, nat_eq, List, [], ◌∷◌, refl, arith, Some, sym, ◌∙◌, ◌⊎◌, inl, inr, eq-eqb, subst}
use Rattle.std.proofs.lemmas.Bool.{cases_lt}
use Rattle.std.specs.Prelude.{slice_get}
use Rattle.lq_value.specs.SameAndOrder.{same_scalars}
use Rattle.lq_value.specs.KeyTests.{scalars_decide}
use Rattle.lq_value.specs.Lookups.{places}
use Rattle.lq_value.specs.declared.scalar.Scalar.{Scalar}
use Rattle.lq_index.specs.Hashes.{hash_of, home}
use Rattle.lq_index.specs.Entries.{IsIndex, Reaches, Entry}
use Rattle.lq_index.specs.Slots.{IsPlaceFor, begins, is_entry_of, same_at}
use Rattle.lq_index.proofs.PlaceLemmas.{first_is}

pub one_key : (q r : Scalar) → same_scalars q r ≡ true → q ≡ r
one_key q r e = (scalars_decide q r).0 e

pub same_self : (q : Scalar) → same_scalars q q ≡ true
same_self q = (scalars_decide q q).1 refl

some_one : {A : Type 0} (x y : A) → Some x ≡ Some y → x ≡ y
some_one x y e = cc e

-- two keys with a first place in common are one
pub one_first : (q r : Scalar) (cells : List Scalar) (p : ℕ) (ps qs : List ℕ) → places (same_scalars q) cells ≡ p ∷ ps → places (same_scalars r) cells ≡ p ∷ qs → q ≡ r
one_first q r cells p ps qs e f =
    let a = first_is (same_scalars q) cells p ps e in
    let b = first_is (same_scalars r) cells p qs f in
    let c : a.0 ≡ b.0 = some_one a.0 b.0 (sym a.1 ∙ b.1) in
    one_key q a.0 a.2 ∙ c ∙ sym (one_key r b.0 b.2)

-- a key whose first place has q's cell is q
one_begin : (q r : Scalar) (cells : List Scalar) (p : ℕ) (ps : List ℕ) → same_at q (slice_get cells p) ≡ true → places (same_scalars r) cells ≡ p ∷ ps → q ≡ r
one_begin q r cells p ps e f =
    let b = first_is (same_scalars r) cells p ps f in
    let s : same_scalars q b.0 ≡ true = rw b.1 at e in
    one_key q b.0 s ∙ sym (one_key r b.0 b.2)

pub both : (a b : Bool) → (a && b) ≡ true → (a ≡ true) × (b ≡ true)
both true b e = (refl, e)
both false b e = (e, absurd (cc e))

pub order : (t u : ℕ) → (t < u) ⊎ ((t ≡ u) ⊎ (u < t))
order t u = by (cases_lt t u) (cases_lt u t)
  where
    by : (t < u) ⊎ (u ≤ t) → (u < t) ⊎ (t ≤ u) → (t < u) ⊎ ((t ≡ u) ⊎ (u < t))
    by (inl lt) other = inl lt
    by (inr le) (inl gt) = inr (inr gt)
    by (inr le) (inr ge) = inr (inl (omega (arith, le, ge)))

-- one more of those from a bound on
pub from_more : (low at : ℕ) (P : ℕ → Type 0) → ((t : ℕ) → low ≤ t → t < at → P t) → P at → (t : ℕ) → low ≤ t → t < at + 1 → P t
from_more low at P below here t above high = by (order t at)
  where
    by : (t < at) ⊎ ((t ≡ at) ⊎ (at < t)) → P t
    by (inl lt) = below t above lt
    by (inr (inl e)) = subst P (sym e) here
    by (inr (inr gt)) = absurd (omega (arith, gt, high))

module _ (width : ℕ) (at : ℕ → Entry) (cells : List Scalar) (index : IsIndex width at cells) where
  -- the slot of a key has its places
  pub places_found : (q : Scalar) (s : ℕ) → is_entry_of q cells (at s) ≡ true → (at s).places ≡ places (same_scalars q) cells
  places_found q s e = by (at s).places refl
    where
      begun : begins q cells (at s).places ≡ true
      begun = (both (nat_eq (at s).hash (hash_of q)) (begins q cells (at s).places) e).1

      by : (ps : List ℕ) → (at s).places ≡ ps → (at s).places ≡ places (same_scalars q) cells
      by [] f = let clash : begins q cells [] ≡ true = rw f at begun in absurd (cc clash)
      by (p ∷ ps) f =
          let b : same_at q (slice_get cells p) ≡ true = rw f at begun in
          let k = index.sound s p ps f in
          let one : q ≡ k.0 = one_begin q k.0 cells p ps b (sym k.2 ∙ f) in
          rw one k.2

  -- a slot with places was taken
  pub place_taken : (s p : ℕ) (ps : List ℕ) → (at s).places ≡ p ∷ ps → (at s).free ≡ false
  place_taken s p ps e = by (at s).free refl
    where
      by : (b : Bool) → (at s).free ≡ b → (at s).free ≡ false
      by false f = f
      by true f = let clash : [] ≡ p ∷ ps = sym (index.bare s f) ∙ e in absurd (cc clash)

  -- a slot with the places of a key is its slot
  pub is_slot : (q : Scalar) (s p : ℕ) (ps : List ℕ) → places (same_scalars q) cells ≡ p ∷ ps → (at s).places ≡ places (same_scalars q) cells
      → ((at s).hash ≡ hash_of q) × (is_entry_of q cells (at s) ≡ true)
  is_slot q s p ps e f =
      let k = index.sound s p ps (f ∙ e) in
      let one : k.0 ≡ q = one_first k.0 q cells p ps ps (sym k.2 ∙ f ∙ e) e in
      let hash : (at s).hash ≡ hash_of q = rw (sym one) k.1 in
      let first = first_is (same_scalars q) cells p ps e in
      let begun : begins q cells (p ∷ ps) ≡ true = rw first.1 first.2 in
      let a : nat_eq (at s).hash (hash_of q) ≡ true = eq-eqb (at s).hash (hash_of q) hash in
      (hash, rw (a, f, e) begun)

  -- a key whose search came to a slot that was never taken has no place
  pub absent : (q : Scalar) (s : ℕ) → IsPlaceFor width at q s
      → ((t : ℕ) → home width (hash_of q) ≤ t → t < s → is_entry_of q cells (at t) ≡ false) → places (same_scalars q) cells ≡ []
  absent q s end none = by (places (same_scalars q) cells) refl
    where
      by : (ps : List ℕ) → places (same_scalars q) cells ≡ ps → places (same_scalars q) cells ≡ []
      by [] e = e
      by (p ∷ ps) e =
          let t = index.whole q p ps e in
          let is = is_slot q t.0 p ps e t.1 in
          let full : (at t.0).free ≡ false = place_taken t.0 p ps (t.1 ∙ e) in
          let reach : Reaches width at (hash_of q) t.0 = subst (λ (h : ℕ). Reaches width at h t.0) is.0 (index.reach t.0 full) in
          absurd (which t.0 is.1 full reach (order t.0 s))
        where
          which : (t : ℕ) → is_entry_of q cells (at t) ≡ true → (at t).free ≡ false → Reaches width at (hash_of q) t → (t < s) ⊎ ((t ≡ s) ⊎ (s < t)) → ⊥
          which t is full reach (inl lt) = let clash : false ≡ true = sym (none t reach.0 lt) ∙ is in cc clash
          which t is full reach (inr (inl e)) = let clash : true ≡ false = sym end.0 ∙ rw (sym e) full in cc clash
          which t is full reach (inr (inr gt)) = let clash : true ≡ false = sym end.0 ∙ reach.1 s end.1.0 gt in cc clash
