-- Slots that are moved into a wider table.
use Rattle.std.proofs.Common.{◌≡◌, ◌<◌, ◌≤◌, ◌+◌, ℕ, true, false, List, [], ◌∷◌, refl, arith, ap, sym, ◌∙◌, ◌⊎◌, inl, inr, length}
use Rattle.lq_value.specs.declared.scalar.Scalar.{Scalar}
use Rattle.lq_index.specs.Entries.{IsIndex, Reaches}
use Rattle.lq_index.specs.Slots.{AreOwned, is_free, is_live, no_slot, entry_at, slot_at, places_in}
use Rattle.lq_index.specs.Moves.{AreHeld, AreMoved, IsPut}
use Rattle.lq_index.specs.declared.slot.Slot.{Slot}
use Rattle.lq_index.specs.declared.slot.Spot.{Spot}
use Rattle.lq_index.specs.declared.slot.Spot.TheVariants as spot
use Rattle.lq_index.proofs.EntryLemmas.{same_or_not}
use Rattle.lq_index.proofs.SearchLemmas.{order}

-- a slot with places was taken
place_taken : (groups : List (List ℕ)) (one : Spot) (p : ℕ) (ps : List ℕ) → places_in groups one ≡ p ∷ ps → is_free one ≡ false
place_taken groups spot.Free p ps e = absurd (cc e)
place_taken groups spot.Dead p ps e = refl
place_taken groups (spot.One q) p ps e = refl
place_taken groups (spot.Many g) p ps e = refl

pub none_of_free : (groups : List (List ℕ)) (one : Spot) → is_free one ≡ true → places_in groups one ≡ []
none_of_free groups spot.Free e = refl
none_of_free groups spot.Dead e = refl
none_of_free groups (spot.One q) e = absurd (cc e)
none_of_free groups (spot.Many g) e = absurd (cc e)

-- a live slot was taken
pub live_taken : (one : Spot) → is_live one ≡ true → is_free one ≡ false
live_taken spot.Free e = absurd (cc e)
live_taken spot.Dead e = absurd (cc e)
live_taken (spot.One q) e = refl
live_taken (spot.Many g) e = refl

-- any other has no places
pub none_of_dead : (groups : List (List ℕ)) (one : Spot) → is_live one ≡ false → places_in groups one ≡ []
none_of_dead groups spot.Free e = refl
none_of_dead groups spot.Dead e = refl
none_of_dead groups (spot.One q) e = absurd (cc e)
none_of_dead groups (spot.Many g) e = absurd (cc e)

many_used : (one : Spot) (g : ℕ) → one ≡ spot.Many g → is_free one ≡ false
many_used one g e = rw e refl

module _ (width wide : ℕ) (groups : List (List ℕ)) (old : List Slot) (cells : List Scalar) (index : IsIndex width (entry_at groups old) cells) where
  module _ (new next : List Slot) (j : ℕ) (moved : AreMoved groups wide old new j) where
    -- a slot that isn't moved, since it has no places
    pub passes_over : places_in groups (slot_at old j).spot ≡ [] → AreMoved groups wide old new (j + 1)
    passes_over e = record {
      reach = moved.reach;
      from = λ s f. let t = moved.from s f in (t.0, omega (arith, t.1), t.2);
      into = λ t p ps low f. by t p ps f (order t j) low;
      alone = moved.alone;
    }
      where
        by : (t p : ℕ) (ps : List ℕ) → places_in groups (slot_at old t).spot ≡ p ∷ ps → (t < j) ⊎ ((t ≡ j) ⊎ (j < t)) → t < j + 1 → (s : ℕ) × (slot_at new s ≡ slot_at old t)
        by t p ps f (inl lt) low = moved.into t p ps lt f
        by t p ps f (inr (inl same)) low = let clash : [] ≡ p ∷ ps = sym e ∙ rw same at f in absurd (cc clash)
        by t p ps f (inr (inr gt)) low = absurd (omega (arith, gt, low))

    module _ (full : is_free (slot_at old j).spot ≡ false) (i : ℕ) (free : is_free (slot_at new i).spot ≡ true)
        (reach : Reaches wide (entry_at groups new) (slot_at old j).hash i) (here : slot_at next i ≡ slot_at old j)
        (others : (t : ℕ) → (t ≡ i → ⊥) → slot_at next t ≡ slot_at new t) where
      still : (t : ℕ) → is_free (slot_at new t).spot ≡ false → is_free (slot_at next t).spot ≡ false
      still t e = by (same_or_not t i)
        where
          by : (t ≡ i) ⊎ (t ≡ i → ⊥) → is_free (slot_at next t).spot ≡ false
          by (inl f) = rw (f, here) full
          by (inr f) = rw (others t f) e

      reaches : (h t : ℕ) → Reaches wide (entry_at groups new) h t → Reaches wide (entry_at groups next) h t
      reaches h t r = (r.0, λ u low high. still u (r.1 u low high))

      reach_next : (s : ℕ) → is_free (slot_at next s).spot ≡ false → Reaches wide (entry_at groups next) (slot_at next s).hash s
      reach_next s e = by (same_or_not s i)
        where
          by : (s ≡ i) ⊎ (s ≡ i → ⊥) → Reaches wide (entry_at groups next) (slot_at next s).hash s
          by (inl f) = rw (f, here) (reaches (slot_at old j).hash i reach)
          by (inr f) = let g : is_free (slot_at new s).spot ≡ false = rw (others s f) at e in
              rw (others s f) (reaches (slot_at new s).hash s (moved.reach s g))

      from_next : (s : ℕ) → is_free (slot_at next s).spot ≡ false → (t : ℕ) × (t < j + 1) × (slot_at next s ≡ slot_at old t)
      from_next s e = by (same_or_not s i)
        where
          by : (s ≡ i) ⊎ (s ≡ i → ⊥) → (t : ℕ) × (t < j + 1) × (slot_at next s ≡ slot_at old t)
          by (inl f) = (j, omega arith, rw f here)
          by (inr f) = let g : is_free (slot_at new s).spot ≡ false = rw (others s f) at e in
              let t = moved.from s g in (t.0, omega (arith, t.1), others s f ∙ t.2)

      -- a slot that was moved before isn't the one that was free
      apart : (s : ℕ) → is_free (slot_at new s).spot ≡ false → s ≡ i → ⊥
      apart s e f = let clash : true ≡ false = sym free ∙ rw f at e in cc clash

      into_next : (t p : ℕ) (ps : List ℕ) → t < j + 1 → places_in groups (slot_at old t).spot ≡ p ∷ ps → (s : ℕ) × (slot_at next s ≡ slot_at old t)
      into_next t p ps low f = by (order t j)
        where
          by : (t < j) ⊎ ((t ≡ j) ⊎ (j < t)) → (s : ℕ) × (slot_at next s ≡ slot_at old t)
          by (inl lt) =
              let s = moved.into t p ps lt f in
              let g : is_free (slot_at new s.0).spot ≡ false = rw s.1 (place_taken groups (slot_at old t).spot p ps f) in
              (s.0, others s.0 (apart s.0 g) ∙ s.1)
          by (inr (inl same)) = (i, rw same here)
          by (inr (inr gt)) = absurd (omega (arith, gt, low))

      -- the slot that was moved last begins as no other does
      only : (u p : ℕ) (ps qs : List ℕ) → (u ≡ i → ⊥) → places_in groups (slot_at next i).spot ≡ p ∷ ps → places_in groups (slot_at next u).spot ≡ p ∷ qs → ⊥
      only u p ps qs f a b =
          let d : places_in groups (slot_at new u).spot ≡ p ∷ qs = rw (others u f) at b in
          let t = moved.from u (place_taken groups (slot_at new u).spot p qs d) in
          let k : places_in groups (slot_at old t.0).spot ≡ p ∷ qs = rw t.2 at d in
          let h : places_in groups (slot_at old j).spot ≡ p ∷ ps = rw here at a in
          let same : j ≡ t.0 = index.alone j t.0 p ps qs h k in
          omega (arith, same, t.1)

      alone_next : (s u p : ℕ) (ps qs : List ℕ) → places_in groups (slot_at next s).spot ≡ p ∷ ps → places_in groups (slot_at next u).spot ≡ p ∷ qs → s ≡ u
      alone_next s u p ps qs a b = by (same_or_not s i) (same_or_not u i)
        where
          by : (s ≡ i) ⊎ (s ≡ i → ⊥) → (u ≡ i) ⊎ (u ≡ i → ⊥) → s ≡ u
          by (inl f) (inl g) = f ∙ sym g
          by (inl f) (inr g) = absurd (only u p ps qs g (rw f at a) b)
          by (inr f) (inl g) = absurd (only s p qs ps f (rw g at b) a)
          by (inr f) (inr g) = moved.alone s u p ps qs (rw (others s f) at a) (rw (others u g) at b)

      -- one slot more is moved
      pub put : AreMoved groups wide old next (j + 1)
      put = record { reach = reach_next; from = from_next; into = into_next; alone = alone_next }

  -- all slots are moved
  pub all_moved : (new : List Slot) → AreMoved groups wide old new (length old) → ((t : ℕ) → length old ≤ t → slot_at old t ≡ no_slot) → IsIndex wide (entry_at groups new) cells
  all_moved new moved past = record {
    reach = moved.reach;
    bare = λ s f. none_of_free groups (slot_at new s).spot f;
    sound = λ s p ps e. let t = moved.from s (place_taken groups (slot_at new s).spot p ps e) in
        let f : places_in groups (slot_at old t.0).spot ≡ p ∷ ps = rw t.2 at e in
        let k = index.sound t.0 p ps f in
        (k.0, ap (λ (x : Slot). x.hash) t.2 ∙ k.1, ap (λ (x : Slot). places_in groups x.spot) t.2 ∙ k.2);
    whole = λ q p ps e. let t = index.whole q p ps e in
        let f : places_in groups (slot_at old t.0).spot ≡ p ∷ ps = t.1 ∙ e in
        let s = moved.into t.0 p ps (inside t.0 p ps f (order t.0 (length old))) f in
        (s.0, ap (λ (x : Slot). places_in groups x.spot) s.1 ∙ t.1);
    alone = moved.alone;
  }
    where
      inside : (t p : ℕ) (ps : List ℕ) → places_in groups (slot_at old t).spot ≡ p ∷ ps → (t < length old) ⊎ ((t ≡ length old) ⊎ (length old < t)) → t < length old
      inside t p ps f (inl lt) = lt
      inside t p ps f (inr (inl e)) = let clash : [] ≡ p ∷ ps = rw (past t (omega (arith, e))) at f in absurd (cc clash)
      inside t p ps f (inr (inr gt)) = let clash : [] ≡ p ∷ ps = rw (past t (omega (arith, gt))) at f in absurd (cc clash)

-- none is moved yet
pub none_moved : (groups : List (List ℕ)) (wide : ℕ) (old new : List Slot) → ((t : ℕ) → slot_at new t ≡ no_slot) → AreMoved groups wide old new 0
none_moved groups wide old new e = record {
  reach = λ s f. let clash : true ≡ false = rw (e s) at f in absurd (cc clash);
  from = λ s f. let clash : true ≡ false = rw (e s) at f in absurd (cc clash);
  into = λ t p ps low f. absurd (omega (arith, low));
  alone = λ s u p ps qs f g. let clash : [] ≡ p ∷ ps = rw (e s) at f in absurd (cc clash);
}

pub none_held : (old new : List Slot) → ((t : ℕ) → slot_at new t ≡ no_slot) → AreHeld old new 0
none_held old new e = record {
  from = λ s f. let clash : true ≡ false = rw (e s) at f in absurd (cc clash);
  once = λ s u g f h. let clash : spot.Free ≡ spot.Many g = rw (e s) at f in absurd (cc clash);
}

module _ (groups : List (List ℕ)) (old : List Slot) (owned : AreOwned groups old) (new : List Slot) (j : ℕ) (held : AreHeld old new j) where
  pub held_passed : AreHeld old new (j + 1)
  held_passed = record { from = λ s f. let t = held.from s f in (t.0, omega (arith, t.1), t.2); once = held.once }

  pub all_owned : AreOwned groups new
  all_owned = record {
    there = λ s g e. let t = held.from s (many_used (slot_at new s).spot g e) in owned.there t.0 g (sym (ap (λ (x : Slot). x.spot) t.2) ∙ e);
    once = held.once;
  }

  module _ (wide : ℕ) (next : List Slot) (put : IsPut wide new next (slot_at old j)) where
    held_from : (s : ℕ) → is_free (slot_at next s).spot ≡ false → (t : ℕ) × (t < j + 1) × (slot_at next s ≡ slot_at old t)
    held_from s e = by (same_or_not s put.i)
      where
        by : (s ≡ put.i) ⊎ (s ≡ put.i → ⊥) → (t : ℕ) × (t < j + 1) × (slot_at next s ≡ slot_at old t)
        by (inl f) = (j, omega arith, rw f put.here)
        by (inr f) = let g : is_free (slot_at new s).spot ≡ false = rw (put.others s f) at e in
            let t = held.from s g in (t.0, omega (arith, t.1), put.others s f ∙ t.2)

    once_only : (u g : ℕ) → (u ≡ put.i → ⊥) → (slot_at next put.i).spot ≡ spot.Many g → (slot_at next u).spot ≡ spot.Many g → ⊥
    once_only u g f a b =
        let d : (slot_at new u).spot ≡ spot.Many g = rw (put.others u f) at b in
        let t = held.from u (many_used (slot_at new u).spot g d) in
        let k : (slot_at old t.0).spot ≡ spot.Many g = rw t.2 at d in
        let h : (slot_at old j).spot ≡ spot.Many g = rw put.here at a in
        let same : j ≡ t.0 = owned.once j t.0 g h k in
        omega (arith, same, t.1)

    held_once : (s u g : ℕ) → (slot_at next s).spot ≡ spot.Many g → (slot_at next u).spot ≡ spot.Many g → s ≡ u
    held_once s u g a b = by (same_or_not s put.i) (same_or_not u put.i)
      where
        by : (s ≡ put.i) ⊎ (s ≡ put.i → ⊥) → (u ≡ put.i) ⊎ (u ≡ put.i → ⊥) → s ≡ u
        by (inl e) (inl f) = e ∙ sym f
        by (inl e) (inr f) = absurd (once_only u g f (rw e at a) b)
        by (inr e) (inl f) = absurd (once_only s g e (rw f at b) a)
        by (inr e) (inr f) = held.once s u g (rw (put.others s e) at a) (rw (put.others u f) at b)

    pub held_put : AreHeld old next (j + 1)
    held_put = record { from = held_from; once = held_once }
