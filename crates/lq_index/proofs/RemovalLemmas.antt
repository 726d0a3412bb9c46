-- Rows that are removed.
use Rattle.std.proofs.Common.{◌≡◌, ◌<◌, ◌≤◌, ◌+◌, ℕ, suc, Bool, true, false, List, [], ◌∷◌, ◌++◌, length, map, refl, arith, ap, sym, ◌∙◌, if◌then◌else◌, get_or, nat_le}
use Rattle.std.proofs.lemmas.Bool.{le-leb, lt-leb}
use Rattle.std.proofs.lemmas.List.{drop-set-lt, get_or-drop}
use Rattle.std.proofs.Math.Seq as more
use Rattle.std.specs.Prelude.{drop, set, take}
use Rattle.std.proofs.Math.ListN as seq
use Rattle.std.specs.Prelude.{filter}
use Rattle.lq_value.specs.SameAndOrder.{same_scalars}
use Rattle.lq_value.specs.Lookups.{places, places_from}
use Rattle.lq_value.specs.declared.scalar.Scalar.{Scalar}
use Rattle.lq_index.specs.Hashes.{hash_of}
use Rattle.lq_index.specs.Entries.{IsIndex, Reaches, Entry}
use Rattle.lq_index.specs.Slots.{AreOwned, is_free, entry_at, slot_at, places_in}
use Rattle.lq_index.specs.declared.slot.Slot.{Slot}
use Rattle.lq_index.specs.declared.slot.Spot.{Spot}
use Rattle.lq_index.specs.declared.slot.Spot.TheVariants as spot
use Rattle.lq_index.specs.Removals.{is_none, no_rank, ranks_from, renumber, renumber_slot, renumber_spot}
use Rattle.lq_index.proofs.SearchLemmas.{one_first}

-- of a list whose places pass a test, those that stay are found at their new places
module _ {A K : Type 0} (keep : A → Bool) (key : A → K) (test : K → Bool) (ranks : List ℕ) where
  renumber_from : (n k : ℕ) (xs : List A) → k ≤ n → n + length xs ≤ no_rank
      → ((i : ℕ) → i < length xs → get_or ranks (n + i) no_rank ≡ get_or (ranks_from keep k xs) i no_rank)
      → renumber ranks (places_from test n (map key xs)) ≡ places_from test k (map key (filter keep xs))
  renumber_from n k [] low room agree = refl
  renumber_from n k (x ∷ xs) low room agree =
      by (renumber_from (suc n) (suc k) xs) (renumber_from (suc n) k xs) (keep x) refl (test (key x)) refl
    where
      first : (b : Bool) → keep x ≡ b → get_or ranks n no_rank ≡ (if b then k else no_rank)
      first true f = let z : n + 0 ≡ n = omega arith in
          let h : get_or ranks (n + 0) no_rank ≡ get_or (ranks_from keep k (x ∷ xs)) 0 no_rank = agree 0 (omega arith) in
          rw (z, f) at h
      first false f = let z : n + 0 ≡ n = omega arith in
          let h : get_or ranks (n + 0) no_rank ≡ get_or (ranks_from keep k (x ∷ xs)) 0 no_rank = agree 0 (omega arith) in
          rw (z, f) at h

      rest_stays : keep x ≡ true → (i : ℕ) → i < length xs → get_or ranks (suc n + i) no_rank ≡ get_or (ranks_from keep (suc k) xs) i no_rank
      rest_stays f i low = let z : n + suc i ≡ suc n + i = omega arith in
          let h : get_or ranks (n + suc i) no_rank ≡ get_or (ranks_from keep k (x ∷ xs)) (suc i) no_rank = agree (suc i) (omega (arith, low)) in
          rw (z, f) at h

      rest_goes : keep x ≡ false → (i : ℕ) → i < length xs → get_or ranks (suc n + i) no_rank ≡ get_or (ranks_from keep k xs) i no_rank
      rest_goes f i low = let z : n + suc i ≡ suc n + i = omega arith in
          let h : get_or ranks (n + suc i) no_rank ≡ get_or (ranks_from keep k (x ∷ xs)) (suc i) no_rank = agree (suc i) (omega (arith, low)) in
          rw (z, f) at h

      by : (suc k ≤ suc n → suc n + length xs ≤ no_rank → ((i : ℕ) → i < length xs → get_or ranks (suc n + i) no_rank ≡ get_or (ranks_from keep (suc k) xs) i no_rank)
          → renumber ranks (places_from test (suc n) (map key xs)) ≡ places_from test (suc k) (map key (filter keep xs)))
          → (k ≤ suc n → suc n + length xs ≤ no_rank → ((i : ℕ) → i < length xs → get_or ranks (suc n + i) no_rank ≡ get_or (ranks_from keep k xs) i no_rank)
          → renumber ranks (places_from test (suc n) (map key xs)) ≡ places_from test k (map key (filter keep xs)))
          → (b : Bool) → keep x ≡ b → (c : Bool) → test (key x) ≡ c
          → renumber ranks (places_from test n (map key (x ∷ xs))) ≡ places_from test k (map key (filter keep (x ∷ xs)))
      by stays goes true f true g =
          let r : get_or ranks n no_rank ≡ k = first true f in
          let more = stays (omega (arith, low)) (omega (arith, room)) (rest_stays f) in
          let is : nat_le k n ≡ true = le-leb k n low in
          rw (f, g, r, is) (ap (λ (l : List ℕ). k ∷ l) more)
      by stays goes true f false g = let more = stays (omega (arith, low)) (omega (arith, room)) (rest_stays f) in rw (f, g) more
      by stays goes false f true g =
          let r : get_or ranks n no_rank ≡ no_rank = first false f in
          let more = goes (omega (arith, low)) (omega (arith, room)) (rest_goes f) in
          let is : nat_le no_rank n ≡ false = lt-leb no_rank n (omega (arith, room)) in
          rw (f, g, r, is) more
      by stays goes false f false g = let more = goes (omega (arith, low)) (omega (arith, room)) (rest_goes f) in rw (f, g) more

  -- the places of what stays are the old ones by their new numbers
  pub places_stay : (xs : List A) → length xs ≤ no_rank → ranks ≡ ranks_from keep 0 xs
      → places test (map key (filter keep xs)) ≡ renumber ranks (places test (map key xs))
  places_stay xs room e = sym (renumber_from 0 0 xs (omega arith) (omega (arith, room)) agree)
    where
      agree : (i : ℕ) → i < length xs → get_or ranks (0 + i) no_rank ≡ get_or (ranks_from keep 0 xs) i no_rank
      agree i low = let z : 0 + i ≡ i = omega arith in rw (z, e) refl

module _ (width : ℕ) (at new : ℕ → Entry) (cells left : List Scalar) (index : IsIndex width at cells) (turn : List ℕ → List ℕ) (none : turn [] ≡ [])
    (free : (t : ℕ) → (new t).free ≡ (at t).free) (hash : (t : ℕ) → (new t).hash ≡ (at t).hash) (has : (t : ℕ) → (new t).places ≡ turn (at t).places)
    (agrees : (q : Scalar) → places (same_scalars q) left ≡ turn (places (same_scalars q) cells)) where
  -- what a slot is that has places left
  record Left (t : ℕ) : Type 0 where
    q : Scalar
    p : ℕ
    ps : List ℕ
    begins : (at t).places ≡ p ∷ ps
    of_key : (at t).places ≡ places (same_scalars q) cells
    of_hash : (at t).hash ≡ hash_of q
    now : (new t).places ≡ places (same_scalars q) left

  left_of : (t p : ℕ) (ps : List ℕ) → (new t).places ≡ p ∷ ps → Left t
  left_of t p ps e = by (at t).places refl
    where
      by : (old : List ℕ) → (at t).places ≡ old → Left t
      by [] f = let clash : [] ≡ p ∷ ps = sym (has t ∙ ap turn f ∙ none) ∙ e in absurd (cc clash)
      by (a ∷ old) f = let k = index.sound t a old f in
          record { q = k.0; p = a; ps = old; begins = f; of_key = k.2; of_hash = k.1; now = has t ∙ ap turn k.2 ∙ sym (agrees k.0) }

  reach_left : (t : ℕ) → (new t).free ≡ false → Reaches width new (new t).hash t
  reach_left t e =
      let r : Reaches width at (at t).hash t = index.reach t (sym (free t) ∙ e) in
      rw (hash t) (r.0, λ u low high. free u ∙ r.1 u low high)

  bare_left : (t : ℕ) → (new t).free ≡ true → (new t).places ≡ []
  bare_left t e = has t ∙ ap turn (index.bare t (sym (free t) ∙ e)) ∙ none

  sound_left : (t p : ℕ) (ps : List ℕ) → (new t).places ≡ p ∷ ps → (r : Scalar) × ((new t).hash ≡ hash_of r) × ((new t).places ≡ places (same_scalars r) left)
  sound_left t p ps e = let l = left_of t p ps e in (l.q, hash t ∙ l.of_hash, l.now)

  whole_left : (r : Scalar) (p : ℕ) (ps : List ℕ) → places (same_scalars r) left ≡ p ∷ ps → (t : ℕ) × ((new t).places ≡ places (same_scalars r) left)
  whole_left r p ps e = by (places (same_scalars r) cells) refl
    where
      by : (old : List ℕ) → places (same_scalars r) cells ≡ old → (t : ℕ) × ((new t).places ≡ places (same_scalars r) left)
      by [] f = let clash : [] ≡ p ∷ ps = sym (agrees r ∙ ap turn f ∙ none) ∙ e in absurd (cc clash)
      by (a ∷ old) f = let t = index.whole r a old f in (t.0, has t.0 ∙ ap turn t.1 ∙ sym (agrees r))

  alone_left : (t u p : ℕ) (ps qs : List ℕ) → (new t).places ≡ p ∷ ps → (new u).places ≡ p ∷ qs → t ≡ u
  alone_left t u p ps qs e f =
      let l = left_of t p ps e in
      let m = left_of u p qs f in
      let one : l.q ≡ m.q = one_first l.q m.q left p ps qs (sym l.now ∙ e) (sym m.now ∙ f) in
      let level : (at u).places ≡ l.p ∷ l.ps = m.of_key ∙ rw (sym one) (sym l.of_key ∙ l.begins) in
      index.alone t u l.p l.ps l.ps l.begins level

  -- the index of what is left
  pub index_left : IsIndex width new left
  index_left = record { reach = reach_left; bare = bare_left; sound = sound_left; whole = whole_left; alone = alone_left }

map_at : {A B : Type 0} (f : A → B) (l : List A) (n : ℕ) (d : A) (e : B) → f d ≡ e → get_or (map f l) n e ≡ f (get_or l n d)
map_at f l n d e h = rw (sym h) (seq.get_or-map f l n d)

none_is : (ps : List ℕ) → is_none ps ≡ true → ps ≡ []
none_is [] e = refl
none_is (p ∷ ps) e = absurd (cc e)

-- the entry of a slot whose place or whose group was renumbered
module _ (ranks : List ℕ) (groups groups' : List (List ℕ)) (slots slots' : List Slot)
    (each_group : (g : ℕ) → get_or groups' g [] ≡ renumber ranks (get_or groups g []))
    (each_slot : (t : ℕ) → slot_at slots' t ≡ renumber_slot ranks groups' (slot_at slots t)) where
  places_left : (one : Spot) → places_in groups' (renumber_spot ranks groups' one) ≡ renumber ranks (places_in groups one)
  places_left spot.Free = refl
  places_left spot.Dead = refl
  places_left (spot.Many g) = by (is_none (get_or groups' g [])) refl
    where
      by : (b : Bool) → is_none (get_or groups' g []) ≡ b → places_in groups' (renumber_spot ranks groups' (spot.Many g)) ≡ renumber ranks (get_or groups g [])
      by true e = rw e (sym (none_is (get_or groups' g []) e) ∙ each_group g)
      by false e = rw e (each_group g)
  places_left (spot.One p) = by (nat_le (get_or ranks p no_rank) p) refl
    where
      by : (b : Bool) → nat_le (get_or ranks p no_rank) p ≡ b → places_in groups' (renumber_spot ranks groups' (spot.One p)) ≡ renumber ranks (p ∷ [])
      by true e = rw e refl
      by false e = rw e refl

  free_left : (one : Spot) → is_free (renumber_spot ranks groups' one) ≡ is_free one
  free_left spot.Free = refl
  free_left spot.Dead = refl
  free_left (spot.Many g) = by (is_none (get_or groups' g [])) refl
    where
      by : (b : Bool) → is_none (get_or groups' g []) ≡ b → is_free (renumber_spot ranks groups' (spot.Many g)) ≡ false
      by true e = rw e refl
      by false e = rw e refl
  free_left (spot.One p) = by (nat_le (get_or ranks p no_rank) p) refl
    where
      by : (b : Bool) → nat_le (get_or ranks p no_rank) p ≡ b → is_free (renumber_spot ranks groups' (spot.One p)) ≡ false
      by true e = rw e refl
      by false e = rw e refl

  -- an index of some cells becomes that of those that are left
  pub all_left : (width : ℕ) (cells left : List Scalar) → IsIndex width (entry_at groups slots) cells
      → ((q : Scalar) → places (same_scalars q) left ≡ renumber ranks (places (same_scalars q) cells)) → IsIndex width (entry_at groups' slots') left
  all_left width cells left index agrees = index_left width (entry_at groups slots) (entry_at groups' slots') cells left index (renumber ranks) refl
      (λ t. rw (each_slot t) (free_left (slot_at slots t).spot)) (λ t. rw (each_slot t) refl) (λ t. rw (each_slot t) (places_left (slot_at slots t).spot)) agrees

  -- groups stay owned
  many_stays : (one : Spot) (g : ℕ) → renumber_spot ranks groups' one ≡ spot.Many g → one ≡ spot.Many g
  many_stays spot.Free g e = e
  many_stays spot.Dead g e = e
  many_stays (spot.Many h) g e = by (is_none (get_or groups' h [])) refl
    where
      by : (b : Bool) → is_none (get_or groups' h []) ≡ b → spot.Many h ≡ spot.Many g
      by true f = let clash : spot.Dead ≡ spot.Many g = rw f at e in absurd (cc clash)
      by false f = rw f at e
  many_stays (spot.One p) g e = by (nat_le (get_or ranks p no_rank) p) refl
    where
      by : (b : Bool) → nat_le (get_or ranks p no_rank) p ≡ b → spot.One p ≡ spot.Many g
      by true f = let clash : spot.One (get_or ranks p no_rank) ≡ spot.Many g = rw f at e in absurd (cc clash)
      by false f = let clash : spot.Dead ≡ spot.Many g = rw f at e in absurd (cc clash)

  many_at : (t g : ℕ) → (slot_at slots' t).spot ≡ spot.Many g → (slot_at slots t).spot ≡ spot.Many g
  many_at t g e = many_stays (slot_at slots t).spot g (rw (each_slot t) at e)

  pub owned_still : length groups' ≡ length groups → AreOwned groups slots → AreOwned groups' slots'
  owned_still long h = record { there = λ s g e. rw long (h.there s g (many_at s g e)); once = λ s t g e f. h.once s t g (many_at s g e) (many_at t g f) }

-- one place more of a list of places that get new numbers
pub renumber_push : (ranks ps : List ℕ) (p : ℕ)
    → renumber ranks (ps ++ p ∷ []) ≡ (if nat_le (get_or ranks p no_rank) p then renumber ranks ps ++ get_or ranks p no_rank ∷ [] else renumber ranks ps)
renumber_push ranks [] p = by (nat_le (get_or ranks p no_rank) p) refl
  where
    by : (b : Bool) → nat_le (get_or ranks p no_rank) p ≡ b → renumber ranks (p ∷ []) ≡ (if nat_le (get_or ranks p no_rank) p then get_or ranks p no_rank ∷ [] else [])
    by true e = rw e refl
    by false e = rw e refl
renumber_push ranks (a ∷ ps) p = by (renumber_push ranks ps p) (nat_le (get_or ranks a no_rank) a) refl (nat_le (get_or ranks p no_rank) p) refl
  where
    by : renumber ranks (ps ++ p ∷ []) ≡ (if nat_le (get_or ranks p no_rank) p then renumber ranks ps ++ get_or ranks p no_rank ∷ [] else renumber ranks ps)
        → (b : Bool) → nat_le (get_or ranks a no_rank) a ≡ b → (c : Bool) → nat_le (get_or ranks p no_rank) p ≡ c
        → renumber ranks ((a ∷ ps) ++ p ∷ []) ≡ (if nat_le (get_or ranks p no_rank) p then renumber ranks (a ∷ ps) ++ get_or ranks p no_rank ∷ [] else renumber ranks (a ∷ ps))
    by more true e true f = let m : renumber ranks (ps ++ p ∷ []) ≡ renumber ranks ps ++ get_or ranks p no_rank ∷ [] = rw f at more in
        rw (e, f) (ap (λ (l : List ℕ). get_or ranks a no_rank ∷ l) m)
    by more true e false f = let m : renumber ranks (ps ++ p ∷ []) ≡ renumber ranks ps = rw f at more in
        rw (e, f) (ap (λ (l : List ℕ). get_or ranks a no_rank ∷ l) m)
    by more false e true f = let m : renumber ranks (ps ++ p ∷ []) ≡ renumber ranks ps ++ get_or ranks p no_rank ∷ [] = rw f at more in rw (e, f) m
    by more false e false f = let m : renumber ranks (ps ++ p ∷ []) ≡ renumber ranks ps = rw f at more in rw (e, f) m

-- one step of a walk over places
module _ (ranks old places : List ℕ) (count at : ℕ) (few : count ≤ at) (inside : at < length old) (long : length places ≡ length old)
    (done : take count places ≡ renumber ranks (take at old)) (left : drop at places ≡ drop at old) where
  here : get_or places at 0 ≡ get_or old at 0
  here = let z : at + 0 ≡ at = omega arith in
      let e : get_or (drop at places) 0 0 ≡ get_or (drop at old) 0 0 = ap (λ (l : List ℕ). get_or l 0 0) left in
      rw z at (sym (get_or-drop at places 0 0) ∙ e ∙ get_or-drop at old 0 0)

  behind : drop (suc at) places ≡ drop (suc at) old
  behind =
      let low : at < length places = rw long inside in
      let e : get_or places at 0 ∷ drop (suc at) places ≡ get_or old at 0 ∷ drop (suc at) old
      = sym (more.drop-cons places at 0 low) ∙ left ∙ more.drop-cons old at 0 inside in
      cc e

  all : renumber ranks (take (suc at) old) ≡ (if nat_le (get_or ranks (get_or old at 0) no_rank) (get_or old at 0)
      then renumber ranks (take at old) ++ get_or ranks (get_or old at 0) no_rank ∷ [] else renumber ranks (take at old))
  all = rw (more.take-suc old at 0 inside) (renumber_push ranks (take at old) (get_or old at 0))

  pub stays : (place rank : ℕ) → place ≡ get_or places at 0 → rank ≡ get_or ranks place no_rank → rank ≤ place
      → (take (suc count) (set places count rank) ≡ renumber ranks (take (suc at) old)) × (drop (suc at) (set places count rank) ≡ drop (suc at) old)
  stays place rank e f low =
      let p : place ≡ get_or old at 0 = e ∙ here in
      let b : nat_le (get_or ranks (get_or old at 0) no_rank) (get_or old at 0) ≡ true = rw (sym p, sym f) (le-leb rank place low) in
      let a : renumber ranks (take (suc at) old) ≡ renumber ranks (take at old) ++ get_or ranks (get_or old at 0) no_rank ∷ [] = rw b at all in
      let c : get_or ranks (get_or old at 0) no_rank ≡ rank = rw (sym p) (sym f) in (
        more.take-suc-set places count rank (omega (arith, few, inside, long)) ∙ rw done (rw (sym c) (sym a)),
        drop-set-lt (suc at) places count rank (omega (arith, few)) ∙ behind,
      )

  pub goes : (place rank : ℕ) → place ≡ get_or places at 0 → rank ≡ get_or ranks place no_rank → place < rank
      → (take count places ≡ renumber ranks (take (suc at) old)) × (drop (suc at) places ≡ drop (suc at) old)
  goes place rank e f high =
      let p : place ≡ get_or old at 0 = e ∙ here in
      let b : nat_le (get_or ranks (get_or old at 0) no_rank) (get_or old at 0) ≡ false = rw (sym p, sym f) (lt-leb rank place high) in
      let a : renumber ranks (take (suc at) old) ≡ renumber ranks (take at old) = rw b at all in
      (done ∙ sym a, behind)
