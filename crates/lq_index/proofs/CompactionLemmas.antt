-- Groups that get new numbers.
use Rattle.std.proofs.Common.{◌≡◌, ◌<◌, ◌≤◌, ◌+◌, ℕ, zero, suc, Bool, true, false, List, [], ◌∷◌, length, refl, arith, ap, sym, ◌∙◌, get_or, nat_le, subst}
use Rattle.std.proofs.lemmas.Bool.{le-leb, lt-leb}
use Rattle.std.specs.Prelude.{filter}
use Rattle.lq_value.specs.declared.scalar.Scalar.{Scalar}
use Rattle.lq_index.specs.Entries.{Entry, IsIndex}
use Rattle.lq_index.specs.Slots.{AreOwned, entry_at, is_free, places_in, slot_at}
use Rattle.lq_index.specs.Compactions.{has_some, number_of, number_slot, number_spot, numbers_from}
use Rattle.lq_index.specs.declared.slot.Slot.{Slot}
use Rattle.lq_index.specs.declared.slot.Spot.{Spot}
use Rattle.lq_index.specs.declared.slot.Spot.TheVariants as spot

none_of : (ps : List ℕ) → has_some ps ≡ false → ps ≡ []
none_of [] e = refl
none_of (p ∷ ps) e = absurd (cc e)

-- a group that stays has the number k + r, and is found there
record Stays (k i d : ℕ) (n : ℕ) (groups : List (List ℕ)) : Type 0 where
  r : ℕ
  is : get_or (numbers_from k n groups) i d ≡ k + r
  there : get_or (filter has_some groups) r [] ≡ get_or groups i []
  low : r ≤ i
  inside : r < length (filter has_some groups)

stays : (k i d n : ℕ) (groups : List (List ℕ)) → has_some (get_or groups i []) ≡ true → Stays k i d n groups
stays k i d n [] e = absurd (cc e)
stays k zero d n (ps ∷ groups) e =
    let first : k ≡ k + 0 = omega arith in
    let f : has_some ps ≡ true = e in
    record { r = 0; is = rw f first; there = rw f refl; low = omega arith; inside = rw f (omega arith) }
stays k (suc i) d n (ps ∷ groups) e = by (stays (suc k) i d (suc n) groups) (stays k i d (suc n) groups) (has_some ps) refl
  where
    by : (has_some (get_or groups i []) ≡ true → Stays (suc k) i d (suc n) groups) → (has_some (get_or groups i []) ≡ true → Stays k i d (suc n) groups)
        → (b : Bool) → has_some ps ≡ b → Stays k (suc i) d n (ps ∷ groups)
    by more less true f =
        let s = more e in
        let z : suc k + s.r ≡ k + suc s.r = omega arith in
        record { r = suc s.r; is = rw f (s.is ∙ z); there = rw f s.there; low = omega (arith, s.low); inside = rw f (omega (arith, s.inside)) }
    by more less false f =
        let s = less e in
        record { r = s.r; is = rw f s.is; there = rw f s.there; low = omega (arith, s.low); inside = rw f s.inside }

-- a group that is let go has the number behind its own
goes : (k n i : ℕ) (groups : List (List ℕ)) → has_some (get_or groups i []) ≡ false → get_or (numbers_from k n groups) i (suc (n + i)) ≡ suc (n + i)
goes k n i [] e = refl
goes k n zero (ps ∷ groups) e =
    let z : suc n ≡ suc (n + 0) = omega arith in
    let f : has_some ps ≡ false = e in
    rw f z
goes k n (suc i) (ps ∷ groups) e = by (goes (suc k) (suc n) i groups e) (goes k (suc n) i groups e) (has_some ps) refl
  where
    z : suc (suc n + i) ≡ suc (n + suc i)
    z = omega arith

    by : get_or (numbers_from (suc k) (suc n) groups) i (suc (suc n + i)) ≡ suc (suc n + i) → get_or (numbers_from k (suc n) groups) i (suc (suc n + i)) ≡ suc (suc n + i)
        → (b : Bool) → has_some ps ≡ b → get_or (numbers_from k n (ps ∷ groups)) (suc i) (suc (n + suc i)) ≡ suc (n + suc i)
    by more less true f = rw f (subst (λ (d : ℕ). get_or (numbers_from (suc k) (suc n) groups) i d ≡ d) z more)
    by more less false f = rw f (subst (λ (d : ℕ). get_or (numbers_from k (suc n) groups) i d ≡ d) z less)

-- groups that stay have different numbers
apart : (k n i j d e : ℕ) (groups : List (List ℕ)) → has_some (get_or groups i []) ≡ true → has_some (get_or groups j []) ≡ true
    → get_or (numbers_from k n groups) i d ≡ get_or (numbers_from k n groups) j e → i ≡ j
apart k n i j d e [] f g h = absurd (cc f)
apart k n zero zero d e (ps ∷ groups) f g h = refl
apart k n zero (suc j) d e (ps ∷ groups) f g h =
    let s = stays (suc k) j e (suc n) groups g in
    let b : has_some ps ≡ true = f in
    let level : k ≡ get_or (numbers_from (suc k) (suc n) groups) j e = rw b at h in
    let clash : k ≡ suc k + s.r = level ∙ s.is in
    absurd (omega (arith, clash))
apart k n (suc i) zero d e (ps ∷ groups) f g h =
    let s = stays (suc k) i d (suc n) groups f in
    let b : has_some ps ≡ true = g in
    let level : get_or (numbers_from (suc k) (suc n) groups) i d ≡ k = rw b at h in
    let clash : k ≡ suc k + s.r = sym level ∙ s.is in
    absurd (omega (arith, clash))
apart k n (suc i) (suc j) d e (ps ∷ groups) f g h = by (apart (suc k) (suc n) i j d e groups f g) (apart k (suc n) i j d e groups f g) (has_some ps) refl
  where
    by : (get_or (numbers_from (suc k) (suc n) groups) i d ≡ get_or (numbers_from (suc k) (suc n) groups) j e → i ≡ j)
        → (get_or (numbers_from k (suc n) groups) i d ≡ get_or (numbers_from k (suc n) groups) j e → i ≡ j)
        → (b : Bool) → has_some ps ≡ b → suc i ≡ suc j
    by more less true b =
        let level : get_or (numbers_from (suc k) (suc n) groups) i d ≡ get_or (numbers_from (suc k) (suc n) groups) j e = rw b at h in
        ap suc (more level)
    by more less false b =
        let level : get_or (numbers_from k (suc n) groups) i d ≡ get_or (numbers_from k (suc n) groups) j e = rw b at h in
        ap suc (less level)

module _ (groups : List (List ℕ)) (numbers : List ℕ) (are : numbers ≡ numbers_from 0 0 groups) where
  -- what becomes of a group that stays
  record Moves (g : ℕ) : Type 0 where
    low : nat_le (number_of numbers g) g ≡ true
    there : get_or (filter has_some groups) (number_of numbers g) [] ≡ get_or groups g []
    inside : number_of numbers g < length (filter has_some groups)

  moves : (g : ℕ) → has_some (get_or groups g []) ≡ true → Moves g
  moves g e =
      let s = stays 0 g (suc g) 0 groups e in
      let z : 0 + s.r ≡ s.r = omega arith in
      let is : number_of numbers g ≡ s.r = rw are (s.is ∙ z) in
      record { low = rw is (le-leb s.r g s.low); there = rw is s.there; inside = rw is s.inside }

  -- and of one that is let go
  ends : (g : ℕ) → has_some (get_or groups g []) ≡ false → nat_le (number_of numbers g) g ≡ false
  ends g e =
      let z : suc (0 + g) ≡ suc g = omega arith in
      let is : number_of numbers g ≡ suc g = rw are (subst (λ (d : ℕ). get_or (numbers_from 0 0 groups) g d ≡ d) z (goes 0 0 g groups e)) in
      rw is (lt-leb (suc g) g (omega arith))

  same_places : (one : Spot) → places_in (filter has_some groups) (number_spot numbers one) ≡ places_in groups one
  same_places spot.Free = refl
  same_places spot.Dead = refl
  same_places (spot.One p) = refl
  same_places (spot.Many g) = by (has_some (get_or groups g [])) refl
    where
      by : (b : Bool) → has_some (get_or groups g []) ≡ b → places_in (filter has_some groups) (number_spot numbers (spot.Many g)) ≡ get_or groups g []
      by true e = let m = moves g e in rw m.low m.there
      by false e = rw (ends g e) (sym (none_of (get_or groups g []) e))

  same_free : (one : Spot) → is_free (number_spot numbers one) ≡ is_free one
  same_free spot.Free = refl
  same_free spot.Dead = refl
  same_free (spot.One p) = refl
  same_free (spot.Many g) = by (nat_le (number_of numbers g) g) refl
    where
      by : (b : Bool) → nat_le (number_of numbers g) g ≡ b → is_free (number_spot numbers (spot.Many g)) ≡ false
      by true e = rw e refl
      by false e = rw e refl

  -- the group that a numbered spot was of
  record WasMany (one : Spot) (n : ℕ) : Type 0 where
    g : ℕ
    is : one ≡ spot.Many g
    some : has_some (get_or groups g []) ≡ true
    number : number_of numbers g ≡ n

  many_of : (m n : ℕ) → spot.Many m ≡ spot.Many n → m ≡ n
  many_of m n e = cc e

  was_many : (one : Spot) (n : ℕ) → number_spot numbers one ≡ spot.Many n → WasMany one n
  was_many spot.Free n e = absurd (cc e)
  was_many spot.Dead n e = absurd (cc e)
  was_many (spot.One p) n e = absurd (cc e)
  was_many (spot.Many g) n e = by (has_some (get_or groups g [])) refl
    where
      by : (b : Bool) → has_some (get_or groups g []) ≡ b → WasMany (spot.Many g) n
      by true f =
          let is : spot.Many (number_of numbers g) ≡ spot.Many n = rw (moves g f).low at e in
          record { g = g; is = refl; some = f; number = many_of (number_of numbers g) n is }
      by false f = let clash : spot.Dead ≡ spot.Many n = rw (ends g f) at e in absurd (cc clash)

  module _ (slots slots' : List Slot) (each : (t : ℕ) → slot_at slots' t ≡ number_slot numbers (slot_at slots t)) where
    same_entry : (t : ℕ) → entry_at (filter has_some groups) slots' t ≡ entry_at groups slots t
    same_entry t = rw (each t, same_free (slot_at slots t).spot, same_places (slot_at slots t).spot) refl

    -- the index stays that of the same cells
    pub same_index : (width : ℕ) (cells : List Scalar) → IsIndex width (entry_at groups slots) cells → IsIndex width (entry_at (filter has_some groups) slots') cells
    same_index width cells index = subst (λ (f : ℕ → Entry). IsIndex width f cells) (λ i t. sym (same_entry t) i) index

    was_at : (t n : ℕ) → (slot_at slots' t).spot ≡ spot.Many n → WasMany (slot_at slots t).spot n
    was_at t n e = was_many (slot_at slots t).spot n (rw (each t) at e)

    one_owner : (s t n : ℕ) → AreOwned groups slots → WasMany (slot_at slots s).spot n → WasMany (slot_at slots t).spot n → s ≡ t
    one_owner s t n owned a b =
        let level : get_or (numbers_from 0 0 groups) a.g (suc a.g) ≡ get_or (numbers_from 0 0 groups) b.g (suc b.g) = rw are at (a.number ∙ sym b.number) in
        let one : a.g ≡ b.g = apart 0 0 a.g b.g (suc a.g) (suc b.g) groups a.some b.some level in
        owned.once s t a.g a.is (b.is ∙ ap (λ (g : ℕ). spot.Many g) (sym one))

    pub owned_same : AreOwned groups slots → AreOwned (filter has_some groups) slots'
    owned_same owned = record {
      there = λ s n e. let w = was_at s n e in subst (λ (m : ℕ). m < length (filter has_some groups)) w.number (moves w.g w.some).inside;
      once = λ s t n e f. one_owner s t n owned (was_at s n e) (was_at t n f);
    }
