-- Lemmas on the lines of bytes that are there.
use Rattle.std.proofs.Common.{◌≡◌, ◌+◌, ◌<◌, ◌==◌, ℕ, zero, suc, Bool, true, false, List, [], ◌∷◌, Some, None, cond, length, get_or, nat_lt, take, drop, refl, subst, add-one, arith}
use Rattle.std.specs.List.{position, position_or_len}
use Rattle.std.proofs.lemmas.Bool.Decides.{nat_tests}
use Rattle.std.proofs.lemmas.List.Quantifiers.{position-Some}
use Rattle.std.proofs.lemmas.List.Sums.{fails_before_first}
use Rattle.lq_grammar.specs.Script.{lines_of}
use Rattle.lq_grammar.proofs.ScriptLaws.{lines_of-last}

-- the first line feed stands at this place
pub lines-cut : (bytes : List ℕ) (feed : ℕ) → feed < length bytes → (get_or bytes feed 0 == 10) ≡ true
    → ((k : ℕ) → k < feed → (get_or bytes k 0 == 10) ≡ false) → lines_of bytes ≡ take feed bytes ∷ lines_of (drop (suc feed) bytes)
lines-cut [] feed below feeds others = let never : ⊥ = omega (arith, below) in absurd never
lines-cut (b ∷ bytes) zero below feeds others = let is : (b == 10) ≡ true = feeds in rw is refl
lines-cut (b ∷ bytes) (suc feed) below feeds others =
    let other : (b == 10) ≡ false = others 0 (omega arith) in
    rw (other, lines-cut bytes feed (omega arith) feeds (λ k under. others (suc k) (omega (arith, under)))) refl

-- there is no line feed
pub lines-uncut : (bytes : List ℕ) → 0 < length bytes → ((k : ℕ) → k < length bytes → (get_or bytes k 0 == 10) ≡ false) → lines_of bytes ≡ bytes ∷ []
lines-uncut bytes some others =
    lines_of-last bytes some (λ i below is. let never : (10 == 10) ≡ false = subst (λ n. (n == 10) ≡ false) is (others i below) in cc)

-- the first line feed has this place
pub lines-at : (bytes : List ℕ) (feed : ℕ) → position (λ b. b == 10) bytes ≡ Some feed → lines_of bytes ≡ take feed bytes ∷ lines_of (drop (feed + 1) bytes)
lines-at bytes feed found =
    let facts = position-Some (λ b. b == 10) bytes feed 0 found in
    rw add-one (lines-cut bytes feed facts.0 facts.1 facts.2)

-- nothing passes a test that has no place
pub position-None : (p : ℕ → Bool) (xs : List ℕ) → position p xs ≡ None → (k : ℕ) → k < length xs → p (get_or xs k 0) ≡ false
position-None p xs none k below = by (nat_lt (position_or_len p xs) (length xs)) refl none
  where
    by : (b : Bool) → nat_lt (position_or_len p xs) (length xs) ≡ b → cond b (Some (position_or_len p xs)) None ≡ None → p (get_or xs k 0) ≡ false
    by true e is = cc
    by false e is = fails_before_first p xs k 0 (grind (arith, nat_tests, below))
