-- Numbers in cells, digit by digit.
use Rattle.std.proofs.Common.{drop-cons, ◌≡◌, ◌<◌, ◌+◌, ◌*◌, ◌-◌, ℕ, suc, Bool, true, false, ◌&&◌, List, [], ◌∷◌, length, Option, Some, None, refl, arith, if◌then◌else◌, drop, get_or}
use Rattle.std.specs.Prelude.{nat_le}
use Rattle.std.specs.List.{fold, list_all}
use Rattle.std.proofs.lemmas.Bool.Decides.{nat_tests}
use Rattle.lq_grammar.specs.Tokens.{is_digit}
use Rattle.lq_load.specs.Cells.{bounded, natural_of}

-- a value above the limit stays above it
above_limit : (limit value : ℕ) → limit < value → nat_le value limit ≡ false
above_limit limit value h = grind (arith, nat_tests)

-- the number that digits spell after those of a value, digit by digit
abbrev pub decimal : ℕ → List ℕ → Option ℕ
decimal value [] = Some value
decimal value (c ∷ rest) = if is_digit c then decimal (value * 10 + (c - 48)) rest else None

-- it is their value, where all of them are digits
decimal_is : (value : ℕ) (digits : List ℕ) → decimal value digits ≡ (if list_all is_digit digits then Some (fold (λ v d. v * 10 + (d - 48)) value digits) else None)
decimal_is value [] = refl
decimal_is value (c ∷ rest) = by (is_digit c) (decimal_is (value * 10 + (c - 48)) rest) where
  by : (d : Bool) → decimal (value * 10 + (c - 48)) rest ≡ (if list_all is_digit rest then Some (fold (λ v d. v * 10 + (d - 48)) (value * 10 + (c - 48)) rest) else None) → (if d then decimal (value * 10 + (c - 48)) rest else None)
      ≡ (if d && list_all is_digit rest then Some (fold (λ v d. v * 10 + (d - 48)) (value * 10 + (c - 48)) rest) else None)
  by true behind = behind
  by false behind = refl

pub natural_is : (digits : List ℕ) → 0 < length digits → decimal 0 digits ≡ natural_of digits
natural_is [] some = absurd (omega (arith, some))
natural_is (c ∷ rest) some = decimal_is 0 (c ∷ rest)

digit_or_none : (d : Bool) (x : Option ℕ) (limit : ℕ) → bounded limit x ≡ None → bounded limit (if d then x else None) ≡ None
digit_or_none true x limit e = e
digit_or_none false x limit e = refl

pub decimal_over : (limit value : ℕ) (rest : List ℕ) → limit < value → bounded limit (decimal value rest) ≡ None
decimal_over limit value [] h = rw (above_limit limit value h) refl
decimal_over limit value (c ∷ rest) h = digit_or_none (is_digit c) (decimal (value * 10 + (c - 48)) rest) limit (decimal_over limit (value * 10 + (c - 48)) rest (omega arith))

-- the same where the next digit takes the value above the limit
pub decimal_stops : (limit value place : ℕ) (digits : List ℕ) → place < length digits → limit < value * 10 + (get_or digits place 0 - 48)
    → bounded limit (decimal value (drop place digits)) ≡ None
decimal_stops limit value place digits there over =
    rw (drop-cons digits place 0) (digit_or_none (is_digit (get_or digits place 0)) (decimal (value * 10 + (get_or digits place 0 - 48)) (drop (suc place) digits)) limit
    (decimal_over limit (value * 10 + (get_or digits place 0 - 48)) (drop (suc place) digits) over))
