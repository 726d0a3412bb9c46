-- Roles as bits of words.
use Rattle.std.proofs.Common.{◌≡◌, ◌∙◌, ℕ, ◌+◌, ◌/◌, ◌%◌, ◌^◌, ◌*◌, ◌<◌, Bool, ◌&&◌, ◌||◌, ◌==◌, List, length, get_or, set, max, refl, ap, sym, inl, inr, nat_lt, arith, eq-eqb, ne_eqb, get_or-set_same, get_or-set_other, w64}
use Rattle.std.proofs.lemmas.Bool.{cases_eq}
use Rattle.std.proofs.lemmas.Bool.Decides.{nat_tests}
use Rattle.std.proofs.lemmas.Nat.Bits.{bit_at-lt, bit_at_or, bit_at_set_other, bit_at_set_same}
use Rattle.std.specs.Int.{bit_at}
use Rattle.std.specs.Prelude.{bit_or}

-- the bit of a role
abbrev pub is_bit : List ℕ → ℕ → Bool
is_bit words n = bit_at (get_or words (n / 64) 0) (n % 64) == 1

-- bits of equal words
same_bits : (words others : List ℕ) (n : ℕ) → get_or words (n / 64) 0 ≡ get_or others (n / 64) 0 → is_bit words n ≡ is_bit others n
same_bits words others n same = ap (λ word. bit_at word (n % 64) == 1) same

-- one bit set
pub one_set : (words : List ℕ) (number n : ℕ) → number / 64 < length words
    → is_bit (set words (number / 64) (bit_or (get_or words (number / 64) 0) (1 * 2 ^ (number % 64) % 2 ^ 64))) n ≡ (number == n) || is_bit words n
one_set words number n within =
    let word : ℕ = get_or words (number / 64) 0 in
    let after : ℕ = bit_or word (1 * 2 ^ (number % 64) % 2 ^ 64) in
    let low : number % 64 < 64 = omega arith in
    elim (cases_eq n number) [
      | inl same ↦
          rw same
          (ap (λ w. bit_at w (number % 64) == 1) (get_or-set_same words (number / 64) after 0 within)
          ∙ eq-eqb _ 1 (bit_at_set_same w64 word (number % 64) low)
          ∙ ap (λ b. b || is_bit words number) (sym (eq-eqb number number refl)))
      | inr other ↦
          (elim (cases_eq (n / 64) (number / 64)) as (λ _. is_bit (set words (number / 64) after) n ≡ is_bit words n) [
            | inl row ↦
                ap (λ k. bit_at (get_or (set words (number / 64) after) k 0) (n % 64) == 1) row
                ∙ ap (λ w. bit_at w (n % 64) == 1) (get_or-set_same words (number / 64) after 0 within)
                ∙ ap (λ bit. bit == 1) (bit_at_set_other w64 word (number % 64) low (n % 64) (omega arith))
                ∙ ap (λ k. bit_at (get_or words k 0) (n % 64) == 1) (sym row)
            | inr apart ↦ same_bits (set words (number / 64) after) words n (get_or-set_other words (number / 64) (n / 64) after 0 apart)
          ])
          ∙ ap (λ b. b || is_bit words n) (sym (ne_eqb number n (λ same. other (sym same))))
    ]

either : (x y : ℕ) → x < 2 → y < 2 → (max x y == 1) ≡ (y == 1) || (x == 1)
either x y low small = grind (arith, nat_tests)

-- a bit of either of two words
either_bit : (a b i : ℕ) → (bit_at (bit_or a b) i == 1) ≡ (bit_at b i == 1) || (bit_at a i == 1)
either_bit a b i = ap (λ bit. bit == 1) (bit_at_or a b i) ∙ either (bit_at a i) (bit_at b i) (bit_at-lt a i) (bit_at-lt b i)

-- one more word of others joined to words that hold the ones before
pub one_joined : (words others : List ℕ) (place n : ℕ) (was : Bool) → place < length words
    → is_bit words n ≡ (nat_lt (n / 64) place && is_bit others n) || was
    → is_bit (set words place (bit_or (get_or words place 0) (get_or others place 0))) n ≡ (nat_lt (n / 64) (place + 1) && is_bit others n) || was
one_joined words others place n was within so_far =
    let after : ℕ = bit_or (get_or words place 0) (get_or others place 0) in
    elim (cases_eq (n / 64) place) [
      | inl here ↦
          let joined : is_bit (set words place after) n ≡ is_bit others n || is_bit words n =
          ap (λ k. bit_at (get_or (set words place after) k 0) (n % 64) == 1) here
          ∙ ap (λ w. bit_at w (n % 64) == 1) (get_or-set_same words place after 0 within)
          ∙ either_bit (get_or words place 0) (get_or others place 0) (n % 64)
          ∙ ap (λ k. (bit_at (get_or others k 0) (n % 64) == 1) || (bit_at (get_or words k 0) (n % 64) == 1)) (sym here) in
          joined ∙ grind (arith, nat_tests)
      | inr apart ↦
          same_bits (set words place after) words n (get_or-set_other words place (n / 64) after 0 apart) ∙ so_far ∙ grind (arith, nat_tests)
    ]
