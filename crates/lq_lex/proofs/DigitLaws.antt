-- The value of digits grows with each of them.
use Rattle.std.proofs.Common.{◌≡◌, ℕ, ◌+◌, ◌*◌, ◌-◌, ◌<◌, ◌≤◌, List, [], ◌∷◌, length, get_or, drop, arith}
use Rattle.std.specs.List.{fold}
use Rattle.std.proofs.lemmas.List.{at_drop_more}
use Rattle.lq_grammar.specs.Tokens.{decimal_value}

value_grows : (digits : List ℕ) (value : ℕ) → value ≤ fold (λ v d. v * 10 + (d - 48)) value digits
value_grows [] value = omega arith
value_grows (d ∷ digits) value = omega (arith, value_grows digits (value * 10 + (d - 48)))

-- digits whose first have a value over the limit have one themselves
pub past_limit : (digits : List ℕ) (i value limit other : ℕ) → i < length digits → fold (λ v d. v * 10 + (d - 48)) value (drop i digits) ≡ decimal_value digits
    → limit ≤ value * 10 + (get_or digits i other - 48) → limit ≤ decimal_value digits
past_limit digits i value limit other within so_far past =
    let step = at_drop_more (fold (λ v d. v * 10 + (d - 48)) value) digits i other within in
    omega (arith, value_grows (drop (i + 1) digits) (value * 10 + (get_or digits i other - 48)))
