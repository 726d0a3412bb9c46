-- The words of rights.
use Rattle.std.proofs.Common.{arith, ◌≡◌, ◌==◌, ◌<◌, List, ℕ, Bor, Option, Some, None, length, option_map, MatchOption}
use Rattle.std.specs.List.{after_first, before_first, position_or_len}
use Rattle.lq_policyfile.specs.Rights.{around}

-- ---- words

abbrev Parts : ℕ → List ℕ → Option (Bor (List ℕ) × Bor (List ℕ)) → Type 0
Parts c s r =
    MatchOption r (position_or_len (λ b. b == c) s ≡ length s)
    (λ x. (position_or_len (λ b. b == c) s < length s) × (x.0.now ≡ before_first (λ b. b == c) s) × (x.1.now ≡ after_first (λ b. b == c) s))

pub around_parts : (c : ℕ) (s : List ℕ) (r : Option (Bor (List ℕ) × Bor (List ℕ))) → Parts c s r
    → option_map (λ words. (words.0.now, words.1.now)) r ≡ around c s
around_parts c s None h = grind arith
around_parts c s (Some x) h = grind arith
