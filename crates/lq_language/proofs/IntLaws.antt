-- An `i32` holds a number exactly where it is no less than the least int and no more than the greatest.
use Rattle.std.proofs.Common.{◌≡◌, ◌&&◌, ℤ, pos, negsuc, true, ap, arith, int_le, SFits, w32}
use Rattle.std.proofs.lemmas.Bool.{and_parts, le-leb, leb-true}

pub is_fit : (z : ℤ) → (int_le (negsuc 2147483647) z && int_le z (pos 2147483647)) ≡ true → SFits w32 z
is_fit (pos n) h = record { sfits = omega (arith, leb-true n 2147483647 h) }
is_fit (negsuc n) h = record { sfits = omega (arith, leb-true n 2147483647 (and_parts (int_le (negsuc 2147483647) (negsuc n)) _ h).0) }

pub fit_is : (z : ℤ) → SFits w32 z → (int_le (negsuc 2147483647) z && int_le z (pos 2147483647)) ≡ true
fit_is (pos n) h = le-leb n 2147483647 (omega (arith, h.sfits))
fit_is (negsuc n) h = ap (λ b. b && true) (le-leb n 2147483647 (omega (arith, h.sfits)))
