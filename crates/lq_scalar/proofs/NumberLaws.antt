-- Checked arithmetic of ints answers what the definitions say.
use Rattle.std.proofs.Common.{◌≡◌, zero, suc, ℤ, pos, negsuc, Bool, true, false, Option, Some, None, Ok, Err, ap, refl, sym, ◌∙◌, arith, true≢false, if◌then◌else◌, SFits, w32}
use Rattle.std.specs.Prelude.{int_div, int_rem}
use Rattle.std.specs.Int.{CanDivide, IsNonZero}
use Rattle.std.specs.Option.{SomeIff}
use Rattle.std.specs.Ordering.{int_eq}
use Rattle.lq_language.proofs.IntLaws.{fit_is, is_fit}
use Rattle.lq_value.specs.declared.scalar.Scalar.TheVariants as scalar
use Rattle.lq_value.specs.declared.value.Fault.TheVariants as fault
use Rattle.lq_language.specs.Operations.{checked, divided, is_int, left_over, on_ok}
use Rattle.lq_scalar.specs.Operands.{int_or_overflow}

-- what checked arithmetic answers, as the definitions say it
pub checked_is : (r : Option ℤ) (z : ℤ) → SomeIff r (SFits w32 z) z → int_or_overflow r ≡ checked z
checked_is (Some n) z h = ap (λ (m : ℤ). Ok (scalar.Int m)) h.1 ∙ ap (λ b. if b then Ok (scalar.Int z) else Err fault.Overflow) (sym (fit_is z h.0))
checked_is None z h = by (is_int z) refl where
  by : (b : Bool) → is_int z ≡ b → Err fault.Overflow ≡ (if b then Ok (scalar.Int z) else Err fault.Overflow)
  by true is = absurd (h (is_fit z is))
  by false is = refl

not_zero : (n : ℤ) → SFits w32 n → int_eq n (pos 0) ≡ false → IsNonZero w32 n
not_zero (pos zero) fits h = absurd (true≢false h)
not_zero (pos (suc k)) fits h = omega arith
not_zero (negsuc k) fits h = omega (arith, fits.sfits)

can_divide : (m n : ℤ) → SFits w32 n → int_eq n (pos 0) ≡ false → is_int (int_div m n) ≡ true → CanDivide w32 m n
can_divide m n fits h is = (not_zero n fits h, is_fit (int_div m n) is)

pub quotient_is : (r : Option ℤ) (m n : ℤ) → SFits w32 n → int_eq n (pos 0) ≡ false → SomeIff r (CanDivide w32 m n) (int_div m n) → int_or_overflow r ≡ divided m n
quotient_is r m n fits h is = by r is ∙ ap (λ b. if b then Err fault.DivideByZero else checked (int_div m n)) (sym h) where
  by : (o : Option ℤ) → SomeIff o (CanDivide w32 m n) (int_div m n) → int_or_overflow o ≡ checked (int_div m n)
  by (Some q) k = checked_is (Some q) (int_div m n) (k.0.1, k.1)
  by None k = checked_is None (int_div m n) (λ fit. k (not_zero n fits h, fit))

pub remainder_is : (r : Option ℤ) (m n : ℤ) → SFits w32 n → int_eq n (pos 0) ≡ false → SomeIff r (CanDivide w32 m n) (int_rem m n) → int_or_overflow r ≡ left_over m n
remainder_is r m n fits h is =
    by r is (is_int (int_div m n)) refl
    ∙ ap (λ b. if b then Err fault.DivideByZero else on_ok (checked (int_div m n)) (λ quotient. Ok (scalar.Int (int_rem m n)))) (sym h)
  where
    by : (o : Option ℤ) → SomeIff o (CanDivide w32 m n) (int_rem m n) → (b : Bool) → is_int (int_div m n) ≡ b
        → int_or_overflow o ≡ on_ok (if b then Ok (scalar.Int (int_div m n)) else Err fault.Overflow) (λ quotient. Ok (scalar.Int (int_rem m n)))
    by (Some q) k true fit = ap (λ (z : ℤ). Ok (scalar.Int z)) k.1
    by (Some q) k false fit = absurd (true≢false (sym (fit_is (int_div m n) k.0.1) ∙ fit))
    by None k true fit = absurd (k (can_divide m n fits h fit))
    by None k false fit = refl
