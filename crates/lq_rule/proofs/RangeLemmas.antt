-- A comparison with a number is true of the ints of a range.
use Rattle.std.proofs.Common.{◌≡◌, ◌&&◌, if◌then◌else◌, ◌-ℤ◌, ◌+ℤ◌, ℕ, ℤ, pos, negsuc, Bool, true, false, Option, Some, None, Result, Ok, ap, ◌∙◌, sym, refl, subst, arith, slice_get, int_le, int_lt}
use Rattle.std.proofs.lemmas.Bool.{and_parts}
use Rattle.std.proofs.lemmas.Int.{ints}
use Rattle.std.specs.Ordering.{int_eq}
use Rattle.lq_value.specs.declared.scalar.Scalar.{Scalar}
use Rattle.lq_value.specs.declared.scalar.Scalar.TheVariants as scalar
use Rattle.lq_value.specs.declared.value.Fault.{Fault}
use Rattle.lq_value.specs.declared.value.Fault.TheVariants as fault
use Rattle.lq_language.specs.Operations.{compared, is_int, of_two, on_ok, operation_of, truth_of}
use Rattle.lq_grammar.specs.declared.syntax.Binary.{Binary}
use Rattle.lq_grammar.specs.declared.syntax.Binary.TheVariants as binary
use Rattle.lq_rule.specs.Deciding.{AgreesWithin, Meets}
use Rattle.lq_rule.specs.Ranges.{range_verdict, within}
use Rattle.lq_rule.specs.RowMeaning.{with_literal}
use Rattle.lq_rule.specs.declared.prepared.Prepared.TheVariants as prepared
use Rattle.lq_rule.specs.declared.ranges.Ends.{Ends}
use Rattle.lq_rule.specs.declared.ranges.Range.{Range}
use Rattle.lq_rule.proofs.ReadingLemmas.{read_with_literal}

abbrev least : ℤ
least = negsuc 2147483647

abbrev greatest : ℤ
greatest = pos 2147483647

-- ---- the ends

-- no int is less than the least one, or more than the greatest
from_least : (n : ℤ) (upper : Bool) → is_int n ≡ true → int_le least n && upper ≡ upper
from_least n upper is = ap (λ b. b && upper) (and_parts (int_le least n) (int_le n greatest) is).0

to_greatest : (n : ℤ) → is_int n ≡ true → (lower : Bool) → lower && int_le n greatest ≡ lower
to_greatest n is true = (and_parts (int_le least n) (int_le n greatest) is).1
to_greatest n is false = refl

below_is : (n m : ℤ) → int_lt n m ≡ int_le n (m -ℤ pos 1)
below_is n m = grind (arith, ints)

above_is : (n m : ℤ) → int_lt m n ≡ int_le (m +ℤ pos 1) n
above_is n m = grind (arith, ints)

same_is : (n m : ℤ) → int_eq n m ≡ int_le m n && int_le n m
same_is n m = grind (arith, ints)

module _ (n : ℤ) (is : is_int n ≡ true) where
  pub ends_less : (m k : ℤ) → k ≡ m -ℤ pos 1
      → compared fault.NullReference binary.Less (scalar.Int n) (scalar.Int m) ≡ Ok (int_le least n && int_le n k)
  ends_less m k end = ap Ok (below_is n m ∙ ap (int_le n) (sym end) ∙ sym (from_least n (int_le n k) is))

  pub ends_greater : (m k : ℤ) → k ≡ m +ℤ pos 1
      → compared fault.NullReference binary.Greater (scalar.Int n) (scalar.Int m) ≡ Ok (int_le k n && int_le n greatest)
  ends_greater m k end = ap Ok (above_is n m ∙ ap (λ j. int_le j n) (sym end) ∙ sym (to_greatest n is (int_le k n)))

  pub ends_at_most : (m : ℤ)
      → compared fault.NullReference binary.LessOrEqual (scalar.Int n) (scalar.Int m) ≡ Ok (int_le least n && int_le n m)
  ends_at_most m = ap Ok (sym (from_least n (int_le n m) is))

  pub ends_at_least : (m : ℤ)
      → compared fault.NullReference binary.GreaterOrEqual (scalar.Int n) (scalar.Int m) ≡ Ok (int_le m n && int_le n greatest)
  ends_at_least m = ap Ok (sym (to_greatest n is (int_le m n)))

pub ends_equal : (n m : ℤ) → compared fault.NullReference binary.Equal (scalar.Int n) (scalar.Int m) ≡ Ok (int_le m n && int_le n m)
ends_equal n m = ap Ok (same_is n m)

pub ruleset ends = (ends_less, ends_greater, ends_at_most, ends_at_least, ends_equal)

-- ---- what a range says

sign_compares : (sign : Binary) (n m : ℤ) (b : Bool) → compared fault.NullReference sign (scalar.Int n) (scalar.Int m) ≡ Ok b
    → on_ok (of_two fault.NullReference (operation_of sign) (scalar.Int n) (scalar.Int m)) (truth_of fault.NullReference) ≡ Ok b
sign_compares binary.Less n m b is = is
sign_compares binary.Greater n m b is = is
sign_compares binary.LessOrEqual n m b is = is
sign_compares binary.GreaterOrEqual n m b is = is
sign_compares binary.Equal n m b is = is
sign_compares binary.NotEqual n m b is = is
sign_compares other n m b is = cc

module _ (sign : Binary) (number : ℤ) (range : Range)
    (are_ends : (n : ℤ) → is_int n ≡ true → compared fault.NullReference sign (scalar.Int n) (scalar.Int number) ≡ Ok (int_le range.ends.least n && int_le n range.ends.greatest)) where
  within_meets : (cell : Option Scalar) → Meets (within range cell) (on_ok (with_literal sign cell (scalar.Int number)) (truth_of fault.NullReference))
  within_meets None = tt
  within_meets (Some (scalar.Int n)) = by (is_int n) refl where
    by : (b : Bool) → is_int n ≡ b
        → Meets (if b then Some (int_le range.ends.least n && int_le n range.ends.greatest) else None) (on_ok (with_literal sign (Some (scalar.Int n)) (scalar.Int number)) (truth_of fault.NullReference))
    by true is = sign_compares sign n number _ (are_ends n is)
    by false is = tt
  within_meets (Some s) = tt

pub range_agrees : (sign : Binary) (place : ℕ) (number : ℤ) (ends : Ends)
    → ((n : ℤ) → is_int n ≡ true → compared fault.NullReference sign (scalar.Int n) (scalar.Int number) ≡ Ok (int_le ends.least n && int_le n ends.greatest))
    → AgreesWithin (prepared.WithLiteral sign place (scalar.Int number)) (record { place = place; ends = ends })
range_agrees sign place number ends are_ends =
    let range : Range = record { place = place; ends = ends } in
    record {
      at = λ cells user.
          subst (λ (found : Result Scalar Fault). Meets (range_verdict range cells) (on_ok found (truth_of fault.NullReference)))
          (sym (read_with_literal cells user sign place (scalar.Int number)))
          (within_meets sign number range are_ends (slice_get cells place));
    }
