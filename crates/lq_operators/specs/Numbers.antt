-- The least and the greatest of numbers, under one name.
use Rattle.std.specs.Prelude.{List, ℤ, ◌+ℤ◌, if◌then◌else◌, Result, Option, Some, None, Ok, Err, fold}
use Rattle.lq_value.specs.declared.scalar.Scalar.{Scalar}
use Rattle.lq_value.specs.declared.scalar.Scalar.TheVariants as scalar
use Rattle.lq_value.specs.declared.value.Fault.{Fault}
use Rattle.lq_value.specs.declared.value.Fault.TheVariants as fault
use Rattle.lq_language.specs.Enumerable.{extreme, greater, lesser}
use Rattle.lq_language.specs.Operations.{is_int}
use Rattle.lq_operators.specs.declared.numbers.Extreme.{Extreme}
use Rattle.lq_operators.specs.declared.numbers.Extreme.TheVariants.{Least, Greatest}

-- the lesser or the greater of two numbers
abbrev pub better : Extreme → ℤ → ℤ → ℤ
better Least = lesser
better Greatest = greater

abbrev pub best_of : Extreme → Result Scalar Fault → List ℤ → Result Scalar Fault
best_of which none ns = extreme (better which) none ns

-- the same, where some numbers were read before, and this is the best of them
abbrev pub best_with : Extreme → Result Scalar Fault → Option ℤ → List ℤ → Result Scalar Fault
best_with which none None ns = best_of which none ns
best_with which none (Some n) ns = Ok (scalar.Int (fold (better which) n ns))

-- the best of numbers with one more, where there is one
abbrev pub best_more : Extreme → Option ℤ → Option ℤ → Option ℤ
best_more which best None = best
best_more which None (Some n) = Some n
best_more which (Some m) (Some n) = Some (better which m n)

-- a sum that an int holds, or an overflow
abbrev pub sum_more : ℤ → ℤ → Result ℤ Fault
sum_more total n = if is_int (total +ℤ n) then Ok (total +ℤ n) else Err fault.Overflow
