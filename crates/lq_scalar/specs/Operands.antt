-- What borrowed operands show, and what an evaluation answers.
use Rattle.std.specs.Prelude.{◌≡◌, if◌then◌else◌, List, ℕ, ℤ, pos, nat_le, Option, Some, None, Result, Ok, Err}
use Rattle.lq_value.specs.declared.scalar.Scalar.{Scalar}
use Rattle.lq_value.specs.declared.scalar.Scalar.TheVariants as scalar
use Rattle.lq_value.specs.declared.value.Fault.{Fault}
use Rattle.lq_value.specs.declared.value.Fault.TheVariants as fault
use Rattle.lq_scalar.specs.declared.error.ScalarError.{ScalarError}
use Rattle.lq_scalar.specs.declared.error.ScalarError.TheVariants as error
use Rattle.lq_scalar.specs.declared.scalar_ref.ScalarRef.{ScalarRef}
use Rattle.lq_scalar.specs.declared.scalar_ref.ScalarRef.TheVariants as ref

abbrev pub shown_scalar : ScalarRef → Scalar
shown_scalar ref.Null = scalar.Null
shown_scalar (ref.Int n) = scalar.Int n
shown_scalar (ref.Bool b) = scalar.Bool b
shown_scalar (ref.Text t) = scalar.Text t.now

-- The answer is what is meant, a value or a fault; or memory was refused.
abbrev pub IsAnswer : Result Scalar Fault → Result Scalar ScalarError → Type 0
IsAnswer meant (Ok s) = meant ≡ Ok s
IsAnswer meant (Err (error.Fault f)) = meant ≡ Err f
IsAnswer meant (Err error.Memory) = Unit {0}

-- the same of a text
abbrev pub IsText : Result Scalar Fault → Result (List ℕ) ScalarError → Type 0
IsText meant (Ok t) = meant ≡ Ok (scalar.Text t)
IsText meant (Err (error.Fault f)) = meant ≡ Err f
IsText meant (Err error.Memory) = Unit {0}

abbrev pub shown_scalars : Result ScalarRef Fault → Result Scalar Fault
shown_scalars (Ok s) = Ok (shown_scalar s)
shown_scalars (Err f) = Err f

-- a number, or null in place of none
abbrev pub number_or_null : Option ℤ → Scalar
number_or_null (Some n) = scalar.Int n
number_or_null None = scalar.Null

abbrev pub numbers_in : Result (Option ℤ) Fault → Result Scalar Fault
numbers_in (Ok n) = Ok (number_or_null n)
numbers_in (Err f) = Err f

abbrev pub ints_in : Result ℤ Fault → Result Scalar Fault
ints_in (Ok n) = Ok (scalar.Int n)
ints_in (Err f) = Err f

-- an int, where one holds the number
abbrev pub int_or_overflow : Option ℤ → Result Scalar Fault
int_or_overflow (Some n) = Ok (scalar.Int n)
int_or_overflow None = Err fault.Overflow

-- so many units, where an int holds them
abbrev pub units_within : ℕ → Option ℤ
units_within n = if nat_le n 2147483647 then Some (pos n) else None
