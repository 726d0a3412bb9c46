-- What comes of the items that a method which makes a number of them has still to read.
use Rattle.std.specs.Prelude.{[], ℤ, map, pos, Option, Some, None, Result, Ok, Err}
use Rattle.lq_value.specs.declared.scalar.Scalar.{Scalar}
use Rattle.lq_value.specs.declared.scalar.Scalar.TheVariants as scalar
use Rattle.lq_value.specs.declared.ty.Ty.{Ty}
use Rattle.lq_value.specs.declared.value.End.{End}
use Rattle.lq_value.specs.declared.value.Fault.{Fault}
use Rattle.lq_value.specs.declared.value.Value.{Value}
use Rattle.lq_language.specs.Enumerable.{at_end, summed}
use Rattle.lq_language.specs.declared.methods.Simple.{Simple}
use Rattle.lq_language.specs.declared.methods.Simple.TheVariants as simple
use Rattle.lq_language.specs.Stream.{Stream}
use Rattle.lq_language.specs.Meaning.{no_number, numbers}
use Rattle.lq_language.specs.Operations.{on_ok}
use Rattle.lq_operators.specs.Numbers.{best_more, best_with, sum_more}
use Rattle.lq_operators.specs.declared.numbers.Extreme.TheVariants as extreme
use Rattle.lq_operators.specs.declared.numbers.Tally.{Tally}
use Rattle.lq_operators.specs.declared.numbers.Tally.TheVariants as tally

-- the tally that a method begins with
abbrev pub begins : Simple → Option Tally
begins simple.Count = Some (tally.Count (pos 0))
begins simple.Sum = Some (tally.Sum (pos 0))
begins simple.Min = Some (tally.Best extreme.Least None)
begins simple.Max = Some (tally.Best extreme.Greatest None)
begins method = None

-- the number that a scalar is; null is none
abbrev pub int_in : Scalar → Option ℤ
int_in (scalar.Int n) = Some n
int_in other = None

-- the tally with an item more, which is this number, or none; or the fault that is met there
abbrev pub tally_with : Tally → Option ℤ → Result Tally Fault
tally_with (tally.Count n) number = on_ok (sum_more n (pos 1)) (λ m. Ok (tally.Count m))
tally_with (tally.Sum n) None = Ok (tally.Sum n)
tally_with (tally.Sum n) (Some m) = on_ok (sum_more n m) (λ k. Ok (tally.Sum k))
tally_with (tally.Best which best) number = Ok (tally.Best which (best_more which best number))

-- the answer where nothing is left to read
abbrev pub tally_result : Ty → Tally → End → Result Scalar Fault
tally_result t (tally.Count n) e = at_end e (Ok (scalar.Int n))
tally_result t (tally.Sum n) e = at_end e (Ok (scalar.Int n))
tally_result t (tally.Best which best) e = at_end e (best_with which (no_number t) best [])

module _ {R : Type 0} where
  -- the answer where a tally was built from the items before, on items of this type
  abbrev pub tallied : Ty → Tally → Stream (Value R) → Result Scalar Fault
  tallied t (tally.Count n) s = summed n (map (λ x. pos 1) s.0) s.1
  tallied t (tally.Sum n) s = summed n (numbers s.0) s.1
  tallied t (tally.Best which best) s = at_end s.1 (best_with which (no_number t) best (numbers s.0))

  -- the same after a step that gave the next tally, or met a fault
  abbrev pub goes_on : Ty → Result Tally Fault → Stream (Value R) → Result Scalar Fault
  goes_on t (Ok next) s = tallied t next s
  goes_on t (Err f) s = Err f
