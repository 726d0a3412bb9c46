-- How many items of a source settle what a method answers (.NET, Enumerable).
use Rattle.std.specs.Prelude.{◌+◌, ℕ, zero, suc, ℤ, pos, negsuc, Bool, true, false, Option, Some, None, Result, Ok, Err}
use Rattle.lq_value.specs.declared.scalar.Scalar.TheVariants as scalar
use Rattle.lq_value.specs.declared.value.Fault.{Fault}
use Rattle.lq_value.specs.declared.value.Value.{Value, out-Value}
use Rattle.lq_value.specs.declared.value.Value.TheOpen.{Value-F}
use Rattle.lq_language.specs.Enumerable.{as_count, take_first}
use Rattle.lq_language.specs.Stream.{Stream}
use Rattle.lq_language.specs.declared.methods.Given.{Given}
use Rattle.lq_language.specs.declared.methods.Given.TheVariants as given
use Rattle.lq_language.specs.declared.methods.Simple.{Simple}
use Rattle.lq_language.specs.declared.methods.Simple.TheVariants as simple

-- the first item decides, or it is a second one that is a fault; every other method reads its source whole
abbrev pub simple_limit : Simple → Option ℕ
simple_limit simple.Any = Some 1
simple_limit simple.First = Some 1
simple_limit simple.FirstOrDefault = Some 1
simple_limit simple.Single = Some 2
simple_limit simple.SingleOrDefault = Some 2
simple_limit method = None

-- the items up to a number, or up to the place that it is
abbrev pub number_limit : Given → ℤ → Option ℕ
number_limit given.Take n = Some (as_count n)
number_limit given.ElementAt (pos n) = Some (n + 1)
number_limit given.ElementAt (negsuc n) = Some 0
number_limit method n = None

-- an argument that is a fault is the answer of these, and nothing is read
abbrev pub fault_limit : Given → Option ℕ
fault_limit given.Skip = Some 0
fault_limit given.Take = Some 0
fault_limit given.ElementAt = Some 0
fault_limit given.Contains = Some 0
fault_limit method = None

module _ {R : Type 0} where
  abbrev pub value_limit : Given → Value-F R (Value R) → Option ℕ
  value_limit method (Value-F.Scalar (scalar.Int n)) = number_limit method n
  value_limit method layer = None

  abbrev pub given_limit : Given → Result (Value R) Fault → Option ℕ
  given_limit method (Ok v) = value_limit method (out-Value R v)
  given_limit method (Err f) = fault_limit method

-- what is left of a limit once one item more is read, or that it is reached
abbrev pub one_less : Option ℕ → Option (Option ℕ)
one_less (Some zero) = None
one_less (Some (suc n)) = Some (Some n)
one_less None = Some None

-- whether no item is read at all
abbrev pub is_zero : Option ℕ → Bool
is_zero (Some zero) = true
is_zero limit = false

-- the items up to a limit, where there is one, and how they end as far as they are read
abbrev pub read_first : {A : Type 0} → Option ℕ → Stream A → Stream A
read_first (Some n) s = take_first n s.0 s.1
read_first None s = s
