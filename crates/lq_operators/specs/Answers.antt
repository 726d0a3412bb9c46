-- What an operator answers.
use Rattle.std.specs.Prelude.{◌≡◌, Result, Ok, Err}
use Rattle.lq_value.specs.declared.value.Fault.{Fault}
use Rattle.lq_value.specs.declared.value.Value.{Value}
use Rattle.lq_operators.specs.declared.error.RunError.{RunError}
use Rattle.lq_operators.specs.declared.error.RunError.TheVariants as error

-- The answer is what is meant, a value or a fault; or memory was refused.
abbrev pub IsAnswer : {R : Type 0} → Result (Value R) Fault → Result (Value R) RunError → Type 0
IsAnswer meant (Ok v) = meant ≡ Ok v
IsAnswer meant (Err (error.Fault f)) = meant ≡ Err f
IsAnswer meant (Err error.Memory) = Unit {0}
