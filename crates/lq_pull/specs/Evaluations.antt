-- What a run answers, apart from a refusal of memory.
use Rattle.std.specs.Prelude.{◌≡◌, Result, Ok, Err}
use Rattle.std.specs.declared.alloc.AllocError.{AllocError}
use Rattle.lq_value.specs.declared.value.Fault.{Fault}
use Rattle.lq_value.specs.declared.value.Value.{Value}
use Rattle.lq_operators.specs.declared.error.RunError.{RunError}
use Rattle.lq_operators.specs.declared.error.RunError.TheVariants as error

-- what a run answers is found: its value or its fault, where memory wasn't refused
abbrev pub Finds : {R : Type 0} → Result (Value R) RunError → Result (Result (Value R) Fault) AllocError → Type 0
Finds (Ok v) (Ok found) = found ≡ Ok v
Finds (Err (error.Fault f)) (Ok found) = found ≡ Err f
Finds (Err error.Memory) (Err e) = Unit {0}
Finds answer result = ⊥
