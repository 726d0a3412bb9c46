-- What is found of the type by which a line is served.
use Rattle.std.specs.Prelude.{◌≡◌, List, ℕ, Option, None, Result, Ok, Err}
use Rattle.lq_value.specs.declared.ty.Ty.{Ty}
use Rattle.lq_machine.specs.ServedTypes.{line_type}
use Rattle.lq_machine.specs.States.{State}
use Rattle.lq_run.specs.declared.stop.Stop.{Stop}
use Rattle.lq_run.specs.declared.stop.Stop.TheVariants as stop

-- this is that type; where its statement stops before there is none
abbrev pub ServesLine : State → List ℕ → Result (Option Ty) Stop → Type 0
ServesLine s line (Ok found) = found ≡ line_type s line
ServesLine s line (Err (stop.Answer reply)) = None ≡ line_type s line
ServesLine s line (Err stop.Memory) = Unit {0}
