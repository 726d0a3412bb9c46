-- Why a statement stops, and what the machine answers then.
use Rattle.std.specs.Prelude.{◌≡◌, List, ℕ, Result, Ok, Err}
use Rattle.serde_json.specs.Data.{Data}
use Rattle.lq_machine.specs.Served.{error_data, line_of}
use Rattle.lq_machine.specs.States.{State}
use Rattle.lq_machine.specs.Statements.{Outcome}
use Rattle.lq_run.specs.declared.stop.Stop.{Stop}
use Rattle.lq_run.specs.declared.stop.Stop.TheVariants as stop

-- stops with the line of this reply; where memory was refused nothing is known
abbrev pub StopsWith : Data → Stop → Type 0
StopsWith reply (stop.Answer line) = line ≡ line_of reply
StopsWith reply stop.Memory = Unit {0}

-- stops in this state with what the machine answers, which leaves the state as it is
abbrev pub Stops : State → Outcome → Stop → Type 0
Stops s answer (stop.Answer line) = (line ≡ line_of answer.0) × (s ≡ answer.1)
Stops s answer stop.Memory = Unit {0}

-- the line of this reply, at the end or before it
abbrev pub IsAnswered : Data → Result (List ℕ) Stop → Type 0
IsAnswered reply (Ok line) = line ≡ line_of reply
IsAnswered reply (Err why) = StopsWith reply why

-- stops by the refusal of this word, which there is only where this is so
abbrev pub Refuses : List ℕ → Type 0 → Stop → Type 0
Refuses word is_so (stop.Answer line) = is_so × (line ≡ line_of (error_data word))
Refuses word is_so stop.Memory = Unit {0}
