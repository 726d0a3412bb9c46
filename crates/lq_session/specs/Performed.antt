-- What performing a statement answers and leaves.
use Rattle.std.specs.Prelude.{◌≡◌, List, [], ℕ, Option, Some, Result, Ok, Err}
use Rattle.lq_value.specs.declared.scalar.Scalar.{Scalar}
use Rattle.lq_host.specs.Predicates.{Predicate}
use Rattle.lq_machine.specs.Machine.{Reply}
use Rattle.lq_machine.specs.Served.{line_of}
use Rattle.lq_machine.specs.States.{State}
use Rattle.lq_machine.specs.Statements.{Outcome}
use Rattle.lq_run.specs.States.{AreKnown, SessionState, state_with}
use Rattle.lq_run.specs.Stops.{Stops}
use Rattle.lq_run.specs.declared.stop.Stop.{Stop}
use Rattle.lq_run.specs.declared.stop.Stop.TheVariants as stop
use Rattle.lq_session.specs.declared.replies.NoRow.{NoRow}

-- a row that is in no reply
abbrev pub no_cells : NoRow → List Scalar
no_cells row = []

-- the outcome's line and the state after it; where the statement stops the state is as it was
abbrev pub Performs : Outcome → State → Result (List ℕ) Stop → State → Type 0
Performs outcome old (Ok line) new = (line ≡ line_of outcome.0) × (new ≡ outcome.1)
Performs outcome old (Err why) new = Stops old outcome why × (new ≡ old)

-- The same of a session, with these predicates in the machine's state. Where the statement stops the session is as it was.
abbrev pub PerformsWith : List Predicate → Outcome → SessionState → Result (List ℕ) Stop → SessionState → Type 0
PerformsWith predicates outcome old (Ok line) new = (line ≡ line_of outcome.0) × (state_with predicates new ≡ outcome.1)
PerformsWith predicates outcome old (Err why) new = Stops (state_with predicates old) outcome why × (new ≡ old)

-- and with any predicates of the known names, whatever the outcome is in the machine's state then
abbrev pub PerformsWithAny : (State → Outcome) → SessionState → Result (List ℕ) Stop → SessionState → Type 0
PerformsWithAny outcome old result new =
    (predicates : List Predicate) → AreKnown predicates old → PerformsWith predicates (outcome (state_with predicates old)) old result new

-- the same of a step, whose line may say nothing
abbrev pub Steps : Reply × State → State → Result (Option (List ℕ)) Stop → State → Type 0
Steps outcome old (Ok reply) new = (reply ≡ outcome.0) × (new ≡ outcome.1)
Steps outcome old (Err (stop.Answer line)) new = (Some line ≡ outcome.0) × (old ≡ outcome.1) × (new ≡ old)
Steps outcome old (Err stop.Memory) new = new ≡ old
