-- What statements and lines add to the log of host calls.
use Rattle.std.specs.Prelude.{◌≡◌, ◌++◌, List, ℕ, Result}
use Rattle.lq_host.specs.Hosts.{Hosts}
use Rattle.lq_host.specs.Predicates.{Predicate}
use Rattle.lq_host.specs.declared.call.Call.{Call}
use Rattle.lq_machine.specs.HostCalls.{evaluated_named}
use Rattle.lq_machine.specs.Machine.{Reply, perform}
use Rattle.lq_machine.specs.Output.{Answers}
use Rattle.lq_machine.specs.States.{State}
use Rattle.lq_machine.specs.declared.session.Opened.{Opened}
use Rattle.lq_grammar.specs.declared.syntax.Statement.{Statement}
use Rattle.lq_run.specs.Calls.{AddsCalls}
use Rattle.lq_run.specs.States.{SessionState, state_with}
use Rattle.lq_run.specs.declared.stop.Stop.{Stop}
use Rattle.lq_session.specs.Performed.{PerformsWith}

-- a statement adds calls that it may make in the machine's state with these predicates
abbrev pub CallsWith : List Predicate → Statement → SessionState → List Call → List Call → Type 0
CallsWith predicates statement s old new = AddsCalls (state_with predicates s) (evaluated_named (state_with predicates s) statement) old new

-- A statement is performed with these predicates, adds calls that it may make, and leaves the names of predicates that the policies have.
abbrev pub PerformsAndCalls : List Predicate → Opened → Statement
    → SessionState → List Call → Result (List ℕ) Stop → SessionState → List Call → Type 0
PerformsAndCalls predicates opened statement old calls result new calls_after =
    PerformsWith predicates (perform (state_with predicates old) opened statement) old result new
    × (new.policies.predicates ≡ old.policies.predicates)
    × CallsWith predicates statement old calls calls_after

-- these calls are put after the others in the log, and the predicates stay
abbrev pub Logs : Hosts → List Call → Hosts → Type 0
Logs old calls new = (new.calls ≡ old.calls ++ calls) × (new.predicates ≡ old.predicates)

-- The line is answered, and the log grows by calls that it allows.
pub record AnswersAndLogs (old : State) (hosts : Hosts) (line : List ℕ) (reply : Reply) (new : State) (hosts_after : Hosts) : Type 0 where
  pub calls : List Call
  pub logged : Logs hosts calls hosts_after
  pub answer : Answers old line reply calls new
