-- The state that a session is in, and its host predicates.
use Rattle.std.specs.Prelude.{List}
use Rattle.lq_host.specs.Hosts.{Hosts, hosts_of}
use Rattle.lq_host.specs.Predicates.{Predicate}
use Rattle.lq_machine.specs.States.{State}
use Rattle.lq_run.specs.States.{SessionState, state_with}
use Rattle.lq_session.specs.declared.session.Session.{Session}

-- its host predicates, and the calls of them that are logged
abbrev pub hosts_in : {a b c d e f : _} → Session a b c d e f → Hosts
hosts_in session = hosts_of session.hosts

-- its host predicates, by their numbers
abbrev pub predicates_in : {a b c d e f : _} → Session a b c d e f → List Predicate
predicates_in session = (hosts_of session.hosts).predicates

-- what it is, the predicates aside
abbrev pub session_state : {a b c d e f : _} → Session a b c d e f → SessionState
session_state session = session.state

-- the state of the machine
abbrev pub state_of : {a b c d e f : _} → Session a b c d e f → State
state_of session = state_with (hosts_of session.hosts).predicates session.state
