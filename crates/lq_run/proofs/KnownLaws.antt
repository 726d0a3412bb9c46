-- What is known of the names of host predicates, said of the predicates.
use Rattle.std.proofs.Common.{List, subst, sym}
use Rattle.lq_host.specs.Predicates.{Predicate}
use Rattle.lq_language.specs.Worlds.{known_predicates}
use Rattle.lq_language.specs.declared.host_name.HostName.{HostName}
use Rattle.lq_machine.specs.DefinitionLaws.{AreDefined}
use Rattle.lq_machine.specs.States.{schemas_of}
use Rattle.lq_run.specs.States.{AreKnown, SessionState}

-- the definitions of a session are as `var` makes them where these predicates are known
pub defined_with : (predicates : List Predicate) (s : SessionState) → AreKnown predicates s → AreDefined (schemas_of s.tables) s.policies.predicates s.definitions
    → AreDefined (schemas_of s.tables) (known_predicates predicates) s.definitions
defined_with predicates s known defined = subst (λ (names : List HostName). AreDefined (schemas_of s.tables) names s.definitions) (sym known) defined
