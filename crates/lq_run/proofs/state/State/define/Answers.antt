use Rattle.std.proofs.Common.{subst, sym}
use Rattle.lq_machine.specs.DefinitionLaws.{IsDefined, IsNew}
use Rattle.lq_machine.specs.Definitions.{known_names}
use Rattle.lq_machine.specs.States.{schemas_of}
use Rattle.lq_run.specs.States.{SessionState}
use Rattle.lq_run.proofs.DefinitionLemmas.{also_defined}
use Rattle.lq_run.proofs.state.State.define.Goals as goal

pub invariant_of-self-2 : goal.invariant_of-self-2
invariant_of-self-2 c =
    also_defined (schemas_of c.self.inside.store) c.self.inside.policies.predicates c.self.inside.definitions.items c.push.new.self.items
    (record { name = c.args.name; defined = c.args.defined }) c.self.invariant
    (subst (λ (s : SessionState). IsDefined (schemas_of s.tables) s.policies.predicates (known_names (schemas_of s.tables) s.policies.predicates s.definitions) c.args.defined)
    (sym c.self.view_is) c.requires.typed)
    (subst (λ (s : SessionState). IsNew (schemas_of s.tables) (known_names (schemas_of s.tables) s.policies.predicates s.definitions) c.args.name)
    (sym c.self.view_is) c.requires.new)
    c.in_ok-push.ensures.items
