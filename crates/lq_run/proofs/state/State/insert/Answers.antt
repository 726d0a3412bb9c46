use Rattle.lq_store.specs.Calls.{shown_pushed}
use Rattle.lq_run.proofs.DefinitionLemmas.{inserted_defined}
use Rattle.lq_run.proofs.state.State.insert.Goals as goal

pub invariant_of-self : goal.invariant_of-self
invariant_of-self c =
    inserted_defined c.self.inside.policies.predicates c.self.inside.store c.insert.new.self c.args.table c.args.cells.items (shown_pushed c.insert.result) c.self.inside.definitions.items
    c.insert.ensures c.self.invariant
