use Rattle.std.proofs.Common.{◌<◌, length, subst, sym}
use Rattle.lq_run.specs.States.{SessionState}
use Rattle.lq_run.proofs.DefinitionLemmas.{removed_defined}
use Rattle.lq_run.proofs.state.State.delete_rows.Goals as goal

pub invariant_of-self : goal.invariant_of-self
invariant_of-self c =
    removed_defined c.self.inside.policies.predicates c.self.inside.store c.delete_rows.new.self c.args.table c.args.numbers.now c.delete_rows.result c.self.inside.definitions.items
    (subst (λ (s : SessionState). c.args.table < length s.tables) (sym c.self.view_is) c.requires) c.delete_rows.ensures c.self.invariant
