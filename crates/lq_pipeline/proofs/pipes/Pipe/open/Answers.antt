-- It starts where the form does, which means what the guarded tree does.
use Rattle.std.proofs.Common.{ap, sym}
use Rattle.lq_pipeline.specs.Chains.{items_of_result}
use Rattle.lq_pipeline.specs.Contexts.{sight_in}
use Rattle.lq_pipeline.proofs.ContextLemmas.{guarded_means}
use Rattle.lq_pipeline.proofs.pipes.Pipe.open.Goals as goal

pub returns-clause-meant : goal.returns-clause-meant
returns-clause-meant g c = λ hosts guarded. ap items_of_result (sym (guarded_means (sight_in c.args.context.now) hosts c.args.tree.now guarded))
