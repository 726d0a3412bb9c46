-- The tree is guarded for select, so that it means what it means over the tables as the role sees them.
use Rattle.lq_pipeline.specs.Contexts.{hosts_in, sight_in}
use Rattle.lq_pull.specs.Views.{sight_of}
use Rattle.lq_pipeline.proofs.ContextLemmas.{calls_guarded, guarded_evaluates}
use Rattle.lq_pipeline.proofs.context.whole_value.Goals as goal

pub returns-clause-meant : goal.returns-clause-meant
returns-clause-meant g c =
    guarded_evaluates (sight_in c.args.context.now) (hosts_in c.args.context.now) c.args.tree.now c.requires (sight_of c.evaluation.result.view) c.evaluation.ensures.view
    c.evaluation.result.tree.now c.evaluation.ensures.tree _ _ c.work.result c.work.ensures.does

pub returns-clause-calls : goal.returns-clause-calls
returns-clause-calls g c =
    calls_guarded (sight_in c.args.context.now) (hosts_in c.args.context.now) c.args.tree.now c.requires (sight_of c.evaluation.result.view) c.evaluation.ensures.view
    c.evaluation.result.tree.now c.evaluation.ensures.tree _ _ c.work.ensures.does.0
