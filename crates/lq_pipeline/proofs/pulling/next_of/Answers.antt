-- In a pipe over the chain.
use Rattle.std.proofs.Common.{IfOk, subst}
use Rattle.lq_language.specs.Stream.{Stream}
use Rattle.lq_language.specs.TableRows.{TableRow}
use Rattle.lq_value.specs.declared.value.Value.{Value}
use Rattle.lq_plan.specs.Handing.{handed_out, rows_to_come}
use Rattle.lq_plan.specs.Plans.{world}
use Rattle.lq_plan.specs.Watching.{facts}
use Rattle.lq_pipeline.specs.Chains.{comes_at}
use Rattle.lq_pipeline.specs.Reading.{covers_chain}
use Rattle.lq_pipe.specs.Steps.{Steps}
use Rattle.lq_pipeline.proofs.PullingLemmas.{items_are, takes_chain, takes_none}
use Rattle.lq_pipeline.proofs.pulling.next_of.Goals as goal

pub returns-in-Err-clause-takes : goal.returns-in-Err-clause-takes
returns-in-Err-clause-takes g c = takes_none (world c.args.sources.now) (facts c.args.sources.now) (covers_chain (world c.args.sources.now) c.args.chain.now) (comes_at (world c.args.sources.now) c.args.chain.now) (rows_to_come c.args.leaf.now) (handed_out c.args.leaf.now) c.args.log.now c.in-Err.error

pub returns-in-Ok-clause-meant : goal.returns-in-Ok-clause-meant
returns-in-Ok-clause-meant g c =
    subst (λ (p : Stream (Value TableRow) × Stream (Value TableRow)). IfOk c.pull.result (λ step. Steps p.0 step p.1))
    (λ i. (items_are (world c.args.sources.now) c.in-Ok.pipe c.args.chain.now c.in-Ok.ensures.source c.in-Ok.ensures.stage c.args.leaf.now i, items_are (world c.args.sources.now) c.in-Ok.pipe c.args.chain.now c.in-Ok.ensures.source c.in-Ok.ensures.stage c.pull.new.base i)) c.pull.ensures.meant

pub returns-in-Ok-clause-takes : goal.returns-in-Ok-clause-takes
returns-in-Ok-clause-takes g c = takes_chain (world c.args.sources.now) (facts c.args.sources.now) c.in-Ok.pipe c.args.chain.now c.in-Ok.ensures.source c.in-Ok.ensures.stage (rows_to_come c.args.leaf.now) (handed_out c.args.leaf.now) c.args.log.now c.pull.result (rows_to_come c.pull.new.base) (handed_out c.pull.new.base) c.pull.new.log c.pull.ensures.takes
