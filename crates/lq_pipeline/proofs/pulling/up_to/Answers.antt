-- In a pipe over the chain.
use Rattle.std.proofs.Common.{IfOk, ◌≡◌, subst}
use Rattle.lq_language.specs.Stream.{Stream}
use Rattle.lq_language.specs.TableRows.{TableRow}
use Rattle.lq_value.specs.declared.value.End.{End}
use Rattle.lq_value.specs.declared.value.Value.{Value}
use Rattle.lq_plan.specs.Counts.{read_first}
use Rattle.lq_plan.specs.Handing.{handed_out, rows_to_come}
use Rattle.lq_plan.specs.Plans.{world}
use Rattle.lq_plan.specs.Watching.{facts}
use Rattle.lq_pipeline.specs.Chains.{comes_at}
use Rattle.lq_pipeline.specs.Reading.{covers_chain}
use Rattle.lq_pipeline.specs.Settling.{reaches}
use Rattle.lq_pipeline.proofs.PullingLemmas.{items_are, reads_chain, refused_at_once}
use Rattle.lq_pipeline.proofs.pulling.up_to.Goals as goal

pub returns-in-Err-clause-reads : goal.returns-in-Err-clause-reads
returns-in-Err-clause-reads g c = refused_at_once (world c.args.sources.now) (facts c.args.sources.now) End (covers_chain (world c.args.sources.now) c.args.chain.now) (comes_at (world c.args.sources.now) c.args.chain.now) (reaches c.args.limit) (rows_to_come c.args.leaf.now) (handed_out c.args.leaf.now) c.args.log.now c.in-Err.error

pub returns-in-Ok-clause-meant : goal.returns-in-Ok-clause-meant
returns-in-Ok-clause-meant g c =
    subst (λ (s : Stream (Value TableRow)). IfOk c.read.result (λ items. items ≡ read_first c.args.limit s)) (items_are (world c.args.sources.now) c.in-Ok.pipe c.args.chain.now c.in-Ok.ensures.source c.in-Ok.ensures.stage c.args.leaf.now) c.read.ensures.meant

pub returns-in-Ok-clause-reads : goal.returns-in-Ok-clause-reads
returns-in-Ok-clause-reads g c = reads_chain (world c.args.sources.now) (facts c.args.sources.now) c.in-Ok.pipe c.args.chain.now c.in-Ok.ensures.source c.in-Ok.ensures.stage (reaches c.args.limit) (rows_to_come c.args.leaf.now) (handed_out c.args.leaf.now) c.args.log.now c.read.result (rows_to_come c.read.new.base) (handed_out c.read.new.base) c.read.new.log c.read.ensures.reads
