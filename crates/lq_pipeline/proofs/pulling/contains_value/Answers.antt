-- In a pipe over the chain.
use Rattle.std.proofs.Common.{IfOk, ◌≡◌, subst}
use Rattle.lq_language.specs.Stream.{Stream}
use Rattle.lq_language.specs.TableRows.{TableRow}
use Rattle.lq_value.specs.declared.value.End.{End}
use Rattle.lq_value.specs.declared.value.Value.{Value}
use Rattle.lq_plan.specs.Handing.{handed_out, rows_to_come}
use Rattle.lq_plan.specs.Plans.{world}
use Rattle.lq_plan.specs.Watching.{facts}
use Rattle.lq_pipeline.specs.Chains.{comes_at}
use Rattle.lq_pipeline.specs.Reading.{covers_chain}
use Rattle.lq_value.specs.SameAndOrder.{same_values}
use Rattle.lq_language.specs.Enumerable.{contains, is_among}
use Rattle.lq_pipeline.proofs.PullingLemmas.{items_are, reads_chain, reads_truth, refused_at_once, truth_is}
use Rattle.lq_pipeline.proofs.pulling.contains_value.Goals as goal

pub returns-in-Err-clause-reads : goal.returns-in-Err-clause-reads
returns-in-Err-clause-reads g c = refused_at_once (world c.args.sources.now) (facts c.args.sources.now) End (covers_chain (world c.args.sources.now) c.args.chain.now) (comes_at (world c.args.sources.now) c.args.chain.now) (is_among same_values c.args.value.now) (rows_to_come c.args.leaf.now) (handed_out c.args.leaf.now) c.args.log.now c.in-Err.error

pub returns-in-Ok-clause-meant : goal.returns-in-Ok-clause-meant
returns-in-Ok-clause-meant g c =
    truth_is _ c.has_item.result c.truth.result c.truth.ensures
    (subst (λ (s : Stream (Value TableRow)). IfOk c.has_item.result (λ t. t ≡ contains same_values c.args.value.now s.0 s.1)) (items_are (world c.args.sources.now) c.in-Ok.pipe c.args.chain.now c.in-Ok.ensures.source c.in-Ok.ensures.stage c.args.leaf.now) c.has_item.ensures.meant)

pub returns-in-Ok-clause-reads : goal.returns-in-Ok-clause-reads
returns-in-Ok-clause-reads g c =
    reads_truth (world c.args.sources.now) (facts c.args.sources.now) (covers_chain (world c.args.sources.now) c.args.chain.now) (comes_at (world c.args.sources.now) c.args.chain.now) (is_among same_values c.args.value.now) (rows_to_come c.args.leaf.now) (handed_out c.args.leaf.now) c.args.log.now c.has_item.result c.truth.result (rows_to_come c.has_item.new.base) (handed_out c.has_item.new.base) c.has_item.new.log c.truth.ensures
    (reads_chain (world c.args.sources.now) (facts c.args.sources.now) c.in-Ok.pipe c.args.chain.now c.in-Ok.ensures.source c.in-Ok.ensures.stage (is_among same_values c.args.value.now) (rows_to_come c.args.leaf.now) (handed_out c.args.leaf.now) c.args.log.now c.has_item.result (rows_to_come c.has_item.new.base) (handed_out c.has_item.new.base) c.has_item.new.log c.has_item.ensures.reads)
