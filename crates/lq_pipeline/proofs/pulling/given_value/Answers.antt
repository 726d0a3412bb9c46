-- What a method answers of the items that it reads.
use Rattle.std.proofs.Common.{Ok, Err, Option, subst, refl, ℕ}
use Rattle.lq_value.specs.declared.value.End.{End}
use Rattle.lq_operators.specs.Answers.{IsAnswer}
use Rattle.lq_plan.specs.Handing.{handed_out, rows_to_come}
use Rattle.lq_plan.specs.Plans.{world}
use Rattle.lq_plan.specs.Watching.{facts}
use Rattle.lq_pipeline.specs.Chains.{comes_at}
use Rattle.lq_pipeline.specs.Reading.{Reads, covers_chain}
use Rattle.lq_pipeline.specs.Settling.{reaches}
use Rattle.lq_plan.specs.Counts.{given_limit}
use Rattle.lq_pipe.proofs.CountLaws.{given_read}
use Rattle.lq_pipeline.proofs.PullingLemmas.{found_is, reads_then}
use Rattle.lq_pipeline.proofs.pulling.given_value.Goals as goal

pub returns-in-Ok-clause-meant : goal.returns-in-Ok-clause-meant
returns-in-Ok-clause-meant g c =
    found_is _ c.given.result c.found.result c.found.ensures
    (subst (λ r. IsAnswer r c.given.result)
    (given_read (world c.args.sources.now) c.args.method c.args.argument c.given_limit.result (c.in-Ok.items, c.in-Ok.end) _ c.given_limit.ensures c.in-Ok.ensures.meant)
    (c.given.ensures (world c.args.sources.now) refl))

pub returns-in-Ok-clause-reads : goal.returns-in-Ok-clause-reads
returns-in-Ok-clause-reads g c =
    reads_then (world c.args.sources.now) (facts c.args.sources.now) (covers_chain (world c.args.sources.now) c.args.chain.now) (comes_at (world c.args.sources.now) c.args.chain.now) (reaches (given_limit c.args.method c.args.argument)) (rows_to_come c.args.leaf.now) (handed_out c.args.leaf.now) c.args.log.now c.in-Ok.end c.found.result (rows_to_come c.up_to.new.leaf) (handed_out c.up_to.new.leaf) c.up_to.new.log
    (subst (λ (l : Option ℕ). Reads (world c.args.sources.now) (facts c.args.sources.now) (covers_chain (world c.args.sources.now) c.args.chain.now) (comes_at (world c.args.sources.now) c.args.chain.now) {A = End} (reaches l) (rows_to_come c.args.leaf.now) (handed_out c.args.leaf.now) c.args.log.now (Ok c.in-Ok.end) (rows_to_come c.up_to.new.leaf) (handed_out c.up_to.new.leaf) c.up_to.new.log) c.given_limit.ensures c.in-Ok.ensures.reads)

pub returns-clause-reads : goal.returns-clause-reads
returns-clause-reads g c =
    subst (λ (l : Option ℕ). Reads (world c.args.sources.now) (facts c.args.sources.now) (covers_chain (world c.args.sources.now) c.args.chain.now) (comes_at (world c.args.sources.now) c.args.chain.now) {A = End} (reaches l) (rows_to_come c.args.leaf.now) (handed_out c.args.leaf.now) c.args.log.now (Err c.in-Err.error) (rows_to_come c.up_to.new.leaf) (handed_out c.up_to.new.leaf) c.up_to.new.log) c.given_limit.ensures c.in-Err.ensures.reads
