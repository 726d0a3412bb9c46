-- What is read is what is needed, item by item, up to the limit.
use Rattle.std.proofs.Common.{[], Ok, ◌∙◌, ap, refl, subst, sym}
use Rattle.lq_value.specs.declared.value.End.{End}
use Rattle.lq_value.specs.declared.value.End.TheVariants as end
use Rattle.lq_pipe.specs.Handing.{comes_of}
use Rattle.lq_pipe.specs.Steps.{Steps}
use Rattle.lq_pipe.proofs.PullLaws.{begins_read, read_ended, read_on}
use Rattle.lq_plan.specs.Handing.{handed_out, rows_to_come}
use Rattle.lq_plan.specs.Pipes.{items_left}
use Rattle.lq_plan.specs.Plans.{world}
use Rattle.lq_plan.specs.Watching.{facts}
use Rattle.lq_pipeline.specs.Reading.{Takes, covered_by}
use Rattle.lq_pipeline.specs.Settling.{reaches}
use Rattle.lq_pipeline.proofs.ReadingLemmas.{begins, reads_end, reads_full, reads_item, reads_over, reads_refused}
use Rattle.lq_pipeline.proofs.reading.read.Goals as goal

pub loop-less-init : goal.loop-less-init
loop-less-init g c =
    record {
      meant = begins_read _ _ _ c.args.limit c.new-items.ensures refl;
      goes = begins (world c.args.sources.now) (facts c.args.sources.now) (covered_by (world c.args.sources.now) c.args.pipe.now) (comes_of (world c.args.sources.now) [] c.args.pipe.now) (reaches c.args.limit) (rows_to_come c.args.base.now) (handed_out c.args.base.now) c.args.log.now;
      rows = c.requires.rows;
    }

pub loop-less-preserved : goal.loop-less-preserved
loop-less-preserved g c =
    record {
      meant = read_on (items_left (world c.args.sources.now) [] c.args.pipe.now c.loop-less.base) (items_left (world c.args.sources.now) [] c.args.pipe.now c.pull.new.base) _ c.in-Ok-Ok.item c.loop-less.items _ c.loop-less.left c.in-Some.less (subst (λ s. Steps (items_left (world c.args.sources.now) [] c.args.pipe.now c.loop-less.base) s (items_left (world c.args.sources.now) [] c.args.pipe.now c.pull.new.base)) c.in-Ok-Ok.field-0-is c.in-Ok-Ok.ensures.meant) c.in-Ok.ensures.ok (sym c.one_less.ensures ∙ c.in-Some.is) c.loop-less.invariant.meant;
      goes = reads_item (world c.args.sources.now) (facts c.args.sources.now) (covered_by (world c.args.sources.now) c.args.pipe.now) (comes_of (world c.args.sources.now) [] c.args.pipe.now) (reaches c.args.limit) (rows_to_come c.args.base.now) (handed_out c.args.base.now) c.args.log.now c.loop-less.left c.in-Some.less (sym c.one_less.ensures ∙ c.in-Some.is) (rows_to_come c.loop-less.base) (handed_out c.loop-less.base) c.loop-less.log c.loop-less.invariant.goes (rows_to_come c.pull.new.base) (handed_out c.pull.new.base) c.pull.new.log c.in-Ok-Ok.item (subst (λ r. Takes (world c.args.sources.now) (facts c.args.sources.now) (covered_by (world c.args.sources.now) c.args.pipe.now) (comes_of (world c.args.sources.now) [] c.args.pipe.now) (rows_to_come c.loop-less.base) (handed_out c.loop-less.base) c.loop-less.log r (rows_to_come c.pull.new.base) (handed_out c.pull.new.base) c.pull.new.log) (c.in-Ok-Ok.is ∙ ap (λ s. Ok s) c.in-Ok-Ok.field-0-is) c.pull.ensures.takes);
      rows = c.pull.ensures.rows;
    }

pub returns-in-Ok-Err-clause-meant : goal.returns-in-Ok-Err-clause-meant
returns-in-Ok-Err-clause-meant g c =
    read_ended (items_left (world c.args.sources.now) [] c.args.pipe.now c.loop-less.base) _ c.loop-less.items c.in-Ok-Err.end c.loop-less.left c.in-Some.less (subst (λ s. Steps (items_left (world c.args.sources.now) [] c.args.pipe.now c.loop-less.base) s (items_left (world c.args.sources.now) [] c.args.pipe.now c.pull.new.base)) c.in-Ok-Err.field-0-is c.in-Ok-Err.ensures.meant) (sym c.one_less.ensures ∙ c.in-Some.is) c.loop-less.invariant.meant

pub returns-in-Ok-Err-clause-reads : goal.returns-in-Ok-Err-clause-reads
returns-in-Ok-Err-clause-reads g c = reads_end (world c.args.sources.now) (facts c.args.sources.now) (covered_by (world c.args.sources.now) c.args.pipe.now) (comes_of (world c.args.sources.now) [] c.args.pipe.now) (reaches c.args.limit) (rows_to_come c.args.base.now) (handed_out c.args.base.now) c.args.log.now c.loop-less.left c.in-Some.less (sym c.one_less.ensures ∙ c.in-Some.is) (rows_to_come c.loop-less.base) (handed_out c.loop-less.base) c.loop-less.log c.loop-less.invariant.goes (rows_to_come c.pull.new.base) (handed_out c.pull.new.base) c.pull.new.log {A = End} c.in-Ok-Err.end end.Done (subst (λ r. Takes (world c.args.sources.now) (facts c.args.sources.now) (covered_by (world c.args.sources.now) c.args.pipe.now) (comes_of (world c.args.sources.now) [] c.args.pipe.now) (rows_to_come c.loop-less.base) (handed_out c.loop-less.base) c.loop-less.log r (rows_to_come c.pull.new.base) (handed_out c.pull.new.base) c.pull.new.log) (c.in-Ok-Err.is ∙ ap (λ s. Ok s) c.in-Ok-Err.field-0-is) c.pull.ensures.takes)

pub returns-in-Err-clause-reads : goal.returns-in-Err-clause-reads
returns-in-Err-clause-reads g c = reads_refused (world c.args.sources.now) (facts c.args.sources.now) (covered_by (world c.args.sources.now) c.args.pipe.now) (comes_of (world c.args.sources.now) [] c.args.pipe.now) (reaches c.args.limit) (rows_to_come c.args.base.now) (handed_out c.args.base.now) c.args.log.now c.loop-less.left c.in-Some.less (sym c.one_less.ensures ∙ c.in-Some.is) (rows_to_come c.loop-less.base) (handed_out c.loop-less.base) c.loop-less.log c.loop-less.invariant.goes (rows_to_come c.pull.new.base) (handed_out c.pull.new.base) c.pull.new.log End c.in-Err.error c.in-Err.error (subst (λ r. Takes (world c.args.sources.now) (facts c.args.sources.now) (covered_by (world c.args.sources.now) c.args.pipe.now) (comes_of (world c.args.sources.now) [] c.args.pipe.now) (rows_to_come c.loop-less.base) (handed_out c.loop-less.base) c.loop-less.log r (rows_to_come c.pull.new.base) (handed_out c.pull.new.base) c.pull.new.log) c.in-Err.is c.pull.ensures.takes)

pub returns-in-Err-push-clause-reads : goal.returns-in-Err-push-clause-reads
returns-in-Err-push-clause-reads g c = reads_full (world c.args.sources.now) (facts c.args.sources.now) (covered_by (world c.args.sources.now) c.args.pipe.now) (comes_of (world c.args.sources.now) [] c.args.pipe.now) (reaches c.args.limit) (rows_to_come c.args.base.now) (handed_out c.args.base.now) c.args.log.now c.loop-less.left c.in-Some.less (sym c.one_less.ensures ∙ c.in-Some.is) (rows_to_come c.loop-less.base) (handed_out c.loop-less.base) c.loop-less.log c.loop-less.invariant.goes (rows_to_come c.pull.new.base) (handed_out c.pull.new.base) c.pull.new.log End c.in-Ok-Ok.item c.in-Err-push.error (subst (λ r. Takes (world c.args.sources.now) (facts c.args.sources.now) (covered_by (world c.args.sources.now) c.args.pipe.now) (comes_of (world c.args.sources.now) [] c.args.pipe.now) (rows_to_come c.loop-less.base) (handed_out c.loop-less.base) c.loop-less.log r (rows_to_come c.pull.new.base) (handed_out c.pull.new.base) c.pull.new.log) (c.in-Ok-Ok.is ∙ ap (λ s. Ok s) c.in-Ok-Ok.field-0-is) c.pull.ensures.takes)

pub returns-clause-reads : goal.returns-clause-reads
returns-clause-reads g c =
    reads_over (world c.args.sources.now) (facts c.args.sources.now) (covered_by (world c.args.sources.now) c.args.pipe.now) (comes_of (world c.args.sources.now) [] c.args.pipe.now) (reaches c.args.limit) (rows_to_come c.args.base.now) (handed_out c.args.base.now) c.args.log.now {A = End} c.loop-less.left (rows_to_come c.loop-less.base) (handed_out c.loop-less.base) c.loop-less.log end.Done (sym c.one_less.ensures ∙ c.in_default.is)
    c.loop-less.invariant.goes
