-- An item that is true is passed by, and the first that isn't answers.
use Rattle.std.proofs.Common.{[], Ok, Err, ◌∙◌, ap, refl, subst, sym}
use Rattle.lq_value.specs.declared.value.End.{End}
use Rattle.lq_value.specs.declared.value.End.TheVariants as end
use Rattle.lq_pipe.specs.Steps.{Steps}
use Rattle.lq_pipe.specs.Handing.{comes_of}
use Rattle.lq_plan.specs.Handing.{handed_out, rows_to_come}
use Rattle.lq_plan.specs.Pipes.{items_left}
use Rattle.lq_plan.specs.Plans.{world}
use Rattle.lq_plan.specs.Watching.{facts}
use Rattle.lq_pipeline.specs.Reading.{Takes, covered_by}
use Rattle.lq_pipeline.specs.Truths.{has_untrue, is_not_true, truth_of_value}
use Rattle.lq_pipeline.proofs.ReadingLemmas.{begins, finds, finds_none, looking_refused, looks_on, testing_refused}
use Rattle.lq_pipeline.proofs.TruthLemmas.{all_fails, all_faults, all_on, passes_false, passes_fault, passes_true}
use Rattle.lq_pipeline.proofs.reading.are_true.Goals as goal

pub loop-item-init : goal.loop-item-init
loop-item-init g c = record { meant = refl; goes = begins (world c.args.sources.now) (facts c.args.sources.now) (covered_by (world c.args.sources.now) c.args.pipe.now) (comes_of (world c.args.sources.now) [] c.args.pipe.now) (has_untrue (world c.args.sources.now)) (rows_to_come c.args.base.now) (handed_out c.args.base.now) c.args.log.now; rows = c.requires.rows }

pub loop-item-preserved : goal.loop-item-preserved
loop-item-preserved g c =
    record {
      meant = all_on (truth_of_value (world c.args.sources.now)) (items_left (world c.args.sources.now) [] c.args.pipe.now c.loop-item.base) (items_left (world c.args.sources.now) [] c.args.pipe.now c.pull.new.base) c.in-Ok-Ok.item _ (subst (λ s. Steps (items_left (world c.args.sources.now) [] c.args.pipe.now c.loop-item.base) s (items_left (world c.args.sources.now) [] c.args.pipe.now c.pull.new.base)) c.in-Ok-Ok.field-0-is c.in-Ok-Ok.ensures.meant) (ap (λ b. Ok b) (sym c.in-Ok-Ok-true.field-0-0-test) ∙ sym c.in-Ok-Ok-true.field-0-is ∙ c.in-Ok-Ok-true.ensures (truth_of_value (world c.args.sources.now) c.in-Ok-Ok.item) (c.truth_in.ensures (world c.args.sources.now) refl)) c.loop-item.invariant.meant;
      goes = looks_on (world c.args.sources.now) (facts c.args.sources.now) (covered_by (world c.args.sources.now) c.args.pipe.now) (comes_of (world c.args.sources.now) [] c.args.pipe.now) (has_untrue (world c.args.sources.now)) (rows_to_come c.args.base.now) (handed_out c.args.base.now) c.args.log.now (λ x. is_not_true (truth_of_value (world c.args.sources.now) x)) (has_untrue (world c.args.sources.now)) refl (λ x xs. refl) (rows_to_come c.loop-item.base) (handed_out c.loop-item.base) c.loop-item.log c.loop-item.invariant.goes (rows_to_come c.pull.new.base) (handed_out c.pull.new.base) c.pull.new.log c.in-Ok-Ok.item (subst (λ r. Takes (world c.args.sources.now) (facts c.args.sources.now) (covered_by (world c.args.sources.now) c.args.pipe.now) (comes_of (world c.args.sources.now) [] c.args.pipe.now) (rows_to_come c.loop-item.base) (handed_out c.loop-item.base) c.loop-item.log r (rows_to_come c.pull.new.base) (handed_out c.pull.new.base) c.pull.new.log) (c.in-Ok-Ok.is ∙ ap (λ s. Ok s) c.in-Ok-Ok.field-0-is) c.pull.ensures.takes) (passes_true (truth_of_value (world c.args.sources.now)) c.in-Ok-Ok.item (ap (λ b. Ok b) (sym c.in-Ok-Ok-true.field-0-0-test) ∙ sym c.in-Ok-Ok-true.field-0-is ∙ c.in-Ok-Ok-true.ensures (truth_of_value (world c.args.sources.now) c.in-Ok-Ok.item) (c.truth_in.ensures (world c.args.sources.now) refl)));
      rows = c.pull.ensures.rows;
    }

pub returns-in-Ok-Ok-false-clause-meant : goal.returns-in-Ok-Ok-false-clause-meant
returns-in-Ok-Ok-false-clause-meant g c =
    all_fails (truth_of_value (world c.args.sources.now)) (items_left (world c.args.sources.now) [] c.args.pipe.now c.loop-item.base) (items_left (world c.args.sources.now) [] c.args.pipe.now c.pull.new.base) c.in-Ok-Ok.item _ (subst (λ s. Steps (items_left (world c.args.sources.now) [] c.args.pipe.now c.loop-item.base) s (items_left (world c.args.sources.now) [] c.args.pipe.now c.pull.new.base)) c.in-Ok-Ok.field-0-is c.in-Ok-Ok.ensures.meant) (ap (λ b. Ok b) (sym c.in-Ok-Ok-false.field-0-0-test) ∙ sym c.in-Ok-Ok-false.field-0-is ∙ c.in-Ok-Ok-false.ensures (truth_of_value (world c.args.sources.now) c.in-Ok-Ok.item) (c.truth_in.ensures (world c.args.sources.now) refl)) c.loop-item.invariant.meant

pub returns-in-Ok-Ok-false-clause-reads : goal.returns-in-Ok-Ok-false-clause-reads
returns-in-Ok-Ok-false-clause-reads g c =
    finds (world c.args.sources.now) (facts c.args.sources.now) (covered_by (world c.args.sources.now) c.args.pipe.now) (comes_of (world c.args.sources.now) [] c.args.pipe.now) (has_untrue (world c.args.sources.now)) (rows_to_come c.args.base.now) (handed_out c.args.base.now) c.args.log.now (λ x. is_not_true (truth_of_value (world c.args.sources.now) x)) (has_untrue (world c.args.sources.now)) refl (λ x xs. refl) (rows_to_come c.loop-item.base) (handed_out c.loop-item.base) c.loop-item.log c.loop-item.invariant.goes (rows_to_come c.pull.new.base) (handed_out c.pull.new.base) c.pull.new.log {A = End} c.in-Ok-Ok.item end.Done (subst (λ r. Takes (world c.args.sources.now) (facts c.args.sources.now) (covered_by (world c.args.sources.now) c.args.pipe.now) (comes_of (world c.args.sources.now) [] c.args.pipe.now) (rows_to_come c.loop-item.base) (handed_out c.loop-item.base) c.loop-item.log r (rows_to_come c.pull.new.base) (handed_out c.pull.new.base) c.pull.new.log) (c.in-Ok-Ok.is ∙ ap (λ s. Ok s) c.in-Ok-Ok.field-0-is) c.pull.ensures.takes) (passes_false (truth_of_value (world c.args.sources.now)) c.in-Ok-Ok.item (ap (λ b. Ok b) (sym c.in-Ok-Ok-false.field-0-0-test) ∙ sym c.in-Ok-Ok-false.field-0-is ∙ c.in-Ok-Ok-false.ensures (truth_of_value (world c.args.sources.now) c.in-Ok-Ok.item) (c.truth_in.ensures (world c.args.sources.now) refl)))

pub returns-in-Ok-Err-clause-meant : goal.returns-in-Ok-Err-clause-meant
returns-in-Ok-Err-clause-meant g c =
    all_faults (truth_of_value (world c.args.sources.now)) (items_left (world c.args.sources.now) [] c.args.pipe.now c.loop-item.base) (items_left (world c.args.sources.now) [] c.args.pipe.now c.pull.new.base) c.in-Ok-Ok.item c.in-Ok-Err.fault _ (subst (λ s. Steps (items_left (world c.args.sources.now) [] c.args.pipe.now c.loop-item.base) s (items_left (world c.args.sources.now) [] c.args.pipe.now c.pull.new.base)) c.in-Ok-Ok.field-0-is c.in-Ok-Ok.ensures.meant) (sym c.in-Ok-Err.field-0-is ∙ c.in-Ok-Err.ensures (truth_of_value (world c.args.sources.now) c.in-Ok-Ok.item) (c.truth_in.ensures (world c.args.sources.now) refl)) c.loop-item.invariant.meant

pub returns-in-Ok-Err-clause-reads : goal.returns-in-Ok-Err-clause-reads
returns-in-Ok-Err-clause-reads g c =
    finds (world c.args.sources.now) (facts c.args.sources.now) (covered_by (world c.args.sources.now) c.args.pipe.now) (comes_of (world c.args.sources.now) [] c.args.pipe.now) (has_untrue (world c.args.sources.now)) (rows_to_come c.args.base.now) (handed_out c.args.base.now) c.args.log.now (λ x. is_not_true (truth_of_value (world c.args.sources.now) x)) (has_untrue (world c.args.sources.now)) refl (λ x xs. refl) (rows_to_come c.loop-item.base) (handed_out c.loop-item.base) c.loop-item.log c.loop-item.invariant.goes (rows_to_come c.pull.new.base) (handed_out c.pull.new.base) c.pull.new.log {A = End} c.in-Ok-Ok.item end.Done (subst (λ r. Takes (world c.args.sources.now) (facts c.args.sources.now) (covered_by (world c.args.sources.now) c.args.pipe.now) (comes_of (world c.args.sources.now) [] c.args.pipe.now) (rows_to_come c.loop-item.base) (handed_out c.loop-item.base) c.loop-item.log r (rows_to_come c.pull.new.base) (handed_out c.pull.new.base) c.pull.new.log) (c.in-Ok-Ok.is ∙ ap (λ s. Ok s) c.in-Ok-Ok.field-0-is) c.pull.ensures.takes) (passes_fault (truth_of_value (world c.args.sources.now)) c.in-Ok-Ok.item c.in-Ok-Err.fault (sym c.in-Ok-Err.field-0-is ∙ c.in-Ok-Err.ensures (truth_of_value (world c.args.sources.now) c.in-Ok-Ok.item) (c.truth_in.ensures (world c.args.sources.now) refl)))

pub returns-in-Err-truth_or_fault-clause-reads : goal.returns-in-Err-truth_or_fault-clause-reads
returns-in-Err-truth_or_fault-clause-reads g c = testing_refused (world c.args.sources.now) (facts c.args.sources.now) (covered_by (world c.args.sources.now) c.args.pipe.now) (comes_of (world c.args.sources.now) [] c.args.pipe.now) (has_untrue (world c.args.sources.now)) (rows_to_come c.args.base.now) (handed_out c.args.base.now) c.args.log.now (λ x. is_not_true (truth_of_value (world c.args.sources.now) x)) (has_untrue (world c.args.sources.now)) refl (λ x xs. refl) (rows_to_come c.loop-item.base) (handed_out c.loop-item.base) c.loop-item.log c.loop-item.invariant.goes (rows_to_come c.pull.new.base) (handed_out c.pull.new.base) c.pull.new.log End c.in-Ok-Ok.item c.in-Err-truth_or_fault.error (subst (λ r. Takes (world c.args.sources.now) (facts c.args.sources.now) (covered_by (world c.args.sources.now) c.args.pipe.now) (comes_of (world c.args.sources.now) [] c.args.pipe.now) (rows_to_come c.loop-item.base) (handed_out c.loop-item.base) c.loop-item.log r (rows_to_come c.pull.new.base) (handed_out c.pull.new.base) c.pull.new.log) (c.in-Ok-Ok.is ∙ ap (λ s. Ok s) c.in-Ok-Ok.field-0-is) c.pull.ensures.takes)

pub returns-in-Ok-Err-Done-clause-reads : goal.returns-in-Ok-Err-Done-clause-reads
returns-in-Ok-Err-Done-clause-reads g c = finds_none (world c.args.sources.now) (facts c.args.sources.now) (covered_by (world c.args.sources.now) c.args.pipe.now) (comes_of (world c.args.sources.now) [] c.args.pipe.now) (has_untrue (world c.args.sources.now)) (rows_to_come c.args.base.now) (handed_out c.args.base.now) c.args.log.now (λ x. is_not_true (truth_of_value (world c.args.sources.now) x)) (has_untrue (world c.args.sources.now)) refl (λ x xs. refl) (rows_to_come c.loop-item.base) (handed_out c.loop-item.base) c.loop-item.log c.loop-item.invariant.goes (rows_to_come c.pull.new.base) (handed_out c.pull.new.base) c.pull.new.log {A = End} end.Done end.Done (subst (λ r. Takes (world c.args.sources.now) (facts c.args.sources.now) (covered_by (world c.args.sources.now) c.args.pipe.now) (comes_of (world c.args.sources.now) [] c.args.pipe.now) (rows_to_come c.loop-item.base) (handed_out c.loop-item.base) c.loop-item.log r (rows_to_come c.pull.new.base) (handed_out c.pull.new.base) c.pull.new.log) (c.in-Ok-Err-Done.is ∙ ap (λ s. Ok s) (c.in-Ok-Err-Done.field-0-is ∙ ap (λ e. Err e) c.in-Ok-Err-Done.field-0-0-is)) c.pull.ensures.takes)

pub returns-in-Ok-Err-Fault-clause-reads : goal.returns-in-Ok-Err-Fault-clause-reads
returns-in-Ok-Err-Fault-clause-reads g c = finds_none (world c.args.sources.now) (facts c.args.sources.now) (covered_by (world c.args.sources.now) c.args.pipe.now) (comes_of (world c.args.sources.now) [] c.args.pipe.now) (has_untrue (world c.args.sources.now)) (rows_to_come c.args.base.now) (handed_out c.args.base.now) c.args.log.now (λ x. is_not_true (truth_of_value (world c.args.sources.now) x)) (has_untrue (world c.args.sources.now)) refl (λ x xs. refl) (rows_to_come c.loop-item.base) (handed_out c.loop-item.base) c.loop-item.log c.loop-item.invariant.goes (rows_to_come c.pull.new.base) (handed_out c.pull.new.base) c.pull.new.log {A = End} (end.Fault c.in-Ok-Err-Fault.fault) end.Done (subst (λ r. Takes (world c.args.sources.now) (facts c.args.sources.now) (covered_by (world c.args.sources.now) c.args.pipe.now) (comes_of (world c.args.sources.now) [] c.args.pipe.now) (rows_to_come c.loop-item.base) (handed_out c.loop-item.base) c.loop-item.log r (rows_to_come c.pull.new.base) (handed_out c.pull.new.base) c.pull.new.log) (c.in-Ok-Err-Fault.is ∙ ap (λ s. Ok s) (c.in-Ok-Err-Fault.field-0-is ∙ ap (λ e. Err e) c.in-Ok-Err-Fault.field-0-0-is)) c.pull.ensures.takes)

pub returns-in-Err-clause-reads : goal.returns-in-Err-clause-reads
returns-in-Err-clause-reads g c = looking_refused (world c.args.sources.now) (facts c.args.sources.now) (covered_by (world c.args.sources.now) c.args.pipe.now) (comes_of (world c.args.sources.now) [] c.args.pipe.now) (has_untrue (world c.args.sources.now)) (rows_to_come c.args.base.now) (handed_out c.args.base.now) c.args.log.now (λ x. is_not_true (truth_of_value (world c.args.sources.now) x)) (has_untrue (world c.args.sources.now)) refl (λ x xs. refl) (rows_to_come c.loop-item.base) (handed_out c.loop-item.base) c.loop-item.log c.loop-item.invariant.goes (rows_to_come c.pull.new.base) (handed_out c.pull.new.base) c.pull.new.log End c.in-Err.error c.in-Err.error (subst (λ r. Takes (world c.args.sources.now) (facts c.args.sources.now) (covered_by (world c.args.sources.now) c.args.pipe.now) (comes_of (world c.args.sources.now) [] c.args.pipe.now) (rows_to_come c.loop-item.base) (handed_out c.loop-item.base) c.loop-item.log r (rows_to_come c.pull.new.base) (handed_out c.pull.new.base) c.pull.new.log) c.in-Err.is c.pull.ensures.takes)
