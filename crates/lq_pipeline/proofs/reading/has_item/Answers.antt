-- An item that isn't the value is passed by, and the first that is answers.
use Rattle.std.proofs.Common.{[], Ok, Err, ◌∙◌, ap, refl, subst, sym}
use Rattle.lq_value.specs.SameAndOrder.{same_values}
use Rattle.lq_value.specs.declared.value.End.{End}
use Rattle.lq_value.specs.declared.value.End.TheVariants as end
use Rattle.lq_language.specs.Enumerable.{is_among}
use Rattle.lq_pipe.specs.Steps.{Steps}
use Rattle.lq_pipe.specs.Handing.{comes_of}
use Rattle.lq_plan.specs.Handing.{handed_out, rows_to_come}
use Rattle.lq_plan.specs.Pipes.{items_left}
use Rattle.lq_plan.specs.Plans.{world}
use Rattle.lq_plan.specs.Watching.{facts}
use Rattle.lq_pipeline.specs.Reading.{Takes, covered_by}
use Rattle.lq_pipe.proofs.CountLaws.{contains_found, contains_on}
use Rattle.lq_pipeline.proofs.ReadingLemmas.{begins, finds, finds_none, looking_refused, looks_on}
use Rattle.lq_pipeline.proofs.reading.has_item.Goals as goal

pub loop-item-init : goal.loop-item-init
loop-item-init g c = record { meant = refl; goes = begins (world c.args.sources.now) (facts c.args.sources.now) (covered_by (world c.args.sources.now) c.args.pipe.now) (comes_of (world c.args.sources.now) [] c.args.pipe.now) (is_among same_values c.args.value.now) (rows_to_come c.args.base.now) (handed_out c.args.base.now) c.args.log.now; rows = c.requires.rows }

pub loop-item-preserved : goal.loop-item-preserved
loop-item-preserved g c =
    record {
      meant = contains_on same_values c.args.value.now (items_left (world c.args.sources.now) [] c.args.pipe.now c.loop-item.base) (items_left (world c.args.sources.now) [] c.args.pipe.now c.pull.new.base) c.in-Ok-Ok.item _ (subst (λ s. Steps (items_left (world c.args.sources.now) [] c.args.pipe.now c.loop-item.base) s (items_left (world c.args.sources.now) [] c.args.pipe.now c.pull.new.base)) c.in-Ok-Ok.field-0-is c.in-Ok-Ok.ensures.meant) (sym c.same.ensures ∙ c.if-same.false) c.loop-item.invariant.meant;
      goes = looks_on (world c.args.sources.now) (facts c.args.sources.now) (covered_by (world c.args.sources.now) c.args.pipe.now) (comes_of (world c.args.sources.now) [] c.args.pipe.now) (is_among same_values c.args.value.now) (rows_to_come c.args.base.now) (handed_out c.args.base.now) c.args.log.now (same_values c.args.value.now) (is_among same_values c.args.value.now) refl (λ x xs. refl) (rows_to_come c.loop-item.base) (handed_out c.loop-item.base) c.loop-item.log c.loop-item.invariant.goes (rows_to_come c.pull.new.base) (handed_out c.pull.new.base) c.pull.new.log c.in-Ok-Ok.item (subst (λ r. Takes (world c.args.sources.now) (facts c.args.sources.now) (covered_by (world c.args.sources.now) c.args.pipe.now) (comes_of (world c.args.sources.now) [] c.args.pipe.now) (rows_to_come c.loop-item.base) (handed_out c.loop-item.base) c.loop-item.log r (rows_to_come c.pull.new.base) (handed_out c.pull.new.base) c.pull.new.log) (c.in-Ok-Ok.is ∙ ap (λ s. Ok s) c.in-Ok-Ok.field-0-is) c.pull.ensures.takes) (sym c.same.ensures ∙ c.if-same.false);
      rows = c.pull.ensures.rows;
    }

pub loop-item-preserved-else-same : goal.loop-item-preserved-else-same
loop-item-preserved-else-same g c =
    record {
      meant = contains_on same_values c.args.value.now (items_left (world c.args.sources.now) [] c.args.pipe.now c.loop-item.base) (items_left (world c.args.sources.now) [] c.args.pipe.now c.pull.new.base) c.in-Ok-Ok.item _ (subst (λ s. Steps (items_left (world c.args.sources.now) [] c.args.pipe.now c.loop-item.base) s (items_left (world c.args.sources.now) [] c.args.pipe.now c.pull.new.base)) c.in-Ok-Ok.field-0-is c.in-Ok-Ok.ensures.meant) (sym c.same.ensures ∙ c.if-same.false) c.loop-item.invariant.meant;
      goes = looks_on (world c.args.sources.now) (facts c.args.sources.now) (covered_by (world c.args.sources.now) c.args.pipe.now) (comes_of (world c.args.sources.now) [] c.args.pipe.now) (is_among same_values c.args.value.now) (rows_to_come c.args.base.now) (handed_out c.args.base.now) c.args.log.now (same_values c.args.value.now) (is_among same_values c.args.value.now) refl (λ x xs. refl) (rows_to_come c.loop-item.base) (handed_out c.loop-item.base) c.loop-item.log c.loop-item.invariant.goes (rows_to_come c.pull.new.base) (handed_out c.pull.new.base) c.pull.new.log c.in-Ok-Ok.item (subst (λ r. Takes (world c.args.sources.now) (facts c.args.sources.now) (covered_by (world c.args.sources.now) c.args.pipe.now) (comes_of (world c.args.sources.now) [] c.args.pipe.now) (rows_to_come c.loop-item.base) (handed_out c.loop-item.base) c.loop-item.log r (rows_to_come c.pull.new.base) (handed_out c.pull.new.base) c.pull.new.log) (c.in-Ok-Ok.is ∙ ap (λ s. Ok s) c.in-Ok-Ok.field-0-is) c.pull.ensures.takes) (sym c.same.ensures ∙ c.if-same.false);
      rows = c.pull.ensures.rows;
    }

pub loop-item-preserved-else-same-2 : goal.loop-item-preserved-else-same-2
loop-item-preserved-else-same-2 g c =
    record {
      meant = contains_on same_values c.args.value.now (items_left (world c.args.sources.now) [] c.args.pipe.now c.loop-item.base) (items_left (world c.args.sources.now) [] c.args.pipe.now c.pull.new.base) c.in-Ok-Ok.item _ (subst (λ s. Steps (items_left (world c.args.sources.now) [] c.args.pipe.now c.loop-item.base) s (items_left (world c.args.sources.now) [] c.args.pipe.now c.pull.new.base)) c.in-Ok-Ok.field-0-is c.in-Ok-Ok.ensures.meant) (sym c.same.ensures ∙ c.if-same.false) c.loop-item.invariant.meant;
      goes = looks_on (world c.args.sources.now) (facts c.args.sources.now) (covered_by (world c.args.sources.now) c.args.pipe.now) (comes_of (world c.args.sources.now) [] c.args.pipe.now) (is_among same_values c.args.value.now) (rows_to_come c.args.base.now) (handed_out c.args.base.now) c.args.log.now (same_values c.args.value.now) (is_among same_values c.args.value.now) refl (λ x xs. refl) (rows_to_come c.loop-item.base) (handed_out c.loop-item.base) c.loop-item.log c.loop-item.invariant.goes (rows_to_come c.pull.new.base) (handed_out c.pull.new.base) c.pull.new.log c.in-Ok-Ok.item (subst (λ r. Takes (world c.args.sources.now) (facts c.args.sources.now) (covered_by (world c.args.sources.now) c.args.pipe.now) (comes_of (world c.args.sources.now) [] c.args.pipe.now) (rows_to_come c.loop-item.base) (handed_out c.loop-item.base) c.loop-item.log r (rows_to_come c.pull.new.base) (handed_out c.pull.new.base) c.pull.new.log) (c.in-Ok-Ok.is ∙ ap (λ s. Ok s) c.in-Ok-Ok.field-0-is) c.pull.ensures.takes) (sym c.same.ensures ∙ c.if-same.false);
      rows = c.pull.ensures.rows;
    }

pub loop-item-preserved-else-same-3 : goal.loop-item-preserved-else-same-3
loop-item-preserved-else-same-3 g c =
    record {
      meant = contains_on same_values c.args.value.now (items_left (world c.args.sources.now) [] c.args.pipe.now c.loop-item.base) (items_left (world c.args.sources.now) [] c.args.pipe.now c.pull.new.base) c.in-Ok-Ok.item _ (subst (λ s. Steps (items_left (world c.args.sources.now) [] c.args.pipe.now c.loop-item.base) s (items_left (world c.args.sources.now) [] c.args.pipe.now c.pull.new.base)) c.in-Ok-Ok.field-0-is c.in-Ok-Ok.ensures.meant) (sym c.same.ensures ∙ c.if-same.false) c.loop-item.invariant.meant;
      goes = looks_on (world c.args.sources.now) (facts c.args.sources.now) (covered_by (world c.args.sources.now) c.args.pipe.now) (comes_of (world c.args.sources.now) [] c.args.pipe.now) (is_among same_values c.args.value.now) (rows_to_come c.args.base.now) (handed_out c.args.base.now) c.args.log.now (same_values c.args.value.now) (is_among same_values c.args.value.now) refl (λ x xs. refl) (rows_to_come c.loop-item.base) (handed_out c.loop-item.base) c.loop-item.log c.loop-item.invariant.goes (rows_to_come c.pull.new.base) (handed_out c.pull.new.base) c.pull.new.log c.in-Ok-Ok.item (subst (λ r. Takes (world c.args.sources.now) (facts c.args.sources.now) (covered_by (world c.args.sources.now) c.args.pipe.now) (comes_of (world c.args.sources.now) [] c.args.pipe.now) (rows_to_come c.loop-item.base) (handed_out c.loop-item.base) c.loop-item.log r (rows_to_come c.pull.new.base) (handed_out c.pull.new.base) c.pull.new.log) (c.in-Ok-Ok.is ∙ ap (λ s. Ok s) c.in-Ok-Ok.field-0-is) c.pull.ensures.takes) (sym c.same.ensures ∙ c.if-same.false);
      rows = c.pull.ensures.rows;
    }

pub loop-item-preserved-else-same-4 : goal.loop-item-preserved-else-same-4
loop-item-preserved-else-same-4 g c =
    record {
      meant = contains_on same_values c.args.value.now (items_left (world c.args.sources.now) [] c.args.pipe.now c.loop-item.base) (items_left (world c.args.sources.now) [] c.args.pipe.now c.pull.new.base) c.in-Ok-Ok.item _ (subst (λ s. Steps (items_left (world c.args.sources.now) [] c.args.pipe.now c.loop-item.base) s (items_left (world c.args.sources.now) [] c.args.pipe.now c.pull.new.base)) c.in-Ok-Ok.field-0-is c.in-Ok-Ok.ensures.meant) (sym c.same.ensures ∙ c.if-same.false) c.loop-item.invariant.meant;
      goes = looks_on (world c.args.sources.now) (facts c.args.sources.now) (covered_by (world c.args.sources.now) c.args.pipe.now) (comes_of (world c.args.sources.now) [] c.args.pipe.now) (is_among same_values c.args.value.now) (rows_to_come c.args.base.now) (handed_out c.args.base.now) c.args.log.now (same_values c.args.value.now) (is_among same_values c.args.value.now) refl (λ x xs. refl) (rows_to_come c.loop-item.base) (handed_out c.loop-item.base) c.loop-item.log c.loop-item.invariant.goes (rows_to_come c.pull.new.base) (handed_out c.pull.new.base) c.pull.new.log c.in-Ok-Ok.item (subst (λ r. Takes (world c.args.sources.now) (facts c.args.sources.now) (covered_by (world c.args.sources.now) c.args.pipe.now) (comes_of (world c.args.sources.now) [] c.args.pipe.now) (rows_to_come c.loop-item.base) (handed_out c.loop-item.base) c.loop-item.log r (rows_to_come c.pull.new.base) (handed_out c.pull.new.base) c.pull.new.log) (c.in-Ok-Ok.is ∙ ap (λ s. Ok s) c.in-Ok-Ok.field-0-is) c.pull.ensures.takes) (sym c.same.ensures ∙ c.if-same.false);
      rows = c.pull.ensures.rows;
    }

pub loop-item-preserved-else-same-5 : goal.loop-item-preserved-else-same-5
loop-item-preserved-else-same-5 g c =
    record {
      meant = contains_on same_values c.args.value.now (items_left (world c.args.sources.now) [] c.args.pipe.now c.loop-item.base) (items_left (world c.args.sources.now) [] c.args.pipe.now c.pull.new.base) c.in-Ok-Ok.item _ (subst (λ s. Steps (items_left (world c.args.sources.now) [] c.args.pipe.now c.loop-item.base) s (items_left (world c.args.sources.now) [] c.args.pipe.now c.pull.new.base)) c.in-Ok-Ok.field-0-is c.in-Ok-Ok.ensures.meant) (sym c.same.ensures ∙ c.if-same.false) c.loop-item.invariant.meant;
      goes = looks_on (world c.args.sources.now) (facts c.args.sources.now) (covered_by (world c.args.sources.now) c.args.pipe.now) (comes_of (world c.args.sources.now) [] c.args.pipe.now) (is_among same_values c.args.value.now) (rows_to_come c.args.base.now) (handed_out c.args.base.now) c.args.log.now (same_values c.args.value.now) (is_among same_values c.args.value.now) refl (λ x xs. refl) (rows_to_come c.loop-item.base) (handed_out c.loop-item.base) c.loop-item.log c.loop-item.invariant.goes (rows_to_come c.pull.new.base) (handed_out c.pull.new.base) c.pull.new.log c.in-Ok-Ok.item (subst (λ r. Takes (world c.args.sources.now) (facts c.args.sources.now) (covered_by (world c.args.sources.now) c.args.pipe.now) (comes_of (world c.args.sources.now) [] c.args.pipe.now) (rows_to_come c.loop-item.base) (handed_out c.loop-item.base) c.loop-item.log r (rows_to_come c.pull.new.base) (handed_out c.pull.new.base) c.pull.new.log) (c.in-Ok-Ok.is ∙ ap (λ s. Ok s) c.in-Ok-Ok.field-0-is) c.pull.ensures.takes) (sym c.same.ensures ∙ c.if-same.false);
      rows = c.pull.ensures.rows;
    }

pub returns-then-same-clause-meant : goal.returns-then-same-clause-meant
returns-then-same-clause-meant g c =
    sym (contains_found same_values c.args.value.now (items_left (world c.args.sources.now) [] c.args.pipe.now c.loop-item.base) (items_left (world c.args.sources.now) [] c.args.pipe.now c.pull.new.base) c.in-Ok-Ok.item _ (subst (λ s. Steps (items_left (world c.args.sources.now) [] c.args.pipe.now c.loop-item.base) s (items_left (world c.args.sources.now) [] c.args.pipe.now c.pull.new.base)) c.in-Ok-Ok.field-0-is c.in-Ok-Ok.ensures.meant) (sym c.same.ensures ∙ c.if-same.true) c.loop-item.invariant.meant)

pub returns-then-same-clause-reads : goal.returns-then-same-clause-reads
returns-then-same-clause-reads g c = finds (world c.args.sources.now) (facts c.args.sources.now) (covered_by (world c.args.sources.now) c.args.pipe.now) (comes_of (world c.args.sources.now) [] c.args.pipe.now) (is_among same_values c.args.value.now) (rows_to_come c.args.base.now) (handed_out c.args.base.now) c.args.log.now (same_values c.args.value.now) (is_among same_values c.args.value.now) refl (λ x xs. refl) (rows_to_come c.loop-item.base) (handed_out c.loop-item.base) c.loop-item.log c.loop-item.invariant.goes (rows_to_come c.pull.new.base) (handed_out c.pull.new.base) c.pull.new.log {A = End} c.in-Ok-Ok.item end.Done (subst (λ r. Takes (world c.args.sources.now) (facts c.args.sources.now) (covered_by (world c.args.sources.now) c.args.pipe.now) (comes_of (world c.args.sources.now) [] c.args.pipe.now) (rows_to_come c.loop-item.base) (handed_out c.loop-item.base) c.loop-item.log r (rows_to_come c.pull.new.base) (handed_out c.pull.new.base) c.pull.new.log) (c.in-Ok-Ok.is ∙ ap (λ s. Ok s) c.in-Ok-Ok.field-0-is) c.pull.ensures.takes) (sym c.same.ensures ∙ c.if-same.true)

pub returns-in-Ok-Err-Done-clause-reads : goal.returns-in-Ok-Err-Done-clause-reads
returns-in-Ok-Err-Done-clause-reads g c = finds_none (world c.args.sources.now) (facts c.args.sources.now) (covered_by (world c.args.sources.now) c.args.pipe.now) (comes_of (world c.args.sources.now) [] c.args.pipe.now) (is_among same_values c.args.value.now) (rows_to_come c.args.base.now) (handed_out c.args.base.now) c.args.log.now (same_values c.args.value.now) (is_among same_values c.args.value.now) refl (λ x xs. refl) (rows_to_come c.loop-item.base) (handed_out c.loop-item.base) c.loop-item.log c.loop-item.invariant.goes (rows_to_come c.pull.new.base) (handed_out c.pull.new.base) c.pull.new.log {A = End} end.Done end.Done (subst (λ r. Takes (world c.args.sources.now) (facts c.args.sources.now) (covered_by (world c.args.sources.now) c.args.pipe.now) (comes_of (world c.args.sources.now) [] c.args.pipe.now) (rows_to_come c.loop-item.base) (handed_out c.loop-item.base) c.loop-item.log r (rows_to_come c.pull.new.base) (handed_out c.pull.new.base) c.pull.new.log) (c.in-Ok-Err-Done.is ∙ ap (λ s. Ok s) (c.in-Ok-Err-Done.field-0-is ∙ ap (λ e. Err e) c.in-Ok-Err-Done.field-0-0-is)) c.pull.ensures.takes)

pub returns-in-Ok-Err-Fault-clause-reads : goal.returns-in-Ok-Err-Fault-clause-reads
returns-in-Ok-Err-Fault-clause-reads g c = finds_none (world c.args.sources.now) (facts c.args.sources.now) (covered_by (world c.args.sources.now) c.args.pipe.now) (comes_of (world c.args.sources.now) [] c.args.pipe.now) (is_among same_values c.args.value.now) (rows_to_come c.args.base.now) (handed_out c.args.base.now) c.args.log.now (same_values c.args.value.now) (is_among same_values c.args.value.now) refl (λ x xs. refl) (rows_to_come c.loop-item.base) (handed_out c.loop-item.base) c.loop-item.log c.loop-item.invariant.goes (rows_to_come c.pull.new.base) (handed_out c.pull.new.base) c.pull.new.log {A = End} (end.Fault c.in-Ok-Err-Fault.fault) end.Done (subst (λ r. Takes (world c.args.sources.now) (facts c.args.sources.now) (covered_by (world c.args.sources.now) c.args.pipe.now) (comes_of (world c.args.sources.now) [] c.args.pipe.now) (rows_to_come c.loop-item.base) (handed_out c.loop-item.base) c.loop-item.log r (rows_to_come c.pull.new.base) (handed_out c.pull.new.base) c.pull.new.log) (c.in-Ok-Err-Fault.is ∙ ap (λ s. Ok s) (c.in-Ok-Err-Fault.field-0-is ∙ ap (λ e. Err e) c.in-Ok-Err-Fault.field-0-0-is)) c.pull.ensures.takes)

pub returns-in-Err-clause-reads : goal.returns-in-Err-clause-reads
returns-in-Err-clause-reads g c = looking_refused (world c.args.sources.now) (facts c.args.sources.now) (covered_by (world c.args.sources.now) c.args.pipe.now) (comes_of (world c.args.sources.now) [] c.args.pipe.now) (is_among same_values c.args.value.now) (rows_to_come c.args.base.now) (handed_out c.args.base.now) c.args.log.now (same_values c.args.value.now) (is_among same_values c.args.value.now) refl (λ x xs. refl) (rows_to_come c.loop-item.base) (handed_out c.loop-item.base) c.loop-item.log c.loop-item.invariant.goes (rows_to_come c.pull.new.base) (handed_out c.pull.new.base) c.pull.new.log End c.in-Err.error c.in-Err.error (subst (λ r. Takes (world c.args.sources.now) (facts c.args.sources.now) (covered_by (world c.args.sources.now) c.args.pipe.now) (comes_of (world c.args.sources.now) [] c.args.pipe.now) (rows_to_come c.loop-item.base) (handed_out c.loop-item.base) c.loop-item.log r (rows_to_come c.pull.new.base) (handed_out c.pull.new.base) c.pull.new.log) c.in-Err.is c.pull.ensures.takes)
