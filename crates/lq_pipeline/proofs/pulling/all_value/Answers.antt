-- Whether a condition is true of all items, by what it gives of them.
use Rattle.std.proofs.Common.{[], List, Result, Bool, IfOk, ◌≡◌, ◌∙◌, ap, subst, sym}
use Rattle.lq_language.specs.Stream.{Stream}
use Rattle.lq_language.specs.TableRows.{TableRow}
use Rattle.lq_value.specs.declared.value.End.{End}
use Rattle.lq_value.specs.declared.value.Fault.{Fault}
use Rattle.lq_value.specs.declared.value.Value.{Value}
use Rattle.lq_plan.specs.Handing.{handed_out, rows_to_come}
use Rattle.lq_plan.specs.Plans.{world}
use Rattle.lq_plan.specs.Watching.{facts}
use Rattle.lq_pipe.specs.Handing.{comes_of}
use Rattle.lq_pipeline.specs.Chains.{comes_at}
use Rattle.lq_pipeline.specs.Reading.{covered_by}
use Rattle.lq_plan.specs.Pulling.{base_stream, items_at}
use Rattle.lq_plan.proofs.SlotLaws.{no_values}
use Rattle.lq_language.specs.Enumerable.{all}
use Rattle.lq_tree.specs.FormMeaning.{form_meaning, is_true, with_item}
use Rattle.lq_pipeline.specs.Heads.{fails}
use Rattle.lq_pipeline.specs.Reading.{covers_all}
use Rattle.lq_pipeline.specs.Settling.{needed}
use Rattle.lq_pipeline.specs.Truths.{has_untrue, truth_of_value}
use Rattle.lq_pipeline.proofs.PullingLemmas.{all_same, come_selects, cover_selects, items_selected, needed_same, reads_by, reads_truth, refused_at_once, truth_is}
use Rattle.lq_pipeline.proofs.pulling.all_value.Goals as goal

pub returns-in-Err-clause-reads : goal.returns-in-Err-clause-reads
returns-in-Err-clause-reads g c = refused_at_once (world c.args.sources.now) (facts c.args.sources.now) End (covers_all (world c.args.sources.now) c.args.chain.now c.args.condition.now) (comes_at (world c.args.sources.now) c.args.chain.now) (fails (world c.args.sources.now) c.args.condition.now) (rows_to_come c.args.leaf.now) (handed_out c.args.leaf.now) c.args.log.now c.in-Err.error

pub returns-in-Ok-clause-meant : goal.returns-in-Ok-clause-meant
returns-in-Ok-clause-meant g c =
    truth_is _ c.are_true.result c.truth.result c.truth.ensures
    (subst (λ (r : Result Bool Fault). IfOk c.are_true.result (λ t. t ≡ r))
    (ap (λ (s : Stream (Value TableRow)). all (truth_of_value (world c.args.sources.now)) s.0 s.1) (items_selected (world c.args.sources.now) c.in-Ok.pipe c.args.chain.now (c.in-Ok.ensures.source) c.args.condition c.in-Ok.ensures.stage c.args.leaf.now)
    ∙ all_same (world c.args.sources.now) c.args.condition.now (items_at (world c.args.sources.now) [] c.args.chain.now (base_stream c.args.leaf.now)).0 (items_at (world c.args.sources.now) [] c.args.chain.now (base_stream c.args.leaf.now)).1
    ∙ ap (λ (vs : List (Value TableRow)). all (λ v. is_true (world c.args.sources.now) (form_meaning (world c.args.sources.now) c.args.condition.now) (with_item (world c.args.sources.now) vs v))
    (items_at (world c.args.sources.now) [] c.args.chain.now (base_stream c.args.leaf.now)).0 (items_at (world c.args.sources.now) [] c.args.chain.now (base_stream c.args.leaf.now)).1) (sym no_values))
    c.are_true.ensures.meant)

pub returns-in-Ok-clause-reads : goal.returns-in-Ok-clause-reads
returns-in-Ok-clause-reads g c =
    reads_truth (world c.args.sources.now) (facts c.args.sources.now) (covers_all (world c.args.sources.now) c.args.chain.now c.args.condition.now) (comes_at (world c.args.sources.now) c.args.chain.now) (fails (world c.args.sources.now) c.args.condition.now) (rows_to_come c.args.leaf.now) (handed_out c.args.leaf.now) c.args.log.now c.are_true.result c.truth.result (rows_to_come c.are_true.new.base) (handed_out c.are_true.new.base) c.are_true.new.log c.truth.ensures
    (reads_by (world c.args.sources.now) (facts c.args.sources.now) (covers_all (world c.args.sources.now) c.args.chain.now c.args.condition.now) (covered_by (world c.args.sources.now) c.in-Ok.pipe) (cover_selects (world c.args.sources.now) c.in-Ok.pipe c.args.chain.now (c.in-Ok.ensures.source) c.args.condition c.in-Ok.ensures.stage) (comes_of (world c.args.sources.now) [] c.in-Ok.pipe) (comes_at (world c.args.sources.now) c.args.chain.now) (has_untrue (world c.args.sources.now)) (fails (world c.args.sources.now) c.args.condition.now)
    (λ rows. ap (λ (come : TableRow → Stream (Value TableRow)). needed come (has_untrue (world c.args.sources.now)) rows) (come_selects (world c.args.sources.now) c.in-Ok.pipe c.args.chain.now (c.in-Ok.ensures.source) c.args.condition c.in-Ok.ensures.stage) ∙ needed_same (world c.args.sources.now) c.args.condition.now (comes_at (world c.args.sources.now) c.args.chain.now) rows)
    (rows_to_come c.args.leaf.now) (handed_out c.args.leaf.now) c.args.log.now c.are_true.result (rows_to_come c.are_true.new.base) (handed_out c.are_true.new.base) c.are_true.new.log c.are_true.ensures.reads)
