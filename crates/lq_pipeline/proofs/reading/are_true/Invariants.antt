-- What is left is decided as all was; what was handed out is what was needed so far.
use Rattle.std.proofs.Common.{◌≡◌, [], length}
use Rattle.lq_language.specs.Enumerable.{all}
use Rattle.lq_pipeline.specs.Truths.{has_untrue, truth_of_value}
use Rattle.lq_pipe.specs.Handing.{comes_of}
use Rattle.lq_plan.specs.Handing.{handed_out, items_to_come, rows_to_come}
use Rattle.lq_plan.specs.Pipes.{items_left}
use Rattle.lq_plan.specs.Plans.{world}
use Rattle.lq_plan.specs.Watching.{facts}
use Rattle.lq_pipeline.specs.Reading.{covered_by}
use Rattle.lq_pipeline.proofs.ReadingLemmas.{Goes}
use Rattle.lq_pipeline.proofs.reading.are_true.Given as goal

abbrev pub invariant-loop-item : goal.invariant-loop-item
invariant-loop-item g l =
    record {
      meant : all (truth_of_value (world l.fn.sources)) (items_left (world l.fn.sources) [] l.fn.pipe l.base).0 (items_left (world l.fn.sources) [] l.fn.pipe l.base).1
          ≡ all (truth_of_value (world l.fn.sources)) (items_left (world l.fn.sources) [] l.fn.pipe l.fn.base).0 (items_left (world l.fn.sources) [] l.fn.pipe l.fn.base).1;
      goes : Goes (world l.fn.sources) (facts l.fn.sources) (covered_by (world l.fn.sources) l.fn.pipe) (comes_of (world l.fn.sources) [] l.fn.pipe) (has_untrue (world l.fn.sources)) (rows_to_come l.fn.base) (handed_out l.fn.base) l.fn.log (has_untrue (world l.fn.sources)) (rows_to_come l.base) (handed_out l.base) l.log;
      rows : items_to_come l.base ≡ [];
    }

abbrev pub decreases-loop-item : goal.decreases-loop-item
decreases-loop-item g l = length (items_left (world l.fn.sources) [] l.fn.pipe l.base).0
