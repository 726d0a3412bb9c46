-- The items so far, and those that are left up to the limit; what was handed out is what was needed for them.
use Rattle.std.proofs.Common.{◌≡◌, [], length}
use Rattle.lq_language.specs.Stream.{then_ending}
use Rattle.lq_value.specs.declared.value.End.TheVariants as end
use Rattle.lq_pipe.specs.Handing.{comes_of}
use Rattle.lq_plan.specs.Counts.{read_first}
use Rattle.lq_plan.specs.Handing.{handed_out, items_to_come, rows_to_come}
use Rattle.lq_plan.specs.Pipes.{items_left}
use Rattle.lq_plan.specs.Plans.{world}
use Rattle.lq_plan.specs.Watching.{facts}
use Rattle.lq_pipeline.specs.Reading.{covered_by}
use Rattle.lq_pipeline.specs.Settling.{reaches}
use Rattle.lq_pipeline.proofs.ReadingLemmas.{Goes}
use Rattle.lq_pipeline.proofs.reading.read.Given as goal

abbrev pub invariant-loop-less : goal.invariant-loop-less
invariant-loop-less g l =
    record {
      meant : then_ending l.items end.Done (read_first l.left (items_left (world l.fn.sources) [] l.fn.pipe l.base)) ≡ read_first l.fn.limit (items_left (world l.fn.sources) [] l.fn.pipe l.fn.base);
      goes : Goes (world l.fn.sources) (facts l.fn.sources) (covered_by (world l.fn.sources) l.fn.pipe) (comes_of (world l.fn.sources) [] l.fn.pipe) (reaches l.fn.limit) (rows_to_come l.fn.base) (handed_out l.fn.base) l.fn.log (reaches l.left) (rows_to_come l.base) (handed_out l.base) l.log;
      rows : items_to_come l.base ≡ [];
    }

abbrev pub decreases-loop-less : goal.decreases-loop-less
decreases-loop-less g l = length (items_left (world l.fn.sources) [] l.fn.pipe l.base).0
