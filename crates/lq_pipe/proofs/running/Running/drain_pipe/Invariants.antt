use Rattle.std.proofs.Common.{length}
use Rattle.lq_plan.specs.Pipes.{all_items, items_left}
use Rattle.lq_plan.specs.Slots.{values_in}
use Rattle.lq_plan.specs.declared.slots.Slots.TheVariants as slots
use Rattle.lq_plan.specs.Watching.{facts}
use Rattle.lq_pipe.specs.Runs.{world}
use Rattle.lq_pipe.proofs.DrainLemmas.{Remains}
use Rattle.lq_pipe.proofs.LogLemmas.{Covers, Keeps}
use Rattle.lq_pipe.proofs.running.Running.drain_pipe.Given as goal

-- What is left of the items comes to what all of them come to, and the log has grown by watched calls alone.
abbrev pub invariant-loop-base : goal.invariant-loop-base
invariant-loop-base g l =
    Remains g.K.Sink.takes (all_items (world l.fn.self) (values_in slots.Empty) l.fn.pipe) l.fn.sink (items_left (world l.fn.self) (values_in slots.Empty) l.fn.pipe l.base) l.sink
    × Keeps (world l.fn.self) (facts l.fn.self.sources) g.R.TableRow.table_of g.R.RowRef.shown (values_in slots.Empty) l.fn.pipe (Covers (world l.fn.self) (values_in slots.Empty) l.fn.pipe) l.fn.log l.log l.base

abbrev pub decreases-loop-base : goal.decreases-loop-base
decreases-loop-base g l = length (items_left (world l.fn.self) (values_in slots.Empty) l.fn.pipe l.base).0
