-- What is left is what was opened, and then what is left behind each item; each call is about rows in what was taken.
use Rattle.std.proofs.Common.{ap, subst}
use Rattle.lq_tree.specs.Watches.{have_watched_rows}
use Rattle.lq_plan.specs.Pipes.{all_items, items_left}
use Rattle.lq_plan.specs.Slots.{values_in}
use Rattle.lq_plan.specs.Watching.{facts}
use Rattle.lq_plan.specs.declared.slots.Slots.TheVariants as slots
use Rattle.lq_plan.proofs.PullLaws.{left_opened}
use Rattle.lq_plan.proofs.SlotLaws.{no_values}
use Rattle.lq_pipe.specs.Runs.{world}
use Rattle.lq_pipe.specs.Steps.{Steps}
use Rattle.lq_pipe.proofs.DrainLemmas.{remains_at_first, remains_on}
use Rattle.lq_pipe.proofs.LogLemmas.{Covers, covers_pipe, opened, went_on}
use Rattle.lq_pipe.proofs.running.Running.drain_pipe.Goals as goal

pub returns-in_err-base-clause-grows : goal.returns-in_err-base-clause-grows
returns-in_err-base-clause-grows g c = λ w start a b gr. c.open.ensures.grows w start a (ap (have_watched_rows w) no_values) gr

pub loop-base-init : goal.loop-base-init
loop-base-init g c = (
  remains_at_first g.K.Sink.takes (all_items (world c.args.self.now) (values_in slots.Empty) c.args.pipe.now) (items_left (world c.args.self.now) (values_in slots.Empty) c.args.pipe.now c.in_ok-base.base) c.args.sink.now
      (left_opened (world c.args.self.now) (values_in slots.Empty) _ _ c.in_ok-base.base c.in_ok-base.ensures.meant),
  opened (world c.args.self.now) (facts c.args.self.now.sources) g.R.TableRow.table_of g.R.RowRef.shown (values_in slots.Empty) c.args.pipe.now (Covers (world c.args.self.now) (values_in slots.Empty) c.args.pipe.now) _ _ c.in_ok-base.base
      (λ w start p gr. c.open.ensures.grows w start p.source_in p.slots_in gr) (λ w p. c.in_ok-base.ensures.from w p.source_in p.slots_in),
)

pub returns-in_err-item-clause-grows : goal.returns-in_err-item-clause-grows
returns-in_err-item-clause-grows g c =
    λ w start a b gr.
    (went_on (world c.args.self.now) (facts c.args.self.now.sources) g.R.TableRow.table_of g.R.RowRef.shown (values_in slots.Empty) c.args.pipe.now (Covers (world c.args.self.now) (values_in slots.Empty) c.args.pipe.now) (λ w p. p) _ _ _ c.loop-base.base c.next_in_place.new.base c.loop-base.invariant.1 c.next_in_place.ensures.pulled).grows w start
    (covers_pipe (world c.args.self.now) (values_in slots.Empty) c.args.pipe.now w a b (ap (have_watched_rows w) no_values)) gr

pub loop-base-preserved : goal.loop-base-preserved
loop-base-preserved g c = (
  remains_on g.K.Sink.takes (all_items (world c.args.self.now) (values_in slots.Empty) c.args.pipe.now) c.args.sink.now (items_left (world c.args.self.now) (values_in slots.Empty) c.args.pipe.now c.loop-base.base) c.loop-base.sink c.in-Ok.item
      (items_left (world c.args.self.now) (values_in slots.Empty) c.args.pipe.now c.next_in_place.new.base) c.take.new.self c.loop-base.invariant.0
      (subst (λ s. Steps (items_left (world c.args.self.now) (values_in slots.Empty) c.args.pipe.now c.loop-base.base) s (items_left (world c.args.self.now) (values_in slots.Empty) c.args.pipe.now c.next_in_place.new.base)) c.in-Ok.is c.in_ok-item.ensures.meant) c.in-Go.ensures,
  went_on (world c.args.self.now) (facts c.args.self.now.sources) g.R.TableRow.table_of g.R.RowRef.shown (values_in slots.Empty) c.args.pipe.now (Covers (world c.args.self.now) (values_in slots.Empty) c.args.pipe.now) (λ w p. p) _ _ _ c.loop-base.base c.next_in_place.new.base c.loop-base.invariant.1 c.next_in_place.ensures.pulled,
)

pub returns-in-Stop-clause-grows : goal.returns-in-Stop-clause-grows
returns-in-Stop-clause-grows g c =
    λ w start a b gr.
    (went_on (world c.args.self.now) (facts c.args.self.now.sources) g.R.TableRow.table_of g.R.RowRef.shown (values_in slots.Empty) c.args.pipe.now (Covers (world c.args.self.now) (values_in slots.Empty) c.args.pipe.now) (λ w p. p) _ _ _ c.loop-base.base c.next_in_place.new.base c.loop-base.invariant.1 c.next_in_place.ensures.pulled).grows w start
    (covers_pipe (world c.args.self.now) (values_in slots.Empty) c.args.pipe.now w a b (ap (have_watched_rows w) no_values)) gr

pub returns-in-Err-clause-grows : goal.returns-in-Err-clause-grows
returns-in-Err-clause-grows g c =
    λ w start a b gr.
    (went_on (world c.args.self.now) (facts c.args.self.now.sources) g.R.TableRow.table_of g.R.RowRef.shown (values_in slots.Empty) c.args.pipe.now (Covers (world c.args.self.now) (values_in slots.Empty) c.args.pipe.now) (λ w p. p) _ _ _ c.loop-base.base c.next_in_place.new.base c.loop-base.invariant.1 c.next_in_place.ensures.pulled).grows w start
    (covers_pipe (world c.args.self.now) (values_in slots.Empty) c.args.pipe.now w a b (ap (have_watched_rows w) no_values)) gr
