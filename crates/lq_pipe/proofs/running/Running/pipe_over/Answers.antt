-- The pipe over a stage and its source has the items of the form.
use Rattle.std.proofs.Common.{◌∙◌}
use Rattle.lq_plan.specs.Slots.{values_in}
use Rattle.lq_plan.specs.declared.slots.Slots.TheVariants as slots
use Rattle.lq_plan.proofs.PullLaws.{stage_items}
use Rattle.lq_pipe.specs.Runs.{world}
use Rattle.lq_pipe.proofs.LogLemmas.{covered_as, source_of, stage_as, stage_over}
use Rattle.lq_pipe.proofs.running.Running.pipe_over.Goals as goal

pub returns-in_ok-pipe-in-Some-clause-items : goal.returns-in_ok-pipe-in-Some-clause-items
returns-in_ok-pipe-in-Some-clause-items g c =
    c.in_ok-pipe-in-Some.ensures.items
    ∙ stage_items (world c.args.self.now) (values_in slots.Empty) c.in-Some.stage c.args.form.now c.in-Some.source.now c.in-Some.ensures.stage

pub returns-in_ok-pipe-in-Some-clause-covered : goal.returns-in_ok-pipe-in-Some-clause-covered
returns-in_ok-pipe-in-Some-clause-covered g c =
    λ w h. (
      covered_as (world c.args.self.now) w _ _ c.in_ok-pipe-in-Some.ensures.source
          (source_of (world c.args.self.now) w c.in-Some.stage c.args.form.now c.in-Some.source.now c.in-Some.ensures.stage h),
      stage_as (world c.args.self.now) w _ _ c.in_ok-pipe-in-Some.ensures.stage
          (stage_over (world c.args.self.now) w c.in-Some.stage c.args.form.now c.in-Some.source.now c.in-Some.ensures.stage h),
    )
