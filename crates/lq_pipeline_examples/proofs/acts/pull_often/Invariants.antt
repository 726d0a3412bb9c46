-- Each pull leaves a pipe.
use Rattle.lq_pipeline.specs.Pipes.{IsPipe}
use Rattle.lq_pipeline_examples.proofs.acts.pull_often.Given as goal

abbrev pub invariant-loop-pull : goal.invariant-loop-pull
invariant-loop-pull g l = IsPipe l.pipe
