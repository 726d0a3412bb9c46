-- Each act leaves a pipe.
use Rattle.lq_pipeline.specs.Pipes.{IsPipe}
use Rattle.lq_pipeline_examples.proofs.acts.acts.Given as goal

abbrev pub invariant-loop-sign : goal.invariant-loop-sign
invariant-loop-sign g l = IsPipe l.pipe
