use Rattle.lq_pipeline.proofs.StraightLaws.{calls_are_on_handed}
use Rattle.lq_pipeline.proofs.laziness_laws.calls_are_on_handed.Goals as goal

pub returns : goal.returns
returns c = calls_are_on_handed
