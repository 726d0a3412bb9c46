use Rattle.lq_pipeline.proofs.LazinessLaws.{refusals_stay}
use Rattle.lq_pipeline.proofs.laziness_laws.refusals_stay.Goals as goal

pub returns : goal.returns
returns c = refusals_stay
