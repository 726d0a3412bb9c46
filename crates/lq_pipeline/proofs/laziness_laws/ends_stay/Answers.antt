use Rattle.lq_pipeline.proofs.LazinessLaws.{ends_stay}
use Rattle.lq_pipeline.proofs.laziness_laws.ends_stay.Goals as goal

pub returns : goal.returns
returns c = ends_stay
