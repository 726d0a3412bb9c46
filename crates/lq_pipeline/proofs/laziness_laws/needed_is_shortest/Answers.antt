use Rattle.lq_pipeline.proofs.LazinessLaws.{needed_is_shortest}
use Rattle.lq_pipeline.proofs.laziness_laws.needed_is_shortest.Goals as goal

pub returns : goal.returns
returns g c = needed_is_shortest _ _
