use Rattle.lq_pipeline.proofs.LazinessLaws.{chains_need}
use Rattle.lq_pipeline.proofs.laziness_laws.chains_need.Goals as goal

pub returns : goal.returns
returns c = chains_need
