use Rattle.lq_pipeline.proofs.DrainLaws.{drains_pull}
use Rattle.lq_pipeline.proofs.laziness_laws.drains_pull.Goals as goal

pub returns : goal.returns
returns g c = drains_pull g.K.Sink.takes
