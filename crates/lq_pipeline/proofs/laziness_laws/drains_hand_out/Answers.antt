use Rattle.lq_pipeline.proofs.DrainLaws.{drains_hand_out}
use Rattle.lq_pipeline.proofs.laziness_laws.drains_hand_out.Goals as goal

pub returns : goal.returns
returns g c = drains_hand_out g.K.Sink.takes
