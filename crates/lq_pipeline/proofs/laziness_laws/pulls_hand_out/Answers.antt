use Rattle.lq_pipeline.proofs.LazinessLaws.{pulls_hand_out}
use Rattle.lq_pipeline.proofs.laziness_laws.pulls_hand_out.Goals as goal

pub returns : goal.returns
returns c = pulls_hand_out
