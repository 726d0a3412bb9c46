use Rattle.lq_operators.proofs.GroupTallyLaws.{tally_at}
use Rattle.lq_operators.proofs.tally_laws.tally_at_place.Goals as goal

pub returns : goal.returns
returns c = tally_at
