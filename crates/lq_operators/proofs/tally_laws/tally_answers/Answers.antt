use Rattle.lq_operators.proofs.GroupTallyLaws.{tally_answers}
use Rattle.lq_operators.proofs.tally_laws.tally_answers.Goals as goal

pub returns : goal.returns
returns g c = tally_answers
