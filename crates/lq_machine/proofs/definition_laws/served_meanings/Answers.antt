use Rattle.lq_machine.proofs.MachineMeaningLaws.{serves_meanings}
use Rattle.lq_machine.proofs.definition_laws.served_meanings.Goals as goal

pub returns : goal.returns
returns c = serves_meanings
