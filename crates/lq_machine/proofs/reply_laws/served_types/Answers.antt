use Rattle.lq_machine.proofs.ServedTypes.{type_served}
use Rattle.lq_machine.proofs.reply_laws.served_types.Goals as goal

pub returns : goal.returns
returns c = type_served
