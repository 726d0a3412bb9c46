use Rattle.lq_machine.proofs.SessionLemmas.{memory_line_served}
use Rattle.lq_machine.proofs.session_laws.memory_line_is_served.Goals as goal

pub returns : goal.returns
returns c = memory_line_served
