use Rattle.lq_machine.proofs.SessionLemmas.{is_output}
use Rattle.lq_machine.proofs.session_laws.output_law.Goals as goal

pub returns : goal.returns
returns c = is_output
