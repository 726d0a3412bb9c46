use Rattle.lq_machine.proofs.SessionLemmas.{leaves_the_rest, silent_alike}
use Rattle.lq_machine.proofs.session_laws.memory_law.Goals as goal

pub returns-clause-others : goal.returns-clause-others
returns-clause-others c = leaves_the_rest

pub returns-clause-silent : goal.returns-clause-silent
returns-clause-silent c = silent_alike
