use Rattle.lq_machine.proofs.SessionLemmas.{answers_alike, look_alike_behind, number_alike_behind, scripts_alike}
use Rattle.lq_machine.proofs.session_laws.hidden_rows.Goals as goal

pub returns-clause-line : goal.returns-clause-line
returns-clause-line c = answers_alike

pub returns-clause-behind : goal.returns-clause-behind
returns-clause-behind c = look_alike_behind

pub returns-clause-numbers : goal.returns-clause-numbers
returns-clause-numbers c = number_alike_behind

pub returns-clause-script : goal.returns-clause-script
returns-clause-script c = scripts_alike
