use Rattle.lq_machine.proofs.NestedFaultLemmas.{names_first_fault, serves_faultless}
use Rattle.lq_machine.proofs.reply_laws.nested_faults.Goals as goal

pub returns-clause-named : goal.returns-clause-named
returns-clause-named g c = names_first_fault g.row.R.Denot

pub returns-clause-served : goal.returns-clause-served
returns-clause-served g c = serves_faultless g.row.R.Denot
