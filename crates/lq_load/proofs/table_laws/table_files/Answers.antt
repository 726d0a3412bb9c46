use Rattle.lq_load.proofs.TableFaults.{means_table, tells_first_fault}
use Rattle.lq_load.proofs.table_laws.table_files.Goals as goal

pub returns-clause-table : goal.returns-clause-table
returns-clause-table c = means_table

pub returns-clause-fault : goal.returns-clause-fault
returns-clause-fault c = tells_first_fault
