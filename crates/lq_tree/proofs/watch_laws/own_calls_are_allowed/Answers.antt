use Rattle.lq_tree.proofs.AllowedCallLaws.{own_calls_are_allowed, seen_rows_pass, seen_tables_pass}
use Rattle.lq_tree.proofs.watch_laws.own_calls_are_allowed.Goals as goal

pub returns-clause-rows : goal.returns-clause-rows
returns-clause-rows c start = seen_rows_pass

pub returns-clause-tables : goal.returns-clause-tables
returns-clause-tables c start = seen_tables_pass

pub returns-clause-calls : goal.returns-clause-calls
returns-clause-calls c start = own_calls_are_allowed
