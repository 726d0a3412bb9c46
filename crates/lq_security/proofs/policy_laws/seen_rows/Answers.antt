use Rattle.lq_security.proofs.SeenRowLemmas.{sees_visible_rows, sees_each_table}
use Rattle.lq_security.proofs.policy_laws.seen_rows.Goals as goal

pub returns-clause-rows : goal.returns-clause-rows
returns-clause-rows c = sees_visible_rows

pub returns-clause-tables : goal.returns-clause-tables
returns-clause-tables c = sees_each_table
