use Rattle.lq_language.proofs.ClauseTypeLemmas.{hides_tables, returns_its_name}
use Rattle.lq_language.proofs.ClauseLemmas.{repeats_no_name, sees_it_alone, sees_no_range_variable}
use Rattle.lq_language.proofs.clause_laws.scopes_of_clauses.Goals as goal

pub returns-clause-fresh : goal.returns-clause-fresh
returns-clause-fresh c start = repeats_no_name

pub returns-clause-join : goal.returns-clause-join
returns-clause-join c start = sees_no_range_variable

pub returns-clause-into : goal.returns-clause-into
returns-clause-into c start = sees_it_alone

pub returns-clause-again : goal.returns-clause-again
returns-clause-again g c = returns_its_name

pub returns-clause-hidden : goal.returns-clause-hidden
returns-clause-hidden g c = hides_tables
