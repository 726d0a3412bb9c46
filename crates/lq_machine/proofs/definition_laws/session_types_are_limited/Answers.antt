use Rattle.lq_machine.proofs.SessionTypes.{limits_names, limits_queries, limits_statements}
use Rattle.lq_machine.proofs.definition_laws.session_types_are_limited.Goals as goal

pub returns-clause-names : goal.returns-clause-names
returns-clause-names c = limits_names

pub returns-clause-expression : goal.returns-clause-expression
returns-clause-expression c = limits_statements

pub returns-clause-query : goal.returns-clause-query
returns-clause-query c = limits_queries
