use Rattle.lq_tree.proofs.SessionPlaceLaws.{types_of_statements, uses_of_statements}
use Rattle.lq_tree.proofs.SessionValueLaws.{meanings_of_statements}
use Rattle.lq_tree.proofs.session_laws.trees_of_statements.Goals as goal

pub returns-clause-types : goal.returns-clause-types
returns-clause-types c start = types_of_statements

pub returns-clause-meanings : goal.returns-clause-meanings
returns-clause-meanings c start = meanings_of_statements

pub returns-clause-uses : goal.returns-clause-uses
returns-clause-uses c start = uses_of_statements
