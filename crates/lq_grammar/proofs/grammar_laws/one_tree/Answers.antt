use Rattle.lq_grammar.proofs.Trees.{one_statement, one_condition}
use Rattle.lq_grammar.proofs.grammar_laws.one_tree.Goals as goal

pub returns-clause-statement : goal.returns-clause-statement
returns-clause-statement c = one_statement

pub returns-clause-condition : goal.returns-clause-condition
returns-clause-condition c = one_condition
