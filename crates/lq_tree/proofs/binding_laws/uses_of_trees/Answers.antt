use Rattle.lq_tree.proofs.TermUseLaws.{call_uses_same, expression_uses_same, uses_same}
use Rattle.lq_tree.proofs.binding_laws.uses_of_trees.Goals as goal

pub returns-clause-terms : goal.returns-clause-terms
returns-clause-terms c schemas t places nothing tree h = uses_same schemas t places nothing tree h

pub returns-clause-calls : goal.returns-clause-calls
returns-clause-calls c schemas d places nothing tree h = call_uses_same schemas d places nothing tree h

pub returns-clause-expressions : goal.returns-clause-expressions
returns-clause-expressions c schemas e places nothing tree h = expression_uses_same schemas e places nothing tree h
