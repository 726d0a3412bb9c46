use Rattle.lq_tree.proofs.TermMeanLaws.{expressions_bound, queries_bound}
use Rattle.lq_tree.proofs.binding_laws.trees_of_expressions.Goals as goal

pub returns-clause-expressions : goal.returns-clause-expressions
returns-clause-expressions c start world holds kept e places slots scope fits reached t typed =
    expressions_bound world holds kept e places slots scope fits reached t typed

pub returns-clause-queries : goal.returns-clause-queries
returns-clause-queries c start world holds kept q places slots scope fits reached t typed =
    queries_bound world holds kept q places slots scope fits reached t typed
