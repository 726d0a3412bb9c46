use Rattle.lq_tree.proofs.StatementTrees as lemma
use Rattle.lq_tree.proofs.session_laws.trees_of_conditions.Goals as goal

pub returns-clause-types : goal.returns-clause-types
returns-clause-types c start = lemma.types_of_conditions

pub returns-clause-meanings : goal.returns-clause-meanings
returns-clause-meanings c start = lemma.meanings_of_conditions

pub returns-clause-uses : goal.returns-clause-uses
returns-clause-uses c start = lemma.uses_of_conditions
