use Rattle.lq_tree.proofs.TermTypeLaws.{call_types_same, types_same}
use Rattle.lq_tree.proofs.binding_laws.types_of_trees.Goals as goal

pub returns-clause-terms : goal.returns-clause-terms
returns-clause-terms c schemas t places = types_same schemas t places

pub returns-clause-calls : goal.returns-clause-calls
returns-clause-calls c schemas d places = call_types_same schemas d places
