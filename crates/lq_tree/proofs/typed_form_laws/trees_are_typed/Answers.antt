use Rattle.lq_tree.proofs.TypedTerms.{typed_calls, typed_expressions, typed_trees}
use Rattle.lq_tree.proofs.typed_form_laws.trees_are_typed.Goals as goal

pub returns-clause-terms : goal.returns-clause-terms
returns-clause-terms c = typed_trees

pub returns-clause-calls : goal.returns-clause-calls
returns-clause-calls c = typed_calls

pub returns-clause-expressions : goal.returns-clause-expressions
returns-clause-expressions c = typed_expressions
