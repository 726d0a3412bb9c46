use Rattle.lq_tree.proofs.TypedStatements.{places_are_typed, typed_conditions, typed_statements}
use Rattle.lq_tree.proofs.typed_form_laws.statements_are_typed.Goals as goal

pub returns-clause-places : goal.returns-clause-places
returns-clause-places c = places_are_typed

pub returns-clause-statements : goal.returns-clause-statements
returns-clause-statements c = typed_statements

pub returns-clause-conditions : goal.returns-clause-conditions
returns-clause-conditions c = typed_conditions
