use Rattle.lq_language.proofs.NullLemmas.{has_value_unless_null, null_has_no_order, null_has_nothing}
use Rattle.lq_language.proofs.operation_laws.null_is_no_value.Goals as goal

pub returns-clause-values : goal.returns-clause-values
returns-clause-values c = has_value_unless_null

pub returns-clause-members : goal.returns-clause-members
returns-clause-members c = null_has_nothing

pub returns-clause-order : goal.returns-clause-order
returns-clause-order c = null_has_no_order
