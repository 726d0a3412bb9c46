use Rattle.lq_tree.proofs.MeetsOperands.{conditions_meet_operands, meets_operands, statements_meet_operands}
use Rattle.lq_tree.proofs.typed_form_laws.operands_are_of_their_kinds.Goals as goal

pub returns-clause-forms : goal.returns-clause-forms
returns-clause-forms c start = meets_operands

pub returns-clause-statements : goal.returns-clause-statements
returns-clause-statements c start = statements_meet_operands

pub returns-clause-conditions : goal.returns-clause-conditions
returns-clause-conditions c start = conditions_meet_operands
