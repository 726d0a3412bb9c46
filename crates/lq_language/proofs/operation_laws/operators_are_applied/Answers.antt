use Rattle.lq_language.proofs.OperatorMeaningLemmas.{members_are_applied, negations_are_applied, searches_are_applied, signs_are_applied}
use Rattle.lq_language.proofs.operation_laws.operators_are_applied.Goals as goal

pub returns-clause-members : goal.returns-clause-members
returns-clause-members c start = members_are_applied

pub returns-clause-signs : goal.returns-clause-signs
returns-clause-signs c start = signs_are_applied

pub returns-clause-negations : goal.returns-clause-negations
returns-clause-negations c start = negations_are_applied

pub returns-clause-searches : goal.returns-clause-searches
returns-clause-searches c start = searches_are_applied
