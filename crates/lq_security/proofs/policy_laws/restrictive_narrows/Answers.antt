use Rattle.lq_security.proofs.PolicyLemmas.{narrows_by_restriction}
use Rattle.lq_security.proofs.policy_laws.restrictive_narrows.Goals as goal

pub returns : goal.returns
returns c = narrows_by_restriction
