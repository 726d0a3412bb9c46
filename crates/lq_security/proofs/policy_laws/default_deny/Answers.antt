use Rattle.lq_security.proofs.PolicyLemmas.{is_denied_by_default, is_denied_to_strangers}
use Rattle.lq_security.proofs.policy_laws.default_deny.Goals as goal

pub returns-clause-role : goal.returns-clause-role
returns-clause-role c = is_denied_by_default

pub returns-clause-stranger : goal.returns-clause-stranger
returns-clause-stranger c = is_denied_to_strangers
