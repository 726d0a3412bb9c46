use Rattle.lq_security.proofs.PolicyLemmas.{widens_by_permission}
use Rattle.lq_security.proofs.policy_laws.permissive_widens.Goals as goal

pub returns : goal.returns
returns c = widens_by_permission
