use Rattle.lq_security.proofs.ReadPolicies.{tells_visible}
use Rattle.lq_security.proofs.policy_laws.visible_rows.Goals as goal

pub returns : goal.returns
returns c = tells_visible
