use Rattle.lq_security.proofs.MembershipLaws.{tells_memberships}
use Rattle.lq_security.proofs.policy_laws.memberships.Goals as goal

pub returns : goal.returns
returns c = tells_memberships
