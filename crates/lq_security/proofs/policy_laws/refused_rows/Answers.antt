use Rattle.lq_security.proofs.ReadPolicies.{accepts_visible, tells_refuser}
use Rattle.lq_security.proofs.policy_laws.refused_rows.Goals as goal

pub returns-clause-accepted : goal.returns-clause-accepted
returns-clause-accepted c = accepts_visible

pub returns-clause-refused : goal.returns-clause-refused
returns-clause-refused c = tells_refuser
