use Rattle.lq_security.proofs.RuleLemmas.{holds_where_true}
use Rattle.lq_security.proofs.policy_laws.rules_that_hold.Goals as goal

pub returns : goal.returns
returns c = holds_where_true
