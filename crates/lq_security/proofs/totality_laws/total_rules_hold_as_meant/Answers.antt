use Rattle.lq_security.proofs.RuleLemmas.{holds_as_meant}
use Rattle.lq_security.proofs.totality_laws.total_rules_hold_as_meant.Goals as goal

pub returns : goal.returns
returns c = holds_as_meant
