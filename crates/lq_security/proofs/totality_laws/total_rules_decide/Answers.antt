use Rattle.lq_security.proofs.TotalRules.{decides_rules}
use Rattle.lq_security.proofs.totality_laws.total_rules_decide.Goals as goal

pub returns : goal.returns
returns c = decides_rules
