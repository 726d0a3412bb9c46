use Rattle.lq_security.proofs.TotalityLaws.{tells_total}
use Rattle.lq_security.proofs.totality_laws.total_rules_are_told.Goals as goal

pub returns : goal.returns
returns c = tells_total
