use Rattle.lq_security.proofs.RightLaws.{denies_without_grants}
use Rattle.lq_security.proofs.right_laws.no_right_without_a_grant.Goals as goal

pub returns : goal.returns
returns c = denies_without_grants
