use Rattle.lq_security.proofs.RightLaws.{denies_the_rest, tells_uses}
use Rattle.lq_security.proofs.right_laws.rights_of_roles.Goals as goal

pub returns-clause-uses : goal.returns-clause-uses
returns-clause-uses c = tells_uses

pub returns-clause-denials : goal.returns-clause-denials
returns-clause-denials c = denies_the_rest
