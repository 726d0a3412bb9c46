use Rattle.lq_security.proofs.RightLaws.{grants_more, withholds_more}
use Rattle.lq_security.proofs.right_laws.one_rule_more.Goals as goal

pub returns-clause-withhold : goal.returns-clause-withhold
returns-clause-withhold c = withholds_more

pub returns-clause-grant : goal.returns-clause-grant
returns-clause-grant c = grants_more
