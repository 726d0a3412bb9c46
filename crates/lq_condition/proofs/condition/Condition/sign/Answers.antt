use Rattle.std.proofs.Common.{rules}
use Rattle.lq_condition.proofs.ConditionLaws.{number_sign}
use Rattle.lq_condition.proofs.condition.Condition.sign.Goals as goal

pub returns-in-Some : goal.returns-in-Some
returns-in-Some c = number_sign _ _ _ _ _ c.number_condition.ensures (search (rules, c.in-Some.ensures))
