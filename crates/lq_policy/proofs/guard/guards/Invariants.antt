use Rattle.std.proofs.Common.{take}
use Rattle.std.specs.List.{AllZip}
use Rattle.lq_policy.specs.Guards.{IsGuarded}
use Rattle.lq_policy.proofs.guard.guards.Given as goal

-- the policies so far have their guards
abbrev pub invariant-loop-policy : goal.invariant-loop-policy
invariant-loop-policy l = AllZip (IsGuarded l.tables) (take l.policy-index l.policies) l.guards.items
