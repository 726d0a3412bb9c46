-- One more role, and its set, give one more membership.
use Rattle.std.proofs.Common.{rules, arith}
use Rattle.lq_policy.proofs.MembershipLemmas.{one_more_at}
use Rattle.lq_policy.proofs.role_set.memberships.Goals as goal

pub loop-role-preserved : goal.loop-role-preserved
loop-role-preserved c =
    one_more_at c.args.roles.now c.loop-role.role-index c.role-item.result c.loop-role.sets.items c.in_ok-groups.groups _ (omega arith) c.role-item.is
    c.in_ok-push.ensures.items c.loop-role.invariant (search rules)
