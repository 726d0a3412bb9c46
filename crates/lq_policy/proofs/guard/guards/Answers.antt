-- One more policy, and its guard.
use Rattle.std.proofs.Common.{arith}
use Rattle.lq_policy.proofs.GuardLemmas.{one_more}
use Rattle.lq_policy.proofs.guard.guards.Goals as goal

pub loop-policy-preserved : goal.loop-policy-preserved
loop-policy-preserved c =
    one_more c.args.tables.now c.args.policies.now c.loop-policy.guards.items _ c.loop-policy.policy-index c.policy-item.result c.in_ok-guard.guard
    c.columns_at-columns.result.now (omega arith) c.policy-item.is c.loop-policy.invariant c.columns_at-columns.ensures c.in_ok-guard.ensures c.in_ok-push.ensures.items
