-- The rules so far, and that of one more policy.
use Rattle.std.proofs.Common.{arith}
use Rattle.lq_policy.proofs.AdmissionLemmas.{none_so_far, one_more, there}
use Rattle.lq_policy.proofs.policies.Policies.rules_among.Goals as goal

pub loop-number-init : goal.loop-number-init
loop-number-init c =
    none_so_far c.args.self.now.tables c.args.self.now.roles c.args.access c.args.policies.now c.new-rules.result c.new-rules.ensures.permitted c.new-rules.ensures.allowed

pub add_rule-requires : goal.add_rule-requires
add_rule-requires c =
    there c.args.policies.now c.args.self.now.policies c.loop-number.number c.index-policies-number.result c.requires (omega arith) c.index-policies-number.is

pub loop-number-preserved : goal.loop-number-preserved
loop-number-preserved c =
    one_more c.args.self.now.tables c.args.self.now.roles c.args.access c.args.policies.now c.loop-number.number c.index-policies-number.result c.loop-number.rules
    c.add_rule.new.rules (omega arith) c.index-policies-number.is c.loop-number.invariant c.in_ok-add_rule.ensures.permitted c.in_ok-add_rule.ensures.allowed
