-- The rule of the policy with the number, as the invariant of policies keeps it.
use Rattle.std.proofs.Common.{◌∙◌, List, Option, ap, slice_get, subst, sym}
use Rattle.std.specs.Option.{option_copied}
use Rattle.lq_security.specs.declared.policy.PolicyParts.{PolicyParts}
use Rattle.lq_rule.specs.declared.rule.PreparedRule.{PreparedRule}
use Rattle.lq_policy.specs.Guards.{IsRuleOf, rule_in}
use Rattle.lq_policy.specs.declared.guard.Guard.{Guard}
use Rattle.lq_policy.proofs.GuardLemmas.{rule_is}
use Rattle.lq_policy.proofs.policies.Policies.rule_of.Goals as goal

pub returns : goal.returns
returns c =
    let parts = c.self.inside.parts in
    let rule = c.rule_at.ensures ∙ ap (λ (guards : List Guard). rule_in c.args.action (slice_get guards c.args.number)) c.as_slice.ensures.value in
    subst (λ (p : PolicyParts). IsRuleOf p.tables c.args.action (slice_get p.policies c.args.number) (option_copied c.rule_at.result)) c.self.view_is
    (subst (λ (found : Option PreparedRule). IsRuleOf parts.tables c.args.action (slice_get parts.policies c.args.number) found) (sym rule)
    (rule_is parts.tables parts.policies c.self.inside.guards.items c.self.invariant.1 c.args.number c.args.action))
