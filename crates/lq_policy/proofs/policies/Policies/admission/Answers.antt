-- The policies are those that the parts have.
use Rattle.std.proofs.Common.{◌≡◌, ◌∙◌, List, ℕ, IfOk, ap, filter, subst}
use Rattle.lq_value.specs.declared.scalar.Scalar.{Scalar}
use Rattle.lq_security.specs.Visible.{admit}
use Rattle.lq_security.specs.declared.policy.Policy.{Policy}
use Rattle.lq_security.specs.declared.policy.PolicyParts.{PolicyParts}
use Rattle.lq_policy.specs.Asking.{bears_on}
use Rattle.lq_policy.specs.Guards.{asked_at}
use Rattle.lq_policy.specs.RowRules.{admits_by}
use Rattle.lq_policy.proofs.policies.Policies.admission.Goals as goal

pub returns : goal.returns
returns c =
    let self = c.args.self.now in
    let access = c.args.access in
    subst (λ (policies : List Policy). IfOk c.rules_among.result (λ rules. (cells : List Scalar) (user : List ℕ)
    → admits_by cells user rules ≡ admit access.action (filter (bears_on self.roles access) policies) (asked_at self.tables access.table cells user)))
    (c.as_slice.ensures ∙ ap (λ (parts : PolicyParts). parts.policies) c.self.view_is) c.rules_among.ensures
