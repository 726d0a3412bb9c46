use Rattle.std.proofs.Common.{◌≡◌, Bool, List, ap, ◌∙◌}
use Rattle.std.specs.List.{list_any}
use Rattle.lq_security.specs.declared.policy.PolicyParts.{PolicyParts}
use Rattle.lq_language.specs.declared.rights.RightRule.{RightRule}
use Rattle.lq_language.specs.declared.rights.Use.{Use}
use Rattle.lq_security.specs.Rights.{bears}
use Rattle.lq_policy.proofs.RightLemmas.{allowed_alike}
use Rattle.lq_policy.specs.RoleRights.{grants_by, is_among}
use Rattle.lq_policy.specs.Roles.{number_of}
use Rattle.lq_policy.specs.declared.use_set.UseSet.{UseSet}
use Rattle.lq_policy.proofs.policies.Policies.rights_for.Goals as goal

-- a set of what rules pass a test is one of what the policies' own rules do
of_own : (test : Use → RightRule → Bool) (set : UseSet) (rules own : List RightRule) → rules ≡ own
    → ((used : Use) → is_among set used ≡ list_any (test used) rules) → (used : Use) → is_among set used ≡ list_any (test used) own
of_own test set rules own same is used = is used ∙ ap (list_any (test used)) same

pub returns : goal.returns
returns c used =
    let parts = c.args.self.now in
    let role = number_of c.args.role in
    let withheld = c.in_ok-withheld.withheld in
    let allowed = c.in_ok-allowed.allowed in
    allowed_alike parts role withheld allowed
    (of_own (λ u rule. bears parts.roles role u rule) withheld _ parts.withholds (c.as_slice.ensures ∙ ap (λ (p : PolicyParts). p.withholds) c.self.view_is) c.in_ok-withheld.ensures)
    (of_own (λ u rule. grants_by parts.roles role withheld u rule) allowed _ parts.grants (c.as_slice-2.ensures ∙ ap (λ (p : PolicyParts). p.grants) c.self.view_is) c.in_ok-allowed.ensures)
    used
