use Rattle.std.proofs.Common.{◌≡◌, ◌||◌, drop}
use Rattle.std.specs.List.{list_any}
use Rattle.lq_security.specs.Rights.{bears}
use Rattle.lq_language.specs.declared.rights.Use.{Use}
use Rattle.lq_policy.specs.RoleRights.{is_among}
use Rattle.lq_policy.specs.Roles.{number_of}
use Rattle.lq_policy.proofs.policies.Policies.covered_uses.Given as goal

-- the set so far, and the rules to come
abbrev pub invariant-loop-rule : goal.invariant-loop-rule
invariant-loop-rule l =
    (used : Use) → list_any (bears l.self.roles (number_of l.role) used) (drop l.rule-index l.rules) || is_among l.set used
    ≡ list_any (bears l.self.roles (number_of l.role) used) l.rules
