use Rattle.std.proofs.Common.{◌≡◌, ◌||◌, drop}
use Rattle.std.specs.List.{list_any}
use Rattle.lq_language.specs.declared.rights.Use.{Use}
use Rattle.lq_policy.specs.RoleRights.{grants_by, is_among}
use Rattle.lq_policy.specs.Roles.{number_of}
use Rattle.lq_policy.proofs.policies.Policies.granted_uses.Given as goal

-- the set so far, and what the grants to come give
abbrev pub invariant-loop-grant : goal.invariant-loop-grant
invariant-loop-grant l =
    (used : Use) → list_any (grants_by l.self.roles (number_of l.role) l.withheld used) (drop l.grant-index l.grants) || is_among l.set used
    ≡ list_any (grants_by l.self.roles (number_of l.role) l.withheld used) l.grants
