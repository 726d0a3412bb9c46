use Rattle.std.proofs.Common.{◌≡◌, ◌||◌, drop}
use Rattle.std.specs.List.{list_any}
use Rattle.lq_security.specs.Rights.{is_same_use}
use Rattle.lq_language.specs.declared.rights.Use.{Use}
use Rattle.lq_policy.specs.RoleRights.{is_among}
use Rattle.lq_policy.proofs.role_rights.add_rights.Given as goal

-- the set so far, and the rights to come
abbrev pub invariant-loop-right : goal.invariant-loop-right
invariant-loop-right l =
    (other : Use) → list_any (is_same_use other) (drop l.right-index l.rights) || is_among l.set other
    ≡ list_any (is_same_use other) l.rights || is_among l.initial.set other
