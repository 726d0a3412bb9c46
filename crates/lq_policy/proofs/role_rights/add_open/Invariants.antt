use Rattle.std.proofs.Common.{◌≡◌, ◌&&◌, ◌||◌, not, drop}
use Rattle.std.specs.List.{list_any}
use Rattle.lq_language.specs.declared.rights.Use.{Use}
use Rattle.lq_policy.specs.RoleRights.{gives, is_among}
use Rattle.lq_policy.proofs.role_rights.add_open.Given as goal

-- the set so far, and what the rights to come give
abbrev pub invariant-loop-right : goal.invariant-loop-right
invariant-loop-right l =
    (other : Use)
    → list_any (λ right. gives other right && not (is_among l.withheld right)) (drop l.right-index l.rights) || is_among l.set other
    ≡ list_any (λ right. gives other right && not (is_among l.withheld right)) l.rights || is_among l.initial.set other
