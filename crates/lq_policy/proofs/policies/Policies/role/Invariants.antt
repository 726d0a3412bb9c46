use Rattle.std.proofs.Common.{◌≡◌, drop, bytes_eq}
use Rattle.std.specs.List.{position_from}
use Rattle.lq_policy.proofs.policies.Policies.role.Given as goal

-- the role is looked for among those from here on
abbrev pub invariant-loop-number : goal.invariant-loop-number
invariant-loop-number l =
    position_from (λ role. bytes_eq role.name l.name) l.number (drop l.number l.self.roles) ≡ position_from (λ role. bytes_eq role.name l.name) 0 l.self.roles
