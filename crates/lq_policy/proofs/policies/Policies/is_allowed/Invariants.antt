use Rattle.std.proofs.Common.{◌≡◌, drop, filter}
use Rattle.std.specs.List.{list_all}
use Rattle.lq_security.specs.Visible.{allows}
use Rattle.lq_policy.specs.Asking.{asked_of, bears_on}
use Rattle.lq_policy.proofs.policies.Policies.is_allowed.Given as goal

-- the policies that are left decide
abbrev pub invariant-loop-number : goal.invariant-loop-number
invariant-loop-number l =
    list_all (allows l.access.action (asked_of l.self l.access l.asked)) (filter (bears_on l.self.roles l.access) (drop l.number l.policies))
    ≡ list_all (allows l.access.action (asked_of l.self l.access l.asked)) (filter (bears_on l.self.roles l.access) l.policies)
