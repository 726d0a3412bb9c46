use Rattle.std.proofs.Common.{◌≡◌, drop, filter}
use Rattle.lq_security.specs.Visible.{first_refusing}
use Rattle.lq_policy.specs.Asking.{asked_of, bears_on}
use Rattle.lq_policy.proofs.policies.Policies.first_refusing.Given as goal

-- the first that refuses is the first of the policies that are left
abbrev pub invariant-loop-number : goal.invariant-loop-number
invariant-loop-number l =
    first_refusing (asked_of l.self l.access l.asked) (filter (bears_on l.self.roles l.access) (drop l.number l.policies))
    ≡ first_refusing (asked_of l.self l.access l.asked) (filter (bears_on l.self.roles l.access) l.policies)
