use Rattle.std.proofs.Common.{◌≡◌, ◌++◌, drop, filter, map}
use Rattle.lq_policy.specs.Asking.{asked_of}
use Rattle.lq_policy.specs.Explanations.{explained, has_a_say}
use Rattle.lq_policy.specs.Roles.{number_of}
use Rattle.lq_policy.proofs.policies.Policies.explained_among.Given as goal

-- what is reported so far, and of the policies that are left
abbrev pub invariant-loop-number : goal.invariant-loop-number
invariant-loop-number l =
    l.reported ++ map (explained l.access.action (asked_of l.self l.access l.asked))
    (filter (has_a_say l.self.roles (number_of l.access.role) l.access.action l.access.table) (drop l.number l.policies))
    ≡ map (explained l.access.action (asked_of l.self l.access l.asked))
    (filter (has_a_say l.self.roles (number_of l.access.role) l.access.action l.access.table) l.policies)
