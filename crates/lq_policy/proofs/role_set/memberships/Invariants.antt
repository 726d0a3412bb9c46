use Rattle.std.proofs.Common.{drop}
use Rattle.lq_policy.proofs.MembershipLemmas.{AreSoFar}
use Rattle.lq_policy.proofs.role_set.memberships.Given as goal

-- the sets so far give the memberships of the roles so far
abbrev pub invariant-loop-role : goal.invariant-loop-role
invariant-loop-role l = AreSoFar l.roles (drop l.role-index l.roles) l.sets.items
