use Rattle.std.proofs.Common.{◌≡◌, [], drop}
use Rattle.lq_policyfile.specs.Names.{are_memberships_known}
use Rattle.lq_policyfile.proofs.names.are_memberships_known.Given as goal

-- the roles that are left decide
abbrev pub invariant-loop-role : goal.invariant-loop-role
invariant-loop-role l = are_memberships_known l.earlier (drop l.role-index l.roles) ≡ are_memberships_known [] l.roles
