use Rattle.std.proofs.Common.{◌≡◌, length}
use Rattle.lq_security.specs.Visible.{is_listed}
use Rattle.lq_policy.specs.Roles.{number_of}
use Rattle.lq_policy.proofs.policies.Policies.is_listed.Given as goal

-- the names that are left decide
abbrev pub invariant-loop-left : goal.invariant-loop-left
invariant-loop-left l = is_listed l.self.roles (number_of l.role) l.left ≡ is_listed l.self.roles (number_of l.role) l.to

abbrev pub decreases-loop-left : goal.decreases-loop-left
decreases-loop-left l = length l.left
