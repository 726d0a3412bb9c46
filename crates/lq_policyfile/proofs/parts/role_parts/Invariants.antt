use Rattle.std.proofs.Common.{◌≡◌, ◌++◌, length, map}
use Rattle.lq_policyfile.specs.File.{role_part}
use Rattle.lq_policyfile.proofs.parts.role_parts.Given as goal

-- the roles of those that are left follow
abbrev pub invariant-loop-left : goal.invariant-loop-left
invariant-loop-left l = l.roles ++ map (role_part l.names) l.left ≡ map (role_part l.names) l.entries

abbrev pub decreases-loop-left : goal.decreases-loop-left
decreases-loop-left l = length l.left
