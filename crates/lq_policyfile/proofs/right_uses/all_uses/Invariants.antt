use Rattle.std.proofs.Common.{◌≡◌, ◌++◌, flat_map, length}
use Rattle.lq_policyfile.specs.RightUses.{uses_of}
use Rattle.lq_policyfile.proofs.right_uses.all_uses.Given as goal

-- what those that are left are for follows
abbrev pub invariant-loop-left : goal.invariant-loop-left
invariant-loop-left l = l.uses ++ flat_map (uses_of l.store l.hosts) l.left ≡ flat_map (uses_of l.store l.hosts) l.rights

abbrev pub decreases-loop-left : goal.decreases-loop-left
decreases-loop-left l = length l.left
