use Rattle.std.proofs.Common.{◌≡◌, ◌++◌, length, map}
use Rattle.lq_policyfile.specs.Duplicates.{are_new}
use Rattle.lq_policyfile.proofs.duplicates.add_new.Given as goal

-- the names that are left decide, and so far all were put after the earlier ones
abbrev pub invariant-loop-left : goal.invariant-loop-left
invariant-loop-left g l =
    (are_new l.earlier (map g.T.HasEntryName.name l.left) ≡ are_new l.fn.earlier (map g.T.HasEntryName.name l.entries))
    × (l.earlier ++ map g.T.HasEntryName.name l.left ≡ l.fn.earlier ++ map g.T.HasEntryName.name l.entries)

abbrev pub decreases-loop-left : goal.decreases-loop-left
decreases-loop-left g l = length l.left
