use Rattle.std.proofs.Common.{◌≡◌, [], length, map}
use Rattle.lq_policyfile.specs.NameSets.{with_names}
use Rattle.lq_policyfile.proofs.duplicates.names_of.Given as goal

-- the names that are left are put in
abbrev pub invariant-loop-left : goal.invariant-loop-left
invariant-loop-left g l = with_names l.names (map g.T.HasEntryName.name l.left) ≡ with_names [] (map g.T.HasEntryName.name l.entries)

abbrev pub decreases-loop-left : goal.decreases-loop-left
decreases-loop-left g l = length l.left
