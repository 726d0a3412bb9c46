use Rattle.std.proofs.Common.{◌≡◌, ◌++◌, length, map}
use Rattle.lq_policyfile.specs.File.{number_among}
use Rattle.lq_policyfile.proofs.parts.numbers_among.Given as goal

-- the numbers of those that are left follow
abbrev pub invariant-loop-left : goal.invariant-loop-left
invariant-loop-left l = l.numbers ++ map (number_among l.names) l.left ≡ map (number_among l.names) l.members

abbrev pub decreases-loop-left : goal.decreases-loop-left
decreases-loop-left l = length l.left
