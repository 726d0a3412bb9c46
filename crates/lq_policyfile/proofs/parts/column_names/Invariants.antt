use Rattle.std.proofs.Common.{◌≡◌, ◌++◌, length, map}
use Rattle.lq_policyfile.proofs.parts.column_names.Given as goal

-- the names of those that are left follow
abbrev pub invariant-loop-left : goal.invariant-loop-left
invariant-loop-left l = l.names ++ map (λ column. column.name) l.left ≡ map (λ column. column.name) l.columns

abbrev pub decreases-loop-left : goal.decreases-loop-left
decreases-loop-left l = length l.left
