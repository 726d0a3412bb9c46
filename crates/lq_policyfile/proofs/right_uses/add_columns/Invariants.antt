use Rattle.std.proofs.Common.{◌≡◌, ◌≤◌, ◌+◌, ◌++◌, length}
use Rattle.lq_language.specs.Uses.{columns_from}
use Rattle.lq_policyfile.proofs.right_uses.add_columns.Given as goal

-- the columns that are left follow, from this number on
abbrev pub invariant-loop-left : goal.invariant-loop-left
invariant-loop-left l =
    (l.uses ++ columns_from l.table l.number l.left ≡ l.fn.uses ++ columns_from l.table 0 l.columns) × (l.number + length l.left ≤ 100)

abbrev pub decreases-loop-left : goal.decreases-loop-left
decreases-loop-left l = length l.left
