use Rattle.std.proofs.Common.{◌≡◌, length}
use Rattle.lq_language.specs.Names.{column_named}
use Rattle.lq_policyfile.proofs.rule_checks.type_of_named.Given as goal

-- the column is looked for among those that are left
abbrev pub invariant-loop-left : goal.invariant-loop-left
invariant-loop-left l = column_named l.name l.left ≡ column_named l.name l.columns

abbrev pub decreases-loop-left : goal.decreases-loop-left
decreases-loop-left l = length l.left
