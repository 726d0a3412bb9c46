use Rattle.std.proofs.Common.{◌≡◌, length}
use Rattle.std.specs.List.{list_all}
use Rattle.lq_policy.specs.RowRules.{admits_by, rules_admit}
use Rattle.lq_policy.proofs.row_rules.Ruled.verdict.Given as goal

-- the lists of rules that are left decide
abbrev pub invariant-loop-left : goal.invariant-loop-left
invariant-loop-left l = list_all (admits_by l.asked.cells.now l.asked.user.now) l.left ≡ rules_admit l.fn.self l.cells

abbrev pub decreases-loop-left : goal.decreases-loop-left
decreases-loop-left l = length l.left
