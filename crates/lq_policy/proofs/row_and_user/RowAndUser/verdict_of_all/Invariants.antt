use Rattle.std.proofs.Common.{◌≡◌, length}
use Rattle.std.specs.List.{list_all}
use Rattle.lq_policy.specs.Guards.{decides_on, rules_of}
use Rattle.lq_policy.proofs.row_and_user.RowAndUser.verdict_of_all.Given as goal

-- the rules that are left decide
abbrev pub invariant-loop-left : goal.invariant-loop-left
invariant-loop-left l =
    list_all (decides_on l.self.cells.now l.self.user.now) (rules_of l.left)
    ≡ list_all (decides_on l.self.cells.now l.self.user.now) (rules_of l.rules)

abbrev pub decreases-loop-left : goal.decreases-loop-left
decreases-loop-left l = length l.left
