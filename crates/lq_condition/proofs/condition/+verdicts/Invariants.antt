-- What asking conditions goes down by: their size. A chain of `&&` says what is left of it says.
use Rattle.std.proofs.Common.{◌≡◌, ◌+◌, ◌*◌, ◌≤◌, max}
use Rattle.lq_condition.specs.Verdicts.{both_verdicts, verdict}
use Rattle.lq_condition.specs.declared.condition.Condition.{size-Condition}
use Rattle.lq_condition.proofs.condition.+verdicts.Given as goal

abbrev pub decreases-Condition::verdict : goal.decreases-Condition::verdict
decreases-Condition::verdict l = 4 * size-Condition l.self.now + 2

abbrev pub decreases-Condition::single_verdict : goal.decreases-Condition::single_verdict
decreases-Condition::single_verdict l = 4 * size-Condition l.self.now + 1

abbrev pub decreases-Condition::any_verdict : goal.decreases-Condition::any_verdict
decreases-Condition::any_verdict l = 4 * size-Condition l.self.now

abbrev pub decreases-not_verdict : goal.decreases-not_verdict
decreases-not_verdict l = 4 * size-Condition l.operand.now + 3

abbrev pub decreases-both_verdict : goal.decreases-both_verdict
decreases-both_verdict l = 4 * max (size-Condition l.left.now) (size-Condition l.right.now) + 3

abbrev pub decreases-either_verdict : goal.decreases-either_verdict
decreases-either_verdict l = 4 * max (size-Condition l.left.now) (size-Condition l.right.now) + 3

abbrev pub invariant-both_verdict-chain : goal.invariant-both_verdict-chain
invariant-both_verdict-chain l =
    (both_verdicts (verdict l.first l.cells) (verdict l.rest l.cells)
    ≡ both_verdicts (verdict l.left l.cells) (verdict l.right l.cells))
    × (size-Condition l.first ≤ max (size-Condition l.left) (size-Condition l.right))
    × (size-Condition l.rest ≤ max (size-Condition l.left) (size-Condition l.right))

abbrev pub decreases-both_verdict-chain : goal.decreases-both_verdict-chain
decreases-both_verdict-chain l = size-Condition l.rest
