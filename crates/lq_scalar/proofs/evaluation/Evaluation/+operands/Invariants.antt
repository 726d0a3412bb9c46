-- What each function of the evaluation goes down by: the depth of what it evaluates, and at one depth the node, its form, the arguments of a
-- method, an operand.
use Rattle.std.proofs.Common.{◌+◌, ◌*◌, max}
use Rattle.lq_grammar.specs.declared.syntax.Expr.{size-Expr}
use Rattle.lq_scalar.proofs.evaluation.Evaluation.+operands.Given as goal

abbrev pub decreases-operand : goal.decreases-operand
decreases-operand g l = 4 * goal.size-operand g l

abbrev pub decreases-argument : goal.decreases-argument
decreases-argument g l = 4 * goal.size-argument g l + 1

abbrev pub decreases-member : goal.decreases-member
decreases-member g l = 4 * goal.size-member g l + 2

abbrev pub decreases-method : goal.decreases-method
decreases-method g l = 4 * max (goal.size-method g l) (size-Expr l.receiver.now) + 2

abbrev pub decreases-minus : goal.decreases-minus
decreases-minus g l = 4 * goal.size-minus g l + 2

abbrev pub decreases-not : goal.decreases-not
decreases-not g l = 4 * goal.size-not g l + 2

abbrev pub decreases-binary : goal.decreases-binary
decreases-binary g l = 4 * max (size-Expr l.left.now) (size-Expr l.right.now) + 2

abbrev pub decreases-both : goal.decreases-both
decreases-both g l = 4 * max (size-Expr l.left.now) (size-Expr l.right.now) + 2

abbrev pub decreases-either : goal.decreases-either
decreases-either g l = 4 * max (size-Expr l.left.now) (size-Expr l.right.now) + 2

abbrev pub decreases-coalesced : goal.decreases-coalesced
decreases-coalesced g l = 4 * max (size-Expr l.left.now) (size-Expr l.right.now) + 2

abbrev pub decreases-conditional : goal.decreases-conditional
decreases-conditional g l = 4 * max (size-Expr l.condition.now) (max (size-Expr l.left.now) (size-Expr l.right.now)) + 2

abbrev pub decreases-node : goal.decreases-node
decreases-node g l = 4 * goal.size-node g l + 3
