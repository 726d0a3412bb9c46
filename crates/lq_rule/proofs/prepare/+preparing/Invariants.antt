-- What each function goes down by: the depth of what it prepares, and at one depth the node, its form, two operands, an operand.
use Rattle.std.proofs.Common.{◌+◌, ◌*◌, max}
use Rattle.lq_grammar.specs.declared.syntax.Expr.{size-Expr}
use Rattle.lq_rule.proofs.prepare.+preparing.Given as goal

abbrev pub decreases-prepared : goal.decreases-prepared
decreases-prepared l = 5 * goal.size-prepared l

abbrev pub decreases-held : goal.decreases-held
decreases-held l = 5 * goal.size-held l + 1

abbrev pub decreases-both : goal.decreases-both
decreases-both l = 5 * max (size-Expr l.left.now) (size-Expr l.right.now) + 2

abbrev pub decreases-argument : goal.decreases-argument
decreases-argument l = 5 * goal.size-argument l + 2

abbrev pub decreases-prepared_member : goal.decreases-prepared_member
decreases-prepared_member l = 5 * goal.size-prepared_member l + 2

abbrev pub decreases-prepared_method : goal.decreases-prepared_method
decreases-prepared_method l = 5 * max (goal.size-prepared_method l) (size-Expr l.receiver.now) + 3

abbrev pub decreases-prepared_node : goal.decreases-prepared_node
decreases-prepared_node l = 5 * goal.size-prepared_node l + 4
