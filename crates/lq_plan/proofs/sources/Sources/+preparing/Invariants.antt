-- What the preparing of conditions goes down by: the size of the form.
use Rattle.std.proofs.Common.{◌+◌, ◌*◌, max}
use Rattle.lq_tree.specs.declared.tree.Form.{size-Form}
use Rattle.lq_plan.proofs.sources.Sources.+preparing.Given as goal

abbrev pub decreases-condition : goal.decreases-condition
decreases-condition g l = 2 * size-Form l.form.now

abbrev pub decreases-unary_condition : goal.decreases-unary_condition
decreases-unary_condition g l = 2 * size-Form l.operand.now + 1

abbrev pub decreases-both_condition : goal.decreases-both_condition
decreases-both_condition g l = 2 * max (size-Form l.left.now) (size-Form l.right.now) + 1

abbrev pub decreases-either_condition : goal.decreases-either_condition
decreases-either_condition g l = 2 * max (size-Form l.left.now) (size-Form l.right.now) + 1
