-- Operators between two operands: the tree of each over the trees of its operands.
use Rattle.std.specs.Prelude.{Option}
use Rattle.lq_tree.specs.Binding.{and_tree, binary_tree, coalesce_tree, or_tree}
use Rattle.lq_tree.specs.declared.tree.Tree.{Tree}
use Rattle.lq_bind.specs.declared.operations.Infix.{Infix}
use Rattle.lq_bind.specs.declared.operations.Infix.TheVariants as op

abbrev pub operation_tree : Infix → Tree → Tree → Option Tree
operation_tree (op.Sign sign) = binary_tree sign
operation_tree op.And = and_tree
operation_tree op.Or = or_tree
operation_tree op.Coalesce = coalesce_tree
