-- The trees that expressions of rules are prepared as.
use Rattle.std.specs.Prelude.{◌≡◌, List, ℕ, ℤ, true, Option, Some, None, Result, Ok, Err}
use Rattle.lq_value.specs.declared.scalar.Scalar.{Scalar}
use Rattle.lq_value.specs.declared.value.Fault.{Fault}
use Rattle.lq_security.specs.Totality.{is_total}
use Rattle.lq_security.specs.Visible.{rule_scope, rule_world}
use Rattle.lq_grammar.specs.declared.syntax.Expr.{Expr}
use Rattle.lq_grammar.specs.declared.syntax.Expr.TheOpen.{Expr-F}
use Rattle.lq_grammar.specs.declared.syntax.Node.TheVariants as node
use Rattle.lq_scalar.specs.Shapes.{scalar_shape, shape_of}
use Rattle.lq_rule.specs.RowMeaning.{read}
use Rattle.lq_rule.specs.declared.prepared.Prepared.{Prepared}
use Rattle.lq_rule.specs.declared.prepared.Prepared.TheVariants as prepared

-- Where an expression of a rule is total, a prepared one is the same scalar on each row, or the same fault.
pub record StandsFor (columns : List (List ℕ)) (e : Expr) (prepared : Prepared) : Type 0 where
  pub same : is_total e ≡ true → (cells : List Scalar) (user : List ℕ)
      → shape_of (rule_world columns) (rule_scope cells user) e ≡ scalar_shape (read prepared cells user)

-- the tree of what is known beforehand
abbrev pub known : Result Scalar Fault → Prepared
known (Ok s) = prepared.Literal s
known (Err f) = prepared.Fault f

-- the number of an integer literal
abbrev pub integer_in : Expr-F Expr → Option ℤ
integer_in (Expr-F.Node (node.Integer n)) = Some n
integer_in layer = None
