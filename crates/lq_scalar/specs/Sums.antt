-- Where an evaluation may build a text: how many `+` there are in an expression that is evaluated here.
use Rattle.std.specs.Prelude.{◌+◌, ℕ, Option, Some, None}
use Rattle.lq_language.specs.Members.{sole_argument}
use Rattle.lq_grammar.specs.declared.syntax.Binary.{Binary}
use Rattle.lq_grammar.specs.declared.syntax.Binary.TheVariants as binary
use Rattle.lq_grammar.specs.declared.syntax.Expr.{Expr, fold-Expr}
use Rattle.lq_grammar.specs.declared.syntax.Expr.TheOpen.{Expr-F}
use Rattle.lq_grammar.specs.declared.syntax.Node.{Node}
use Rattle.lq_grammar.specs.declared.syntax.Node.TheVariants as node

abbrev pub sum_sign : Binary → ℕ
sum_sign binary.Add = 1
sum_sign sign = 0

abbrev pub or_zero : Option ℕ → ℕ
or_zero None = 0
or_zero (Some n) = n

abbrev pub node_sums : Node ℕ → ℕ
node_sums (node.Member a m) = a
node_sums (node.Unary sign a) = a
node_sums (node.Binary sign a b) = sum_sign sign + (a + b)
node_sums (node.And a b) = a + b
node_sums (node.Or a b) = a + b
node_sums (node.Coalesce a b) = a + b
node_sums (node.Conditional c a b) = c + (a + b)
node_sums (node.Host p row columns) = row
node_sums (node.Method a m arguments) = a + or_zero (sole_argument arguments)
node_sums node = 0

abbrev pub sums_step : Expr-F ℕ → ℕ
sums_step (Expr-F.Node n) = node_sums n
sums_step (Expr-F.Query q) = 0

unfoldable pub sums_in : Expr → ℕ
sums_in = fold-Expr ℕ sums_step

-- the same of an argument that is there
abbrev pub sums_of_argument : Option Expr → ℕ
sums_of_argument None = 0
sums_of_argument (Some e) = sums_in e
