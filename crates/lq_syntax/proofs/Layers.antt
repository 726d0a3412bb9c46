-- How a layer is found in an expression.
use Rattle.lq_grammar.specs.declared.syntax.Expr.TheVariants.{outs-Node, outs-Query}

pub ruleset layers = (outs-Node, outs-Query)
