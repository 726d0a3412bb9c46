-- What is decided of each form of an expression.
use Rattle.lq_grammar.specs.declared.syntax.Expr.TheVariants.{outs-Node, outs-Query}
use Rattle.lq_security.proofs.TotalityLaws.{strength_integer, strength_text, strength_truth, strength_null, strength_name, strength_member, strength_not, strength_minus, strength_binary, strength_and, strength_or, strength_coalesce, strength_conditional, strength_host, strength_other, strength_new, strength_method, strength_query}

pub ruleset strengths = (strength_integer, strength_text, strength_truth, strength_null, strength_name, strength_member, strength_not, strength_minus, strength_binary, strength_and, strength_or, strength_coalesce, strength_conditional, strength_host, strength_other, strength_new, strength_method, strength_query)

pub ruleset layers = (outs-Node, outs-Query)
