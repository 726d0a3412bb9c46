use Rattle.lq_grammar.proofs.LiteralLemmas.{finds_literals, values_literals}
use Rattle.lq_grammar.proofs.lexing_laws.text_literals.Goals as goal

pub returns-clause-found : goal.returns-clause-found
returns-clause-found c = finds_literals

pub returns-clause-value : goal.returns-clause-value
returns-clause-value c = values_literals
