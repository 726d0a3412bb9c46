use Rattle.lq_grammar.proofs.Trees.{statement_spelled}
use Rattle.lq_grammar.proofs.grammar_laws.statement_is_spelled.Goals as goal

pub returns : goal.returns
returns c = statement_spelled
