use Rattle.lq_grammar.proofs.Trees.{condition_spelled}
use Rattle.lq_grammar.proofs.grammar_laws.condition_is_spelled.Goals as goal

pub returns : goal.returns
returns c = condition_spelled
