use Rattle.lq_grammar.proofs.LexingLemmas.{lie_in_order}
use Rattle.lq_grammar.proofs.lexing_laws.tokens_in_order.Goals as goal

pub returns : goal.returns
returns c = lie_in_order
