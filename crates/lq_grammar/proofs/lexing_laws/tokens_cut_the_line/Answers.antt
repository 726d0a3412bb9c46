use Rattle.lq_grammar.proofs.LexingLemmas.{cut_the_line}
use Rattle.lq_grammar.proofs.lexing_laws.tokens_cut_the_line.Goals as goal

pub returns : goal.returns
returns c = cut_the_line
