use Rattle.lq_grammar.proofs.LexemeLemmas.{faults_without_lexeme, takes_longest}
use Rattle.lq_grammar.proofs.lexing_laws.longest_tokens.Goals as goal

pub returns-clause-longest : goal.returns-clause-longest
returns-clause-longest c = takes_longest

pub returns-clause-faults : goal.returns-clause-faults
returns-clause-faults c = faults_without_lexeme
