use Rattle.std.proofs.Common.{◌≡◌, length}
use Rattle.lq_grammar.specs.Words.{kind_among}
use Rattle.lq_lex.specs.Letters.{words}
use Rattle.lq_lex.proofs.words.lookup.Given as goal

abbrev pub invariant-loop-table : goal.invariant-loop-table
invariant-loop-table l = kind_among (words l.table) l.name ≡ kind_among (words l.initial.table) l.name

abbrev pub decreases-loop-table : goal.decreases-loop-table
decreases-loop-table l = length l.table
