use Rattle.std.proofs.Common.{◌≡◌, length}
use Rattle.lq_lex.specs.Letters.{words, is_among}
use Rattle.lq_lex.proofs.words.is_reserved.Given as goal

abbrev pub invariant-loop-table : goal.invariant-loop-table
invariant-loop-table l = is_among (words l.table) l.name ≡ is_among (words l.initial.table) l.name

abbrev pub decreases-loop-table : goal.decreases-loop-table
decreases-loop-table l = length l.table
