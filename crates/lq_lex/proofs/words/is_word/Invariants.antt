use Rattle.std.proofs.Common.{◌≡◌, length, drop, true}
use Rattle.std.specs.Str.{chars}
use Rattle.lq_lex.specs.Letters.{is_word_from}
use Rattle.lq_lex.proofs.words.is_word.Given as goal

abbrev pub invariant-loop-c : goal.invariant-loop-c
invariant-loop-c l = is_word_from l.is_first (drop (length l.yielded) (chars l.text)) ≡ is_word_from true (chars l.text)
