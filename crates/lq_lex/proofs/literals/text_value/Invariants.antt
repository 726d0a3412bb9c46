use Rattle.std.proofs.Common.{length, drop}
use Rattle.std.specs.Prelude.{string_bytes}
use Rattle.std.specs.Str.{chars}
use Rattle.lq_grammar.specs.TextLiterals.{text_value}
use Rattle.lq_lex.specs.Literals.{place_of}
use Rattle.lq_lex.proofs.Spelling.{Makes}
use Rattle.lq_lex.proofs.literals.text_value.Given as goal

abbrev pub invariant-loop-c : goal.invariant-loop-c
invariant-loop-c l = Makes (text_value l.literal) (string_bytes l.text) (place_of l.place) (drop (length l.yielded) (drop 1 (chars l.literal)))
