use Rattle.std.proofs.Common.{◌≡◌, ◌≤◌, ◌+◌, ◌++◌, length}
use Rattle.std.specs.Prelude.{option_map, sum_by}
use Rattle.std.specs.Char.{len_utf8}
use Rattle.lq_grammar.specs.Tokens.{tokens_from}
use Rattle.lq_lex.proofs.lexer.cut.Given as goal

abbrev pub invariant-loop-text : goal.invariant-loop-text
invariant-loop-text l =
    (tokens_from 0 0 l.characters ≡ option_map (λ left. l.tokens.items ++ left) (tokens_from 0 l.start l.text))
    × (l.start + sum_by len_utf8 l.text ≡ sum_by len_utf8 l.characters)
    × (length l.text ≤ length l.characters)

abbrev pub decreases-loop-text : goal.decreases-loop-text
decreases-loop-text l = length l.text
