use Rattle.std.proofs.Common.{◌≡◌, ◌+◌, length}
use Rattle.std.specs.Prelude.{option_map}
use Rattle.lq_grammar.specs.TextLiterals.{length_from, plain}
use Rattle.lq_lex.specs.Literals.{place_of}
use Rattle.lq_lex.proofs.literals.length_of_text.Given as goal

abbrev pub invariant-loop-rest : goal.invariant-loop-rest
invariant-loop-rest l =
    (length_from plain l.behind ≡ option_map (λ n. l.length + n) (length_from (place_of l.place) l.rest)) × (l.length + length l.rest ≡ length l.behind)

abbrev pub decreases-loop-rest : goal.decreases-loop-rest
decreases-loop-rest l = length l.rest
