-- The places of the reader of text literals, as the definition has them.
use Rattle.std.specs.Prelude.{Option, ℕ}
use Rattle.lq_grammar.specs.TextLiterals as literal
use Rattle.lq_lex.specs.declared.literals.Place.{Place}
use Rattle.lq_lex.specs.declared.literals.Place.TheVariants as place

abbrev pub place_of : Place → literal.Place
place_of place.Plain = literal.plain
place_of place.Backslash = literal.backslash
place_of place.First = literal.first
place_of (place.Second a) = literal.second a
place_of (place.Third a b) = literal.third a b
place_of (place.Fourth a b c) = literal.fourth a b c

abbrev pub step_of : Place × Option ℕ → literal.Step
step_of step = (place_of step.0, step.1)
