-- What the functions on characters and words give.
use Rattle.std.specs.Prelude.{◌==◌, ◌&&◌, ◌∷◌, List, [], ℕ, Bool, true, false, not, if◌then◌else◌, map}
use Rattle.std.specs.Str.{bytes_eq}
use Rattle.std.specs.Borrow.{Bor}
use Rattle.lq_grammar.specs.Tokens.{is_digit}
use Rattle.lq_grammar.specs.Words.{starts_name, continues_name}
use Rattle.lq_grammar.specs.declared.token.Kind.{Kind}
use Rattle.lq_lex.specs.declared.letters.Class.{Class}
use Rattle.lq_lex.specs.declared.letters.Class.TheVariants as class

abbrev pub is_in : Class → ℕ → Bool
is_in class.Name c = continues_name c
is_in class.Digit c = is_digit c
is_in class.Comment c = not (c == 10)

-- the words of a table, with their kinds
abbrev pub words : List (Bor (List ℕ) × Kind) → List (List ℕ × Kind)
words table = map (λ entry. (entry.0.now, entry.1)) table

-- whether a table has the word
abbrev pub is_among : List (List ℕ × Kind) → List ℕ → Bool
is_among [] name = false
is_among (word ∷ words) name = if bytes_eq name word.0 then true else is_among words name

-- whether the characters are those of a name or a reserved word, or of what continues one
abbrev pub is_word_from : Bool → List ℕ → Bool
is_word_from first [] = not first
is_word_from first (c ∷ cs) = (if first then starts_name c else continues_name c) && is_word_from false cs
