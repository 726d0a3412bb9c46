-- A line that was typed: a command, or a statement whose `;` may be left out.
use Rattle.std.specs.Prelude.{◌∷◌, ◌++◌, ◌-◌, ◌==◌, not, if◌then◌else◌, length, slice_get, List, [], ℕ, Bool, true, false, Option, Some, None}
use Rattle.lq_grammar.specs.Tokens.{tokens_of}
use Rattle.lq_grammar.specs.declared.token.Kind.{Kind}
use Rattle.lq_grammar.specs.declared.token.Kind.TheVariants as kind
use Rattle.lq_grammar.specs.declared.token.Token.{Token}

-- a command begins with a dot, as no statement does
abbrev pub is_command : List ℕ → Bool
is_command [] = false
is_command (c ∷ cs) = c == 46

abbrev pub ends_statement : Kind → Bool
ends_statement kind.Semicolon = true
ends_statement other = false

-- a statement whose last token is this lacks its `;`
abbrev pub lacks_end : Option Token → Bool
lacks_end None = false
lacks_end (Some last) = not (ends_statement last.kind)

abbrev pub is_open : List Token → Bool
is_open tokens = lacks_end (slice_get tokens (length tokens - 1))

abbrev pub lacks_semicolon : Option (List Token) → Bool
lacks_semicolon None = false
lacks_semicolon (Some tokens) = is_open tokens

-- the statement on a line with the `;` that its end lacks, after a line feed, where a comment has ended
unfoldable pub closed : List ℕ → List ℕ
closed line = if lacks_semicolon (tokens_of line) then line ++ 10 ∷ 59 ∷ [] else line
