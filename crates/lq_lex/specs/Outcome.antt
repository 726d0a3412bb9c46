-- What the results of the lexer say of the definitions.
use Rattle.std.specs.Prelude.{◌≡◌, List, ℕ, true, false, Option, Some, None, Result, Ok, Err}
use Rattle.lq_grammar.specs.Tokens.{is_too_long, tokens_in}
use Rattle.lq_grammar.specs.declared.token.Token.{Token}
use Rattle.lq_lex.specs.declared.error.LexError.{LexError}
use Rattle.lq_lex.specs.declared.error.LexError.TheVariants as lex

-- the tokens are those that were defined
abbrev pub Cuts : {V : Type 0} → (V → List Token) → Option (List Token) → Result V LexError → Type 0
Cuts items outcome (Ok v) = outcome ≡ Some (items v)
Cuts items outcome (Err lex.Lexical) = outcome ≡ None
Cuts items outcome (Err lex.Memory) = Unit {0}
Cuts items outcome (Err lex.TooLong) = ⊥

-- The tokens are those of the line, which is refused as too long exactly where it is, and for a lexical fault exactly where it
-- has one and is not too long. Memory is refused only for a line that is not too long.
abbrev pub CutsLine : {V : Type 0} → (V → List Token) → List ℕ → Result V LexError → Type 0
CutsLine items line (Ok v) = (is_too_long line ≡ false) × (tokens_in line ≡ Some (items v))
CutsLine items line (Err lex.Lexical) = (is_too_long line ≡ false) × (tokens_in line ≡ None)
CutsLine items line (Err lex.TooLong) = is_too_long line ≡ true
CutsLine items line (Err lex.Memory) = is_too_long line ≡ false
