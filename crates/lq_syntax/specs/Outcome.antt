-- What the results of the parser say of the functions that it follows.
use Rattle.std.specs.Prelude.{◌≡◌, ◌∷◌, List, [], ℕ, Option, Some, None, Result, Ok, Err}
use Rattle.lq_grammar.specs.declared.token.Kind.TheVariants as k
use Rattle.lq_grammar.specs.declared.token.Token.{Token}
use Rattle.lq_syntax.specs.declared.error.ParseError.{ParseError}
use Rattle.lq_syntax.specs.declared.error.ParseError.TheVariants as parse
use Rattle.lq_syntax.specs.declared.error.SyntaxError.{SyntaxError}
use Rattle.lq_syntax.specs.declared.error.SyntaxError.TheVariants as syntax

-- what was read is what the reading function finds, and the tokens after it are left
abbrev pub Reads : {A : Type 0} → Option (A × List Token) → Result A ParseError → List Token → Type 0
Reads outcome (Ok x) behind = outcome ≡ Some (x, behind)
Reads outcome (Err parse.Syntax) behind = outcome ≡ None
Reads outcome (Err parse.Memory) behind = Unit {0}

-- the tree is the one that was defined
abbrev pub Gives : {A : Type 0} → Option A → Result A SyntaxError → Type 0
Gives outcome (Ok x) = outcome ≡ Some x
Gives outcome (Err syntax.Syntax) = outcome ≡ None
Gives outcome (Err syntax.Memory) = Unit {0}
Gives outcome (Err syntax.TooDeep) = ⊥

-- what a refusal of the parser is to its callers
abbrev pub syntax_error : ParseError → SyntaxError
syntax_error parse.Memory = syntax.Memory
syntax_error parse.Syntax = syntax.Syntax

-- the token that comes next; a semicolon ends each statement, so it represents none
abbrev pub next_token : List Token → Token
next_token [] = record { kind = k.Semicolon; start = 0; end = 0 }
next_token (token ∷ tokens) = token
