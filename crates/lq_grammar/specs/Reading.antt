-- What is read from one line of a script.
use Rattle.std.specs.Prelude.{◌≡◌, ◌∷◌, if◌then◌else◌, true, false, List, [], ℕ, Option, Some, None}
use Rattle.lq_grammar.specs.Depth.{is_deep}
use Rattle.lq_grammar.specs.Grammar.{Part, Spells}
use Rattle.lq_grammar.specs.Parsing.{rule_of, statement_of}
use Rattle.lq_grammar.specs.Tokens.{tokens_of}
use Rattle.lq_grammar.specs.declared.syntax.Expr.{Expr}
use Rattle.lq_grammar.specs.declared.syntax.Statement.{Statement}
use Rattle.lq_grammar.specs.declared.token.Token.{Token}

-- what a text says: nothing, a tree, or why it says neither
pub data Reading (A : Type 0) : Type 0 where
  Nothing : Reading A
  Says : A → Reading A
  IsNoSyntax : Reading A
  IsTooDeep : Reading A

abbrev pub says_or_not : {A : Type 0} → Option A → Reading A
says_or_not None = IsNoSyntax
says_or_not (Some x) = Says x

-- what a line's tokens say: they are weighed before they are read
abbrev pub reading_of_tokens : List ℕ → Option (List Token) → Reading Statement
reading_of_tokens line None = IsNoSyntax
reading_of_tokens line (Some []) = Nothing
reading_of_tokens line (Some (token ∷ tokens)) = if is_deep (token ∷ tokens) then IsTooDeep else says_or_not (statement_of line (token ∷ tokens))

unfoldable pub reading_of : List ℕ → Reading Statement
reading_of line = reading_of_tokens line (tokens_of line)

-- what the text of a rule says
abbrev pub rule_in_tokens : List ℕ → Option (List Token) → Reading Expr
rule_in_tokens text None = IsNoSyntax
rule_in_tokens text (Some tokens) = if is_deep tokens then IsTooDeep else says_or_not (rule_of text tokens)

unfoldable pub rule_reading_of : List ℕ → Reading Expr
rule_reading_of text = rule_in_tokens text (tokens_of text)

-- The tokens of a text are within the limits of depth, and spell this part of the grammar.
abbrev pub IsSpelled : List ℕ → Part → Type 0
IsSpelled text part = (tokens : List Token) × (tokens_of text ≡ Some tokens) × (is_deep tokens ≡ false) × Spells text part tokens

-- The tokens of a text are past the limits of depth.
abbrev pub IsPastDepth : List ℕ → Type 0
IsPastDepth text = (tokens : List Token) × (tokens_of text ≡ Some tokens) × (is_deep tokens ≡ true)
