-- How deep a text is: its open brackets, and the weight of its tokens. Both have a limit, which keeps the stack that a
-- tree of the text takes small.
use Rattle.std.specs.Prelude.{◌+◌, ◌∷◌, ◌||◌, List, [], ℕ, Bool, false, length, nat_lt}
use Rattle.lq_grammar.specs.declared.token.Kind.{Kind}
use Rattle.lq_grammar.specs.declared.token.Kind.TheVariants as k
use Rattle.lq_grammar.specs.declared.token.Token.{Token}

-- what a token does to the depth of the text
pub data Effect : Type 0 where
  Opens : Effect
  Closes : Effect
  -- a name, a literal or a semicolon
  WeighsNothing : Effect
  Weighs : Effect

abbrev pub effect_of : Kind → Effect
effect_of k.LeftParenthesis = Opens
effect_of k.LeftBrace = Opens
effect_of k.RightParenthesis = Closes
effect_of k.RightBrace = Closes
effect_of k.Name = WeighsNothing
effect_of k.Integer = WeighsNothing
effect_of k.Text = WeighsNothing
effect_of k.True = WeighsNothing
effect_of k.False = WeighsNothing
effect_of k.Null = WeighsNothing
effect_of k.Semicolon = WeighsNothing
effect_of kind = Weighs

-- The levels at a place, the innermost first: one for each open bracket and one for the whole text, each with one more
-- than the number of its tokens so far that weigh.
abbrev pub Levels : Type 0
Levels = List ℕ

-- before the first token
abbrev pub outermost : Levels
outermost = 1 ∷ []

-- A bracket that closes ends the innermost level, of whichever kind it is; where no bracket is open it does nothing.
abbrev pub behind_token : Levels → Effect → Levels
behind_token levels Opens = 1 ∷ levels
behind_token (innermost ∷ next ∷ levels) Closes = next ∷ levels
behind_token levels Closes = levels
behind_token (innermost ∷ levels) Weighs = (innermost + 1) ∷ levels
behind_token levels Weighs = levels
behind_token levels WeighsNothing = levels

-- the weight at a place
abbrev pub weight : Levels → ℕ
weight [] = 0
weight (level ∷ levels) = level + weight levels

-- the most brackets that may be open at a place, and the most weight that it may have
abbrev pub bracket_limit : ℕ
bracket_limit = 64

abbrev pub weight_limit : ℕ
weight_limit = 256

-- more brackets are open at a place than may be, or it weighs more than it may
abbrev pub is_past : Levels → Bool
is_past levels = nat_lt (bracket_limit + 1) (length levels) || nat_lt weight_limit (weight levels)

-- whether a place after some token of the text is past the limits
abbrev pub deep_from : Levels → List Token → Bool
deep_from levels [] = false
deep_from levels (token ∷ tokens) = is_past (behind_token levels (effect_of token.kind)) || deep_from (behind_token levels (effect_of token.kind)) tokens

unfoldable pub is_deep : List Token → Bool
is_deep tokens = deep_from outermost tokens
