-- The lexical grammar as a relation: which characters spell a token, and which token is at the head of a text (ECMA-334,
-- lexical structure).
use Rattle.std.specs.Prelude.{◌≡◌, ◌↔◌, ◌≤◌, ◌+◌, ◌∷◌, ◌++◌, List, [], ℕ, true, false, Some, None, chars, codes, length, sum_by}
use Rattle.std.specs.Char.{len_utf8}
use Rattle.std.specs.List.{Contains, list_all}
use Rattle.lq_grammar.specs.LexingLaws.{EndsLine, IsLiteral, IsOneLine}
use Rattle.lq_grammar.specs.Tokens.{decimal_value, is_blank, is_digit, piece, tokens_in}
use Rattle.lq_grammar.specs.Words.{continues_name, reserved_words, starts_name}
use Rattle.lq_grammar.specs.declared.token.Kind.{Kind}
use Rattle.lq_grammar.specs.declared.token.Kind.TheVariants as k
use Rattle.lq_grammar.specs.declared.token.Token.{Token}

-- The signs.
pub data IsSign : Kind → List ℕ → Type 0 where
  left_parenthesis : IsSign k.LeftParenthesis (codes "(")
  right_parenthesis : IsSign k.RightParenthesis (codes ")")
  left_brace : IsSign k.LeftBrace (codes "{")
  right_brace : IsSign k.RightBrace (codes "}")
  dot : IsSign k.Dot (codes ".")
  comma : IsSign k.Comma (codes ",")
  semicolon : IsSign k.Semicolon (codes ";")
  colon : IsSign k.Colon (codes ":")
  minus : IsSign k.Minus (codes "-")
  plus : IsSign k.Plus (codes "+")
  star : IsSign k.Star (codes "*")
  slash : IsSign k.Slash (codes "/")
  percent : IsSign k.Percent (codes "%")
  assign : IsSign k.Assign (codes "=")
  question : IsSign k.Question (codes "?")
  not : IsSign k.Not (codes "!")
  less : IsSign k.Less (codes "<")
  greater : IsSign k.Greater (codes ">")
  arrow : IsSign k.Arrow (codes "=>")
  equal : IsSign k.Equal (codes "==")
  coalesce : IsSign k.Coalesce (codes "??")
  not_equal : IsSign k.NotEqual (codes "!=")
  less_or_equal : IsSign k.LessOrEqual (codes "<=")
  greater_or_equal : IsSign k.GreaterOrEqual (codes ">=")
  and : IsSign k.And (codes "&&")
  or : IsSign k.Or (codes "||")

-- no character that may continue a name is at the head of what is left
abbrev pub EndsInteger : List ℕ → Type 0
EndsInteger [] = Unit {0}
EndsInteger (c ∷ cs) = continues_name c ≡ false

-- the words that aren't names, with the kind of each
abbrev pub IsReserved : Kind → List ℕ → Type 0
IsReserved kind cs = Contains reserved_words (cs, kind)

-- These characters spell a token of this kind where those characters follow them: a reserved word; any other word, which is a
-- name; decimal digits of at most 2147483648, with no character directly after them that could continue a name; a text between
-- two quotes; a sign.
pub data IsLexeme : Kind → List ℕ → List ℕ → Type 0 where
  reserved : {kind : Kind} {cs behind : List ℕ} → IsReserved kind cs → IsLexeme kind cs behind
  name : {c : ℕ} {cs behind : List ℕ} → starts_name c ≡ true → list_all continues_name cs ≡ true
      → ((kind : Kind) → IsReserved kind (c ∷ cs) → ⊥) → IsLexeme k.Name (c ∷ cs) behind
  integer : {c : ℕ} {cs behind : List ℕ} → is_digit c ≡ true → list_all is_digit cs ≡ true → decimal_value (c ∷ cs) ≤ 2147483648
      → EndsInteger behind → IsLexeme k.Integer (c ∷ cs) behind
  text : {body spelled behind : List ℕ} → IsLiteral body spelled → IsLexeme k.Text (34 ∷ (body ++ 34 ∷ [])) behind
  sign : {kind : Kind} {cs behind : List ℕ} → IsSign kind cs → IsLexeme kind cs behind

-- two slashes are at the head of a text
abbrev pub OpensComment : List ℕ → Type 0
OpensComment cs = (rest : List ℕ) × (cs ≡ 47 ∷ 47 ∷ rest)

-- The token at the head of a text is these characters: they spell one of its kind, and no comment begins there, nor a longer
-- lexeme of any kind.
pub record IsToken (kind : Kind) (lexeme behind : List ℕ) : Type 0 where
  pub spelled : IsLexeme kind lexeme behind
  pub no_comment : OpensComment (lexeme ++ behind) → ⊥
  pub longest : (other : Kind) (front rest : List ℕ) → lexeme ++ behind ≡ front ++ rest → IsLexeme other front rest
      → length front ≤ length lexeme

-- what is taken for a token is the longest lexeme, which is taken for one
abbrev pub TakesLongest : Type 0
TakesLongest =
    (kind : Kind) (c : ℕ) (more rest : List ℕ) → (piece c (more ++ rest) ≡ Some (Some kind, length more)) ↔ IsToken kind (c ∷ more) rest

-- a fault is met exactly where there is neither white space nor a comment nor a lexeme
abbrev pub FaultsWithoutLexeme : Type 0
FaultsWithoutLexeme =
    (c : ℕ) (cs : List ℕ)
    → (piece c cs ≡ None)
    ↔ ((is_blank c ≡ false) × (OpensComment (c ∷ cs) → ⊥)
    × ((kind : Kind) (front rest : List ℕ) → c ∷ cs ≡ front ++ rest → IsLexeme kind front rest → ⊥))

-- ---- lines

-- A text of these characters, which begins at this place of its line, is its tokens, white space and comments, one after
-- the other. Each token is the longest lexeme that there is at its place. Places count bytes.
pub data IsCut : ℕ → List ℕ → List Token → Type 0 where
  end : {place : ℕ} → IsCut place [] []
  blank : {place c : ℕ} {rest : List ℕ} {tokens : List Token} → is_blank c ≡ true → IsCut (place + len_utf8 c) rest tokens → IsCut place (c ∷ rest) tokens
  comment : {place : ℕ} {tokens : List Token} (body rest : List ℕ) → IsOneLine body → EndsLine rest
      → IsCut (place + sum_by len_utf8 (47 ∷ 47 ∷ body)) rest tokens → IsCut place ((47 ∷ 47 ∷ body) ++ rest) tokens
  token : {place : ℕ} {tokens : List Token} (kind : Kind) (c : ℕ) (more rest : List ℕ) → IsToken kind (c ∷ more) rest
      → IsCut (place + sum_by len_utf8 (c ∷ more)) rest tokens
      → IsCut place ((c ∷ more) ++ rest) (record { kind = kind; start = place; end = place + sum_by len_utf8 (c ∷ more) } ∷ tokens)

-- the tokens of a line are exactly those that it is cut into: what lies outside of them is white space and comments alone
abbrev pub CutTheLine : Type 0
CutTheLine = (line : List ℕ) (tokens : List Token) → (tokens_in line ≡ Some tokens) ↔ IsCut 0 (chars line) tokens
