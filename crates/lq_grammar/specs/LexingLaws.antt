-- Laws of the lexical grammar: the tokens of a line, with the white space and the comments around them, are the line.
use Rattle.std.specs.Prelude.{◌≡◌, ◌≢◌, ◌↔◌, ◌*◌, ◌+◌, ◌<◌, ◌≤◌, ◌∷◌, ◌++◌, ◌==◌, not, List, [], ℕ, true, Some, chars, length, IsUtf8}
use Rattle.std.specs.List.{list_all}
use Rattle.std.specs.Str.{encode_utf8_all}
use Rattle.lq_grammar.specs.TextLiterals.{hexadecimal, length_from, plain, simple_escape, text_value, unit}
use Rattle.lq_grammar.specs.Tokens.{tokens_in}
use Rattle.lq_grammar.specs.declared.token.Token.{Token}

-- the tokens begin at this place or after it, none is empty, each ends before the next begins, and the last ends before the end
abbrev pub AreInOrder : ℕ → ℕ → List Token → Type 0
AreInOrder place end [] = place ≤ end
AreInOrder place end (token ∷ tokens) = (place ≤ token.start) × (token.start < token.end) × AreInOrder token.end end tokens

-- characters with no line feed among them
abbrev pub IsOneLine : List ℕ → Type 0
IsOneLine text = list_all (λ c. not (c == 10)) text ≡ true

-- the end of a text, or a line feed
abbrev pub EndsLine : List ℕ → Type 0
EndsLine [] = Unit {0}
EndsLine (c ∷ cs) = c ≡ 10

-- the tokens of a line are in order, do not overlap, and lie within it
abbrev pub LieInOrder : Type 0
LieInOrder = (line : List ℕ) (tokens : List Token) → IsUtf8 line → tokens_in line ≡ Some tokens → AreInOrder 0 (length line) tokens

-- ---- text literals

-- The characters between the quotes of a text literal, and those that they spell: a character for itself, a backslash with
-- what may come after it, and `\u` with four hexadecimal digits, which aren't a surrogate.
pub data IsLiteral : List ℕ → List ℕ → Type 0 where
  nothing : IsLiteral [] []
  itself : {c : ℕ} {cs text : List ℕ} → c ≢ 34 → c ≢ 92 → c ≢ 10 → IsLiteral cs text → IsLiteral (c ∷ cs) (c ∷ text)
  escape : {c x : ℕ} {cs text : List ℕ} → simple_escape c ≡ Some x → IsLiteral cs text → IsLiteral (92 ∷ c ∷ cs) (x ∷ text)
  number : {a b c d x : ℕ} {cs text : List ℕ} (i j k l : ℕ) → hexadecimal a ≡ Some i → hexadecimal b ≡ Some j → hexadecimal c ≡ Some k → hexadecimal d ≡ Some l
      → unit (i * 4096 + j * 256 + k * 16 + l) ≡ Some x → IsLiteral cs text → IsLiteral (92 ∷ 117 ∷ a ∷ b ∷ c ∷ d ∷ cs) (x ∷ text)

-- A text begins with a literal's characters and the quote that closes it, so many together.
pub record HasLiteral (cs : List ℕ) (many : ℕ) : Type 0 where
  pub body : List ℕ
  pub text : List ℕ
  pub behind : List ℕ
  pub split : cs ≡ body ++ 34 ∷ behind
  pub counted : many ≡ length body + 1
  pub spelled : IsLiteral body text

-- a literal that is spelled is found whole, and one that is found is spelled
abbrev pub FindsLiterals : Type 0
FindsLiterals = (cs : List ℕ) (many : ℕ) → (length_from plain cs ≡ Some many) ↔ HasLiteral cs many

-- the value of a literal, with its quotes, is the text that its characters spell
abbrev pub ValuesLiterals : Type 0
ValuesLiterals = (literal body text : List ℕ) → chars literal ≡ 34 ∷ (body ++ 34 ∷ []) → IsLiteral body text → text_value literal ≡ encode_utf8_all text
