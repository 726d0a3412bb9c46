-- The lexical grammar: which tokens a line has (ECMA-334, lexical structure).
use Rattle.std.specs.Prelude.{◌+◌, ◌-◌, ◌*◌, ◌∷◌, ◌==◌, ◌&&◌, ◌||◌, not, if◌then◌else◌, List, [], ℕ, zero, suc, Bool, true, false, Option, Some, None, length, take, drop, nat_lt, nat_le, chars, option_and_then, option_map, sum_by}
use Rattle.std.specs.Char.{len_utf8}
use Rattle.std.specs.List.{fold, list_all, prefix_len}
use Rattle.std.specs.Str.{is_utf8}
use Rattle.lq_grammar.specs.Script.{line_limit}
use Rattle.lq_grammar.specs.TextLiterals.{length_from, plain}
use Rattle.lq_grammar.specs.Words.{continues_name, kind_of_word, starts_name}
use Rattle.lq_grammar.specs.declared.token.Kind.{Kind}
use Rattle.lq_grammar.specs.declared.token.Kind.TheVariants as k
use Rattle.lq_grammar.specs.declared.token.Token.{Token}

-- white space: space, tab, CR and LF
abbrev pub is_blank : ℕ → Bool
is_blank c = c == 32 || c == 9 || c == 13 || c == 10

abbrev pub is_digit : ℕ → Bool
is_digit c = nat_le 48 c && nat_le c 57

-- the number that decimal digits spell
abbrev pub decimal_value : List ℕ → ℕ
decimal_value digits = fold (λ value digit. value * 10 + (digit - 48)) 0 digits

-- What is at the head of a text: a blank or a comment, which isn't a token, or a token of this kind; and how many
-- characters it has after its first.
abbrev pub Piece : Type 0
Piece = Option Kind × ℕ

-- the character at the head of a text, 0 at its end
abbrev pub head_of : List ℕ → ℕ
head_of [] = 0
head_of (c ∷ cs) = c

-- a comment goes to the next LF or the end
abbrev pub comment : List ℕ → Piece
comment cs = (None, prefix_len (λ c. not (c == 10)) cs)

-- the longest word at a character that may start a name
abbrev pub word : ℕ → List ℕ → Option Piece
word c cs = let more = prefix_len continues_name cs in Some (Some (kind_of_word (c ∷ take more cs)), more)

-- the longest row of digits at a digit: at most 2147483648, and no character that may continue a name directly after
abbrev pub integer : ℕ → List ℕ → Option Piece
integer c cs =
    let more = prefix_len is_digit cs in
    if nat_le (decimal_value (c ∷ take more cs)) 2147483648 && not (continues_name (head_of (drop more cs))) then Some (Some k.Integer, more) else None

-- a text literal at its opening quote
abbrev pub text : List ℕ → Option Piece
text cs = option_map (λ more. (Some k.Text, more)) (length_from plain cs)

-- a sign of one character, and one of two
abbrev pub one : Kind → Option Piece
one kind = Some (Some kind, 0)

abbrev pub two : Kind → Option Piece
two kind = Some (Some kind, 1)

-- the signs that no longer sign begins with
abbrev pub short_sign : ℕ → Option Piece
short_sign c =
    if c == 40 then one k.LeftParenthesis
    else if c == 41 then one k.RightParenthesis
    else if c == 123 then one k.LeftBrace
    else if c == 125 then one k.RightBrace
    else if c == 46 then one k.Dot
    else if c == 44 then one k.Comma
    else if c == 59 then one k.Semicolon
    else if c == 58 then one k.Colon
    else if c == 45 then one k.Minus
    else if c == 43 then one k.Plus
    else if c == 42 then one k.Star
    else if c == 47 then one k.Slash
    else if c == 37 then one k.Percent
    else None

-- the longest sign that begins with c, where d follows
abbrev pub sign : ℕ → ℕ → Option Piece
sign c d =
    if c == 61 then (if d == 62 then two k.Arrow else if d == 61 then two k.Equal else one k.Assign)
    else if c == 63 then (if d == 63 then two k.Coalesce else one k.Question)
    else if c == 33 then (if d == 61 then two k.NotEqual else one k.Not)
    else if c == 60 then (if d == 61 then two k.LessOrEqual else one k.Less)
    else if c == 62 then (if d == 61 then two k.GreaterOrEqual else one k.Greater)
    else if c == 38 then (if d == 38 then two k.And else None)
    else if c == 124 then (if d == 124 then two k.Or else None)
    else short_sign c

-- The longest piece at the head of a text; None is a lexical fault. Two slashes open a comment, and aren't signs.
unfoldable pub piece : ℕ → List ℕ → Option Piece
piece c cs =
    if is_blank c then Some (None, 0)
    else if c == 47 && (head_of cs == 47) then Some (comment cs)
    else if starts_name c then word c cs
    else if is_digit c then integer c cs
    else if c == 34 then text cs
    else sign c (head_of cs)

-- a piece that is a token, put before the tokens after it
abbrev pub with_piece : Option Kind → ℕ → ℕ → Option (List Token) → Option (List Token)
with_piece None start end behind = behind
with_piece (Some kind) start end behind = option_map (λ tokens. record { kind = kind; start = start; end = end } ∷ tokens) behind

-- the tokens of a text whose first characters, so many, are part of a piece already read; places count bytes
unfoldable pub tokens_from : ℕ → ℕ → List ℕ → Option (List Token)
tokens_from read place [] = Some []
tokens_from (suc read) place (c ∷ cs) = tokens_from read (place + len_utf8 c) cs
tokens_from zero place (c ∷ cs) =
    option_and_then (λ p. with_piece p.0 place (place + sum_by len_utf8 (c ∷ take p.1 cs)) (tokens_from p.1 (place + len_utf8 c) cs)) (piece c cs)

-- the tokens of a line of any length, from its bytes; None where there is a lexical fault
unfoldable pub tokens_in : List ℕ → Option (List Token)
tokens_in line = tokens_from 0 0 (chars line)

-- whether a line is over its limit
unfoldable pub is_too_long : List ℕ → Bool
is_too_long line = nat_lt line_limit (length line)

-- the tokens of a line; None where it is too long or has a lexical fault
unfoldable pub tokens_of : List ℕ → Option (List Token)
tokens_of line = if is_too_long line then None else tokens_in line

-- whether a text, from its bytes, is a name
abbrev pub is_name_kind : Kind → Bool
is_name_kind k.Name = true
is_name_kind kind = false

abbrev pub spells_name : List ℕ → Bool
spells_name [] = false
spells_name (c ∷ cs) = starts_name c && list_all continues_name cs && is_name_kind (kind_of_word (c ∷ cs))

unfoldable pub is_name : List ℕ → Bool
is_name bytes = is_utf8 bytes && spells_name (chars bytes)

-- the bytes of a line that a token takes
abbrev pub text_of : List ℕ → Token → List ℕ
text_of line token = take (token.end - token.start) (drop token.start line)
