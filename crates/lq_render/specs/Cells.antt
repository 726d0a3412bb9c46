-- What is read of one value: its text, with control characters escaped, and cut where it is too wide for a table.
use Rattle.std.specs.Prelude.{◌∷◌, ◌++◌, ◌==◌, ◌||◌, ◌-◌, ◌/◌, ◌%◌, ◌+◌, List, [], ℕ, Bool, false, is_some, length, flat_map, chars, codes, decimal, encode_utf8, if◌then◌else◌, nat_le, nat_lt, unwrap_or, ◌&&◌}
use Rattle.std.specs.Int.{is_in_range}
use Rattle.unicode_width.specs.Width.{char_width, str_width}
use Rattle.serde_json.specs.Data.{Data, null, string}
use Rattle.serde_json.specs.Find.{as_number}
use Rattle.serde_json.specs.Written.{compact_text, has_float}
use Rattle.lq_render.specs.declared.grid.Cell.{Cell}

-- the columns of a terminal that a text takes
abbrev pub width : List ℕ → ℕ
width text = str_width false (chars text)

-- ---- control characters

abbrev pub is_control : ℕ → Bool
is_control c = nat_lt c 32 || is_in_range 127 159 c

-- a digit below 16
abbrev pub hex_digit : ℕ → ℕ
hex_digit d = if nat_lt d 10 then 48 + d else 87 + d

-- as JSON escapes it
abbrev pub escape : ℕ → List ℕ
escape c =
    if c == 9 then codes "\\t"
    else if c == 10 then codes "\\n"
    else if c == 13 then codes "\\r"
    else codes "\\u00" ++ (encode_utf8 (hex_digit (c / 16)) ++ encode_utf8 (hex_digit (c % 16)))

abbrev pub shown_character : ℕ → List ℕ
shown_character c = if is_control c then escape c else encode_utf8 c

-- a text with its control characters escaped: it stays on one line
abbrev pub escaped_text : List ℕ → List ℕ
escaped_text text = flat_map shown_character (chars text)

-- ---- values

-- the sign of null: U+2205
abbrev pub null_sign : List ℕ
null_sign = 226 ∷ 136 ∷ 133 ∷ []

-- Texts without quotes, and else compact JSON. A value with a float in it has no text here; a reply has none.
abbrev pub plain_text : Data → List ℕ
plain_text null = null_sign
plain_text (string text) = text
plain_text d = if has_float d then [] else compact_text d

-- a value as it is read
abbrev pub text_of : Data → List ℕ
text_of d = escaped_text (plain_text d)

-- ---- cells of a table

-- the most columns that a text takes in a table
abbrev pub most_width : ℕ
most_width = 40

-- U+2026
abbrev pub ellipsis : List ℕ
ellipsis = 226 ∷ 128 ∷ 166 ∷ []

abbrev pub own_width : ℕ → ℕ
own_width c = unwrap_or (char_width false c) 0

-- the characters at the start of a text that take so many columns at most
abbrev pub front : ℕ → List ℕ → List ℕ
front n [] = []
front n (c ∷ cs) = if nat_le (own_width c) n then encode_utf8 c ++ front (n - own_width c) cs else []

-- a text that is too wide ends in an ellipsis
abbrev pub short_text : List ℕ → List ℕ
short_text text = if nat_le (width text) most_width then text else front (most_width - 1) (chars text) ++ ellipsis

abbrev pub cell_of : Data → Cell
cell_of d = record { text = short_text (text_of d); is_number = is_some (as_number d) }

-- a text that is no number
abbrev pub text_cell : List ℕ → Cell
text_cell text = record { text = text; is_number = false }

-- ---- counts

-- a comma where three digits follow, or six, ..
abbrev pub separator : ℕ → List ℕ
separator left = if nat_lt 0 left && ((left % 3) == 0) then codes "," else []

abbrev pub grouped_digits : List ℕ → List ℕ
grouped_digits [] = []
grouped_digits (digit ∷ digits) = encode_utf8 digit ++ (separator (length digits) ++ grouped_digits digits)

-- a number with a comma between each three digits
abbrev pub count_text : ℕ → List ℕ
count_text n = grouped_digits (chars (decimal n))
