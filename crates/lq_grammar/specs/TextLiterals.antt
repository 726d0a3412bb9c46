-- Text literals: what may be between two double quotes, and which text it spells (ECMA-334, string literals).
use Rattle.std.specs.Prelude.{◌+◌, ◌*◌, ◌∷◌, ◌==◌, ◌&&◌, if◌then◌else◌, List, [], ℕ, suc, Bool, false, Option, Some, None, drop, chars, nat_le, nat_lt, option_and_then, option_map}
use Rattle.std.specs.Char.{digit_value}
use Rattle.std.specs.Option.{option_map_or}
use Rattle.std.specs.Str.{encode_utf8_all}

-- Where a reader is after the opening quote: between two characters, after a backslash, or before one of the four
-- digits after `\u`, whose digits so far have these values.
pub data Place : Type 0 where
  plain : Place
  backslash : Place
  first : Place
  second : ℕ → Place
  third : ℕ → ℕ → Place
  fourth : ℕ → ℕ → ℕ → Place

-- the value of a hexadecimal digit, in either case
abbrev pub hexadecimal : ℕ → Option ℕ
hexadecimal c = if nat_lt (digit_value c) 16 then Some (digit_value c) else None

-- the character of this number, which isn't a surrogate
abbrev pub unit : ℕ → Option ℕ
unit value = if nat_le 0xD800 value && nat_le value 0xDFFF then None else Some value

-- the character that a backslash followed by this one spells: ' " \ 0 a b f n r t v
abbrev pub simple_escape : ℕ → Option ℕ
simple_escape c =
    if c == 39 then Some 39
    else if c == 34 then Some 34
    else if c == 92 then Some 92
    else if c == 48 then Some 0
    else if c == 97 then Some 7
    else if c == 98 then Some 8
    else if c == 102 then Some 12
    else if c == 110 then Some 10
    else if c == 114 then Some 13
    else if c == 116 then Some 9
    else if c == 118 then Some 11
    else None

-- Where the reader is after one more character, and the character that is spelled where its spelling ends there. A
-- line feed, an escape that doesn't exist, and a surrogate are faults.
abbrev pub Step : Type 0
Step = Place × Option ℕ

abbrev pub whole : ℕ → Step
whole c = (plain, Some c)

abbrev pub step_plain : ℕ → Option Step
step_plain c = if c == 92 then Some (backslash, None) else if c == 10 then None else Some (whole c)

abbrev pub step_escape : ℕ → Option Step
step_escape c = if c == 117 then Some (first, None) else option_map whole (simple_escape c)

abbrev pub step : Place → ℕ → Option Step
step plain c = step_plain c
step backslash c = step_escape c
step first c = option_map (λ a. (second a, None)) (hexadecimal c)
step (second a) c = option_map (λ b. (third a b, None)) (hexadecimal c)
step (third a b) c = option_map (λ d. (fourth a b d, None)) (hexadecimal c)
step (fourth a b d) c = option_and_then (λ e. option_map whole (unit (a * 4096 + b * 256 + d * 16 + e))) (hexadecimal c)

-- a quote that closes the literal
abbrev pub closes : Place → ℕ → Bool
closes plain c = c == 34
closes place c = false

-- how many characters a literal has from here on, its closing quote among them; None where it has a fault or no end
abbrev pub length_from : Place → List ℕ → Option ℕ
length_from place [] = None
length_from place (c ∷ cs) = if closes place c then Some 1 else option_and_then (λ s. option_map suc (length_from s.0 cs)) (step place c)

-- a character that is spelled, before others
abbrev pub spelled_before : Option ℕ → List ℕ → List ℕ
spelled_before None others = others
spelled_before (Some c) others = c ∷ others

-- the step at a character that does not close the literal
abbrev pub step_inside : Place → ℕ → Option Step
step_inside place c = if closes place c then None else step place c

-- the characters that a literal spells from here on
abbrev pub spelled_from : Place → List ℕ → List ℕ
spelled_from place [] = []
spelled_from place (c ∷ cs) = option_map_or (λ s. spelled_before s.1 (spelled_from s.0 cs)) (step_inside place c) []

-- the text, in UTF-8, that a text literal spells, of which these are the bytes with both quotes
unfoldable pub text_value : List ℕ → List ℕ
text_value literal = encode_utf8_all (spelled_from plain (drop 1 (chars literal)))
