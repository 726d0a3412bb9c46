-- What the text of a right says: a column `T.c`, all columns `T.*`, new rows `T insert`, the removal of rows `T delete`, or a host predicate `Host.p`.
use Rattle.std.specs.Prelude.{◌++◌, ◌+◌, ◌==◌, ◌≡◌, if◌then◌else◌, List, ℕ, true, Option, Some, None, Result, Ok, Err, codes, drop, option_and_then, option_map, take}
use Rattle.std.specs.List.{position}
use Rattle.std.specs.Str.{bytes_eq}
use Rattle.lq_grammar.specs.Tokens.{is_name}
use Rattle.lq_policyfile.specs.declared.entry.RightForm.{RightForm}
use Rattle.lq_policyfile.specs.declared.entry.RightForm.TheVariants as form
use Rattle.lq_policyfile.specs.declared.error.ShapeError.{ShapeError}
use Rattle.lq_policyfile.specs.declared.error.ShapeError.TheVariants as shape

-- ---- as a relation

-- A right says one of these things. T, c and p are names, which hold neither a dot nor a blank and aren't reserved words.
pub data Says : List ℕ → RightForm → Type 0 where
  column : (t c : List ℕ) → is_name t ≡ true → is_name c ≡ true → Says (t ++ (codes "." ++ c)) (form.Column t c)
  all_columns : (t : List ℕ) → is_name t ≡ true → Says (t ++ codes ".*") (form.AllColumns t)
  insertion : (t : List ℕ) → is_name t ≡ true → Says (t ++ codes " insert") (form.Insert t)
  removal : (t : List ℕ) → is_name t ≡ true → Says (t ++ codes " delete") (form.Delete t)
  predicate : (p : List ℕ) → is_name p ≡ true → Says (codes "Host." ++ p) (form.Host p)

-- A text was read as what it says, and one that was refused says nothing; where memory was refused nothing is known.
abbrev pub IsRead : List ℕ → Result RightForm ShapeError → Type 0
IsRead text (Ok right) = Says text right
IsRead text (Err shape.Shape) = (right : RightForm) → Says text right → ⊥
IsRead text (Err shape.Memory) = Unit {0}

-- ---- the same as a function

-- what comes before the first of these bytes in a text, and what comes after it
abbrev pub around : ℕ → List ℕ → Option (List ℕ × List ℕ)
around c text = option_map (λ place. (take place text, drop (place + 1) text)) (position (λ b. b == c) text)

-- a table, and what comes after its dot
abbrev pub columns_in_words : List ℕ → List ℕ → Option RightForm
columns_in_words table columns =
    if bytes_eq columns (codes "*") then Some (form.AllColumns table)
    else (if is_name columns then Some (form.Column table columns)
    else None)

-- a predicate's name
abbrev pub predicate_in_words : List ℕ → Option RightForm
predicate_in_words name = if is_name name then Some (form.Host name) else None

abbrev pub dotted : List ℕ → List ℕ → Option RightForm
dotted owner part =
    if is_name owner then columns_in_words owner part
    else (if bytes_eq owner (codes "Host") then predicate_in_words part
    else None)

-- a table, and the word after its blank
abbrev pub change_in_words : List ℕ → List ℕ → Option RightForm
change_in_words table change =
    if bytes_eq change (codes "insert") then Some (form.Insert table)
    else (if bytes_eq change (codes "delete") then Some (form.Delete table)
    else None)

abbrev pub spaced : List ℕ → List ℕ → Option RightForm
spaced table change = if is_name table then change_in_words table change else None

abbrev pub by_blank : List ℕ → Option RightForm
by_blank text = option_and_then (λ words. spaced words.0 words.1) (around 32 text)

abbrev pub by_dot : List ℕ → Option (List ℕ × List ℕ) → Option RightForm
by_dot text None = by_blank text
by_dot text (Some words) = dotted words.0 words.1

-- what the text of a right says, where it has one of these forms
unfoldable pub right_of : List ℕ → Option RightForm
right_of text = by_dot text (around 46 text)
