-- What the cells of a table's file mean, each by its column.
use Rattle.std.specs.Prelude.{◌==◌, ◌∷◌, ◌||◌, if◌then◌else◌, List, [], ℕ, ℤ, pos, neg_ℤ, Bool, true, false, nat_le, codes, Option, Some, None, option_map}
use Rattle.std.specs.List.{list_all, list_any}
use Rattle.std.specs.Str.{bytes_eq, is_utf8}
use Rattle.lq_value.specs.declared.table.Column.{Column}
use Rattle.lq_value.specs.declared.table.ColumnType.{ColumnType}
use Rattle.lq_value.specs.declared.table.ColumnType.TheVariants as ty
use Rattle.lq_value.specs.declared.scalar.Scalar.{Scalar}
use Rattle.lq_value.specs.declared.scalar.Scalar.TheVariants as scalar
use Rattle.lq_store.specs.Rules.{is_in_range}
use Rattle.lq_grammar.specs.Tokens.{decimal_value, is_digit}

-- the number that one or more digits spell
abbrev pub natural_of : List ℕ → Option ℕ
natural_of [] = None
natural_of (c ∷ rest) = if list_all is_digit (c ∷ rest) then Some (decimal_value (c ∷ rest)) else None

-- a number that is at most the limit
abbrev pub bounded : ℕ → Option ℕ → Option ℕ
bounded limit None = None
bounded limit (Some number) = if nat_le number limit then Some number else None

-- an integer: digits, with or without a minus before them, within 32 bits with a sign
abbrev pub int_of : List ℕ → Option ℤ
int_of [] = None
int_of (c ∷ rest) =
    if c == 45 then option_map (λ size. neg_ℤ (pos size)) (bounded 2147483648 (natural_of rest))
    else option_map (λ size. pos size) (bounded 2147483647 (natural_of (c ∷ rest)))

-- a number, where it is within the range of its column
abbrev pub within : Option (ℤ × ℤ) → Option ℤ → Option Scalar
within range None = None
within range (Some number) = if is_in_range range (scalar.Int number) then Some (scalar.Int number) else None

-- a cell of an `int` column
abbrev pub int_cell : Option (ℤ × ℤ) → List ℕ → Option Scalar
int_cell range text = within range (int_of text)

-- the text that means null
abbrev pub is_null : List ℕ → Bool
is_null text = bytes_eq text (codes "\\N")

-- a cell of an `int?` column, which is null where it is empty too
abbrev pub nullable_int_cell : List ℕ → Option Scalar
nullable_int_cell text = if is_null text || bytes_eq text [] then Some scalar.Null else int_cell None text

abbrev pub spells_true : List ℕ → Bool
spells_true text = list_any (bytes_eq text) (codes "true" ∷ codes "True" ∷ codes "TRUE" ∷ codes "t" ∷ [])

abbrev pub spells_false : List ℕ → Bool
spells_false text = list_any (bytes_eq text) (codes "false" ∷ codes "False" ∷ codes "FALSE" ∷ codes "f" ∷ [])

-- a cell of a `bool` column
abbrev pub bool_cell : List ℕ → Option Scalar
bool_cell text =
    if spells_true text then Some (scalar.Bool true)
    else if spells_false text then Some (scalar.Bool false)
    else None

-- a cell of a `string` column: null, or any text in UTF-8
abbrev pub text_cell : List ℕ → Option Scalar
text_cell text =
    if is_null text then Some scalar.Null
    else if is_utf8 text then Some (scalar.Text text)
    else None

abbrev pub cell_of_type : ColumnType → Option (ℤ × ℤ) → List ℕ → Option Scalar
cell_of_type ty.Int range text = int_cell range text
cell_of_type ty.IntN range text = nullable_int_cell text
cell_of_type ty.Bool range text = bool_cell text
cell_of_type ty.Str range text = text_cell text

-- the cell of a column that a field of a record means; bytes that aren't text mean none, whatever the column
abbrev pub cell_of : Column → List ℕ → Option Scalar
cell_of column text = cell_of_type column.ty column.range text
