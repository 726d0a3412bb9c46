-- The cells of a record fit the columns that gave them.
use Rattle.std.proofs.Common.{add-one, ap, drop-cons, get_or, ◌∙◌, ◌≡◌, ◌<◌, ◌+◌, ◌++◌, ◌∷◌, ℕ, suc, Bool, true, false, ◌==◌, List, [], length, Option, Some, None, refl, sym, arith, if◌then◌else◌, drop}
use Rattle.std.specs.Prelude.{◌^◌, ℤ, ◌||◌, Result, Ok}
use Rattle.std.specs.List.{list_all}
use Rattle.std.specs.Str.{bytes_eq, is_utf8}
use Rattle.std.proofs.lemmas.Bool.{and_parts}
use Rattle.std.proofs.lemmas.Bool.Decides.{nat_tests}
use Rattle.std.proofs.lemmas.List.{append-nil, append_assoc, length-append}
use Rattle.csv.specs.Records.{field_at}
use Rattle.lq_value.specs.Tables.{Table}
use Rattle.lq_value.specs.declared.table.Column.{Column}
use Rattle.lq_value.specs.declared.table.ColumnType.{ColumnType}
use Rattle.lq_value.specs.declared.table.ColumnType.TheVariants as ty
use Rattle.lq_value.specs.declared.scalar.Scalar.{Scalar}
use Rattle.lq_value.specs.declared.scalar.Scalar.TheVariants as scalar
use Rattle.lq_store.specs.Rules.{are_in_ranges, have_types, is_fair_range, is_in_range, is_of_type}
use Rattle.lq_store.specs.Calls.{refusal_of}
use Rattle.lq_load.specs.Cells.{cell_of, cell_of_type, int_of, is_null, spells_false, spells_true, within}
use Rattle.lq_load.specs.TableFile.{after_cell, cells_from}
use Rattle.lq_load.proofs.FieldLemmas.{drop-field}
use Rattle.lq_load.specs.declared.load_error.LoadError.{LoadError}

-- ---- one cell

-- a cell is of a type and in a range
abbrev pub Fits : ColumnType → Option (ℤ × ℤ) → Scalar → Type 0
Fits t range cell = (is_of_type t cell ≡ true) × (is_in_range range cell ≡ true)

int_fits : (range : Option (ℤ × ℤ)) (o : Option ℤ) (cell : Scalar) → within range o ≡ Some cell → Fits ty.Int range cell
int_fits range None cell e = cc
int_fits range (Some number) cell e = by (is_in_range range (scalar.Int number)) refl e
  where
    by : (b : Bool) → is_in_range range (scalar.Int number) ≡ b → (if b then Some (scalar.Int number) else None) ≡ Some cell → Fits ty.Int range cell
    by true i f = let same : scalar.Int number ≡ cell = cc in (rw (← same) refl, rw (← same) i)
    by false i f = cc

nullable_fits : (b : Bool) (o : Option ℤ) (cell : Scalar) → (if b then Some scalar.Null else within None o) ≡ Some cell → Fits ty.IntN None cell
nullable_fits true o cell e = let same : scalar.Null ≡ cell = cc in (rw (← same) refl, refl)
nullable_fits false None cell e = cc
nullable_fits false (Some number) cell e = let same : scalar.Int number ≡ cell = cc in (rw (← same) refl, refl)

bool_fits : (b c : Bool) (cell : Scalar) → (if b then Some (scalar.Bool true) else if c then Some (scalar.Bool false) else None) ≡ Some cell → Fits ty.Bool None cell
bool_fits true c cell e = let same : scalar.Bool true ≡ cell = cc in (rw (← same) refl, refl)
bool_fits false true cell e = let same : scalar.Bool false ≡ cell = cc in (rw (← same) refl, refl)
bool_fits false false cell e = cc

text_fits : (b c : Bool) (text : List ℕ) (cell : Scalar) → (if b then Some scalar.Null else if c then Some (scalar.Text text) else None) ≡ Some cell → Fits ty.Str None cell
text_fits true c text cell e = let same : scalar.Null ≡ cell = cc in (rw (← same) refl, refl)
text_fits false true text cell e = let same : scalar.Text text ≡ cell = cc in (rw (← same) refl, refl)
text_fits false false text cell e = cc

-- what a column with a fair range makes of a text fits it
type_fits : (t : ColumnType) (range : Option (ℤ × ℤ)) (text : List ℕ) (cell : Scalar) → is_fair_range t range ≡ true → cell_of_type t range text ≡ Some cell → Fits t range cell
type_fits ty.Int range text cell f e = int_fits range (int_of text) cell e
type_fits ty.IntN None text cell f e = nullable_fits (is_null text || bytes_eq text []) (int_of text) cell e
type_fits ty.IntN (Some bounds) text cell f e = cc
type_fits ty.Bool None text cell f e = bool_fits (spells_true text) (spells_false text) cell e
type_fits ty.Bool (Some bounds) text cell f e = cc
type_fits ty.Str None text cell f e = text_fits (is_null text) (is_utf8 text) text cell e
type_fits ty.Str (Some bounds) text cell f e = cc

-- ---- the cells of a record

-- the columns have fair ranges
abbrev pub are_fair : List Column → Bool
are_fair columns = list_all (λ column. is_fair_range column.ty column.range) columns

-- cells that are some and those that fit columns, one each
abbrev pub FitBehind : List Column → List Scalar → List Scalar → Type 0
FitBehind columns done cells =
    (more : List Scalar) × (cells ≡ done ++ more) × (length more ≡ length columns) × (have_types columns more ≡ true) × (are_in_ranges columns more ≡ true)

one_more : (column : Column) (columns : List Column) (cell : Scalar) (done cells : List Scalar) → Fits column.ty column.range cell → FitBehind columns (done ++ cell ∷ []) cells
    → FitBehind (column ∷ columns) done cells
one_more column columns cell done cells f h =
    (cell ∷ h.0, rw h.1 (append_assoc done (cell ∷ []) h.0), rw h.2 refl, rw (f.0, h.3) refl, rw (f.1, h.4) refl)

cells_fit : (place : ℕ) (columns : List Column) (fields : List (List ℕ)) (done cells : List Scalar) → are_fair columns ≡ true → length columns ≡ length fields
    → cells_from place columns fields done ≡ Ok cells → FitBehind columns done cells
cells_fit place [] fields done cells fair size e = let same : done ≡ cells = cc in ([], rw (← same) (sym (append-nil done)), refl, refl, refl)
cells_fit place (column ∷ columns) [] done cells fair size e = cc
cells_fit place (column ∷ columns) (field ∷ fields) done cells fair size e =
    let fairs = and_parts (is_fair_range column.ty column.range) (are_fair columns) fair in
    by (cell_of column field) refl e fairs.0 (λ cell f. cells_fit place columns fields (done ++ cell ∷ []) cells fairs.1 (omega (arith, size)) f)
  where
    by : (o : Option Scalar) → cell_of column field ≡ o → after_cell (cells_from place columns fields) place done o ≡ Ok cells → is_fair_range column.ty column.range ≡ true
        → ((cell : Scalar) → cells_from place columns fields (done ++ cell ∷ []) ≡ Ok cells → FitBehind columns (done ++ cell ∷ []) cells)
        → FitBehind (column ∷ columns) done cells
    by None is f fair more = cc
    by (Some cell) is f fair more = one_more column columns cell done cells (type_fits column.ty column.range field cell fair is) (more cell f)

not_limit : (next : ℕ) → next < 2 ^ 64 → (next == 2 ^ 64) ≡ false
not_limit next h = grind (arith, nat_tests)

pub same_length : (a b : ℕ) → a ≡ b → (a == b) ≡ true
same_length a b e = grind (arith, nat_tests)

-- a table takes the cells of a record of the header's length
pub taken : (table : Table) (place : ℕ) (fields : List (List ℕ)) (cells : List Scalar) → are_fair table.schema.columns ≡ true
    → length table.schema.columns ≡ length fields → cells_from place table.schema.columns fields [] ≡ Ok cells → table.next < 2 ^ 64 → refusal_of table cells ≡ None
taken table place fields cells fair size e room =
    let fit = cells_fit place table.schema.columns fields [] cells fair size e in
    let same : cells ≡ fit.0 = fit.1 in
    let long : length table.schema.columns ≡ length cells = rw same (sym fit.2) in
    let types : have_types table.schema.columns cells ≡ true = rw same fit.3 in
    let ranges : are_in_ranges table.schema.columns cells ≡ true = rw same fit.4 in
    rw (same_length (length table.schema.columns) (length cells) long, types, ranges, not_limit table.next room) refl

-- ---- a record cell by cell

-- what is at a place is the first of what is from there on
drop-column : (columns : List Column) (at : ℕ) (column : Column) → at < length columns → column ≡ get_or columns at column → drop at columns ≡ column ∷ drop (at + 1) columns
drop-column columns at column there is = rw (add-one at) (drop-cons columns at column there ∙ ap (λ (c : Column). c ∷ drop (suc at) columns) (sym is))

-- the cell of one more column
pub cells-step : (place at : ℕ) (columns : List Column) (fields : List (List ℕ)) (column : Column) (field : List ℕ) (cells : List Scalar) (o : Option Scalar) (all : Result (List Scalar) LoadError)
    → at < length columns → column ≡ get_or columns at column → Some field ≡ field_at fields at → cell_of column field ≡ o
    → cells_from place (drop at columns) (drop at fields) cells ≡ all
    → after_cell (cells_from place (drop (at + 1) columns) (drop (at + 1) fields)) place cells o ≡ all
cells-step place at columns fields column field cells o all within is there means h =
    rw (drop-column columns at column within is, drop-field fields at field there, means) at h

pub length-push : (cells : List Scalar) (cell : Scalar) → length (cells ++ cell ∷ []) ≡ length cells + 1
length-push cells cell = length-append cells (cell ∷ [])
