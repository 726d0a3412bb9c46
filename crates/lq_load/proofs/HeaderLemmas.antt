-- The columns of a header keep the rules of schemas.
use Rattle.std.proofs.Common.{ap, ◌≡◌, ◌≤◌, ◌<◌, ◌+◌, ◌-◌, ◌++◌, ◌∷◌, ◌&&◌, ◌||◌, ◌==◌, ℕ, suc, Bool, true, false, List, [], length, Option, Some, None, refl, sym, arith, if◌then◌else◌, nat_eq, drop, take}
use Rattle.std.specs.Prelude.{ℤ, int_le, map, codes, nat_le, option_and_then, option_map, Result, Ok, Err}
use Rattle.std.specs.Cmp.Lexicographic.{pointwise}
use Rattle.std.specs.List.{ends_with, list_any, position, starts_with}
use Rattle.std.specs.Option.{ok_or}
use Rattle.std.specs.Str.{bytes_eq}
use Rattle.std.proofs.lemmas.Bool.{and_parts}
use Rattle.std.proofs.lemmas.Bool.Decides.{nat_tests}
use Rattle.std.proofs.lemmas.List.Folds.{list_all-append}
use Rattle.std.proofs.lemmas.List.{length-append, map-append}
use Rattle.csv.specs.Records.{field_at}
use Rattle.lq_value.specs.declared.table.Column.{Column}
use Rattle.lq_value.specs.declared.table.Schema.{Schema}
use Rattle.lq_value.specs.declared.table.ColumnType.TheVariants as ty
use Rattle.lq_store.specs.Rules.{are_distinct, is_fair_range, keeps_rules}
use Rattle.lq_store.proofs.KeptTableLaws.{are_distinct-push}
use Rattle.lq_grammar.specs.Tokens.{is_name}
use Rattle.lq_load.specs.Cells.{int_of}
use Rattle.lq_load.specs.Headers.{Kind, after_column, column_at, column_named, column_of, columns_from, has_name, kind_of, range_at, range_behind, range_between, range_of}
use Rattle.lq_load.specs.declared.load_error.LoadError.{LoadError}
use Rattle.lq_load.specs.declared.load_error.LoadError.TheVariants.{Header, DuplicateName}
use Rattle.lq_load.proofs.CellLemmas.{are_fair}
use Rattle.lq_load.proofs.FieldLemmas.{drop-field, drop-no_field}

-- ---- one column

-- the bounds of a range are in order
abbrev pub InOrder : Option (ℤ × ℤ) → Type 0
InOrder range = (bounds : ℤ × ℤ) → range ≡ Some bounds → int_le bounds.0 bounds.1 ≡ true

between-fair : (low high : Option ℤ) → InOrder (range_between low high)
between-fair None high bounds e = cc
between-fair (Some low) None bounds e = cc
between-fair (Some low) (Some high) bounds e = by (int_le low high) refl e
  where
    by : (b : Bool) → int_le low high ≡ b → (if b then Some (low, high) else None) ≡ Some bounds → int_le bounds.0 bounds.1 ≡ true
    by true i f = let same : (low, high) ≡ bounds = cc in rw (← same) i
    by false i f = cc

if-fair : (b : Bool) (range : Option (ℤ × ℤ)) → InOrder range → InOrder (if b then range else None)
if-fair true range h bounds e = h bounds e
if-fair false range h bounds e = cc

at-fair : (text : List ℕ) (dot : ℕ) → InOrder (range_at text dot)
at-fair text dot =
    if-fair (starts_with nat_eq (drop dot text) (codes "..")) (range_between (int_of (take dot text)) (int_of (drop (dot + 2) text)))
    (between-fair (int_of (take dot text)) (int_of (drop (dot + 2) text)))

of-fair : (text : List ℕ) → InOrder (range_of text)
of-fair text = by (position (λ c. c == 46) text)
  where
    by : (o : Option ℕ) → InOrder (option_and_then (range_at text) o)
    by None bounds e = cc
    by (Some dot) bounds e = at-fair text dot bounds e

behind-fair : (text : List ℕ) → InOrder (range_behind text)
behind-fair text = if-fair (ends_with nat_eq text (codes "]")) (range_of (take (length text - 1) text)) (of-fair (take (length text - 1) text))

-- a type has a fair range
kind-fair : (text : List ℕ) (kind : Kind) → kind_of text ≡ Some kind → is_fair_range kind.0 kind.1 ≡ true
kind-fair text kind e =
    by (bytes_eq text (codes "int")) (bytes_eq text (codes "int?")) (bytes_eq text (codes "bool")) (bytes_eq text (codes "string")) (starts_with nat_eq text (codes "int["))
    (range_behind (drop 4 text)) (behind-fair (drop 4 text)) e
  where
    ranged : (range : Option (ℤ × ℤ)) → InOrder range → option_map (λ bounds. (ty.Int, Some bounds)) range ≡ Some kind → is_fair_range kind.0 kind.1 ≡ true
    ranged None h f = cc
    ranged (Some bounds) h f = let same : (ty.Int, Some bounds) ≡ kind = cc in rw (← same) (h bounds refl)

    by : (a b c d s : Bool) (range : Option (ℤ × ℤ)) → InOrder range
        → (if a then Some (ty.Int, None) else if b then Some (ty.IntN, None) else if c then Some (ty.Bool, None) else if d then Some (ty.Str, None)
        else if s then option_map (λ bounds. (ty.Int, Some bounds)) range else None) ≡ Some kind → is_fair_range kind.0 kind.1 ≡ true
    by true b c d s range h f = let same : (ty.Int, None) ≡ kind = cc in rw (← same) refl
    by false true c d s range h f = let same : (ty.IntN, None) ≡ kind = cc in rw (← same) refl
    by false false true d s range h f = let same : (ty.Bool, None) ≡ kind = cc in rw (← same) refl
    by false false false true s range h f = let same : (ty.Str, None) ≡ kind = cc in rw (← same) refl
    by false false false false true range h f = ranged range h f
    by false false false false false range h f = cc

-- and so has a column
column_of-fair : (cell : List ℕ) (column : Column) → column_of cell ≡ Some column → is_fair_range column.ty column.range ≡ true
column_of-fair cell column e = by (position (λ c. c == 58) cell) e
  where
    named : (name text : List ℕ) (o : Option Kind) → kind_of text ≡ o → option_map (column_named name) o ≡ Some column → is_fair_range column.ty column.range ≡ true
    named name text None is f = cc
    named name text (Some kind) is f = let same : column_named name kind ≡ column = cc in rw (← same) (kind-fair text kind is)

    one : (b : Bool) (name text : List ℕ) → (if b then option_map (column_named name) (kind_of text) else None) ≡ Some column → is_fair_range column.ty column.range ≡ true
    one true name text f = named name text (kind_of text) refl f
    one false name text f = cc

    by : (o : Option ℕ) → option_and_then (column_at cell) o ≡ Some column → is_fair_range column.ty column.range ≡ true
    by None f = cc
    by (Some colon) f = one (is_name (take colon cell)) (take colon cell) (drop (colon + 1) cell) f

-- ---- all columns

-- what the columns of a header keep
pub record IsHeader (columns : List Column) : Type 0 where
  pub distinct : are_distinct (map (λ column. column.name) columns) ≡ true
  pub fair : are_fair columns ≡ true

-- a column of a name is among the columns where the name is among theirs
names_alike : (columns : List Column) (name : List ℕ) → list_any (λ other. pointwise nat_eq other name) (map (λ column. column.name) columns) ≡ has_name columns name
names_alike [] name = refl
names_alike (column ∷ rest) name = ap (λ (b : Bool). pointwise nat_eq column.name name || b) (names_alike rest name)

pub header_of_columns : (cells : List (List ℕ)) (done columns : List Column) → columns_from cells done ≡ Ok columns → IsHeader done
    → IsHeader columns × (length columns ≡ length done + length cells)
header_of_columns [] done columns e h =
    let same : done ≡ columns = cc in
    (rw (← same) h, rw (← same) (omega arith))
header_of_columns (cell ∷ rest) done columns e h =
    by (column_of cell) refl e (λ column f g. header_of_columns rest (done ++ column ∷ []) columns f g)
  where
    some : (column : Column) (b : Bool) → is_fair_range column.ty column.range ≡ true → has_name done column.name ≡ b → (if b then Err DuplicateName else columns_from rest (done ++ column ∷ [])) ≡ Ok columns
        → (columns_from rest (done ++ column ∷ []) ≡ Ok columns → IsHeader (done ++ column ∷ []) → IsHeader columns × (length columns ≡ length (done ++ column ∷ []) + length rest))
        → IsHeader columns × (length columns ≡ length done + suc (length rest))
    some column true fair named f more = cc
    some column false fair named f more =
        let unlike : list_any (λ other. pointwise nat_eq other column.name) (map (λ c. c.name) done) ≡ false = rw (names_alike done column.name) named in
        let m = more f (record {
          distinct = rw (map-append (λ (c : Column). c.name) done (column ∷ [])) (are_distinct-push (map (λ c. c.name) done) column.name h.distinct unlike);
          fair = rw (list_all-append (λ (c : Column). is_fair_range c.ty c.range) done (column ∷ []), h.fair, fair) refl;
        }) in
        let size = length-append done (column ∷ []) in
        (m.0, omega arith)

    by : (o : Option Column) → column_of cell ≡ o → after_column (columns_from rest) done o ≡ Ok columns
        → ((column : Column) → columns_from rest (done ++ column ∷ []) ≡ Ok columns → IsHeader (done ++ column ∷ []) → IsHeader columns × (length columns ≡ length (done ++ column ∷ []) + length rest))
        → IsHeader columns × (length columns ≡ length done + suc (length rest))
    by None is f more = cc
    by (Some column) is f more = some column (has_name done column.name) (column_of-fair cell column is) refl f (more column)

all_kept : (a b c d : Bool) → a ≡ true → b ≡ true → c ≡ true → d ≡ true → (a && b && c && d) ≡ true
all_kept a b c d p q r s = rw (p, q, r, s) refl

in_limit : (n limit : ℕ) → n ≤ limit → nat_le n limit ≡ true
in_limit n limit h = grind (arith, nat_tests)

-- a header of 1 to 100 columns keeps the rules of schemas
pub header-keeps_rules : (name : List ℕ) (columns : List Column) → IsHeader columns → 0 < length columns → length columns ≤ 100
    → keeps_rules (record { name = name; columns = columns }) ≡ true
header-keeps_rules name columns h some few =
    all_kept (nat_le 1 (length columns)) (nat_le (length columns) 100) (are_distinct (map (λ column. column.name) columns)) (are_fair columns)
    (in_limit 1 (length columns) (omega arith)) (in_limit (length columns) 100 few) h.distinct h.fair

-- the columns of a schema that keeps its rules have fair ranges
pub kept-fair : (schema : Schema) → keeps_rules schema ≡ true → are_fair schema.columns ≡ true
kept-fair schema e =
    (and_parts (nat_le 1 (length schema.columns) && nat_le (length schema.columns) 100 && are_distinct (map (λ column. column.name) schema.columns)) (are_fair schema.columns) e).1

-- ---- a header cell by cell

-- a cell that describes no column ends the header
pub no_column : (rest : List Column → Result (List Column) LoadError) (columns : List Column) (o : Option Column) (e : LoadError)
    → ok_or o Header ≡ Err e → after_column rest columns o ≡ Err e
no_column rest columns None e h = let same : Header ≡ e = cc in rw same refl
no_column rest columns (Some column) e h = cc

-- the columns of one more field
pub columns-step : (at : ℕ) (fields : List (List ℕ)) (field : List ℕ) (columns : List Column) (o : Option Column) (all : Result (List Column) LoadError)
    → Some field ≡ field_at fields at → column_of field ≡ o → columns_from (drop at fields) columns ≡ all
    → after_column (columns_from (drop (at + 1) fields)) columns o ≡ all
columns-step at fields field columns o all there is h = rw (drop-field fields at field there, is) at h

pub columns-end : (at : ℕ) (fields : List (List ℕ)) (columns : List Column) (all : Result (List Column) LoadError)
    → None ≡ field_at fields at → columns_from (drop at fields) columns ≡ all → all ≡ Ok columns
columns-end at fields columns all there h = sym (rw (drop-no_field fields at there) at h)

-- an option that became this result
pub column_found : (o : Option Column) (column : Column) → ok_or {E = LoadError} o Header ≡ Ok column → o ≡ Some column
column_found None column e = cc
column_found (Some found) column e = let same : found ≡ column = cc in rw same refl
