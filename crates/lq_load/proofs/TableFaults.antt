-- Which table a file means, and which of its faults is the first.
use Rattle.std.proofs.Common.{◌≡◌, ◌≤◌, ◌<◌, ◌+◌, ◌++◌, ◌∷◌, ◌==◌, ℕ, zero, suc, Bool, true, false, List, [], map, length, Option, Some, None, ap, ◌∙◌, refl, sym, subst, arith, not, slice_get, if◌then◌else◌}
use Rattle.std.specs.Prelude.{◌≢◌, nat_lt, Result, Ok, Err}
use Rattle.std.specs.Bool.{Decides}
use Rattle.std.specs.List.{zip}
use Rattle.std.specs.Str.{bytes_eq}
use Rattle.std.proofs.lemmas.Bool.{le-ltb, lt-ltb, ltb-false, ltb-true}
use Rattle.std.proofs.lemmas.Bool.Decides.{nat_tests}
use Rattle.std.proofs.lemmas.List.{append-nil, append_assoc, length-append}
use Rattle.std.proofs.lemmas.List.Folds.{Any-from_list_any, list_any-from_Any}
use Rattle.std.proofs.lemmas.Option.{none-some, same_Some}
use Rattle.std.proofs.lemmas.Slice.Eq.{bytes_eq-Decides}
use Rattle.lq_value.specs.Tables.{Table}
use Rattle.lq_value.specs.declared.scalar.Scalar.{Scalar}
use Rattle.lq_value.specs.declared.table.Column.{Column}
use Rattle.lq_value.specs.declared.table.Row.{Row}
use Rattle.lq_store.specs.Calls.{with_row}
use Rattle.lq_language.specs.ValuesOfTypes.{Every}
use Rattle.lq_language.proofs.ItemLaws.{every_more, every_none, first_of, others_of}
use Rattle.lq_load.specs.Cells.{cell_of}
use Rattle.lq_load.specs.Headers.{after_column, column_of, columns_from, has_name}
use Rattle.lq_load.specs.TableFile.{after_cell, and_then, cells_from, column_limit, new_table, table_limit, table_of, table_of_records, with_record, with_records}
use Rattle.lq_load.specs.TableLaws.{AreCells, AreColumns, HasName, IsFirstFault, IsHeaderFault, IsRecordFault, IsRow, IsTable, IsWrongColumn, IsWrongRecord, MeansTable, TellsFirstFault, meaning_of, records_in}
use Rattle.lq_load.specs.TableLaws as law
use Rattle.lq_load.specs.declared.load_error.LoadError.{LoadError}
use Rattle.lq_load.specs.declared.load_error.LoadError.TheVariants.{Csv, Header, DuplicateName, Cell, TooLarge}
use Rattle.lq_load.proofs.TableFileLemmas.{table_of-large}

-- ---- the header

has_name-Decides : (columns : List Column) (name : List ℕ) → Decides (has_name columns name) (HasName columns name)
has_name-Decides columns name = (
  λ e.
      let found = Any-from_list_any (λ (c : Column). bytes_eq c.name name) columns e in
      (found.0, found.1, found.2, found.3, (bytes_eq-Decides found.1.name name).0 found.4),
  λ h. list_any-from_Any (λ (c : Column). bytes_eq c.name name) columns (h.0, h.1, h.2, h.3, (bytes_eq-Decides h.1.name name).1 h.4),
)

lacks : (columns : List Column) (name : List ℕ) → (HasName columns name → ⊥) → has_name columns name ≡ false
lacks columns name h = by (has_name columns name) refl where
  by : (b : Bool) → has_name columns name ≡ b → b ≡ false
  by true e = absurd (h ((has_name-Decides columns name).0 e))
  by false e = refl

has_none : (columns : List Column) (name : List ℕ) → has_name columns name ≡ false → HasName columns name → ⊥
has_none columns name e h = let never : true ≡ false = sym ((has_name-Decides columns name).1 h) ∙ e in absurd (cc)

-- columns of which none has the name of one before it, nor of these
abbrev Fresh : List Column → List Column → Type 0
Fresh done more = (before : List Column) (column : Column) (behind : List Column) → more ≡ before ++ column ∷ behind → HasName (done ++ before) column.name → ⊥

fresh_none : (done : List Column) → Fresh done []
fresh_none done [] column behind e h = absurd (cc)
fresh_none done (c ∷ before) column behind e h = absurd (cc)

fresh_first : (done : List Column) (c : Column) (more : List Column) → Fresh done (c ∷ more) → has_name done c.name ≡ false
fresh_first done c more f = lacks done c.name (λ h. f [] c more refl (subst (λ (cs : List Column). HasName cs c.name) (sym (append-nil done)) h))

fresh_rest : (done : List Column) (c : Column) (more : List Column) → Fresh done (c ∷ more) → Fresh (done ++ c ∷ []) more
fresh_rest done c more f before column behind e h =
    f (c ∷ before) column behind (ap (λ rest. c ∷ rest) e) (subst (λ (cs : List Column). HasName cs column.name) (append_assoc done (c ∷ []) before) h)

fresh_more : (done : List Column) (c : Column) (more : List Column) → has_name done c.name ≡ false → Fresh (done ++ c ∷ []) more → Fresh done (c ∷ more)
fresh_more done c more e f [] column behind is h =
    let same : c ≡ column = cc in
    has_none done c.name e (subst (λ (cs : List Column). HasName cs c.name) (append-nil done) (rw (← same) at h))
fresh_more done c more e f (b ∷ before) column behind is h =
    let same : c ≡ b = cc in
    let rest : more ≡ before ++ column ∷ behind = cc in
    f before column behind rest (subst (λ (cs : List Column). HasName cs column.name) (sym (append_assoc done (c ∷ []) before)) (rw (← same) at h))

-- cells that describe columns are passed over
run : (cells rest : List (List ℕ)) (done columns : List Column) → map column_of cells ≡ map Some columns → Fresh done columns
    → columns_from (cells ++ rest) done ≡ columns_from rest (done ++ columns)
run [] rest done [] e f = ap (columns_from rest) (sym (append-nil done))
run [] rest done (c ∷ cs) e f = absurd (cc)
run (x ∷ xs) rest done [] e f = absurd (cc)
run (x ∷ xs) rest done (c ∷ cs) e f =
    let is : column_of x ≡ Some c = cc in
    let others : map column_of xs ≡ map Some cs = cc in
    rw (is, fresh_first done c cs f) (run xs rest (done ++ c ∷ []) cs others (fresh_rest done c cs f) ∙ ap (columns_from rest) (append_assoc done (c ∷ []) cs))

record Columns (cells : List (List ℕ)) (done columns : List Column) : Type 0 where
  more : List Column
  all : columns ≡ done ++ more
  each : map column_of cells ≡ map Some more
  fresh : Fresh done more

columns_told : (cells : List (List ℕ)) (done columns : List Column) → columns_from cells done ≡ Ok columns → Columns cells done columns
columns_told [] done columns e =
    let same : done ≡ columns = cc in record { more = []; all = sym same ∙ sym (append-nil done); each = refl; fresh = fresh_none done }
columns_told (x ∷ xs) done columns e = by (λ c. columns_told xs (done ++ c ∷ []) columns) (column_of x) refl e where
  by_name : ((c : Column) → columns_from xs (done ++ c ∷ []) ≡ Ok columns → Columns xs (done ++ c ∷ []) columns) → (c : Column) → column_of x ≡ Some c
      → (b : Bool) → has_name done c.name ≡ b → (if b then Err DuplicateName else columns_from xs (done ++ c ∷ [])) ≡ Ok columns → Columns (x ∷ xs) done columns
  by_name others c is true h f = absurd (cc)
  by_name others c is false h f =
      let rest = others c f in
      record {
        more = c ∷ rest.more;
        all = rest.all ∙ append_assoc done (c ∷ []) rest.more;
        each = λ i. is i ∷ rest.each i;
        fresh = fresh_more done c rest.more h rest.fresh;
      }

  by : ((c : Column) → columns_from xs (done ++ c ∷ []) ≡ Ok columns → Columns xs (done ++ c ∷ []) columns) → (o : Option Column) → column_of x ≡ o
      → after_column (columns_from xs) done o ≡ Ok columns → Columns (x ∷ xs) done columns
  by others None is f = absurd (cc)
  by others (Some c) is f = by_name others c is (has_name done c.name) refl f

record Fault (cells : List (List ℕ)) (done : List Column) (e : LoadError) : Type 0 where
  before : List (List ℕ)
  cell : List ℕ
  behind : List (List ℕ)
  split : cells ≡ before ++ cell ∷ behind
  columns : List Column
  each : map column_of before ≡ map Some columns
  fresh : Fresh done columns
  wrong : IsWrongColumn (done ++ columns) cell e

fault_told : (cells : List (List ℕ)) (done : List Column) (e : LoadError) → columns_from cells done ≡ Err e → Fault cells done e
fault_told [] done e f = absurd (cc)
fault_told (x ∷ xs) done e f = by (λ c. fault_told xs (done ++ c ∷ []) e) (column_of x) refl f where
  here : IsWrongColumn done x e → Fault (x ∷ xs) done e
  here wrong =
      record {
        before = [];
        cell = x;
        behind = xs;
        split = refl;
        columns = [];
        each = refl;
        fresh = fresh_none done;
        wrong = subst (λ (cs : List Column). IsWrongColumn cs x e) (sym (append-nil done)) wrong;
      }

  by_name : ((c : Column) → columns_from xs (done ++ c ∷ []) ≡ Err e → Fault xs (done ++ c ∷ []) e) → (c : Column) → column_of x ≡ Some c
      → (b : Bool) → has_name done c.name ≡ b → (if b then Err DuplicateName else columns_from xs (done ++ c ∷ [])) ≡ Err e → Fault (x ∷ xs) done e
  by_name others c is true h g =
      let same : DuplicateName ≡ e = cc in
      here (subst (IsWrongColumn done x) same (law.repeated c is ((has_name-Decides done c.name).0 h)))
  by_name others c is false h g =
      let rest = others c g in
      record {
        before = x ∷ rest.before;
        cell = rest.cell;
        behind = rest.behind;
        split = ap (λ cells. x ∷ cells) rest.split;
        columns = c ∷ rest.columns;
        each = λ i. is i ∷ rest.each i;
        fresh = fresh_more done c rest.columns h rest.fresh;
        wrong = subst (λ (cs : List Column). IsWrongColumn cs rest.cell e) (append_assoc done (c ∷ []) rest.columns) rest.wrong;
      }

  by : ((c : Column) → columns_from xs (done ++ c ∷ []) ≡ Err e → Fault xs (done ++ c ∷ []) e) → (o : Option Column) → column_of x ≡ o
      → after_column (columns_from xs) done o ≡ Err e → Fault (x ∷ xs) done e
  by others None is g = let same : Header ≡ e = cc in here (subst (IsWrongColumn done x) same (law.no_column is))
  by others (Some c) is g = by_name others c is (has_name done c.name) refl g

-- a header without a fault, and one with
columns_are : (header : List (List ℕ)) (columns : List Column) → AreColumns header columns → columns_from header [] ≡ Ok columns
columns_are header columns h = ap (λ cells. columns_from cells []) (sym (append-nil header)) ∙ run header [] [] columns h.each h.distinct

are_columns : (header : List (List ℕ)) (columns : List Column) → columns_from header [] ≡ Ok columns → AreColumns header columns
are_columns header columns e =
    let told = columns_told header [] columns e in
    subst (AreColumns header) (sym told.all) (record { each = told.each; distinct = told.fresh })

is_header_fault : (header : List (List ℕ)) (e : LoadError) → columns_from header [] ≡ Err e → IsHeaderFault header e
is_header_fault header e f =
    let told = fault_told header [] e f in
    record {
      before = told.before;
      cell = told.cell;
      behind = told.behind;
      split = told.split;
      columns = told.columns;
      good = record { each = told.each; distinct = told.fresh };
      wrong = told.wrong;
    }

wrong_column : (columns : List Column) (cell : List ℕ) (behind : List (List ℕ)) (e : LoadError) → IsWrongColumn columns cell e
    → columns_from (cell ∷ behind) columns ≡ Err e
wrong_column columns cell behind e (law.no_column is) = rw is refl
wrong_column columns cell behind e (law.repeated column is taken) = rw (is, (has_name-Decides columns column.name).1 taken) refl

header_fault : (header : List (List ℕ)) (e : LoadError) → IsHeaderFault header e → columns_from header [] ≡ Err e
header_fault header e h =
    ap (λ cells. columns_from cells []) h.split
    ∙ run h.before (h.cell ∷ h.behind) [] h.columns h.good.each h.good.distinct
    ∙ wrong_column h.columns h.cell h.behind e h.wrong

-- ---- the cells of a record

-- the cells of fields, each beside its column, after some cells
abbrev cells_by : ℕ → List (Column × List ℕ) → List Scalar → Result (List Scalar) LoadError
cells_by number [] done = Ok done
cells_by number (p ∷ ps) done = after_cell (cells_by number ps) number done (meaning_of p)

paired : (number : ℕ) (columns : List Column) (fields : List (List ℕ)) (done : List Scalar)
    → cells_from number columns fields done ≡ cells_by number (zip columns fields) done
paired number [] fields done = refl
paired number (c ∷ cs) [] done = refl
paired number (c ∷ cs) (f ∷ fs) done = by (cell_of c f) (λ cell. paired number cs fs (done ++ cell ∷ [])) where
  by : (o : Option Scalar)
      → ((cell : Scalar) → cells_from number cs fs (done ++ cell ∷ []) ≡ cells_by number (zip cs fs) (done ++ cell ∷ []))
      → after_cell (cells_from number cs fs) number done o ≡ after_cell (cells_by number (zip cs fs)) number done o
  by None others = refl
  by (Some cell) others = others cell

-- fields that mean cells are passed over
run_cells : (places rest : List (Column × List ℕ)) (number : ℕ) (done cells : List Scalar) → map meaning_of places ≡ map Some cells
    → cells_by number (places ++ rest) done ≡ cells_by number rest (done ++ cells)
run_cells [] rest number done [] e = ap (cells_by number rest) (sym (append-nil done))
run_cells [] rest number done (c ∷ cs) e = absurd (cc)
run_cells (p ∷ ps) rest number done [] e = absurd (cc)
run_cells (p ∷ ps) rest number done (c ∷ cs) e =
    let is : meaning_of p ≡ Some c = cc in
    let others : map meaning_of ps ≡ map Some cs = cc in
    ap (after_cell (cells_by number (ps ++ rest)) number done) is
    ∙ run_cells ps rest number (done ++ c ∷ []) cs others
    ∙ ap (cells_by number rest) (append_assoc done (c ∷ []) cs)

record Cells (places : List (Column × List ℕ)) (done cells : List Scalar) : Type 0 where
  more : List Scalar
  all : cells ≡ done ++ more
  each : map meaning_of places ≡ map Some more

cells_told : (places : List (Column × List ℕ)) (number : ℕ) (done cells : List Scalar) → cells_by number places done ≡ Ok cells → Cells places done cells
cells_told [] number done cells e = let same : done ≡ cells = cc in record { more = []; all = sym same ∙ sym (append-nil done); each = refl }
cells_told (p ∷ ps) number done cells e = by (λ c. cells_told ps number (done ++ c ∷ []) cells) (meaning_of p) refl e where
  by : ((c : Scalar) → cells_by number ps (done ++ c ∷ []) ≡ Ok cells → Cells ps (done ++ c ∷ []) cells) → (o : Option Scalar) → meaning_of p ≡ o
      → after_cell (cells_by number ps) number done o ≡ Ok cells → Cells (p ∷ ps) done cells
  by others None is f = absurd (cc)
  by others (Some c) is f =
      let rest = others c f in
      record { more = c ∷ rest.more; all = rest.all ∙ append_assoc done (c ∷ []) rest.more; each = λ i. is i ∷ rest.each i }

record Wrong (places : List (Column × List ℕ)) (number : ℕ) (done : List Scalar) (e : LoadError) : Type 0 where
  before : List (Column × List ℕ)
  place : Column × List ℕ
  behind : List (Column × List ℕ)
  split : places ≡ before ++ place ∷ behind
  cells : List Scalar
  each : map meaning_of before ≡ map Some cells
  none : meaning_of place ≡ None
  told : Cell number (length done + length before + 1) ≡ e

wrong_told : (places : List (Column × List ℕ)) (number : ℕ) (done : List Scalar) (e : LoadError) → cells_by number places done ≡ Err e
    → Wrong places number done e
wrong_told [] number done e f = absurd (cc)
wrong_told (p ∷ ps) number done e f = by (λ c. wrong_told ps number (done ++ c ∷ []) e) (meaning_of p) refl f where
  by : ((c : Scalar) → cells_by number ps (done ++ c ∷ []) ≡ Err e → Wrong ps number (done ++ c ∷ []) e) → (o : Option Scalar) → meaning_of p ≡ o
      → after_cell (cells_by number ps) number done o ≡ Err e → Wrong (p ∷ ps) number done e
  by others None is g =
      let same : Cell number (length done + 1) ≡ e = cc in
      let count : length done + 0 + 1 ≡ length done + 1 = omega arith in
      record { before = []; place = p; behind = ps; split = refl; cells = []; each = refl; none = is; told = ap (Cell number) count ∙ same }
  by others (Some c) is g =
      let rest = others c g in
      let count : length done + suc (length rest.before) + 1 ≡ length (done ++ c ∷ []) + length rest.before + 1
      = omega (arith, length-append done (c ∷ [])) in
      record {
        before = p ∷ rest.before;
        place = rest.place;
        behind = rest.behind;
        split = ap (λ places. p ∷ places) rest.split;
        cells = c ∷ rest.cells;
        each = λ i. is i ∷ rest.each i;
        none = rest.none;
        told = ap (Cell number) count ∙ rest.told;
      }

-- ---- one record

alike : (a b : ℕ) → a ≡ b → (b == a) ≡ true
alike a b e = grind (arith, nat_tests)

unlike : (a b : ℕ) → a ≢ b → (b == a) ≡ false
unlike a b e = grind (arith, nat_tests)

are_alike : (a b : ℕ) → (b == a) ≡ true → a ≡ b
are_alike a b e = grind (arith, nat_tests)

are_unlike : (a b : ℕ) → (b == a) ≡ false → a ≢ b
are_unlike a b e = grind (arith, nat_tests)

-- a record of the header's length
of_length : (t : Table) (fields : List (List ℕ)) → length fields ≡ length t.schema.columns
    → with_record t fields ≡ and_then (λ cells. Ok (with_row t cells)) (cells_by (t.next + 1) (zip t.schema.columns fields) [])
of_length t fields h =
    rw (alike (length fields) (length t.schema.columns) h)
    (ap (and_then (λ cells. Ok (with_row t cells))) (paired (t.next + 1) t.schema.columns fields []))

row_is : (t : Table) (fields : List (List ℕ)) (cells : List Scalar) → AreCells t.schema.columns fields cells → with_record t fields ≡ Ok (with_row t cells)
row_is t fields cells h =
    let places : List (Column × List ℕ) = zip t.schema.columns fields in
    of_length t fields h.as_many
    ∙ ap (λ ps. and_then (λ cells. Ok (with_row t cells)) (cells_by (t.next + 1) ps [])) (sym (append-nil places))
    ∙ ap (and_then (λ cells. Ok (with_row t cells))) (run_cells places [] (t.next + 1) [] cells h.each)

record_is : (t : Table) (fields : List (List ℕ)) (e : LoadError) → IsWrongRecord t.schema.columns (t.next + 1) fields e → with_record t fields ≡ Err e
record_is t fields e (law.other_length h) = rw (unlike (length fields) (length t.schema.columns) h) refl
record_is t fields e (law.wrong_cell before place behind cells size split each none) =
    let many : length before ≡ length cells = same_count before cells each in
    of_length t fields size
    ∙ ap (λ ps. and_then (λ cells. Ok (with_row t cells)) (cells_by (t.next + 1) ps [])) split
    ∙ ap (and_then (λ cells. Ok (with_row t cells))) (run_cells before (place ∷ behind) (t.next + 1) [] cells each
    ∙ ap (after_cell (cells_by (t.next + 1) behind) (t.next + 1) cells) none)
    ∙ ap (λ n. Err (Cell (t.next + 1) (n + 1))) (sym many)
  where
    same_count : (places : List (Column × List ℕ)) (cells : List Scalar) → map meaning_of places ≡ map Some cells → length places ≡ length cells
    same_count [] [] e = refl
    same_count [] (c ∷ cs) e = absurd (cc)
    same_count (p ∷ ps) [] e = absurd (cc)
    same_count (p ∷ ps) (c ∷ cs) e = let others : map meaning_of ps ≡ map Some cs = cc in ap suc (same_count ps cs others)

record Row_of (t : Table) (fields : List (List ℕ)) (new : Table) : Type 0 where
  cells : List Scalar
  are : AreCells t.schema.columns fields cells
  new_is : new ≡ with_row t cells

row_told : (t : Table) (fields : List (List ℕ)) (new : Table) → with_record t fields ≡ Ok new → Row_of t fields new
row_told t fields new e = by (length t.schema.columns == length fields) refl e where
  by_cells : length fields ≡ length t.schema.columns → (r : Result (List Scalar) LoadError) → cells_by (t.next + 1) (zip t.schema.columns fields) [] ≡ r
      → and_then (λ cells. Ok (with_row t cells)) r ≡ Ok new → Row_of t fields new
  by_cells size (Err x) is f = absurd (cc)
  by_cells size (Ok cells) is f =
      let told = cells_told (zip t.schema.columns fields) (t.next + 1) [] cells is in
      let same : with_row t cells ≡ new = cc in
      record { cells = cells; are = record { as_many = size; each = told.each ∙ ap (map Some) (sym told.all) }; new_is = sym same }

  by : (b : Bool) → (length t.schema.columns == length fields) ≡ b
      → (if not b then Err Csv else and_then (λ cells. Ok (with_row t cells)) (cells_from (t.next + 1) t.schema.columns fields [])) ≡ Ok new → Row_of t fields new
  by false is f = absurd (cc)
  by true is f =
      by_cells (are_alike (length fields) (length t.schema.columns) is) (cells_by (t.next + 1) (zip t.schema.columns fields) []) refl
      (ap (and_then (λ cells. Ok (with_row t cells))) (sym (paired (t.next + 1) t.schema.columns fields [])) ∙ f)

record_told : (t : Table) (fields : List (List ℕ)) (e : LoadError) → with_record t fields ≡ Err e → IsWrongRecord t.schema.columns (t.next + 1) fields e
record_told t fields e f = by (length t.schema.columns == length fields) refl f where
  by_cells : length fields ≡ length t.schema.columns → (r : Result (List Scalar) LoadError) → cells_by (t.next + 1) (zip t.schema.columns fields) [] ≡ r
      → and_then (λ cells. Ok (with_row t cells)) r ≡ Err e → IsWrongRecord t.schema.columns (t.next + 1) fields e
  by_cells size (Ok cells) is g = absurd (cc)
  by_cells size (Err x) is g =
      let same : x ≡ e = cc in
      let w = wrong_told (zip t.schema.columns fields) (t.next + 1) [] x is in
      let count : length w.before + 1 ≡ 0 + length w.before + 1 = omega arith in
      subst (IsWrongRecord t.schema.columns (t.next + 1) fields) (ap (Cell (t.next + 1)) count ∙ w.told ∙ same)
      (law.wrong_cell w.before w.place w.behind w.cells size w.split w.each w.none)

  by : (b : Bool) → (length t.schema.columns == length fields) ≡ b
      → (if not b then Err Csv else and_then (λ cells. Ok (with_row t cells)) (cells_from (t.next + 1) t.schema.columns fields [])) ≡ Err e
      → IsWrongRecord t.schema.columns (t.next + 1) fields e
  by false is g =
      let same : Csv ≡ e = cc in
      subst (IsWrongRecord t.schema.columns (t.next + 1) fields) same (law.other_length (are_unlike (length fields) (length t.schema.columns) is))
  by true is g =
      by_cells (are_alike (length fields) (length t.schema.columns) is) (cells_by (t.next + 1) (zip t.schema.columns fields) []) refl
      (ap (and_then (λ cells. Ok (with_row t cells))) (sym (paired (t.next + 1) t.schema.columns fields [])) ∙ g)

-- ---- all records

-- the rows of records, numbered from here on
data Rows (columns : List Column) : ℕ → List (List (List ℕ)) → List Row → Type 0 where
  end : {n : ℕ} → Rows columns n [] []
  more : {n : ℕ} {fields : List (List ℕ)} {rest : List (List (List ℕ))} {rows : List Row} (row : Row) → row.number ≡ n
      → AreCells columns fields row.cells → Rows columns (n + 1) rest rows → Rows columns n (fields ∷ rest) (row ∷ rows)

-- a table with more rows
abbrev with_rows : Table → List Row → Table
with_rows t rows = record { schema = t.schema; rows = t.rows ++ rows; next = t.next + length rows }

no_rows : (t : Table) → t ≡ with_rows t []
no_rows t =
    let count : t.next ≡ t.next + 0 = omega arith in
    λ i. record { schema = t.schema; rows = sym (append-nil t.rows) i; next = count i }

one_row : (t : Table) (row : Row) (rows : List Row) → row.number ≡ t.next → with_rows (with_row t row.cells) rows ≡ with_rows t (row ∷ rows)
one_row t row rows is =
    let count : t.next + 1 + length rows ≡ t.next + suc (length rows) = omega arith in
    let same : record { number = t.next; cells = row.cells } ≡ row = λ i. record { number = sym is i; cells = row.cells } in
    λ i. record { schema = t.schema; rows = (append_assoc t.rows (record { number = t.next; cells = row.cells } ∷ []) rows ∙ ap (λ r. t.rows ++ r ∷ rows) same) i; next = count i }

run_records : (columns : List Column) {n : ℕ} {before : List (List (List ℕ))} {rows : List Row} (rest : List (List (List ℕ))) (t : Table) → t.schema.columns ≡ columns → t.next ≡ n
    → Rows columns n before rows → with_records (before ++ rest) t ≡ with_records rest (with_rows t rows)
run_records columns rest t e at end = ap (with_records rest) (no_rows t)
run_records columns rest t e at (more {n = n} {fields = fields} {rest = before} {rows = rows} row is cells others) =
    let next : t.next + 1 ≡ n + 1 = omega arith in
    ap (and_then (with_records (before ++ rest))) (row_is t fields row.cells (rw e cells))
    ∙ run_records columns rest (with_row t row.cells) e next others
    ∙ ap (with_records rest) (one_row t row rows (is ∙ sym at))

record Told (t : Table) (rest : List (List (List ℕ))) (new : Table) : Type 0 where
  rows : List Row
  are : Rows t.schema.columns t.next rest rows
  new_is : new ≡ with_rows t rows

told_more : (t : Table) (fields : List (List ℕ)) (rest : List (List (List ℕ))) (new next : Table) → Row_of t fields next → Told next rest new
    → Told t (fields ∷ rest) new
told_more t fields rest new next one others =
    let row : Row = record { number = t.next; cells = one.cells } in
    let here : Told (with_row t one.cells) rest new = subst (λ (u : Table). Told u rest new) one.new_is others in
    record { rows = row ∷ here.rows; are = more row refl one.are here.are; new_is = here.new_is ∙ one_row t row here.rows refl }

records_told : (rest : List (List (List ℕ))) (t new : Table) → with_records rest t ≡ Ok new → Told t rest new
records_told [] t new e = let same : t ≡ new = cc in record { rows = []; are = end; new_is = sym same ∙ no_rows t }
records_told (fields ∷ rest) t new e = by (λ u. records_told rest u new) (with_record t fields) refl e where
  by : ((u : Table) → with_records rest u ≡ Ok new → Told u rest new) → (r : Result Table LoadError) → with_record t fields ≡ r
      → and_then (with_records rest) r ≡ Ok new → Told t (fields ∷ rest) new
  by others (Err x) is f = absurd (cc)
  by others (Ok u) is f = told_more t fields rest new u (row_told t fields u is) (others u f)

record Refused (t : Table) (rest : List (List (List ℕ))) (e : LoadError) : Type 0 where
  before : List (List (List ℕ))
  fields : List (List ℕ)
  behind : List (List (List ℕ))
  split : rest ≡ before ++ fields ∷ behind
  rows : List Row
  good : Rows t.schema.columns t.next before rows
  wrong : IsWrongRecord t.schema.columns (t.next + length before + 1) fields e

refused_more : (t : Table) (fields : List (List ℕ)) (rest : List (List (List ℕ))) (e : LoadError) (next : Table) → Row_of t fields next → Refused next rest e
    → Refused t (fields ∷ rest) e
refused_more t fields rest e next one others =
    let row : Row = record { number = t.next; cells = one.cells } in
    let here : Refused (with_row t one.cells) rest e = subst (λ (u : Table). Refused u rest e) one.new_is others in
    let count : t.next + 1 + length here.before + 1 ≡ t.next + suc (length here.before) + 1 = omega arith in
    record {
      before = fields ∷ here.before;
      fields = here.fields;
      behind = here.behind;
      split = ap (λ records. fields ∷ records) here.split;
      rows = row ∷ here.rows;
      good = more row refl one.are here.good;
      wrong = subst (λ (n : ℕ). IsWrongRecord t.schema.columns n here.fields e) count here.wrong;
    }

refusal_told : (rest : List (List (List ℕ))) (t : Table) (e : LoadError) → with_records rest t ≡ Err e → Refused t rest e
refusal_told [] t e f = absurd (cc)
refusal_told (fields ∷ rest) t e f = by (λ u. refusal_told rest u e) (with_record t fields) refl f where
  by : ((u : Table) → with_records rest u ≡ Err e → Refused u rest e) → (r : Result Table LoadError) → with_record t fields ≡ r
      → and_then (with_records rest) r ≡ Err e → Refused t (fields ∷ rest) e
  by others (Ok u) is g = refused_more t fields rest e u (row_told t fields u is) (others u g)
  by others (Err x) is g =
      let same : x ≡ e = cc in
      let count : t.next + 1 ≡ t.next + 0 + 1 = omega arith in
      record {
        before = [];
        fields = fields;
        behind = rest;
        split = refl;
        rows = [];
        good = end;
        wrong = subst (λ (n : ℕ). IsWrongRecord t.schema.columns n fields e) count (record_told t fields e (is ∙ ap Err same));
      }

-- rows by their places
as_many_rows : (columns : List Column) {n : ℕ} {rest : List (List (List ℕ))} {rows : List Row} → Rows columns n rest rows → length rows ≡ length rest
as_many_rows columns end = refl
as_many_rows columns (more row is cells others) = ap suc (as_many_rows columns others)

abbrev IsAt : List Column → ℕ → List (List (List ℕ)) → ℕ → Row → Type 0
IsAt columns n rest k row = (row.number ≡ k + n) × (fields : List (List ℕ)) × (slice_get rest k ≡ Some fields) × AreCells columns fields row.cells

rows_at : (columns : List Column) {n : ℕ} {rest : List (List (List ℕ))} {rows : List Row} → Rows columns n rest rows
    → (k : ℕ) (row : Row) → slice_get rows k ≡ Some row → IsAt columns n rest k row
rows_at columns end k row e = absurd (none-some row e)
rows_at columns {n = n} (more {fields = fields} {rest = rest} first is cells others) zero row e =
    let same : first ≡ row = same_Some first row e in
    let number : first.number ≡ 0 + n = omega (arith, is) in
    subst (λ (r : Row). IsAt columns n (fields ∷ rest) 0 r) same (number, fields, refl, cells)
rows_at columns {n = n} (more {fields = fields} first is cells others) (suc k) row e =
    let there = rows_at columns others k row e in (omega (arith, there.0), there.1, there.2, there.3)

by_places : (columns : List Column) (n : ℕ) (rest : List (List (List ℕ))) (rows : List Row) → length rows ≡ length rest
    → ((k : ℕ) (row : Row) → slice_get rows k ≡ Some row → IsAt columns n rest k row) → Rows columns n rest rows
by_places columns n [] [] size h = end
by_places columns n [] (row ∷ rows) size h = absurd (omega (arith, size))
by_places columns n (fields ∷ rest) [] size h = absurd (omega (arith, size))
by_places columns n (fields ∷ rest) (row ∷ rows) size h =
    let here = h 0 row refl in
    more row (omega (arith, here.0)) (subst (λ (f : List (List ℕ)). AreCells columns f row.cells) (sym (same_Some fields here.1 here.2)) here.3)
    (by_places columns (n + 1) rest rows (omega (arith, size)) (λ k r e. let there = h (suc k) r e in (omega (arith, there.0), there.1, there.2, there.3)))

all_rows : (columns : List Column) {n : ℕ} {rest : List (List (List ℕ))} {rows : List Row} → Rows columns n rest rows → Every (IsRow columns) rest
all_rows columns end = every_none (IsRow columns)
all_rows columns (more {fields = fields} {rest = rest} row is cells others) =
    every_more (IsRow columns) fields rest (row.cells, cells) (all_rows columns others)

rows_of : (columns : List Column) (n : ℕ) (rest : List (List (List ℕ))) → Every (IsRow columns) rest → (rows : List Row) × Rows columns n rest rows
rows_of columns n [] h = ([], end)
rows_of columns n (fields ∷ rest) h =
    let here = first_of (IsRow columns) fields rest h in
    let others = rows_of columns (n + 1) rest (others_of (IsRow columns) fields rest h) in
    let row : Row = record { number = n; cells = here.0 } in
    (row ∷ others.0, more row refl here.1 others.1)

-- ---- files

-- how far a file is read before its rows, and what is answered there
data Way (name bytes : List ℕ) : Result Table LoadError → Type 0 where
  too_large : table_limit < length bytes → Way name bytes (Err TooLarge)
  no_header : length bytes ≤ table_limit → records_in bytes ≡ [] → Way name bytes (Err Header)
  too_many : (header : List (List ℕ)) (rest : List (List (List ℕ))) → length bytes ≤ table_limit → records_in bytes ≡ header ∷ rest
      → column_limit < length header → Way name bytes (Err TooLarge)
  in_header : (e : LoadError) (header : List (List ℕ)) (rest : List (List (List ℕ))) → length bytes ≤ table_limit
      → records_in bytes ≡ header ∷ rest → length header ≤ column_limit → IsHeaderFault header e → Way name bytes (Err e)
  behind : (header : List (List ℕ)) (rest : List (List (List ℕ))) (columns : List Column) → length bytes ≤ table_limit
      → records_in bytes ≡ header ∷ rest → length header ≤ column_limit → AreColumns header columns
      → Way name bytes (with_records rest (new_table name columns))

way_columns : (name bytes : List ℕ) (header : List (List ℕ)) (rest : List (List (List ℕ))) → length bytes ≤ table_limit → records_in bytes ≡ header ∷ rest
    → length header ≤ column_limit → (r : Result (List Column) LoadError) → columns_from header [] ≡ r
    → Way name bytes (and_then (with_records rest) (and_then (λ columns. Ok (new_table name columns)) r))
way_columns name bytes header rest small is few (Ok columns) e = behind header rest columns small is few (are_columns header columns e)
way_columns name bytes header rest small is few (Err x) e = in_header x header rest small is few (is_header_fault header x e)

way_header : (name bytes : List ℕ) (header : List (List ℕ)) (rest : List (List (List ℕ))) → length bytes ≤ table_limit → records_in bytes ≡ header ∷ rest
    → (b : Bool) → nat_lt column_limit (length header) ≡ b
    → Way name bytes (and_then (with_records rest) (if b then Err TooLarge else and_then (λ columns. Ok (new_table name columns)) (columns_from header [])))
way_header name bytes header rest small is true many = too_many header rest small is (ltb-true column_limit (length header) many)
way_header name bytes header rest small is false many =
    way_columns name bytes header rest small is (ltb-false column_limit (length header) many) (columns_from header []) refl

way_records : (name bytes : List ℕ) → length bytes ≤ table_limit → (rs : List (List (List ℕ))) → records_in bytes ≡ rs → Way name bytes (table_of_records name rs)
way_records name bytes small [] is = no_header small is
way_records name bytes small (header ∷ rest) is = way_header name bytes header rest small is (nat_lt column_limit (length header)) refl

way_bytes : (name bytes : List ℕ) (b : Bool) → nat_lt table_limit (length bytes) ≡ b
    → Way name bytes (if b then Err TooLarge else table_of_records name (records_in bytes))
way_bytes name bytes true large = too_large (ltb-true table_limit (length bytes) large)
way_bytes name bytes false large = way_records name bytes (ltb-false table_limit (length bytes) large) (records_in bytes) refl

way_of : (name bytes : List ℕ) → Way name bytes (table_of name bytes)
unfolding table_of
way_of name bytes = way_bytes name bytes (nat_lt table_limit (length bytes)) refl

-- each way is gone
small_goes : (name bytes : List ℕ) (rs : List (List (List ℕ))) → length bytes ≤ table_limit → records_in bytes ≡ rs → table_of name bytes ≡ table_of_records name rs
unfolding table_of
small_goes name bytes rs h is = rw (le-ltb table_limit (length bytes) h) (ap (table_of_records name) is)

many_goes : (name : List ℕ) (header : List (List ℕ)) (rest : List (List (List ℕ))) → column_limit < length header
    → table_of_records name (header ∷ rest) ≡ Err TooLarge
many_goes name header rest h = rw (lt-ltb column_limit (length header) h) refl

few_goes : (name : List ℕ) (header : List (List ℕ)) (rest : List (List (List ℕ))) (r : Result (List Column) LoadError) → length header ≤ column_limit
    → columns_from header [] ≡ r
    → table_of_records name (header ∷ rest) ≡ and_then (with_records rest) (and_then (λ columns. Ok (new_table name columns)) r)
few_goes name header rest r h is =
    rw (le-ltb column_limit (length header) h) (ap (λ found. and_then (with_records rest) (and_then (λ columns. Ok (new_table name columns)) found)) is)

goes_on : (name bytes : List ℕ) (header : List (List ℕ)) (rest : List (List (List ℕ))) (columns : List Column) → length bytes ≤ table_limit
    → records_in bytes ≡ header ∷ rest → length header ≤ column_limit → AreColumns header columns
    → table_of name bytes ≡ with_records rest (new_table name columns)
goes_on name bytes header rest columns small is few h =
    small_goes name bytes (header ∷ rest) small is ∙ few_goes name header rest (Ok columns) few (columns_are header columns h)

-- ---- the laws

is_table : (name bytes : List ℕ) (r : Result Table LoadError) (table : Table) → Way name bytes r → r ≡ Ok table → IsTable name bytes table
is_table name bytes r table (too_large large) e = absurd (cc)
is_table name bytes r table (no_header small is) e = absurd (cc)
is_table name bytes r table (too_many header rest small is many) e = absurd (cc)
is_table name bytes r table (in_header x header rest small is few fault) e = absurd (cc)
is_table name bytes r table (behind header rest columns small is few good) e =
    let told = records_told rest (new_table name columns) table e in
    let count : 1 + length told.rows ≡ length rest + 1 = omega (arith, as_many_rows columns told.are) in
    subst (IsTable name bytes) (sym told.new_is)
    (record {
      within = small;
      header = header;
      rest = rest;
      records = is;
      few = few;
      columns = good;
      named = refl;
      as_many = as_many_rows columns told.are;
      rows = rows_at columns told.are;
      next = count;
    })

table_is : (name bytes : List ℕ) (table : Table) → IsTable name bytes table → table_of name bytes ≡ Ok table
table_is name bytes table h =
    let columns : List Column = table.schema.columns in
    let rows : Rows columns 1 h.rest table.rows = by_places columns 1 h.rest table.rows h.as_many h.rows in
    let count : 1 + length table.rows ≡ table.next = omega (arith, h.as_many, h.next) in
    goes_on name bytes h.header h.rest columns h.within h.records h.few h.columns
    ∙ ap (λ rest. with_records rest (new_table name columns)) (sym (append-nil h.rest))
    ∙ run_records columns [] (new_table name columns) refl refl rows
    ∙ (λ i. Ok (record { schema = record { name = sym h.named i; columns = columns }; rows = table.rows; next = count i }))

pub means_table : MeansTable
means_table name bytes table = (is_table name bytes (table_of name bytes) table (way_of name bytes), table_is name bytes table)

is_first_fault : (name bytes : List ℕ) (r : Result Table LoadError) (e : LoadError) → Way name bytes r → r ≡ Err e → IsFirstFault bytes e
is_first_fault name bytes r e (too_large large) f = let same : TooLarge ≡ e = cc in subst (IsFirstFault bytes) same (law.too_large large)
is_first_fault name bytes r e (no_header small is) f = let same : Header ≡ e = cc in subst (IsFirstFault bytes) same (law.no_header small is)
is_first_fault name bytes r e (too_many header rest small is many) f =
    let same : TooLarge ≡ e = cc in subst (IsFirstFault bytes) same (law.too_many header rest small is many)
is_first_fault name bytes r e (in_header x header rest small is few fault) f =
    let same : x ≡ e = cc in subst (IsFirstFault bytes) same (law.in_header header rest small is few fault)
is_first_fault name bytes r e (behind header rest columns small is few good) f =
    let told = refusal_told rest (new_table name columns) e f in
    let count : 1 + length told.before + 1 ≡ length told.before + 2 = omega arith in
    law.in_record header rest columns small is few good
    (record {
      before = told.before;
      fields = told.fields;
      behind = told.behind;
      split = told.split;
      good = all_rows columns told.good;
      wrong = subst (λ (n : ℕ). IsWrongRecord columns n told.fields e) count told.wrong;
    })

record_fault : (name : List ℕ) (columns : List Column) (rest : List (List (List ℕ))) (e : LoadError) → IsRecordFault columns rest e
    → with_records rest (new_table name columns) ≡ Err e
record_fault name columns rest e h =
    let before = rows_of columns 1 h.before h.good in
    let t : Table = with_rows (new_table name columns) before.0 in
    let count : length h.before + 2 ≡ 1 + length before.0 + 1 = omega (arith, as_many_rows columns before.1) in
    ap (λ records. with_records records (new_table name columns)) h.split
    ∙ run_records columns (h.fields ∷ h.behind) (new_table name columns) refl refl before.1
    ∙ ap (and_then (with_records h.behind)) (record_is t h.fields e (subst (λ (n : ℕ). IsWrongRecord columns n h.fields e) count h.wrong))

first_fault : (name bytes : List ℕ) (e : LoadError) → IsFirstFault bytes e → table_of name bytes ≡ Err e
first_fault name bytes e (law.too_large large) = table_of-large name bytes large
first_fault name bytes e (law.no_header small is) = small_goes name bytes [] small is
first_fault name bytes e (law.too_many header rest small is many) = small_goes name bytes (header ∷ rest) small is ∙ many_goes name header rest many
first_fault name bytes e (law.in_header header rest small is few fault) =
    small_goes name bytes (header ∷ rest) small is ∙ few_goes name header rest (Err e) few (header_fault header e fault)
first_fault name bytes e (law.in_record header rest columns small is few good fault) =
    goes_on name bytes header rest columns small is few good ∙ record_fault name columns rest e fault

pub tells_first_fault : TellsFirstFault
tells_first_fault name bytes e = (is_first_fault name bytes (table_of name bytes) e (way_of name bytes), first_fault name bytes e)
