-- What tables and stores keep as rows and tables join them and rows leave.
use Rattle.std.proofs.Common.{IfSome, Option, nat_le, option_map, subst, ◌≡◌, ◌<◌, ◌+◌, ℕ, Bool, true, false, ◌&&◌, ◌||◌, not, List, [], ◌∷◌, ◌++◌, length, map, refl, arith, nat_eq, Some, None, if◌then◌else◌, ◌==◌, ◌^◌, ◌≤◌, cond, set, ap, sym, ◌∙◌, length-set}
use Rattle.std.specs.Prelude.{is_some, filter, slice_get, Result, Ok, Err}
use Rattle.std.specs.List.{list_all, list_any, position_from}
use Rattle.std.specs.Cmp.Lexicographic.{pointwise}
use Rattle.std.proofs.lemmas.Bool.{and_parts, leb-true}
use Rattle.std.proofs.lemmas.List.Folds.{list_all-append, list_any-append}
use Rattle.std.proofs.lemmas.List.Filters.{length-filter_both}
use Rattle.std.proofs.lemmas.List.{length-append, map-append}
use Rattle.std.proofs.lemmas.Option.{get_or_from_slice_get}
use Rattle.std.proofs.Math.Seq.{map-set_same}
use Rattle.lq_value.specs.Tables.{Table, first_named}
use Rattle.lq_value.specs.declared.table.Row.{Row}
use Rattle.lq_value.specs.declared.table.Schema.{Schema}
use Rattle.lq_value.specs.declared.scalar.Scalar.{Scalar}
use Rattle.lq_store.specs.declared.error.StoreError.{StoreError}
use Rattle.lq_store.specs.declared.error.StoreError.TheVariants.{Arity, CellType, CellRange, Full}
use Rattle.lq_store.specs.Rules.{AreNumbered, IsStore, IsTable, are_distinct, are_in_ranges, fits_schema, has_ints, have_types, is_of_32_bits, name_of}
use Rattle.lq_store.specs.Calls.{Inserts, Pushes, is_listed, refusal_of, with_row}

-- a conjunction that is true has true parts
both : (a b : Bool) → (a && b) ≡ true → (a ≡ true) × (b ≡ true)
both true b e = (refl, e)
both false b e = (e, cc)

-- a disjunction that is false has false parts
neither : (a b : Bool) → (a || b) ≡ false → (a ≡ false) × (b ≡ false)
neither true b e = (e, cc)
neither false b e = (refl, e)

-- a text unlike the others joins them
one_more : (a b c d : Bool) → not a ≡ true → b ≡ false → c ≡ true → (not (a || (b || false)) && c) ≡ true
one_more true b c d n e f = cc
one_more false b c d n e f = rw (e, f) refl

-- a text that is unlike each of some distinct ones comes after them
pub are_distinct-push : (texts : List (List ℕ)) (text : List ℕ) → are_distinct texts ≡ true → list_any (λ other. pointwise nat_eq other text) texts ≡ false
    → are_distinct (texts ++ text ∷ []) ≡ true
are_distinct-push [] text d n = refl
are_distinct-push (first ∷ rest) text d n =
    let parts = both (not (list_any (pointwise nat_eq first) rest)) (are_distinct rest) d in
    let unlike = neither (pointwise nat_eq first text) (list_any (λ other. pointwise nat_eq other text) rest) n in
    let more = are_distinct-push rest text parts.1 unlike.1 in
    rw (list_any-append (pointwise nat_eq first) rest (text ∷ [])) (one_more (list_any (pointwise nat_eq first) rest) (pointwise nat_eq first text) (are_distinct (rest ++ text ∷ [])) true parts.0 unlike.0 more)

-- where no place is found, no name is alike
none_alike : (i : ℕ) (tables : List Table) (name : List ℕ) → is_some (position_from (λ t. pointwise nat_eq (name_of t) name) i tables) ≡ false
    → list_any (λ other. pointwise nat_eq other name) (map name_of tables) ≡ false
none_alike i [] name e = refl
none_alike i (t ∷ rest) name e = by (pointwise nat_eq (name_of t) name) refl (none_alike (i + 1) rest name)
  where
    by : (b : Bool) → pointwise nat_eq (name_of t) name ≡ b
        → (is_some (position_from (λ other. pointwise nat_eq (name_of other) name) (i + 1) rest) ≡ false → list_any (λ other. pointwise nat_eq other name) (map name_of rest) ≡ false)
        → (pointwise nat_eq (name_of t) name || list_any (λ other. pointwise nat_eq other name) (map name_of rest)) ≡ false
    by true f more = let clash : true ≡ false = rw f at e in cc
    by false f more = rw f (more (rw f at e))

-- the names of a store's tables stay distinct
pub names-push : (tables : List Table) (table : Table) → are_distinct (map name_of tables) ≡ true → is_some (first_named name_of (name_of table) tables) ≡ false
    → are_distinct (map name_of (tables ++ table ∷ [])) ≡ true
names-push tables table d n =
    rw (map-append name_of tables (table ∷ [])) (are_distinct-push (map name_of tables) (name_of table) d (none_alike 0 tables (name_of table) n))

-- the next number comes after those that were given
numbered-push : (low : ℕ) (rows : List Row) (next : ℕ) (cells : List Scalar) → AreNumbered low rows next
    → AreNumbered low (rows ++ (record { number = next; cells = cells }) ∷ []) (next + 1)
numbered-push low [] next cells h = (h, omega arith)
numbered-push low (row ∷ rest) next cells h = (h.0, numbered-push (row.number + 1) rest next cells h.1)

-- cells that aren't refused fit
unrefused : (a b c d : Bool) → (if not a then Some Arity else (if not b then Some CellType else (if not c then Some CellRange else (if d then Some Full else None)))) ≡ None
    → (a && b && c) ≡ true
unrefused true true true d e = refl
unrefused false b c d e = cc
unrefused true false c d e = cc
unrefused true true false d e = cc

fits-push : (a b : Bool) → a ≡ true → b ≡ true → (a && (b && true)) ≡ true
fits-push a b e f = rw (e, f) refl

-- a table keeps its rules as a row joins it
pub table-push : (t : Table) (cells : List Scalar) → IsTable t → list_all is_of_32_bits cells ≡ true → refusal_of t cells ≡ None → IsTable (with_row t cells)
table-push t cells h ints none =
    let fit = unrefused (length t.schema.columns == length cells) (have_types t.schema.columns cells) (are_in_ranges t.schema.columns cells) (t.next == 2 ^ 64) none in
    let row : Row = record { number = t.next; cells = cells } in
    record {
      rules = h.rules;
      fits = rw (list_all-append (fits_schema t.schema) t.rows (row ∷ [])) (fits-push (list_all (fits_schema t.schema) t.rows) (fits_schema t.schema row) h.fits fit);
      ints = rw (list_all-append has_ints t.rows (row ∷ [])) (fits-push (list_all has_ints t.rows) (has_ints row) h.ints ints);
      numbered = numbered-push 1 t.rows t.next cells h.numbered;
    }

-- a store keeps its rules as a table joins it, or stays as it was
pub store-push : (tables new : List Table) (table : Table) (pushed : Bool) → new ≡ (if pushed then tables ++ table ∷ [] else tables)
    → IsStore tables → length tables < 64 → is_some (first_named name_of (name_of table) tables) ≡ false → IsStore new
store-push tables new table false e h few n = rw e h
store-push tables new table true e h few n =
    rw e (record { few = omega (arith, length-append tables (table ∷ [])); distinct = names-push tables table h.distinct n })

-- rows whose numbers begin higher begin no lower
numbered-lower : (low high : ℕ) (rows : List Row) (next : ℕ) → low ≤ high → AreNumbered high rows next → AreNumbered low rows next
numbered-lower low high [] next e h = omega arith
numbered-lower low high (row ∷ rest) next e h = (omega (arith, h.0), h.1)

-- some of the rows are numbered as all of them
numbered-filter : (test : Row → Bool) (low : ℕ) (rows : List Row) (next : ℕ) → AreNumbered low rows next → AreNumbered low (filter test rows) next
numbered-filter test low [] next h = h
numbered-filter test low (row ∷ rest) next h = by (test row) (numbered-filter test (row.number + 1) rest next h.1)
  where
    by : (b : Bool) → AreNumbered (row.number + 1) (filter test rest) next → AreNumbered low (cond b (row ∷ filter test rest) (filter test rest)) next
    by true k = (h.0, k)
    by false k = numbered-lower low (row.number + 1) (filter test rest) next (omega (arith, h.0)) k

-- what all pass some of them pass
list_all-filter : (p test : Row → Bool) (rows : List Row) → list_all p rows ≡ true → list_all p (filter test rows) ≡ true
list_all-filter p test [] h = refl
list_all-filter p test (row ∷ rest) h = let parts = both (p row) (list_all p rest) h in by (test row) parts.0 (list_all-filter p test rest parts.1)
  where
    by : (b : Bool) → p row ≡ true → list_all p (filter test rest) ≡ true → list_all p (cond b (row ∷ filter test rest) (filter test rest)) ≡ true
    by true e k = rw (e, k) refl
    by false e k = k

-- a table keeps its rules as rows leave it
pub table-filter : (t : Table) (test : Row → Bool) → IsTable t → IsTable (record t { rows = filter test t.rows })
table-filter t test h = record {
  rules = h.rules;
  fits = list_all-filter (fits_schema t.schema) test t.rows h.fits;
  ints = list_all-filter has_ints test t.rows h.ints;
  numbered = numbered-filter test 1 t.rows t.next h.numbered;
}

-- a store keeps its rules as a table of the same schema takes the place of another
pub store-set : (tables : List Table) (place : ℕ) (table changed : Table) → IsStore tables → slice_get tables place ≡ Some table
    → changed.schema ≡ table.schema → IsStore (set tables place changed)
store-set tables place table changed h at same =
    let names : map name_of (set tables place changed) ≡ map name_of tables =
    map-set_same name_of tables place changed table (ap (λ s. s.name) same ∙ ap name_of (sym (get_or_from_slice_get tables place table table at))) in
    record {
      few = omega (arith, length-set tables place changed, h.few);
      distinct = rw names h.distinct;
    }

-- a push leaves the schema
pub schema-push : (old new : Table) (cells : List Scalar) (result : Result ℕ (StoreError × List Scalar)) → Pushes old cells result new → new.schema ≡ old.schema
schema-push old new cells (Ok number) h = ap (λ t. t.schema) h.2
schema-push old new cells (Err refused) h = ap (λ t. t.schema) h.2

-- a push into a table of a store is what an insertion into the store is
pub inserts : (tables : List Table) (place : ℕ) (old changed : Table) (cells : List Scalar) (result : Result ℕ (StoreError × List Scalar))
    → slice_get tables place ≡ Some old → Pushes old cells result changed → Inserts tables place cells result (set tables place changed)
inserts tables place old changed cells result at h = rw at (changed, h, refl)

-- the rows that stay and those that go are all of them
pub counted : (numbers : List ℕ) (old new : List Row) → new ≡ filter (λ row. not (is_listed numbers row.number)) old
    → length (filter (λ row. is_listed numbers row.number) old) + length new ≡ length old
counted numbers old new e = rw e (length-filter_both (λ row. is_listed numbers row.number) (λ row. not (is_listed numbers row.number)) (λ row. refl) old)

-- the columns of a table are few
pub few_columns : (found : Option Table) (schema : Schema) → option_map (λ table. table.schema) found ≡ Some schema → IfSome found IsTable
    → length schema.columns ≤ 100
few_columns None schema h table = absurd cc
few_columns (Some t) schema h table =
    let same : t.schema ≡ schema = cc in
    let n = length t.schema.columns in
    let most = and_parts (nat_le 1 n && nat_le n 100 && are_distinct (map (λ column. column.name) t.schema.columns)) _ table.rules in
    let bounds = and_parts (nat_le 1 n && nat_le n 100) _ most.0 in
    let few : n ≤ 100 = leb-true n 100 (and_parts (nat_le 1 n) (nat_le n 100) bounds.0).1 in
    subst (λ (s : Schema). length s.columns ≤ 100) same few
