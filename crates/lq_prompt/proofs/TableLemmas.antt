-- Lemmas on the rows that tables give, one table after another.
use Rattle.std.proofs.Common.{◌≡◌, ◌+◌, ◌++◌, ◌∷◌, ℕ, List, [], Option, Some, None, OnOk, Result, Ok, Err, drop, option_map, slice_get, ap, ap₂, refl, sym, ◌∙◌, append_assoc}
use Rattle.std.proofs.lemmas.List.{drop_more}
use Rattle.std.proofs.lemmas.Option.{get_or_from_slice_get, slice_get_within}
use Rattle.lq_value.specs.Tables.{Table}
use Rattle.lq_value.specs.declared.table.Row.{Row}
use Rattle.lq_value.specs.declared.table.Schema.{Schema}
use Rattle.lq_run.specs.States.{SessionState}
use Rattle.lq_render.specs.declared.grid.Cell.{Cell}
use Rattle.lq_prompt.specs.Rights as rights
use Rattle.lq_prompt.specs.Tables as tables

-- the tables from a number on begin with that of the number
from_number : (ts : List Table) (n : ℕ) (t : Table) → slice_get ts n ≡ Some t → drop n ts ≡ t ∷ drop (n + 1) ts
from_number ts n t is =
    drop_more ts n t (slice_get_within ts n t is) ∙ ap (λ (x : Table). x ∷ drop (n + 1) ts) (get_or_from_slice_get ts n t t is)

-- the table of this number, of which the schema is known
record TableAt (ts : List Table) (n : ℕ) (schema : Schema) : Type 0 where
  pub table : Table
  pub there : slice_get ts n ≡ Some table
  pub same : table.schema ≡ schema

table_of : (found : Option Table) (schema : Schema) → option_map (λ t. t.schema) found ≡ Some schema → (t : Table) × (found ≡ Some t) × (t.schema ≡ schema)
table_of None schema is = absurd cc
table_of (Some t) schema is = (t, refl, cc)

table_at : (ts : List Table) (n : ℕ) (schema : Schema) → option_map (λ t. t.schema) (slice_get ts n) ≡ Some schema → TableAt ts n schema
table_at ts n schema is = let found = table_of (slice_get ts n) schema is in record { table = found.0; there = found.1; same = found.2 }

some_same : (xs ys : List Row) → Some xs ≡ Some ys → xs ≡ ys
some_same xs ys e = cc

-- the rows of one table more
pub next_rights : (s : SessionState) (n : ℕ) (ts : List Table) (schema : Schema) (old new all : List (List Cell))
    → option_map (λ t. t.schema) (slice_get ts n) ≡ Some schema → new ≡ old ++ rights.table_rows s n schema
    → old ++ rights.rights_rows s n (drop n ts) ≡ all → new ++ rights.rights_rows s (n + 1) (drop (n + 1) ts) ≡ all
next_rights s n ts schema old new all is more so_far =
    let at = table_at ts n schema is in
    let behind = rights.rights_rows s (n + 1) (drop (n + 1) ts) in
    ap (λ l. l ++ behind) more ∙ append_assoc old (rights.table_rows s n schema) behind
    ∙ ap (λ (x : Schema). old ++ (rights.table_rows s n x ++ behind)) (sym at.same)
    ∙ ap (λ l. old ++ rights.rights_rows s n l) (sym (from_number ts n at.table at.there)) ∙ so_far

pub next_tables : (s : SessionState) (n : ℕ) (ts : List Table) (schema : Schema) (rows : List Row) (old new all : List (List Cell))
    → option_map (λ t. t.schema) (slice_get ts n) ≡ Some schema → option_map (λ t. t.rows) (slice_get ts n) ≡ Some rows
    → new ≡ old ++ tables.table_rows s n schema rows
    → old ++ tables.tables_rows s n (drop n ts) ≡ all → new ++ tables.tables_rows s (n + 1) (drop (n + 1) ts) ≡ all
next_tables s n ts schema rows old new all is has more so_far =
    let at = table_at ts n schema is in
    let behind = tables.tables_rows s (n + 1) (drop (n + 1) ts) in
    let same_rows : at.table.rows ≡ rows = some_same at.table.rows rows (ap (option_map (λ t. t.rows)) (sym at.there) ∙ has) in
    ap (λ l. l ++ behind) more ∙ append_assoc old (tables.table_rows s n schema rows) behind
    ∙ ap₂ (λ (x : Schema) (y : List Row). old ++ (tables.table_rows s n x y ++ behind)) (sym at.same) (sym same_rows)
    ∙ ap (λ l. old ++ tables.tables_rows s n l) (sym (from_number ts n at.table at.there)) ∙ so_far

-- two rows after others
pub two_more : {T E : Type 0} (r : Result T E) (old first second new columns : List (List Cell)) (a b c d : List Cell)
    → first ≡ old ++ columns → second ≡ first ++ a ∷ [] → OnOk r (new ≡ second ++ b ∷ []) → a ≡ c → b ≡ d
    → OnOk r (new ≡ old ++ (columns ++ (c ∷ d ∷ [])))
two_more (Ok x) old first second new columns a b c d columns_first then_a then_b is_c is_d =
    then_b ∙ ap (λ l. l ++ b ∷ []) (then_a ∙ ap (λ l. l ++ a ∷ []) columns_first)
    ∙ append_assoc (old ++ columns) (a ∷ []) (b ∷ []) ∙ append_assoc old columns (a ∷ b ∷ [])
    ∙ ap₂ (λ x y. old ++ (columns ++ (x ∷ y ∷ []))) is_c is_d
two_more (Err e) old first second new columns a b c d columns_first then_a then_b is_c is_d = tt
