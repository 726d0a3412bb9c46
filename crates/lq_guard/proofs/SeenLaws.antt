-- What is handed out of tables: visible rows alone, and for a role that reads them the tables as seen.
use Rattle.std.proofs.Common.{◌≡◌, ◌∷◌, ◌+◌, if◌then◌else◌, List, [], filter, map, ℕ, Bool, true, false, Option, Some, None, ap, sym, refl, option_map}
use Rattle.std.proofs.lemmas.Option.{none-some, same_Some}
use Rattle.lq_value.specs.Tables.{Table}
use Rattle.lq_value.specs.declared.table.Row.{Row}
use Rattle.lq_language.specs.TableRows.{TableRow}
use Rattle.lq_language.specs.ValuesOfTypes.{Every}
use Rattle.lq_language.proofs.ItemLaws.{every_map, every_more, every_none}
use Rattle.lq_security.specs.Visible.{seen_from, seen_rows, tables_as_seen, visible_to}
use Rattle.lq_security.specs.declared.policy.Action.TheVariants as action
use Rattle.lq_security.specs.declared.policy.PolicyParts.{PolicyParts}
use Rattle.lq_guard.specs.GuardLaws.{HandsOutTablesAsSeen, HandsOutVisibleRows, IsVisibleRow}
use Rattle.lq_guard.specs.SeenRows.{table_of, visible_rows, visible_tables_from}

-- what is made of the rows of the table that is there
pub of_rows : {B : Type 0} (f : List Row → B) (o : Option Table) (rows : List Row) → option_map (λ t. t.rows) o ≡ Some rows
    → Some (f rows) ≡ option_map (λ t. f t.rows) o
of_rows f None rows is = absurd (none-some rows is)
of_rows f (Some t) rows is = ap (λ (given : List Row). Some (f given)) (sym (same_Some t.rows rows is))

-- ---- for a role that reads

-- what is handed out of a table are its rows as seen
pub table_as_seen : (policies : PolicyParts) (role table : ℕ) (rows : List Row)
    → visible_rows policies role action.Select table rows ≡ seen_rows policies role table rows
table_as_seen policies role table rows = refl

tables_from : (policies : PolicyParts) (role number : ℕ) (tables : List Table)
    → visible_tables_from policies role action.Select number tables ≡ seen_from policies role number tables
tables_from policies role number [] = refl
tables_from policies role number (table ∷ tables) =
    ap (λ (rest : List (List TableRow)). seen_rows policies role number table.rows ∷ rest) (tables_from policies role (number + 1) tables)

pub all_tables_as_seen : HandsOutTablesAsSeen
unfolding tables_as_seen
all_tables_as_seen policies role tables = tables_from policies role 0 tables

-- ---- for any action

one_passes : (test : Row → Bool) (row : Row) (rest : List Row) → Every (λ r. test r ≡ true) rest → (b : Bool) → test row ≡ b
    → Every (λ r. test r ≡ true) (if b then row ∷ rest else rest)
one_passes test row rest passes true is = every_more (λ r. test r ≡ true) row rest is passes
one_passes test row rest passes false is = passes

all_pass : (test : Row → Bool) (rows : List Row) → Every (λ r. test r ≡ true) (filter test rows)
all_pass test [] = every_none (λ r. test r ≡ true)
all_pass test (row ∷ rows) = one_passes test row (filter test rows) (all_pass test rows) (test row) refl

-- the rows that are handed out are visible
pub all_visible : HandsOutVisibleRows
all_visible policies role act table rows =
    every_map (λ row. visible_to policies role act table row.cells ≡ true) (IsVisibleRow policies role act) (λ row. record { table = table; row = row })
    (λ row is. is) (filter (λ row. visible_to policies role act table row.cells) rows)
    (all_pass (λ row. visible_to policies role act table row.cells) rows)

-- and of the table that is scanned
pub all_of_table : (table : ℕ) (rows : List Row) → Every (λ row. table_of row ≡ table) (map (λ row. record { table = table; row = row }) rows)
all_of_table table [] = every_none (λ (row : TableRow). table_of row ≡ table)
all_of_table table (row ∷ rows) =
    every_more (λ (row : TableRow). table_of row ≡ table) (record { table = table; row = row }) (map (λ row. record { table = table; row = row }) rows)
    refl (all_of_table table rows)
