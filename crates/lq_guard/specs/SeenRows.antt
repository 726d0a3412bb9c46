-- What is handed out of a table: the rows with which policies let a role do something.
use Rattle.std.specs.Prelude.{List, [], ◌∷◌, ◌+◌, ℕ, filter, map}
use Rattle.lq_value.specs.Tables.{Table}
use Rattle.lq_value.specs.declared.scalar.Scalar.{Scalar}
use Rattle.lq_value.specs.declared.table.Row.{Row}
use Rattle.lq_language.specs.TableRows.{TableRow}
use Rattle.lq_security.specs.Visible.{visible_to}
use Rattle.lq_security.specs.declared.policy.Action.{Action}
use Rattle.lq_security.specs.declared.policy.PolicyParts.{PolicyParts}
use Rattle.lq_policy.specs.Roles.{number_of}
use Rattle.lq_guard.specs.declared.access.Access.{Access}
use Rattle.lq_guard.specs.declared.scans.Scan.{Scan}

-- the rows of a table that are handed out: those with which the policies let the role do this, in their order
abbrev pub visible_rows : PolicyParts → ℕ → Action → ℕ → List Row → List TableRow
visible_rows policies role act table rows =
    map (λ row. record { table = table; row = row }) (filter (λ row. visible_to policies role act table row.cells) rows)

-- the rows of each of these tables that are handed out, where the first one has this number
abbrev pub visible_tables_from : PolicyParts → ℕ → Action → ℕ → List Table → List (List TableRow)
visible_tables_from policies role act number [] = []
visible_tables_from policies role act number (table ∷ tables) =
    visible_rows policies role act number table.rows ∷ visible_tables_from policies role act (number + 1) tables

-- for each table, by number, the rows with which a role may do something
abbrev pub visible_tables : PolicyParts → ℕ → List Table → Action → List (List TableRow)
visible_tables policies role tables act = visible_tables_from policies role act 0 tables

-- what a row tells: its cells, and the numbers of its table and of itself
abbrev pub cells_of : TableRow → List Scalar
cells_of r = r.row.cells

abbrev pub table_of : TableRow → ℕ
table_of r = r.table

abbrev pub number_of_row : TableRow → ℕ
number_of_row r = r.row.number

-- ---- as the code has them

abbrev pub visible_by : Access → List Row → List TableRow
visible_by access rows = visible_rows access.policies.now (number_of access.role) access.action access.table rows

-- what a scan has left to hand out
abbrev pub rows_left : Scan → List TableRow
rows_left scan = visible_by scan.access scan.rows.now

-- the number of the table that is scanned
abbrev pub scanned_table : Scan → ℕ
scanned_table scan = scan.access.table
