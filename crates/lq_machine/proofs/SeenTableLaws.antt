-- The tables as seen have their rows, with a cell of its type under each column.
use Rattle.std.proofs.Common.{◌≡◌, ◌+◌, ◌∷◌, List, [], filter, ℕ, zero, suc, Option, Some, None, ap, ◌∙◌, arith, sym, refl, subst, slice_get, option_and_then, option_map, add-zero, zero-add}
use Rattle.std.proofs.lemmas.Option.{none-some, same_Some, slice_get-map}
use Rattle.lq_value.specs.Tables.{Table}
use Rattle.lq_value.specs.declared.scalar.Scalar.{Scalar}
use Rattle.lq_value.specs.declared.table.Column.{Column}
use Rattle.lq_value.specs.declared.table.Row.{Row}
use Rattle.lq_value.specs.declared.table.Schema.{Schema}
use Rattle.lq_value.specs.declared.ty.Ty.{Ty, out-Ty}
use Rattle.lq_value.specs.declared.value.Fault.{Fault}
use Rattle.lq_machine.specs.States.{State, schemas_of, seen_by_role, world_by}
use Rattle.lq_language.specs.Worlds.{World}
use Rattle.lq_language.specs.ValuesOfTypes.{Every, HasCells, HaveTypes, HoldsRows, IsScalarOf, IsTypedTable}
use Rattle.lq_machine.specs.Served.{columns_in}
use Rattle.lq_language.specs.Names.{column_type, column_named, type_of_column}
use Rattle.lq_language.specs.TableRows.{TableRow, cell_named}
use Rattle.lq_security.specs.Visible.{seen_from, seen_rows, tables_as_seen, visible_to}
use Rattle.lq_security.specs.declared.policy.Action.TheVariants as action
use Rattle.lq_security.specs.declared.policy.PolicyParts.{PolicyParts}
use Rattle.lq_language.proofs.ItemLaws.{every_filter, every_map}
use Rattle.lq_language.proofs.MeaningLaws.{cell_there}

same_place : (start number : ℕ) → (start + 1) + number ≡ start + suc number
same_place start number = omega arith

-- the rows of a table as seen, by its number
pub seen_at : (parts : PolicyParts) (role start number : ℕ) (tables : List Table)
    → slice_get (seen_from parts role start tables) number ≡ option_map (λ table. seen_rows parts role (start + number) table.rows) (slice_get tables number)
seen_at parts role start number [] = refl
seen_at parts role start zero (table ∷ tables) = ap (λ n. Some (seen_rows parts role n table.rows)) (sym (add-zero start))
seen_at parts role start (suc number) (table ∷ tables) =
    seen_at parts role (start + 1) number tables
    ∙ ap (λ n. option_map (λ t. seen_rows parts role n t.rows) (slice_get tables number)) (same_place start number)

-- the table that has a schema
table_with : (tables : List Table) (n : ℕ) (schema : Schema) → slice_get (schemas_of tables) n ≡ Some schema → (table : Table) × (slice_get tables n ≡ Some table) × (table.schema ≡ schema)
table_with tables n schema h = by (slice_get tables n) refl (sym (slice_get-map (λ table. table.schema) tables n) ∙ h) where
  by : (o : Option Table) → slice_get tables n ≡ o → option_map (λ table. table.schema) o ≡ Some schema → (table : Table) × (slice_get tables n ≡ Some table) × (table.schema ≡ schema)
  by None is g = absurd (none-some schema g)
  by (Some table) is g = (table, is, same_Some table.schema schema g)

module _ (s : State) (typed : Every IsTypedTable s.tables) (unknown : Fault) where
  abbrev seen_world : World TableRow
  seen_world = world_by unknown (schemas_of s.tables) s.predicates (seen_by_role s)

  -- a row of a table has its cells, whether it is seen or not
  cell_under : (n : ℕ) (table : Table) (row : Row) → slice_get (schemas_of s.tables) n ≡ Some table.schema → HaveTypes table.schema.columns row.cells
      → (c : List ℕ) (t : Ty) → column_type (schemas_of s.tables) n c ≡ Some t
      → (cell : Scalar) × (seen_world.cell (record { table = n; row = row }) c ≡ Some cell) × IsScalarOf (out-Ty t) cell
  cell_under n table row at fit c t found = under (column_named c table.schema.columns) refl (sym (ap (λ (o : Option Schema). column_in o) at) ∙ found) where
    column_in : Option Schema → Option Ty
    column_in o = option_and_then (λ schema. option_map (λ column. type_of_column column.ty) (column_named c schema.columns)) o

    cell_in : Option Schema → Option Scalar
    cell_in o = cell_named (columns_in o) row.cells c

    under : (o : Option Column) → column_named c table.schema.columns ≡ o → option_map (λ column. type_of_column column.ty) o ≡ Some t
        → (cell : Scalar) × (seen_world.cell (record { table = n; row = row }) c ≡ Some cell) × IsScalarOf (out-Ty t) cell
    under None is h = absurd (none-some t h)
    under (Some column) is h =
        let cell = cell_there table.schema.columns row.cells fit c column is in
        (cell.0, ap cell_in at ∙ cell.1, subst (λ (u : Ty). IsScalarOf (out-Ty u) cell.0) (same_Some (type_of_column column.ty) t h) cell.2)

  pub column_by : (n : ℕ) (table : Table) (row : Row) → slice_get (schemas_of s.tables) n ≡ Some table.schema → HaveTypes table.schema.columns row.cells → HasCells seen_world n (record { table = n; row = row })
  column_by n table row at fit = (refl, cell_under n table row at fit)

  pub holds_seen : HoldsRows seen_world
  unfolding tables_as_seen
  holds_seen n schema is =
      let found = table_with s.tables n schema is in
      let at : slice_get (schemas_of s.tables) n ≡ Some found.0.schema = is ∙ ap Some (sym found.2) in (
        seen_rows s.policies s.role n found.0.rows,
        seen_at s.policies s.role 0 n s.tables ∙ ap (option_map (λ t. seen_rows s.policies s.role (0 + n) t.rows)) found.1
            ∙ ap (λ m. Some (seen_rows s.policies s.role m found.0.rows)) (zero-add n),
        every_map (λ row. HaveTypes found.0.schema.columns row.cells) (HasCells seen_world n) (λ row. record { table = n; row = row }) (λ row fit. column_by n found.0 row at fit)
            (filter (λ row. visible_to s.policies s.role action.Select n row.cells) found.0.rows)
            (every_filter (λ row. HaveTypes found.0.schema.columns row.cells) (λ row. visible_to s.policies s.role action.Select n row.cells) found.0.rows (typed n found.0 found.1)),
      )
