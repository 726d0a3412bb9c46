-- The rows that a store keeps have cells of their columns' types.
use Rattle.std.proofs.Common.{◌≡◌, ◌==◌, ◌&&◌, ◌∷◌, List, [], zero, suc, length, Bool, true, sym, subst, arith, true≢false}
use Rattle.std.specs.List.{list_all}
use Rattle.std.proofs.lemmas.Bool.{and_parts, eqb-true}
use Rattle.std.proofs.lemmas.Option.{none-some, same_Some}
use Rattle.lq_value.specs.Tables.{Table}
use Rattle.lq_value.specs.declared.scalar.Scalar.{Scalar}
use Rattle.lq_value.specs.declared.scalar.Scalar.TheVariants as scalar
use Rattle.lq_value.specs.declared.table.Column.{Column}
use Rattle.lq_value.specs.declared.table.ColumnType.{ColumnType}
use Rattle.lq_value.specs.declared.table.ColumnType.TheVariants as of
use Rattle.lq_value.specs.declared.ty.Ty.{Ty, out-Ty}
use Rattle.lq_value.specs.declared.ty.Ty.TheOpen.{Ty-F}
use Rattle.lq_value.specs.declared.ty.Ty.TheVariants.{outs-Bool, outs-Int, outs-IntN, outs-Str}
use Rattle.lq_store.specs.Rules.{IsTable, are_in_ranges, fit_columns, fits_schema, have_types, is_of_type}
use Rattle.lq_language.specs.ValuesOfTypes.{Every, HaveTypes, IsScalarOf, IsTypedTable}
use Rattle.lq_language.specs.Names.{type_of_column}

typed_cell : (t : ColumnType) (cell : Scalar) → is_of_type t cell ≡ true → IsScalarOf (out-Ty (type_of_column t)) cell
typed_cell of.Int (scalar.Int n) h = subst (λ (u : Ty-F Ty). IsScalarOf u (scalar.Int n)) (sym outs-Int) tt
typed_cell of.IntN (scalar.Int n) h = subst (λ (u : Ty-F Ty). IsScalarOf u (scalar.Int n)) (sym outs-IntN) tt
typed_cell of.IntN scalar.Null h = subst (λ (u : Ty-F Ty). IsScalarOf u scalar.Null) (sym outs-IntN) tt
typed_cell of.Bool (scalar.Bool b) h = subst (λ (u : Ty-F Ty). IsScalarOf u (scalar.Bool b)) (sym outs-Bool) tt
typed_cell of.Str (scalar.Text s) h = subst (λ (u : Ty-F Ty). IsScalarOf u (scalar.Text s)) (sym outs-Str) tt
typed_cell of.Str scalar.Null h = subst (λ (u : Ty-F Ty). IsScalarOf u scalar.Null) (sym outs-Str) tt
typed_cell t cell h = absurd (true≢false (sym h))

typed_cells : (columns : List Column) (cells : List Scalar) → length columns ≡ length cells → have_types columns cells ≡ true → HaveTypes columns cells
typed_cells [] cells many typed = tt
typed_cells (column ∷ columns) [] many typed = absurd (omega (arith, many))
typed_cells (column ∷ columns) (cell ∷ cells) many typed =
    let parts = and_parts (is_of_type column.ty cell) (have_types columns cells) typed in
    (typed_cell column.ty cell parts.0, typed_cells columns cells (omega (arith, many)) parts.1)

typed_row : (columns : List Column) (cells : List Scalar) → fit_columns columns cells ≡ true → HaveTypes columns cells
typed_row columns cells fits =
    let most = and_parts ((length columns == length cells) && have_types columns cells) (are_in_ranges columns cells) fits in
    let parts = and_parts (length columns == length cells) (have_types columns cells) most.0 in
    typed_cells columns cells (eqb-true (length columns) (length cells) parts.0) parts.1

each_of : {A : Type 0} (test : A → Bool) (xs : List A) → list_all test xs ≡ true → Every (λ x. test x ≡ true) xs
each_of test [] h k x is = absurd (none-some x is)
each_of test (y ∷ ys) h zero x is = subst (λ z. test z ≡ true) (same_Some y x is) (and_parts (test y) (list_all test ys) h).0
each_of test (y ∷ ys) h (suc k) x is = each_of test ys (and_parts (test y) (list_all test ys) h).1 k x is

pub typed_table : (table : Table) → IsTable table → IsTypedTable table
typed_table table kept k row is = typed_row table.schema.columns row.cells (each_of (fits_schema table.schema) table.rows kept.fits k row is)

pub typed_tables : (tables : List Table) → Every IsTable tables → Every IsTypedTable tables
typed_tables tables kept k table is = typed_table table (kept k table is)
