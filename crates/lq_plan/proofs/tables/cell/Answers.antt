use Rattle.std.proofs.Common.{ap, option_and_then, slice_get, sym, ◌∙◌}
use Rattle.lq_machine.specs.Served.{columns_in}
use Rattle.lq_language.specs.TableRows.{cell_named}
use Rattle.lq_plan.specs.Worlds.{schemas_in}
use Rattle.lq_plan.proofs.CellLemmas.{cell_found}
use Rattle.lq_plan.proofs.tables.cell.Goals as goal

pub returns-then-table : goal.returns-then-table
returns-then-table g c =
    let schemas = schemas_in c.args.tables.now in
    let row = g.R.TableRow.table_of c.args.row.now in
    let cells = g.R.RowRef.shown c.args.row.now in
    c.cell_at.ensures ∙ ap (λ l. slice_get l c.args.column) c.cells.ensures
    ∙ sym (cell_found schemas c.args.table row c.args.column c.in_ok-name.name.now cells c.requires (sym c.table.ensures ∙ c.if-table.true) (sym c.in_ok-name.ensures))
    ∙ ap (option_and_then (cell_named (columns_in (slice_get schemas row)) cells)) c.in_ok-name.ensures
