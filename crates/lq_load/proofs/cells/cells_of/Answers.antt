use Rattle.std.proofs.Common.{◌≡◌, ◌∙◌, sym, arith, Some, None}
use Rattle.csv.specs.Records.{field_at, fields_of}
use Rattle.lq_load.specs.Cells.{cell_of}
use Rattle.lq_load.proofs.CellLemmas.{cells-step, length-push}
use Rattle.lq_load.proofs.FieldLemmas.{field_there}
use Rattle.lq_load.proofs.cells.cells_of.Goals as goal

pub unreachable-requires : goal.unreachable-requires
unreachable-requires c =
    let at : c.len-in-loop-column.result ≡ c.loop-column.column-index = c.len-in-loop-column.ensures ∙ c.loop-column.invariant.0 in
    let none : None ≡ field_at (fields_of c.args.row.now) c.loop-column.column-index = rw at at c.in_default.ensures.value in
    field_there (fields_of c.args.row.now) c.loop-column.column-index (omega (arith, c.requires, c.loop-column-test.true)) none

pub returns-in-None : goal.returns-in-None
returns-in-None c =
    let inv = c.loop-column.invariant in
    let at : c.len-in-loop-column.result ≡ c.loop-column.column-index = c.len-in-loop-column.ensures ∙ inv.0 in
    let there : Some c.in-Some.text.now ≡ field_at (fields_of c.args.row.now) c.loop-column.column-index = rw at at c.in-Some.ensures.value in
    let none : cell_of c.column-item.result c.in-Some.text.now ≡ None = sym c.in_ok-cell.ensures ∙ c.in-None.is in
    rw c.len-in-None.ensures
    (sym (cells-step c.args.place c.loop-column.column-index c.args.columns.now (fields_of c.args.row.now) c.column-item.result c.in-Some.text.now c.loop-column.cells _ _
    c.loop-column-test.true c.column-item.is there none inv.1))

pub loop-column-preserved : goal.loop-column-preserved
loop-column-preserved c =
    let inv = c.loop-column.invariant in
    let at : c.len-in-loop-column.result ≡ c.loop-column.column-index = c.len-in-loop-column.ensures ∙ inv.0 in
    let there : Some c.in-Some.text.now ≡ field_at (fields_of c.args.row.now) c.loop-column.column-index = rw at at c.in-Some.ensures.value in
    let some : cell_of c.column-item.result c.in-Some.text.now ≡ Some c.in-Some-2.cell = sym c.in_ok-cell.ensures ∙ c.in-Some-2.is in
    let step = cells-step c.args.place c.loop-column.column-index c.args.columns.now (fields_of c.args.row.now) c.column-item.result c.in-Some.text.now c.loop-column.cells _ _
    c.loop-column-test.true c.column-item.is there some inv.1 in
    let size = length-push c.loop-column.cells c.in-Some-2.cell in
    (rw c.in_ok-push-in-Some-2.ensures.ok (omega (arith, size, inv.0)), rw c.in_ok-push-in-Some-2.ensures.ok step)
