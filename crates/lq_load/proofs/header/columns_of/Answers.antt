use Rattle.std.proofs.Common.{◌≡◌, ◌∙◌, ◌+◌, sym, refl, rules, drop, true, false, Some, None, Err}
use Rattle.csv.specs.Records.{field_at, fields_of}
use Rattle.lq_load.specs.Headers.{column_of, columns_from, has_name}
use Rattle.lq_load.proofs.HeaderLemmas.{column_found, columns-end, columns-step, no_column}
use Rattle.lq_load.proofs.TableFileLemmas.{unless-map}
use Rattle.lq_load.proofs.header.columns_of.Goals as goal

pub returns-in_err-column : goal.returns-in_err-column
returns-in_err-column c =
    let inv = c.loop-cell.invariant in
    let fields = fields_of c.args.header.now in
    let at = c.loop-cell.cell-iterator.at in
    let there : Some c.in-Some.cell.now ≡ field_at fields at = rw inv.0 at c.in-Some.ensures.steps.1 in
    let same : c.from_residual.result ≡ Err c.in_err-column.field-0.0 = search rules in
    rw same (unless-map c.in_err-column.field-0.0 _ _
    (λ h. sym (columns-step at fields c.in-Some.cell.now c.loop-cell.columns (column_of c.in-Some.cell.now) _ there refl inv.1)
    ∙ no_column (columns_from (drop (at + 1) fields)) c.loop-cell.columns (column_of c.in-Some.cell.now) c.in_err-column.field-0.0 h)
    c.in_err-column.ensures)

pub returns-then-has_name : goal.returns-then-has_name
returns-then-has_name c =
    let inv = c.loop-cell.invariant in
    let there : Some c.in-Some.cell.now ≡ field_at (fields_of c.args.header.now) c.loop-cell.cell-iterator.at = rw inv.0 at c.in-Some.ensures.steps.1 in
    let found = column_found (column_of c.in-Some.cell.now) c.in_ok-column.column c.in_ok-column.ensures in
    let named : true ≡ has_name c.loop-cell.columns c.in_ok-column.column.name = rw (c.as_slice.ensures, c.as_bytes.ensures) at c.if-has_name.ensures in
    let step = columns-step c.loop-cell.cell-iterator.at (fields_of c.args.header.now) c.in-Some.cell.now c.loop-cell.columns (Some c.in_ok-column.column) _ there found inv.1 in
    sym (rw (← named) at step)

pub loop-cell-preserved : goal.loop-cell-preserved
loop-cell-preserved c =
    let inv = c.loop-cell.invariant in
    let step = c.in-Some.ensures.steps in
    let there : Some c.in-Some.cell.now ≡ field_at (fields_of c.args.header.now) c.loop-cell.cell-iterator.at = rw inv.0 at step.1 in
    let found = column_found (column_of c.in-Some.cell.now) c.in_ok-column.column c.in_ok-column.ensures in
    let named : false ≡ has_name c.loop-cell.columns c.in_ok-column.column.name = rw (c.as_slice.ensures, c.as_bytes.ensures) at c.if-has_name.ensures in
    let more = columns-step c.loop-cell.cell-iterator.at (fields_of c.args.header.now) c.in-Some.cell.now c.loop-cell.columns (Some c.in_ok-column.column) _ there found inv.1 in
    (rw step.0 inv.0, rw (step.2, c.in_ok-push.ensures.ok) (rw (← named) at more))

pub returns : goal.returns
returns c =
    let inv = c.loop-cell.invariant in
    let there : None ≡ field_at (fields_of c.args.header.now) c.loop-cell.cell-iterator.at = rw inv.0 at c.in-None.ensures.steps.1 in
    columns-end c.loop-cell.cell-iterator.at (fields_of c.args.header.now) c.loop-cell.columns _ there inv.1
