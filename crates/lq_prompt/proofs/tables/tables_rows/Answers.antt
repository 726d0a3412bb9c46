use Rattle.std.proofs.Common.{◌≡◌, Some, option_map, slice_get, subst}
use Rattle.lq_prompt.proofs.TableLemmas.{next_tables}
use Rattle.lq_prompt.proofs.tables.tables_rows.Goals as goal

pub loop-table-preserved : goal.loop-table-preserved
loop-table-preserved c =
    let n = c.loop-table.table in
    let schema = c.schema-schema.result.now in
    let rows = c.rows-rows.result.now in
    let is : option_map (λ t. t.schema) (slice_get c.args.state.now.tables n) ≡ Some schema =
    subst (λ ts. option_map (λ t. t.schema) (slice_get ts n) ≡ Some schema) c.store-store.ensures.value c.schema-schema.ensures.value in
    let has : option_map (λ t. t.rows) (slice_get c.args.state.now.tables n) ≡ Some rows =
    subst (λ ts. option_map (λ t. t.rows) (slice_get ts n) ≡ Some rows) c.store-store.ensures.value c.rows-rows.ensures.value in
    next_tables c.args.state.now n c.args.state.now.tables schema rows c.loop-table.grid c.add_table.new.grid _ is has c.in_ok-add_table.ensures c.loop-table.invariant
