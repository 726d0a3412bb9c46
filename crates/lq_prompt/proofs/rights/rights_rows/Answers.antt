use Rattle.std.proofs.Common.{◌≡◌, Some, option_map, slice_get, subst}
use Rattle.lq_prompt.proofs.TableLemmas.{next_rights}
use Rattle.lq_prompt.proofs.rights.rights_rows.Goals as goal

pub loop-table-preserved : goal.loop-table-preserved
loop-table-preserved c =
    let n = c.loop-table.table in
    let schema = c.schema-schema.result.now in
    let is : option_map (λ t. t.schema) (slice_get c.args.state.now.tables n) ≡ Some schema =
    subst (λ ts. option_map (λ t. t.schema) (slice_get ts n) ≡ Some schema) c.store-in-loop-table.ensures.value c.schema-schema.ensures.value in
    next_rights c.args.state.now n c.args.state.now.tables schema c.loop-table.grid c.add_table.new.grid _ is c.in_ok-add_table.ensures c.loop-table.invariant
