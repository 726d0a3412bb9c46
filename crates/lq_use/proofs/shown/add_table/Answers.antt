use Rattle.std.proofs.Common.{◌∙◌, ◌++◌, Option, ap, sym, slice_get, arith}
use Rattle.lq_machine.specs.States.{schemas_of}
use Rattle.lq_language.specs.Uses.{all_columns}
use Rattle.lq_use.proofs.UseLemmas.{append_none, columns_there, few_columns, no_schema, schema_there}
use Rattle.lq_use.proofs.shown.add_table.Goals as goal

pub returns-then-table-len : goal.returns-then-table-len
returns-then-table-len c =
    let length_is = c.len.ensures.value in
    let past = c.if-table-len.true in
    sym (append_none c.args.uses.now.items)
    ∙ ap (λ (o : Option _). c.args.uses.now.items ++ all_columns c.args.table o) (sym (no_schema c.args.store.now c.args.table (omega (arith, length_is, past))))

pub add_each-requires : goal.add_each-requires
add_each-requires c =
    few_columns (slice_get c.args.store.now c.args.table) c.schema.result.now c.as_slice.result.now c.schema.ensures.value c.schema.ensures.table c.as_slice.ensures

pub returns : goal.returns
returns c =
    columns_there c.add_each.result c.add_each.new.uses.items c.args.uses.now.items c.args.table (slice_get (schemas_of c.args.store.now) c.args.table)
    c.schema.result.now c.as_slice.result.now (schema_there c.args.store.now c.args.table c.schema.result.now c.schema.ensures.value) c.as_slice.ensures c.add_each.ensures
