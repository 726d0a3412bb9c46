use Rattle.std.proofs.Common.{◌≡◌, ◌+◌, rules, None, true}
use Rattle.lq_value.specs.Tables.{Table}
use Rattle.std.specs.List.{list_all}
use Rattle.lq_store.specs.Calls.{refusal_of}
use Rattle.lq_store.specs.Rules.{is_of_32_bits}
use Rattle.lq_store.proofs.KeptTableLaws.{table-push}
use Rattle.lq_store.proofs.table.Table.push.Goals as goal

pub invariant_of-self : goal.invariant_of-self
invariant_of-self c =
    let t : Table = record { schema = c.self.inside.schema; rows = c.self.inside.rows.items; next = c.self.inside.last + 1 } in
    let fit : list_all is_of_32_bits c.args.cells.items ≡ true = search rules in
    let none : refusal_of t c.args.cells.items ≡ None = search rules in
    rw (c.in-Ok.ensures.items, c.row_of.ensures) (table-push t c.args.cells.items c.self.invariant fit none)
