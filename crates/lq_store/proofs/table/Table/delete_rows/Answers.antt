use Rattle.std.proofs.Common.{◌+◌, arith}
use Rattle.std.specs.Prelude.{not}
use Rattle.lq_value.specs.Tables.{Table}
use Rattle.lq_store.specs.Calls.{is_listed}
use Rattle.lq_store.proofs.KeptTableLaws.{counted, table-filter}
use Rattle.lq_store.proofs.table.Table.delete_rows.Goals as goal

pub overflow_sub-result : goal.overflow_sub-result
overflow_sub-result c = omega (arith, counted c.args.numbers.now c.self.inside.rows.items c.retain_unlisted.new.rows.items c.retain_unlisted.ensures)

pub invariant_of-self : goal.invariant_of-self
invariant_of-self c =
    let t : Table = record { schema = c.self.inside.schema; rows = c.self.inside.rows.items; next = c.self.inside.last + 1 } in
    rw c.retain_unlisted.ensures (table-filter t (λ row. not (is_listed c.args.numbers.now row.number)) c.self.invariant)

pub returns-clause-count : goal.returns-clause-count
returns-clause-count c =
    let all = counted c.args.numbers.now c.self.inside.rows.items c.retain_unlisted.new.rows.items c.retain_unlisted.ensures in
    rw (← c.self.view_is) (omega (arith, all))
