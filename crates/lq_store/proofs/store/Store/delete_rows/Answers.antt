use Rattle.std.proofs.Common.{◌≡◌, ◌<◌, rules, length, refl, ap, Some}
use Rattle.std.specs.Prelude.{slice_get}
use Rattle.std.proofs.lemmas.Option.{slice_get_read}
use Rattle.lq_value.specs.Tables.{Table}
use Rattle.lq_store.proofs.KeptTableLaws.{store-set}
use Rattle.lq_store.proofs.store.Store.delete_rows.Goals as goal

pub invariant_of-self : goal.invariant_of-self
invariant_of-self c =
    let inside : c.args.t < length c.self.inside.tables.items = search rules in
    let at : slice_get c.self.inside.tables.items c.args.t ≡ Some c.index_mut.result.now = slice_get_read _ _ _ _ refl inside c.index_mut.ensures.value in
    store-set c.self.inside.tables.items c.args.t c.index_mut.result.now c.delete_rows.new.self c.self.invariant at (ap (λ (table : Table). table.schema) c.delete_rows.ensures.rows)

pub returns : goal.returns
returns c =
    let inside : c.args.t < length c.self.inside.tables.items = search rules in
    let at : slice_get c.self.inside.tables.items c.args.t ≡ Some c.index_mut.result.now = slice_get_read _ _ _ _ refl inside c.index_mut.ensures.value in
    rw (← c.self.view_is, at, c.delete_rows.ensures.rows) (c.delete_rows.ensures.count, refl)
