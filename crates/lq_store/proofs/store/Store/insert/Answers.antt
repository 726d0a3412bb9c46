use Rattle.std.proofs.Common.{◌≡◌, ◌<◌, rules, length, refl, Some}
use Rattle.std.specs.Prelude.{slice_get}
use Rattle.std.proofs.lemmas.Option.{slice_get_read}
use Rattle.lq_store.specs.Calls.{shown_pushed}
use Rattle.lq_store.proofs.KeptTableLaws.{inserts, schema-push, store-set}
use Rattle.lq_store.proofs.store.Store.insert.Goals as goal

pub invariant_of-self : goal.invariant_of-self
invariant_of-self c =
    let inside : c.args.t < length c.self.inside.tables.items = search rules in
    let at : slice_get c.self.inside.tables.items c.args.t ≡ Some c.index_mut.result.now = slice_get_read _ _ _ _ refl inside c.index_mut.ensures.value in
    let same = schema-push c.index_mut.result.now c.push.new.self c.args.cells.items (shown_pushed c.push.result) c.push.ensures in
    store-set c.self.inside.tables.items c.args.t c.index_mut.result.now c.push.new.self c.self.invariant at same

pub returns : goal.returns
returns c =
    let inside : c.args.t < length c.self.inside.tables.items = search rules in
    let at : slice_get c.self.inside.tables.items c.args.t ≡ Some c.index_mut.result.now = slice_get_read _ _ _ _ refl inside c.index_mut.ensures.value in
    rw (← c.self.view_is) (inserts c.self.inside.tables.items c.args.t c.index_mut.result.now c.push.new.self c.args.cells.items (shown_pushed c.push.result) at c.push.ensures)
