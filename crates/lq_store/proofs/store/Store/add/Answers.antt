use Rattle.std.proofs.Common.{◌≡◌, ◌<◌, rules, false, length}
use Rattle.std.specs.Prelude.{is_some}
use Rattle.std.specs.Result.{is_ok}
use Rattle.lq_value.specs.Tables.{first_named}
use Rattle.lq_store.specs.Rules.{name_of}
use Rattle.lq_store.proofs.KeptTableLaws.{store-push}
use Rattle.lq_store.proofs.store.Store.add.Goals as goal

pub invariant_of-self : goal.invariant_of-self
invariant_of-self c =
    let few : length c.self.inside.tables.items < 64 = search rules in
    let new_name : is_some (first_named name_of (name_of c.args.table) c.self.inside.tables.items) ≡ false = search rules in
    store-push c.self.inside.tables.items _ c.args.table (is_ok c.push.result) c.push.ensures.items c.self.invariant few new_name
