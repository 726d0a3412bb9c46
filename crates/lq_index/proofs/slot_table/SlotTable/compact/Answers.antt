-- Groups and slots with new numbers have the entries that they had.
use Rattle.std.proofs.Common.{◌≡◌, rules}
use Rattle.lq_index.specs.Compactions.{numbers_from}
use Rattle.lq_index.proofs.CompactionLemmas.{owned_same, same_index}
use Rattle.lq_index.proofs.slot_table.SlotTable.compact.Goals as goal

pub invariant_of-self : goal.invariant_of-self
invariant_of-self c =
    let are : c.as_slice.result.now ≡ numbers_from 0 0 c.args.self.now.groups = search rules in
    record {
      owned = rw c.retain_some.ensures (owned_same c.args.self.now.groups c.as_slice.result.now are c.args.self.now.slots.items
          c.number_slots.new.slots.items c.number_slots.ensures.each c.args.self.now.owned);
      sized = rw c.number_slots.ensures.long c.args.self.now.sized;
    }

pub returns : goal.returns
returns c = λ cells index.
    let are : c.as_slice.result.now ≡ numbers_from 0 0 c.args.self.now.groups = search rules in
    rw c.retain_some.ensures (same_index c.args.self.now.groups c.as_slice.result.now are c.args.self.now.slots.items c.number_slots.new.slots.items
    c.number_slots.ensures.each c.args.self.now.width cells index)
