-- Groups and slots that were renumbered are the index of the cells that are left.
use Rattle.lq_index.proofs.RemovalLemmas.{owned_still, all_left}
use Rattle.lq_index.proofs.slot_table.SlotTable.remove.Goals as goal

pub invariant_of-self : goal.invariant_of-self
invariant_of-self c = record {
  owned = owned_still c.args.ranks.now c.args.self.now.groups c.renumber.new.self c.args.self.now.slots.items c.renumber_slots.new.slots.items
      c.renumber.ensures.each c.renumber_slots.ensures.each c.renumber.ensures.long c.args.self.now.owned;
  sized = rw c.renumber_slots.ensures.long c.args.self.now.sized;
}

pub returns-clause-index : goal.returns-clause-index
returns-clause-index c = λ cells left index agrees. all_left c.args.ranks.now c.args.self.now.groups c.renumber.new.self
    c.args.self.now.slots.items c.renumber_slots.new.slots.items c.renumber.ensures.each c.renumber_slots.ensures.each c.args.self.now.width cells left index agrees
