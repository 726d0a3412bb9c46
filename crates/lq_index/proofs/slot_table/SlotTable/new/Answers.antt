-- No slots are the index of no cells.
use Rattle.std.proofs.Common.{rules, refl, []}
use Rattle.lq_index.proofs.StartLemmas.{none_yet, owned_yet}
use Rattle.lq_index.proofs.slot_table.SlotTable.new.Goals as goal

pub invariant_of-result : goal.invariant_of-result
invariant_of-result c = record {
  owned = rw (c.new-groups.ensures, c.new-slots.ensures.items) (owned_yet [] (λ t. refl));
  sized = search rules;
}

pub returns : goal.returns
returns c = rw (c.new-groups.ensures, c.new-slots.ensures.items) (none_yet 0 [] (λ t. refl))
