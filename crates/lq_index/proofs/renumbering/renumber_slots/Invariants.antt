-- The slots before this one are renumbered, and the others as they were.
use Rattle.std.proofs.Common.{◌≡◌, ◌≤◌, ◌<◌, ℕ, length}
use Rattle.lq_index.specs.Removals.{renumber_slot}
use Rattle.lq_index.specs.Slots.{slot_at}
use Rattle.lq_index.proofs.renumbering.renumber_slots.Given as goal

abbrev pub invariant-loop-slot : goal.invariant-loop-slot
invariant-loop-slot l = record {
  long : length l.slot-items ≡ length l.fn.slots.items;
  done : (t : ℕ) → t < l.slot-index → slot_at l.slot-items t ≡ renumber_slot l.ranks l.groups (slot_at l.fn.slots.items t);
  left : (t : ℕ) → l.slot-index ≤ t → slot_at l.slot-items t ≡ slot_at l.fn.slots.items t;
}
