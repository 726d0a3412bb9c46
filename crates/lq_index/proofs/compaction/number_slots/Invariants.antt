-- The slots before this one are numbered anew, and the others as they were.
use Rattle.std.proofs.Common.{◌≡◌, ◌≤◌, ◌<◌, ℕ, length}
use Rattle.lq_index.specs.Compactions.{number_slot}
use Rattle.lq_index.specs.Slots.{slot_at}
use Rattle.lq_index.proofs.compaction.number_slots.Given as goal

abbrev pub invariant-loop-slot : goal.invariant-loop-slot
invariant-loop-slot l = record {
  long : length l.slot-items ≡ length l.fn.slots.items;
  done : (t : ℕ) → t < l.slot-index → slot_at l.slot-items t ≡ number_slot l.numbers (slot_at l.fn.slots.items t);
  left : (t : ℕ) → l.slot-index ≤ t → slot_at l.slot-items t ≡ slot_at l.fn.slots.items t;
}
