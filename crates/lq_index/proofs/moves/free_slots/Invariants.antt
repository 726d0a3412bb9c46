-- The slots so far are free, as many as were counted.
use Rattle.std.proofs.Common.{◌≡◌, ℕ, length}
use Rattle.lq_index.specs.Slots.{no_slot, slot_at}
use Rattle.lq_index.proofs.moves.free_slots.Given as goal

abbrev pub invariant-loop : goal.invariant-loop
invariant-loop l = record { long : length l.slots.items ≡ l.counter; free : (t : ℕ) → slot_at l.slots.items t ≡ no_slot }
