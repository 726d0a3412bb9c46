-- The slots that were passed are taken.
use Rattle.std.proofs.Common.{◌≡◌, ◌≤◌, ◌<◌, ◌-◌, ℕ, length, false}
use Rattle.lq_index.specs.Slots.{is_free, slot_at}
use Rattle.lq_index.proofs.moves.free_from.Given as goal

abbrev pub invariant-loop-at : goal.invariant-loop-at
invariant-loop-at l = record {
  from : l.fn.from ≤ l.at;
  within : l.at ≤ length l.slots;
  full : (t : ℕ) → l.fn.from ≤ t → t < l.at → is_free (slot_at l.slots t).spot ≡ false;
}

abbrev pub decreases-loop-at : goal.decreases-loop-at
decreases-loop-at l = length l.slots - l.at
