-- The slots from the home up to here are taken, and none is the scalar's.
use Rattle.std.proofs.Common.{◌≡◌, ◌≤◌, ◌<◌, ◌-◌, ℕ, length, false}
use Rattle.lq_index.specs.Hashes.{hash_of, home}
use Rattle.lq_index.specs.Entries.{cells_of}
use Rattle.lq_index.specs.Slots.{is_entry_of, entry_at}
use Rattle.lq_index.proofs.slot_table.SlotTable.search.Given as goal

abbrev pub invariant-loop-at : goal.invariant-loop-at
invariant-loop-at l = record {
  from : home l.self.width (hash_of l.key) ≤ l.at;
  within : l.at ≤ length l.self.slots.items;
  full : (t : ℕ) → home l.self.width (hash_of l.key) ≤ t → t < l.at → (entry_at l.self.groups l.self.slots.items t).free ≡ false;
  unlike : (t : ℕ) → home l.self.width (hash_of l.key) ≤ t → t < l.at → is_entry_of l.key (cells_of l.column l.rows) (entry_at l.self.groups l.self.slots.items t) ≡ false;
}

abbrev pub decreases-loop-at : goal.decreases-loop-at
decreases-loop-at l = length l.self.slots.items - l.at
