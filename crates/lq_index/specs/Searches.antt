-- Where a search ends.
use Rattle.std.specs.Prelude.{◌≡◌, ◌<◌, ◌≤◌, List, ℕ, true, false}
use Rattle.lq_value.specs.declared.scalar.Scalar.{Scalar}
use Rattle.lq_index.specs.Entries.{Entry}
use Rattle.lq_index.specs.Hashes.{hash_of, home}
use Rattle.lq_index.specs.Slots.{IsPlaceFor, is_entry_of}
use Rattle.lq_index.specs.declared.slot.Seat.{Seat}
use Rattle.lq_index.specs.declared.slot.Seat.TheVariants as seat

-- the slot of a scalar, or the one where it may be put, no slot before it being the scalar's
abbrev pub Sits : ℕ → (ℕ → Entry) → ℕ → List Scalar → Scalar → Seat → Type 0
Sits width at size cells q (seat.Occupied s) = (s < size) × (is_entry_of q cells (at s) ≡ true)
Sits width at size cells q (seat.Vacant s) = (s ≤ size) × IsPlaceFor width at q s
    × ((t : ℕ) → home width (hash_of q) ≤ t → t < s → is_entry_of q cells (at t) ≡ false)
