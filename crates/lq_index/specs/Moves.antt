-- Slots that are moved into a wider table.
use Rattle.std.specs.Prelude.{◌≡◌, ◌<◌, ◌≤◌, List, ◌∷◌, ℕ, true, false}
use Rattle.lq_index.specs.Hashes.{home}
use Rattle.lq_index.specs.Entries.{Reaches}
use Rattle.lq_index.specs.Slots.{is_free, entry_at, slot_at, places_in}
use Rattle.lq_index.specs.declared.slot.Slot.{Slot}
use Rattle.lq_index.specs.declared.slot.Spot.TheVariants as spot

-- The slots below j that have places were moved: each stands in the new table, reached from its key's first slot there, and nothing else does.
pub record AreMoved (groups : List (List ℕ)) (wide : ℕ) (old new : List Slot) (j : ℕ) : Type 0 where
  pub reach : (s : ℕ) → is_free (slot_at new s).spot ≡ false → Reaches wide (entry_at groups new) (slot_at new s).hash s
  pub from : (s : ℕ) → is_free (slot_at new s).spot ≡ false → (t : ℕ) × (t < j) × (slot_at new s ≡ slot_at old t)
  pub into : (t p : ℕ) (ps : List ℕ) → t < j → places_in groups (slot_at old t).spot ≡ p ∷ ps → (s : ℕ) × (slot_at new s ≡ slot_at old t)
  pub alone : (s u p : ℕ) (ps qs : List ℕ) → places_in groups (slot_at new s).spot ≡ p ∷ ps → places_in groups (slot_at new u).spot ≡ p ∷ qs → s ≡ u

-- a slot was put where one was never taken, behind taken ones from its first slot on
pub record IsPut (wide : ℕ) (old new : List Slot) (slot : Slot) : Type 0 where
  pub i : ℕ
  pub free : is_free (slot_at old i).spot ≡ true
  pub from : home wide slot.hash ≤ i
  pub full : (t : ℕ) → home wide slot.hash ≤ t → t < i → is_free (slot_at old t).spot ≡ false
  pub here : slot_at new i ≡ slot
  pub others : (t : ℕ) → (t ≡ i → ⊥) → slot_at new t ≡ slot_at old t

-- what stands in the new table are slots of the old one below j, and each group once
pub record AreHeld (old new : List Slot) (j : ℕ) : Type 0 where
  pub from : (s : ℕ) → is_free (slot_at new s).spot ≡ false → (t : ℕ) × (t < j) × (slot_at new s ≡ slot_at old t)
  pub once : (s u g : ℕ) → (slot_at new s).spot ≡ spot.Many g → (slot_at new u).spot ≡ spot.Many g → s ≡ u
