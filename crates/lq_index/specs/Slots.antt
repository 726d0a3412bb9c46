-- What an index has: slots and groups, the entries that these stand for, and what becomes of them where a row is added.
use Rattle.std.specs.Prelude.{◌≡◌, ◌<◌, ◌&&◌, ◌++◌, List, [], ◌∷◌, ℕ, Bool, true, false, get_or, length, nat_eq, slice_get, Option, Some, None}
use Rattle.lq_value.specs.SameAndOrder.{same_scalars}
use Rattle.lq_value.specs.declared.scalar.Scalar.{Scalar}
use Rattle.lq_index.specs.Entries.{Entry, IsIndex, Reaches}
use Rattle.lq_index.specs.Hashes.{hash_of}
use Rattle.lq_index.specs.declared.slot.Slot.{Slot}
use Rattle.lq_index.specs.declared.slot.Spot.{Spot}
use Rattle.lq_index.specs.declared.slot.Spot.TheVariants as spot

-- ---- entries

abbrev pub is_free : Spot → Bool
is_free spot.Free = true
is_free _ = false

-- whether a spot may stand for places
abbrev pub is_live : Spot → Bool
is_live spot.Free = false
is_live spot.Dead = false
is_live _ = true

-- the places that a spot stands for
abbrev pub places_in : List (List ℕ) → Spot → List ℕ
places_in groups (spot.One place) = place ∷ []
places_in groups (spot.Many group) = get_or groups group []
places_in groups _ = []

abbrev pub entry_of : List (List ℕ) → Slot → Entry
entry_of groups slot = record { free = is_free slot.spot; hash = slot.hash; places = places_in groups slot.spot }

-- what stands behind the last slot
abbrev pub no_slot : Slot
no_slot = record { hash = 0; spot = spot.Free }

abbrev pub slot_at : List Slot → ℕ → Slot
slot_at slots i = get_or slots i no_slot

abbrev pub entry_at : List (List ℕ) → List Slot → ℕ → Entry
entry_at groups slots i = entry_of groups (slot_at slots i)

-- What an index has: among how many slots a hash has its home, the slots, and the groups of places that they name.
pub record Contents : Type 0 where
  pub width : ℕ
  pub slots : List Slot
  pub groups : List (List ℕ)

-- an index of these cells
abbrev pub Indexes : Contents → List Scalar → Type 0
Indexes index cells = IsIndex index.width (entry_at index.groups index.slots) cells

-- Groups are owned: each that a slot names is there, and no other slot names it.
pub record AreOwned (groups : List (List ℕ)) (slots : List Slot) : Type 0 where
  pub there : (s g : ℕ) → (slot_at slots s).spot ≡ spot.Many g → g < length groups
  pub once : (s t g : ℕ) → (slot_at slots s).spot ≡ spot.Many g → (slot_at slots t).spot ≡ spot.Many g → s ≡ t

-- ---- the slot of a scalar

abbrev pub head_of : List ℕ → Option ℕ
head_of [] = None
head_of (x ∷ xs) = Some x

abbrev pub same_at : Scalar → Option Scalar → Bool
same_at q (Some cell) = same_scalars q cell
same_at q None = false

-- whether the cell at the first of these places is the same
abbrev pub begins : Scalar → List Scalar → List ℕ → Bool
begins q cells [] = false
begins q cells (place ∷ rest) = same_at q (slice_get cells place)

-- whether an entry is that of a scalar: by its hash, and where that agrees by the cell at its first place
abbrev pub is_entry_of : Scalar → List Scalar → Entry → Bool
is_entry_of q cells entry = nat_eq entry.hash (hash_of q) && begins q cells entry.places

-- where a scalar may be put: a slot that was never taken, behind taken ones from the scalar's home on
abbrev pub IsPlaceFor : ℕ → (ℕ → Entry) → Scalar → ℕ → Type 0
IsPlaceFor width at q s = ((at s).free ≡ true) × Reaches width at (hash_of q) s

-- the place of a spot that stands for one is a number of the list, and it stands there
abbrev pub IsThere : List ℕ → Spot → Type 0
IsThere identity (spot.One place) = (place < length identity) × (get_or identity place 0 ≡ place)
IsThere identity _ = Unit {0}

-- ---- a row more

-- one entry has this place behind its others, and all other entries are as they were
pub record Joins (old new : ℕ → Entry) (s place : ℕ) : Type 0 where
  pub free : (new s).free ≡ (old s).free
  pub hash : (new s).hash ≡ (old s).hash
  pub has : (new s).places ≡ (old s).places ++ place ∷ []
  pub others : (t : ℕ) → (t ≡ s → ⊥) → new t ≡ old t

-- one slot is taken for a scalar of this hash and its only place, and all other entries are as they were
pub record Takes (old new : ℕ → Entry) (s hash place : ℕ) : Type 0 where
  pub now : new s ≡ record { free = false; hash = hash; places = place ∷ [] }
  pub others : (t : ℕ) → (t ≡ s → ⊥) → new t ≡ old t
