-- Rows that are removed, and what becomes of the places of those that stay.
use Rattle.std.specs.Prelude.{◌≡◌, List, [], ◌∷◌, ℕ, suc, Bool, true, false, if◌then◌else◌, get_or, nat_le}
use Rattle.lq_value.specs.SameAndOrder.{same_scalars}
use Rattle.lq_value.specs.Lookups.{places}
use Rattle.lq_value.specs.declared.scalar.Scalar.{Scalar}
use Rattle.lq_index.specs.declared.slot.Slot.{Slot}
use Rattle.lq_index.specs.declared.slot.Spot.{Spot}
use Rattle.lq_index.specs.declared.slot.Spot.TheVariants as spot

-- ---- ranks

-- what stands for the rank of a row that is removed
abbrev pub no_rank : ℕ
no_rank = 18446744073709551615

module _ {A : Type 0} (keep : A → Bool) where
  -- the ranks of rows: of each that stays its new place, counted from k, and of the others none
  abbrev pub ranks_from : ℕ → List A → List ℕ
  ranks_from k [] = []
  ranks_from k (x ∷ xs) = if keep x then k ∷ ranks_from (suc k) xs else no_rank ∷ ranks_from k xs

-- these places by their ranks, without those that have none: a rank is no greater than the place
abbrev pub renumber : List ℕ → List ℕ → List ℕ
renumber ranks [] = []
renumber ranks (p ∷ ps) = if nat_le (get_or ranks p no_rank) p then get_or ranks p no_rank ∷ renumber ranks ps else renumber ranks ps

-- the ranks are those of a removal that leaves of these cells those: each scalar's places there are its old ones by their ranks
abbrev pub Leaves : List ℕ → List Scalar → List Scalar → Type 0
Leaves ranks cells left = (q : Scalar) → places (same_scalars q) left ≡ renumber ranks (places (same_scalars q) cells)

-- ---- slots

abbrev pub is_none : List ℕ → Bool
is_none [] = true
is_none (x ∷ xs) = false

-- a spot, where the places have ranks and these groups were renumbered: it is dead where none of its places stays
abbrev pub renumber_spot : List ℕ → List (List ℕ) → Spot → Spot
renumber_spot ranks groups (spot.One p) = if nat_le (get_or ranks p no_rank) p then spot.One (get_or ranks p no_rank) else spot.Dead
renumber_spot ranks groups (spot.Many g) = if is_none (get_or groups g []) then spot.Dead else spot.Many g
renumber_spot ranks groups other = other

abbrev pub renumber_slot : List ℕ → List (List ℕ) → Slot → Slot
renumber_slot ranks groups slot = record { hash = slot.hash; spot = renumber_spot ranks groups slot.spot }
