-- Groups without places are let go, and the others get new numbers, in their order.
use Rattle.std.specs.Prelude.{List, [], ◌∷◌, ℕ, suc, Bool, true, false, if◌then◌else◌, get_or, nat_le}
use Rattle.lq_index.specs.declared.slot.Slot.{Slot}
use Rattle.lq_index.specs.declared.slot.Spot.{Spot}
use Rattle.lq_index.specs.declared.slot.Spot.TheVariants as spot

abbrev pub has_some : List ℕ → Bool
has_some [] = false
has_some (p ∷ ps) = true

-- The numbers of groups, the first of which has number n, where those that stay are numbered from k: the new number of each that
-- stays, and of any other the one behind its own, which is none, as no new number is above the old one.
abbrev pub numbers_from : ℕ → ℕ → List (List ℕ) → List ℕ
numbers_from k n [] = []
numbers_from k n (ps ∷ groups) = if has_some ps then k ∷ numbers_from (suc k) (suc n) groups else suc n ∷ numbers_from k (suc n) groups

-- the number that a group has among these
abbrev pub number_of : List ℕ → ℕ → ℕ
number_of numbers g = get_or numbers g (suc g)

-- a spot by the new number of its group; it is dead where the group is let go
abbrev pub number_spot : List ℕ → Spot → Spot
number_spot numbers (spot.Many g) = if nat_le (number_of numbers g) g then spot.Many (number_of numbers g) else spot.Dead
number_spot numbers other = other

abbrev pub number_slot : List ℕ → Slot → Slot
number_slot numbers slot = record { hash = slot.hash; spot = number_spot numbers slot.spot }
