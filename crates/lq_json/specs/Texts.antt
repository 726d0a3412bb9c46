-- Texts of data, written one behind another.
use Rattle.std.specs.Prelude.{◌≡◌, ◌∷◌, ◌++◌, ◌+◌, ◌≤◌, List, [], ℕ, Bool, false, true, codes, length, take}
use Rattle.json.specs.Print.{quoted}
use Rattle.serde_json.specs.Data.{Data}
use Rattle.serde_json.specs.Written.{comma_if, compact_text}

-- what is in front of a member: a comma where another is before it, its name and a colon
abbrev pub front : Bool → List ℕ → List ℕ
front later name = comma_if later ++ (quoted name ++ 58 ∷ [])

-- Bytes begin with what is in front of a member of this name behind another, up to a place with a block's room behind it.
abbrev pub HasFront : List ℕ → ℕ → List ℕ → Type 0
HasFront bytes len name = (len + 32 ≤ length bytes) × (take len bytes ≡ front true name)

-- the texts of items one after the other, behind another one or as the first
abbrev pub texts : Bool → List Data → List ℕ
texts later [] = []
texts later (d ∷ ds) = comma_if later ++ (compact_text d ++ texts true ds)

abbrev pub has_any : List Data → Bool
has_any [] = false
has_any (d ∷ ds) = true

-- what comes before the items of a reply that ends well
abbrev pub items_front : List ℕ
items_front = codes "{\"items\":["
