-- Laws of tables: no cell is lost, and none is moved.
use Rattle.std.specs.Prelude.{◌≡◌, ◌++◌, ◌+◌, ◌-◌, Contains, List, ℕ, length, take}
use Rattle.serde_json.specs.Data.{Data}
use Rattle.lq_render.specs.Parts.{columns, names_in}

-- Each member of an item has a cell: its name is one of the columns.
abbrev pub HasEachCell : Type 0
HasEachCell = (names : List (List ℕ)) (items : List Data) (d : Data) (name : List ℕ)
    → Contains items d → Contains (names_in d) name → Contains (columns names items) name

-- The columns begin with the names of the type, in its order.
abbrev pub BeginsWithNames : Type 0
BeginsWithNames = (names : List (List ℕ)) (items : List Data) → (others : List (List ℕ)) × (columns names items ≡ names ++ others)

-- The items that are shown and the number of those that are left out are all items.
abbrev pub CountsAllItems : Type 0
CountsAllItems = (most : ℕ) (items : List Data) → length (take most items) + (length items - most) ≡ length items
