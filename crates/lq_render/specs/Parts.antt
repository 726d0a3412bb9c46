-- What is shown of the items and the values of a reply: which cells, in which order, and how many items are left out.
use Rattle.std.specs.Prelude.{◌∷◌, ◌++◌, ◌==◌, ◌-◌, ◌&&◌, List, [], ℕ, Bool, true, false, Option, Some, None, bytes_eq, codes, flat_map, fold, if◌then◌else◌, length, map, not, option_and_then, option_map, take, unwrap_or}
use Rattle.std.specs.List.{list_all, list_any}
use Rattle.serde_json.specs.Data.{Data, Items, Members, item, member, no_items, no_members, null, object}
use Rattle.serde_json.specs.Find.{as_array, get}
use Rattle.lq_render.specs.Cells.{cell_of, count_text, short_text, ellipsis, escaped_text, text_cell, text_of}
use Rattle.lq_render.specs.Grids.{grid}
use Rattle.lq_render.specs.declared.grid.Cell.{Cell}

-- ---- what is in a value

abbrev pub data_list : Items → List Data
data_list no_items = []
data_list (item d ds) = d ∷ data_list ds

-- the items of an array
abbrev pub items_in : Data → Option (List Data)
items_in d = option_map data_list (as_array d)

-- the names of members, in their order
abbrev pub names_of : Members → List (List ℕ)
names_of no_members = []
names_of (member name d ms) = name ∷ names_of ms

-- the names of a value's members; no other value than an object has any
abbrev pub names_in : Data → List (List ℕ)
names_in (object ms) = names_of ms
names_in d = []

-- a member; null where there is none of the name
abbrev pub member_of : Data → List ℕ → Data
member_of d name = unwrap_or (get name d) null

-- ---- tables

-- names, with one more at the end unless it is among them
abbrev pub with_name : List (List ℕ) → List ℕ → List (List ℕ)
with_name names name = if list_any (λ other. bytes_eq other name) names then names else names ++ name ∷ []

-- names, with those of a value's members
abbrev pub with_names : List (List ℕ) → Data → List (List ℕ)
with_names names d = fold with_name names (names_in d)

-- The columns of a table: the names of its type, and then those that only its items have.
abbrev pub columns : List (List ℕ) → List Data → List (List ℕ)
columns names items = fold with_names names items

-- whether a value can be a row: an object, or null
abbrev pub is_row : Data → Bool
is_row null = true
is_row (object ms) = true
is_row d = false

abbrev pub is_table : List (List ℕ) → List Data → Bool
is_table names items = not (length names == 0) && list_all is_row items

-- a row's cells, in the order of the columns
abbrev pub row_of : List (List ℕ) → Data → List Cell
row_of names d = map (λ name. cell_of (member_of d name)) names

abbrev pub heading : List ℕ → List ℕ
heading name = short_text (escaped_text name)

-- a table of these columns
abbrev pub table_text : List ℕ → List (List ℕ) → List Data → List ℕ
table_text indent names items = grid indent (map heading names) (map (row_of names) items)

-- ---- items

-- a line of its own
abbrev pub line_text : List ℕ → Data → List ℕ
line_text indent d = indent ++ (text_of d ++ codes "\n")

-- how many items are not shown
abbrev pub left_out : List ℕ → ℕ → List ℕ
left_out indent n = if n == 0 then [] else indent ++ (ellipsis ++ (codes " " ++ (count_text n ++ codes " more\n")))

-- rows and records as a table, other items one a line
abbrev pub items_shown : List ℕ → List (List ℕ) → List Data → List ℕ
items_shown indent names items =
    if is_table names items then table_text indent names items else flat_map (line_text indent) items

-- by the columns of these names, and those that only the items have
abbrev pub shown_by_columns : List ℕ → List (List ℕ) → List Data → List ℕ
shown_by_columns indent names items = items_shown indent (columns names items) items

-- the first items, up to the most rows, and how many more there are
abbrev pub first_text : ℕ → List ℕ → (List Data → List ℕ) → List Data → List ℕ
first_text most indent shown items = shown (take most items) ++ left_out indent (length items - most)

abbrev pub none_or_first : ℕ → List ℕ → (List Data → List ℕ) → List Data → List ℕ
none_or_first most indent shown items =
    if length items == 0 then indent ++ codes "no rows\n" else first_text most indent shown items

-- ---- items below a line

-- how items are shown after an indentation
abbrev pub ItemsText : Type 0
ItemsText = List ℕ → List Data → List ℕ

-- two blanks more
abbrev pub deeper : List ℕ → List ℕ
deeper indent = indent ++ codes "  "

abbrev pub items_line : List ℕ → List ℕ
items_line indent = indent ++ codes "Items:\n"

-- a sequence in a sequence: its items below a line; a value that isn't one has a line of its own
abbrev pub sequence_or_line : ItemsText → List ℕ → Data → Option (List Data) → List ℕ
sequence_or_line below indent d (Some items) = items_line indent ++ below (deeper indent) items
sequence_or_line below indent d None = line_text indent d

abbrev pub sequence_text : ItemsText → List ℕ → Data → List ℕ
sequence_text below indent d = sequence_or_line below indent d (items_in d)

abbrev pub key_line : List ℕ → Data → List ℕ
key_line indent key = indent ++ (codes "Key: " ++ (text_of key ++ codes "\n"))

-- a group: its elements below its key; a value that isn't one has a line of its own
abbrev pub group_or_line : ItemsText → List ℕ → Data → Option Data → Option (List Data) → List ℕ
group_or_line below indent d (Some key) (Some elements) = key_line indent key ++ below (deeper indent) elements
group_or_line below indent d key elements = line_text indent d

-- the elements of a group
abbrev pub elements_of : Data → Option (List Data)
elements_of d = option_and_then items_in (get (codes "items") d)

abbrev pub group_text : ItemsText → List ℕ → Data → List ℕ
group_text below indent d = group_or_line below indent d (get (codes "Key") d) (elements_of d)

-- ---- values

-- a member by its name and its value; the value is whole
abbrev pub member_row : Data → List ℕ → List Cell
member_row d name = text_cell (escaped_text name) ∷ text_cell (text_of (member_of d name)) ∷ []

abbrev pub member_table : List (List ℕ) → Data → List ℕ
member_table names d = grid [] (codes "name" ∷ codes "value" ∷ []) (map (member_row d) names)

-- A row or a record as a table of its members, each other value on a line.
abbrev pub members_or_line : List (List ℕ) → Data → List ℕ
members_or_line names (object ms) = if length names == 0 then line_text [] (object ms) else member_table names (object ms)
members_or_line names d = line_text [] d

-- by the members of these names, and those that only the value has
abbrev pub value_text : List (List ℕ) → Data → List ℕ
value_text names d = members_or_line (with_names names d) d
