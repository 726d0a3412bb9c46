-- Tables as lines of text, with each column as wide as the widest text in it.
use Rattle.std.specs.Prelude.{◌∷◌, ◌++◌, ◌==◌, ◌-◌, List, [], ℕ, Bool, Option, Some, None, codes, flat_map, fold, if◌then◌else◌, length, map, max, slice_get}
use Rattle.std.specs.List.{enumerate_from, repeat}
use Rattle.lq_render.specs.Cells.{text_cell, width}
use Rattle.lq_render.specs.declared.grid.Cell.{Cell}

abbrev pub spaces : ℕ → List ℕ
spaces n = repeat n (codes " ")

-- ---- widths

abbrev pub cell_width : Option Cell → ℕ
cell_width None = 0
cell_width (Some cell) = width cell.text

-- the greatest width of a column's heading and its cells; the column is given by its place and its heading
abbrev pub column_width : List (List Cell) → ℕ × List ℕ → ℕ
column_width rows column = fold (λ widest row. max widest (cell_width (slice_get row column.0))) (width column.1) rows

abbrev pub widths : List (List ℕ) → List (List Cell) → List ℕ
widths header rows = map (column_width rows) (enumerate_from 0 header)

-- ---- lines

-- a cell, filled up to a width: numbers are aligned to the right, everything else to the left
abbrev pub filled_cell : ℕ → Cell → List ℕ
filled_cell n cell =
    let gap = spaces (n - width cell.text) in
    if cell.is_number then gap ++ cell.text else cell.text ++ gap

-- the last cell of a line has no spaces after it
abbrev pub last_cell : ℕ → Cell → List ℕ
last_cell n cell = if cell.is_number then filled_cell n cell else cell.text

abbrev pub placed_cell : ℕ → Cell → Bool → List ℕ
placed_cell n cell is_last = if is_last then last_cell n cell else filled_cell n cell ++ codes "  "

abbrev pub first_width : List ℕ → ℕ
first_width [] = 0
first_width (n ∷ ns) = n

abbrev pub other_widths : List ℕ → List ℕ
other_widths [] = []
other_widths (n ∷ ns) = ns

-- cells, each filled up to the width of its column, with two spaces between them
abbrev pub cells_text : List ℕ → List Cell → List ℕ
cells_text ns [] = []
cells_text ns (cell ∷ cells) = placed_cell (first_width ns) cell (length cells == 0) ++ cells_text (other_widths ns) cells

-- a line of a table, after this indentation
abbrev pub line : List ℕ → List ℕ → List Cell → List ℕ
line indent ns cells = indent ++ (cells_text ns cells ++ codes "\n")

-- a line of dashes under a heading
abbrev pub dashes : ℕ → Cell
dashes n = text_cell (repeat n (codes "-"))

-- a table: its header, dashes, and a line a row, each after this indentation
abbrev pub grid : List ℕ → List (List ℕ) → List (List Cell) → List ℕ
grid indent header rows =
    let ns = widths header rows in
    line indent ns (map text_cell header) ++ (line indent ns (map dashes ns) ++ flat_map (line indent ns) rows)
