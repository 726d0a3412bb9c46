-- Texts and cells of what people read.
use Rattle.std.specs.Prelude.{if◌then◌else◌, List, ℕ, Bool, true, false, codes, decimal, flat_map}
use Rattle.lq_render.specs.Cells.{escaped_text}
use Rattle.lq_render.specs.declared.grid.Cell.{Cell}

-- texts one after another
abbrev pub joined : List (List ℕ) → List ℕ
joined parts = flat_map (λ part. part) parts

-- a cell with a word, whose control characters are escaped: a name may have any characters, and stays within its cell
abbrev pub word : List ℕ → Cell
word text = record { text = escaped_text text; is_number = false }

-- a cell with a number
abbrev pub count : ℕ → Cell
count n = record { text = decimal n; is_number = true }

abbrev pub yes_text : Bool → List ℕ
yes_text is_so = if is_so then codes "yes" else codes "no"

-- a cell that says yes or no
abbrev pub yes : Bool → Cell
yes is_so = word (yes_text is_so)
