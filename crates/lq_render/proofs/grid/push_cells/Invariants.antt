use Rattle.std.proofs.Common.{◌≡◌, ◌++◌, length, string_bytes}
use Rattle.lq_render.specs.Grids.{cells_text}
use Rattle.lq_render.proofs.grid.push_cells.Given as goal

-- what is there and what is to come is the whole
abbrev pub invariant-loop-left : goal.invariant-loop-left
invariant-loop-left l = string_bytes l.out ++ cells_text l.widths_left l.left ≡ string_bytes l.initial.out ++ cells_text l.widths l.cells

abbrev pub decreases-loop-left : goal.decreases-loop-left
decreases-loop-left l = length l.left
