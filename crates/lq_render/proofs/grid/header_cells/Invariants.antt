use Rattle.std.proofs.Common.{◌≡◌, map, take}
use Rattle.lq_render.specs.Cells.{text_cell}
use Rattle.lq_render.proofs.grid.header_cells.Given as goal

-- the first ones are done
abbrev pub invariant-loop-heading : goal.invariant-loop-heading
invariant-loop-heading l = l.cells.items ≡ map text_cell (take l.heading-index l.header)
