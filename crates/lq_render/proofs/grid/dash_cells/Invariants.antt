use Rattle.std.proofs.Common.{◌≡◌, map, take}
use Rattle.lq_render.specs.Grids.{dashes}
use Rattle.lq_render.proofs.grid.dash_cells.Given as goal

-- the first ones are done
abbrev pub invariant-loop-width : goal.invariant-loop-width
invariant-loop-width l = l.cells.items ≡ map dashes (take l.width-index l.widths)
