use Rattle.std.proofs.Common.{◌≡◌, ◌++◌, flat_map, string_bytes, take}
use Rattle.lq_render.specs.Grids.{line}
use Rattle.lq_render.proofs.grid.push_rows.Given as goal

-- the first ones are done
abbrev pub invariant-loop-row : goal.invariant-loop-row
invariant-loop-row l = string_bytes l.out ≡ string_bytes l.initial.out ++ flat_map (line l.indent l.widths) (take l.row-index l.rows)
