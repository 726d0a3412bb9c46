use Rattle.std.proofs.Common.{◌≡◌, map, take}
use Rattle.serde_json.specs.View.{view}
use Rattle.lq_render.specs.Cells.{cell_of}
use Rattle.lq_render.specs.Parts.{member_of}
use Rattle.lq_render.proofs.items.row_of.Given as goal

-- the first ones are done
abbrev pub invariant-loop-name : goal.invariant-loop-name
invariant-loop-name l = l.cells ≡ map (λ name. cell_of (member_of (view l.value) name)) (take l.name-index l.names)
