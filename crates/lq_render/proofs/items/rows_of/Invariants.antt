use Rattle.std.proofs.Common.{◌≡◌, map, take}
use Rattle.serde_json.specs.View.{view}
use Rattle.lq_render.specs.Parts.{row_of}
use Rattle.lq_render.proofs.items.rows_of.Given as goal

-- the first ones are done
abbrev pub invariant-loop-item : goal.invariant-loop-item
invariant-loop-item l = l.rows.items ≡ map (row_of l.names) (map view (take l.item-index l.items))
