use Rattle.std.proofs.Common.{◌≡◌, map, take}
use Rattle.serde_json.specs.View.{view}
use Rattle.lq_render.specs.Parts.{member_row}
use Rattle.lq_render.proofs.value.member_rows.Given as goal

-- the first ones are done
abbrev pub invariant-loop-name : goal.invariant-loop-name
invariant-loop-name l = l.rows.items ≡ map (member_row (view l.value)) (take l.name-index l.names)
