use Rattle.std.proofs.Common.{◌≡◌, ◌++◌, flat_map, map, string_bytes, take}
use Rattle.serde_json.specs.View.{view}
use Rattle.lq_render.specs.Parts.{line_text}
use Rattle.lq_render.proofs.items.push_lines.Given as goal

-- the first ones are done
abbrev pub invariant-loop-item : goal.invariant-loop-item
invariant-loop-item l = string_bytes l.out ≡ string_bytes l.initial.out ++ flat_map (line_text l.indent) (map view (take l.item-index l.items))
