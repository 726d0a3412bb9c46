use Rattle.std.proofs.Common.{◌≡◌, map, take}
use Rattle.lq_render.specs.Parts.{heading}
use Rattle.lq_render.proofs.items.headings.Given as goal

-- the first ones are done
abbrev pub invariant-loop-name : goal.invariant-loop-name
invariant-loop-name l = l.header.items ≡ map heading (take l.name-index l.names)
