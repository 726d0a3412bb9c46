use Rattle.std.proofs.Common.{◌≡◌, map, take}
use Rattle.lq_prompt.proofs.grids.header.Given as goal

-- the first ones are done
abbrev pub invariant-loop-name : goal.invariant-loop-name
invariant-loop-name l = l.header.items ≡ map (λ name. name.now) (take l.name-index l.names)
