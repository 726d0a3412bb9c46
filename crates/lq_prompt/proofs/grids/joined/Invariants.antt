use Rattle.std.proofs.Common.{◌≡◌, map, string_bytes, take}
use Rattle.lq_prompt.specs.Grids.{joined}
use Rattle.lq_prompt.proofs.grids.joined.Given as goal

-- the first ones are done
abbrev pub invariant-loop-part : goal.invariant-loop-part
invariant-loop-part l = string_bytes l.text ≡ joined (map (λ part. part.now) (take l.part-index l.parts))
