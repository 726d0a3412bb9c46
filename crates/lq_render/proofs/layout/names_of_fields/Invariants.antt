use Rattle.std.proofs.Common.{◌≡◌, map, take}
use Rattle.lq_render.proofs.layout.names_of_fields.Given as goal

-- the first ones are done
abbrev pub invariant-loop-name : goal.invariant-loop-name
invariant-loop-name l = l.names ≡ map (λ field. field.0) (take l.name-index l.fields)
