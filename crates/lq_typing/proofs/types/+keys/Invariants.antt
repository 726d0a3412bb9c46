use Rattle.std.proofs.Common.{◌≡◌, drop}
use Rattle.lq_typing.specs.TypeParts.{are_keys}
use Rattle.lq_typing.proofs.types.+keys.Given as goal

-- the members so far are keys, so that the others decide
abbrev pub invariant-are_keys-loop-ty : goal.invariant-are_keys-loop-ty
invariant-are_keys-loop-ty l = are_keys (drop l.ty-index l.members) ≡ are_keys l.members
