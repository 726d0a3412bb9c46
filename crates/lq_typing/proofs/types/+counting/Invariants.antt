use Rattle.std.proofs.Common.{◌≡◌, ◌+◌, drop}
use Rattle.lq_typing.specs.TypeParts.{member_parts}
use Rattle.lq_typing.proofs.types.+counting.Given as goal

-- what is left takes the members to come as what there was takes them all
abbrev pub invariant-left_of_members-loop-ty : goal.invariant-left_of_members-loop-ty
invariant-left_of_members-loop-ty l = l.parts + member_parts (drop l.ty-index l.members) ≡ l.left + member_parts l.members
