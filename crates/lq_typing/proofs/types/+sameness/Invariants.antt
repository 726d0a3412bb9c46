use Rattle.std.proofs.Common.{◌≡◌, drop}
use Rattle.lq_typing.specs.TypeParts.{same_members}
use Rattle.lq_typing.proofs.types.+sameness.Given as goal

-- the members so far are the same, so that the others decide
abbrev pub invariant-are_same_members-loop-name : goal.invariant-are_same_members-loop-name
invariant-are_same_members-loop-name l = same_members (drop l.name-index l.left) l.rest ≡ same_members l.fn.left l.fn.right
