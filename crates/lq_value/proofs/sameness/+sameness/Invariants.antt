use Rattle.std.proofs.Common.{◌≡◌, drop}
use Rattle.std.specs.Cmp.Lexicographic.{pointwise}
use Rattle.lq_value.specs.SameAndOrder.{same_member}
use Rattle.lq_value.proofs.sameness.+sameness.Given as goal

-- the members so far are the same, so that the others decide
abbrev pub invariant-are_same_members-loop-name : goal.invariant-are_same_members-loop-name
invariant-are_same_members-loop-name g l = pointwise same_member (drop l.name-index l.left) l.rest ≡ pointwise same_member l.fn.left l.fn.right
