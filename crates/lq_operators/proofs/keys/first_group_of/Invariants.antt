use Rattle.std.proofs.Common.{◌≡◌, ◌+◌, drop}
use Rattle.lq_value.specs.SameAndOrder.{same_values}
use Rattle.lq_operators.specs.Places.{place_in}
use Rattle.lq_operators.proofs.keys.first_group_of.Given as goal

-- none so far is of the key, so that the groups left decide
abbrev pub invariant-loop-place : goal.invariant-loop-place
invariant-loop-place g l =
    place_in (λ group. same_values group.0 l.key) l.groups ≡ l.place + place_in (λ group. same_values group.0 l.key) (drop l.place l.groups)
