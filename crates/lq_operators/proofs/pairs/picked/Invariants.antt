use Rattle.std.proofs.Common.{◌≡◌, ◌++◌, drop}
use Rattle.lq_value.specs.SameAndOrder.{same_values}
use Rattle.lq_operators.specs.Places.{picked}
use Rattle.lq_operators.proofs.pairs.picked.Given as goal

-- what is picked at the places left follows
abbrev pub invariant-loop-place : goal.invariant-loop-place
invariant-loop-place g l =
    l.elements ++ picked (same_values l.key) l.keys l.values (drop l.place-index l.places) ≡ picked (same_values l.key) l.keys l.values l.places
