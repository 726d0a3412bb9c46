use Rattle.std.proofs.Common.{◌≡◌, drop}
use Rattle.lq_operators.specs.Tallies.{tallied}
use Rattle.lq_operators.proofs.numbers.tallied.Given as goal

-- the tally so far and the items that are left decide the answer
abbrev pub invariant-loop-item : goal.invariant-loop-item
invariant-loop-item g l = tallied l.ty l.tally (drop l.item-index l.items, l.end) ≡ tallied l.ty l.fn.tally (l.items, l.end)
