use Rattle.std.proofs.Common.{◌≡◌, length}
use Rattle.lq_store.specs.Numbers.{from_number}
use Rattle.lq_store.proofs.table.from_number.Given as goal

abbrev pub invariant-loop-left : goal.invariant-loop-left
invariant-loop-left l = from_number l.fn.numbers l.number ≡ from_number l.left l.number

abbrev pub decreases-loop-left : goal.decreases-loop-left
decreases-loop-left l = length l.left
