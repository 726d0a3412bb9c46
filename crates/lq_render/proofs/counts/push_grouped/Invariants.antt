use Rattle.std.proofs.Common.{◌≡◌, ◌++◌, length, string_bytes}
use Rattle.lq_render.specs.Cells.{grouped_digits}
use Rattle.lq_render.proofs.counts.push_grouped.Given as goal

-- what is there and what is to come is the whole
abbrev pub invariant-loop-left : goal.invariant-loop-left
invariant-loop-left l = string_bytes l.out ++ grouped_digits l.left ≡ string_bytes l.initial.out ++ grouped_digits l.digits

abbrev pub decreases-loop-left : goal.decreases-loop-left
decreases-loop-left l = length l.left
