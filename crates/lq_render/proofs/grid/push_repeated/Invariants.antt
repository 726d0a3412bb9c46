use Rattle.std.proofs.Common.{◌≡◌, ◌++◌, string_bytes}
use Rattle.std.specs.List.{repeat}
use Rattle.lq_render.proofs.grid.push_repeated.Given as goal

-- what is there and what is to come is the whole
abbrev pub invariant-loop-left : goal.invariant-loop-left
invariant-loop-left l = string_bytes l.out ++ repeat l.left l.text ≡ string_bytes l.initial.out ++ repeat l.count l.text

abbrev pub decreases-loop-left : goal.decreases-loop-left
decreases-loop-left l = l.left
