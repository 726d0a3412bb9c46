use Rattle.std.proofs.Common.{◌≡◌, ◌++◌, length, string_bytes}
use Rattle.lq_render.specs.Cells.{front}
use Rattle.lq_render.proofs.cells.push_front.Given as goal

-- what is there and what is to come is the whole
abbrev pub invariant-loop-left : goal.invariant-loop-left
invariant-loop-left l = string_bytes l.out ++ front l.room_left l.left ≡ string_bytes l.initial.out ++ front l.room l.characters

abbrev pub decreases-loop-left : goal.decreases-loop-left
decreases-loop-left l = length l.left
