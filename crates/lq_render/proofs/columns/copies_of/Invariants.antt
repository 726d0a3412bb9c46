use Rattle.std.proofs.Common.{◌≡◌, take}
use Rattle.lq_render.proofs.columns.copies_of.Given as goal

-- the first ones are done
abbrev pub invariant-loop-name : goal.invariant-loop-name
invariant-loop-name l = l.copies.items ≡ take l.name-index l.names
