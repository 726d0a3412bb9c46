use Rattle.std.proofs.Common.{◌≡◌, take}
use Rattle.lq_value.proofs.key.copy_atoms.Given as goal

-- the atoms so far are copied
abbrev pub invariant-loop-atom : goal.invariant-loop-atom
invariant-loop-atom l = l.copies ≡ take l.atom-index l.atoms
