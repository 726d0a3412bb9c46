use Rattle.std.proofs.Common.{◌≡◌, take}
use Rattle.lq_value.proofs.copies.+copying.Given as goal

-- the members so far are copied
abbrev pub invariant-copy_members-loop-name : goal.invariant-copy_members-loop-name
invariant-copy_members-loop-name g l = l.copies ≡ take l.name-index l.name-items

-- the values so far are copied
abbrev pub invariant-copy_values-loop-value : goal.invariant-copy_values-loop-value
invariant-copy_values-loop-value g l = l.copies ≡ take l.value-index l.value-items
