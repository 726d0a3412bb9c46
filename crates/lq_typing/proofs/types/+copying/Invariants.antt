use Rattle.std.proofs.Common.{◌≡◌, take}
use Rattle.lq_typing.proofs.types.+copying.Given as goal

-- the members so far are copied
abbrev pub invariant-copy_members-loop-name : goal.invariant-copy_members-loop-name
invariant-copy_members-loop-name l = l.copied ≡ take l.name-index l.name-items
