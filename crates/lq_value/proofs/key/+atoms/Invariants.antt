use Rattle.std.proofs.Common.{◌≡◌, ◌++◌, drop}
use Rattle.lq_value.specs.Keys.{members_atoms}
use Rattle.lq_value.proofs.key.+atoms.Given as goal

-- the members so far have their atoms
abbrev pub invariant-push_members-loop-value : goal.invariant-push_members-loop-value
invariant-push_members-loop-value g l = l.atoms ++ members_atoms (drop l.value-index l.members) ≡ l.fn.atoms ++ members_atoms l.fn.members
