use Rattle.std.proofs.Common.{◌≡◌, map}
use Rattle.lq_language.specs.ClauseMeaning.{as_group}
use Rattle.lq_operators.proofs.groups.group_values.Given as goal

-- the groups so far are there as values
abbrev pub invariant-loop-key : goal.invariant-loop-key
invariant-loop-key g l = l.values ≡ map as_group l.yielded
