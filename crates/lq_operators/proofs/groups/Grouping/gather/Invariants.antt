use Rattle.std.proofs.Common.{◌≡◌}
use Rattle.lq_value.specs.SameAndOrder.{same_values}
use Rattle.lq_language.specs.Stream.{groups_of}
use Rattle.lq_operators.specs.Groups.{groups_in}
use Rattle.lq_operators.proofs.groups.Grouping.gather.Given as goal

-- the groups of the pairs so far are there
abbrev pub invariant-loop-key : goal.invariant-loop-key
invariant-loop-key g l = groups_in l.grouping ≡ groups_of same_values l.yielded
