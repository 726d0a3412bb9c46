use Rattle.std.proofs.Common.{◌≡◌}
use Rattle.lq_value.specs.SameAndOrder.{same_values}
use Rattle.lq_language.specs.Stream.{first_keys}
use Rattle.lq_operators.specs.Firsts.{firsts_in}
use Rattle.lq_operators.proofs.firsts.firsts_of.Given as goal

-- the first ones of the items so far are there
abbrev pub invariant-loop-item : goal.invariant-loop-item
invariant-loop-item g l = firsts_in l.distinct ≡ first_keys same_values l.yielded
