use Rattle.std.proofs.Common.{◌≡◌, ◌++◌, drop, map}
use Rattle.lq_value.specs.Keys.{key_value}
use Rattle.lq_operators.proofs.keys.keys_of.Given as goal

-- the keys of the values that are left follow
abbrev pub invariant-loop-value : goal.invariant-loop-value
invariant-loop-value g l = l.keys.items ++ map key_value (drop l.value-index l.values) ≡ map key_value l.values
