use Rattle.std.proofs.Common.{◌≡◌, drop}
use Rattle.std.specs.List.{list_any}
use Rattle.lq_value.specs.SameAndOrder.{same_values}
use Rattle.lq_operators.proofs.keys.is_one_same.Given as goal

-- none so far is the same, so that the values left decide
abbrev pub invariant-loop-other : goal.invariant-loop-other
invariant-loop-other g l =
    list_any (λ other. same_values other l.value) (drop l.other-index l.values) ≡ list_any (λ other. same_values other l.value) l.values
