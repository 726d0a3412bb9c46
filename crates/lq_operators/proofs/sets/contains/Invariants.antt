use Rattle.std.proofs.Common.{◌≡◌, drop}
use Rattle.lq_value.specs.SameAndOrder.{same_values}
use Rattle.lq_language.specs.Enumerable.{contains}
use Rattle.lq_operators.proofs.sets.contains.Given as goal

-- none so far is the same, so that the items left decide
abbrev pub invariant-loop-item : goal.invariant-loop-item
invariant-loop-item g l = contains same_values l.value (drop l.item-index l.items) l.end ≡ contains same_values l.value l.items l.end
