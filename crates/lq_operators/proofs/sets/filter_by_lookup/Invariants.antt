use Rattle.std.proofs.Common.{◌≡◌, filter}
use Rattle.lq_value.specs.SameAndOrder.{same_values}
use Rattle.lq_language.specs.Enumerable.{is_among}
use Rattle.lq_operators.specs.Arguments.{is_wanted}
use Rattle.lq_operators.proofs.sets.filter_by_lookup.Given as goal

-- those that are kept of the items so far are there
abbrev pub invariant-loop-item : goal.invariant-loop-item
invariant-loop-item g l = l.selection ≡ filter (λ item. is_wanted l.wanted (is_among same_values item l.others)) l.yielded
