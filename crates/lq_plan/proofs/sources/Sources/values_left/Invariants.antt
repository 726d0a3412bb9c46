use Rattle.std.proofs.Common.{◌≡◌, ◌++◌, length, map}
use Rattle.lq_value.specs.declared.value.Value.TheVariants as value
use Rattle.lq_plan.proofs.sources.Sources.values_left.Given as goal

-- the values so far, with those of the rows that are left
abbrev pub invariant-loop-row : goal.invariant-loop-row
invariant-loop-row g l =
    l.values ++ map value.Row (g.S.Rows.left l.reader) ≡ map value.Row (g.S.Rows.left l.fn.reader)

abbrev pub decreases-loop-row : goal.decreases-loop-row
decreases-loop-row g l = length (g.S.Rows.left l.reader)
