-- What is in a condition is smaller.
use Rattle.std.proofs.Common.{◌≡◌, ◌≤◌, ℕ, arith, ap}
use Rattle.lq_condition.specs.declared.condition.Condition.{Condition, size-Condition}
use Rattle.lq_condition.specs.declared.condition.Condition.TheVariants as condition
use Rattle.lq_condition.specs.declared.condition.Condition.TheViews.{sized-Both}

-- the operands of a condition that is no larger than this
pub step_sizes : (rest next others : Condition) (bound : ℕ) → rest ≡ condition.Both next others → size-Condition rest ≤ bound
    → (size-Condition next ≤ bound) × (size-Condition others ≤ bound)
step_sizes rest next others bound is small =
    let same = ap size-Condition is in
    let sized = sized-Both next others in
    (omega (arith, same, sized, small), omega (arith, same, sized, small))
