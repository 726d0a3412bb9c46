-- The values in the slots of a chain.
use Rattle.std.specs.Prelude.{◌∷◌, ◌++◌, List, []}
use Rattle.lq_value.specs.declared.value.Value.{Value}
use Rattle.lq_plan.specs.declared.slots.Slots.{Slots, fold-Slots}
use Rattle.lq_plan.specs.declared.slots.Slots.TheOpen.{Slots-F}

module _ {R : Type 0} where
  abbrev pub slots_step : Slots-F R (List (Value R)) → List (Value R)
  slots_step Slots-F.Empty = []
  slots_step (Slots-F.With outer v) = outer.now ++ v.now ∷ []

  -- the values, that of the outermost slot first
  unfoldable pub values_in : Slots R → List (Value R)
  values_in = fold-Slots R (List (Value R)) slots_step
