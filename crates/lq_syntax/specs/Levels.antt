-- The levels of a text's depth, as the code keeps them: an array from the outermost on.
use Rattle.std.specs.Prelude.{◌≡◌, ◌≤◌, ◌∷◌, List, [], ℕ, zero, suc, length, get_or}
use Rattle.lq_grammar.specs.Depth as depth
use Rattle.lq_grammar.specs.Depth.{Effect, weight}
use Rattle.lq_syntax.specs.declared.depth.Effect.{Effect as CodeEffect}
use Rattle.lq_syntax.specs.declared.depth.Effect.TheVariants as effect
use Rattle.lq_syntax.specs.declared.depth.Levels.{Levels}

abbrev pub effect_shown : CodeEffect → Effect
effect_shown effect.Opens = depth.Opens
effect_shown effect.Closes = depth.Closes
effect_shown effect.WeighsNothing = depth.WeighsNothing
effect_shown effect.Weighs = depth.Weighs

-- the levels up to the one at a place, the innermost first
abbrev pub levels_to : List ℕ → ℕ → List ℕ
levels_to weights zero = get_or weights 0 0 ∷ []
levels_to weights (suc place) = get_or weights (suc place) 0 ∷ levels_to weights place

abbrev pub levels_of : Levels → List ℕ
levels_of levels = levels_to levels.weights levels.innermost

-- The levels are those of a place within the limits, and their weight is known.
pub record IsWithin (levels : Levels) : Type 0 where
  pub places : length levels.weights ≡ 65
  pub brackets : levels.innermost ≤ 64
  pub light : levels.weight ≤ 256
  pub weighed : levels.weight ≡ weight (levels_of levels)
