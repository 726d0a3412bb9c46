-- Lemmas on the levels of a text's depth as an array.
use Rattle.std.proofs.Common.{◌≡◌, ◌≢◌, ◌+◌, ◌-◌, ◌<◌, ◌≤◌, ◌∷◌, ◌||◌, List, [], ℕ, zero, suc, Bool, true, false, length, get_or, ap, ap₂, ◌∙◌, sym, refl, arith}
use Rattle.std.specs.Prelude.{nat_lt}
use Rattle.std.proofs.Math.ListN.{set}
use Rattle.std.proofs.lemmas.Bool.{lt-ltb, le-ltb}
use Rattle.std.proofs.lemmas.List.{get_or-set_same, get_or-set_other, length-set}
use Rattle.lq_grammar.specs.Depth.{Opens, Closes, Weighs, behind_token, is_past, weight}
use Rattle.lq_syntax.specs.Levels.{IsWithin, levels_of, levels_to}
use Rattle.lq_syntax.specs.declared.depth.Levels.{Levels}

-- a level further in isn't one of those up to a place
pub further_in : (weights : List ℕ) (place i x : ℕ) → place < i → levels_to (set weights i x) place ≡ levels_to weights place
further_in weights zero i x before = ap (λ (w : ℕ). w ∷ []) (get_or-set_other weights i 0 x 0 (λ e. omega (arith, before, e)))
further_in weights (suc place) i x before =
    ap₂ (λ (w : ℕ) (ws : List ℕ). w ∷ ws) (get_or-set_other weights i (suc place) x 0 (λ e. omega (arith, before, e))) (further_in weights place i x (omega (arith, before)))

pub opened : (weights : List ℕ) (place : ℕ) → suc place < length weights → levels_to (set weights (suc place) 1) (suc place) ≡ 1 ∷ levels_to weights place
opened weights place within =
    ap₂ (λ (w : ℕ) (ws : List ℕ). w ∷ ws) (get_or-set_same weights (suc place) 1 0 within) (further_in weights place (suc place) 1 (omega arith))

-- the innermost level, and those round it
abbrev pub round : List ℕ → ℕ → List ℕ
round weights zero = []
round weights (suc place) = levels_to weights place

pub innermost_first : (weights : List ℕ) (place : ℕ) → levels_to weights place ≡ get_or weights place 0 ∷ round weights place
innermost_first weights zero = refl
innermost_first weights (suc place) = refl

round-set : (weights : List ℕ) (place x : ℕ) → round (set weights place x) place ≡ round weights place
round-set weights zero x = refl
round-set weights (suc place) x = further_in weights place (suc place) x (omega arith)

pub weighed : (weights : List ℕ) (place x : ℕ) → place < length weights → levels_to (set weights place x) place ≡ x ∷ round weights place
weighed weights place x within =
    innermost_first (set weights place x) place ∙ ap₂ (λ (w : ℕ) (ws : List ℕ). w ∷ ws) (get_or-set_same weights place x 0 within) (round-set weights place x)

pub counted : (weights : List ℕ) (place : ℕ) → length (levels_to weights place) ≡ place + 1
counted weights zero = refl
counted weights (suc place) = omega (arith, counted weights place)

-- the weight of the levels but for the innermost
pub weight_split : (weights : List ℕ) (place : ℕ) → weight (levels_to weights place) ≡ get_or weights place 0 + weight (round weights place)
weight_split weights place = ap weight (innermost_first weights place)

-- ---- the levels of the code

not_past : (levels : List ℕ) → length levels ≤ 65 → weight levels ≤ 256 → is_past levels ≡ false
not_past levels few light = rw (le-ltb 65 (length levels) few, le-ltb 256 (weight levels) light) refl

-- where the levels are within the limits their place isn't past them
pub within_limits : (levels : Levels) → IsWithin levels → is_past (levels_of levels) ≡ false
within_limits levels within =
    not_past (levels_of levels) (omega (arith, counted levels.weights levels.innermost, within.brackets)) (omega (arith, within.light, within.weighed))

-- ---- a bracket that opens

pub opens_within : (levels : Levels) → IsWithin levels → levels.innermost < 64 → levels.weight < 256 → is_past (1 ∷ levels_of levels) ≡ false
opens_within levels within few light =
    not_past (1 ∷ levels_of levels) (omega (arith, counted levels.weights levels.innermost, few)) (omega (arith, light, within.weighed))

opened_at : (weights : List ℕ) (place next : ℕ) → next ≡ suc place → next < length weights → levels_to (set weights next 1) next ≡ 1 ∷ levels_to weights place
opened_at weights place next is within = rw is (opened weights place (omega (arith, is, within)))

pub opened_levels : (levels : Levels) → IsWithin levels → levels.innermost < 64
    → levels_to (set levels.weights (levels.innermost + 1) 1) (levels.innermost + 1) ≡ 1 ∷ levels_of levels
opened_levels levels within few = opened_at levels.weights levels.innermost (levels.innermost + 1) (omega arith) (omega (arith, few, within.places))

pub opened_within : (levels : Levels) → IsWithin levels → levels.innermost < 64 → levels.weight < 256
    → IsWithin (record { weights = set levels.weights (levels.innermost + 1) 1; innermost = levels.innermost + 1; weight = levels.weight + 1 })
opened_within levels within few light = record {
  places = length-set levels.weights (levels.innermost + 1) 1 ∙ within.places;
  brackets = omega (arith, few);
  light = omega (arith, light);
  weighed = let same : weight (levels_to (set levels.weights (levels.innermost + 1) 1) (levels.innermost + 1)) ≡ 1 + weight (levels_of levels) = ap weight (opened_levels levels within few) in omega (arith, same, within.weighed);
}

-- where 64 brackets are open, or the weight is at its limit, one more bracket is too many
pub opens_past : (levels : Levels) → IsWithin levels → 64 ≤ levels.innermost → true ≡ is_past (1 ∷ levels_of levels)
opens_past levels within many = sym (ap (λ (b : Bool). b || nat_lt 256 (weight (1 ∷ levels_of levels))) (lt-ltb 65 (length (1 ∷ levels_of levels)) (omega (arith, counted levels.weights levels.innermost, many))))

or_right : (a b : Bool) → b ≡ true → true ≡ (a || b)
or_right true b h = refl
or_right false b h = sym h

pub opens_heavy : (levels : Levels) → IsWithin levels → 256 ≤ levels.weight → true ≡ is_past (1 ∷ levels_of levels)
opens_heavy levels within heavy =
    or_right (nat_lt 65 (length (1 ∷ levels_of levels))) (nat_lt 256 (weight (1 ∷ levels_of levels))) (lt-ltb 256 (weight (1 ∷ levels_of levels)) (omega (arith, heavy, within.weighed)))

-- ---- a bracket that closes

closing : (weights : List ℕ) (place : ℕ) → 0 < place → behind_token (levels_to weights place) Closes ≡ levels_to weights (place - 1)
closing weights zero some = absurd (omega (arith, some))
closing weights (suc place) some = ap (λ (levels : List ℕ). behind_token (get_or weights (suc place) 0 ∷ levels) Closes) (innermost_first weights place) ∙ sym (innermost_first weights place) ∙ ap (levels_to weights) (omega arith)

pub closes_within : (levels : Levels) → IsWithin levels → 0 < levels.innermost → is_past (behind_token (levels_of levels) Closes) ≡ false
closes_within levels within some =
    ap is_past (closing levels.weights levels.innermost some)
    ∙ not_past (levels_to levels.weights (levels.innermost - 1)) (omega (arith, counted levels.weights (levels.innermost - 1), within.brackets, some))
    (lighter levels.weights levels.innermost some (omega (arith, within.light, within.weighed))) where
      lighter : (weights : List ℕ) (place : ℕ) → 0 < place → weight (levels_to weights place) ≤ 256 → weight (levels_to weights (place - 1)) ≤ 256
      lighter weights zero none light = absurd (omega (arith, none))
      lighter weights (suc place) none light = let same : weight (levels_to weights (suc place - 1)) ≡ weight (levels_to weights place) = ap (λ (n : ℕ). weight (levels_to weights n)) (omega arith) in omega (arith, light, same)

-- ---- a token that weighs

behind_weighing : (weights : List ℕ) (place : ℕ) → behind_token (levels_to weights place) Weighs ≡ (get_or weights place 0 + 1) ∷ round weights place
behind_weighing weights place = ap (λ (levels : List ℕ). behind_token levels Weighs) (innermost_first weights place)

pub weighed_levels : (levels : Levels) → IsWithin levels
    → levels_to (set levels.weights levels.innermost (get_or levels.weights levels.innermost 0 + 1)) levels.innermost ≡ behind_token (levels_of levels) Weighs
weighed_levels levels within =
    weighed levels.weights levels.innermost (get_or levels.weights levels.innermost 0 + 1) (omega (arith, within.brackets, within.places))
    ∙ sym (behind_weighing levels.weights levels.innermost)

heavier : (levels : Levels) → weight (behind_token (levels_of levels) Weighs) ≡ weight (levels_of levels) + 1
heavier levels =
    let after : weight (behind_token (levels_of levels) Weighs) ≡ (get_or levels.weights levels.innermost 0 + 1) + weight (round levels.weights levels.innermost) = ap weight (behind_weighing levels.weights levels.innermost) in
    omega (arith, after, weight_split levels.weights levels.innermost)

as_many : (levels : Levels) → length (behind_token (levels_of levels) Weighs) ≡ levels.innermost + 1
as_many levels =
    let after : length (behind_token (levels_of levels) Weighs) ≡ length ((get_or levels.weights levels.innermost 0 + 1) ∷ round levels.weights levels.innermost) = ap length (behind_weighing levels.weights levels.innermost) in
    let before : length (levels_of levels) ≡ length (get_or levels.weights levels.innermost 0 ∷ round levels.weights levels.innermost) = ap length (innermost_first levels.weights levels.innermost) in
    omega (arith, after, before, counted levels.weights levels.innermost)

pub weighs_within : (levels : Levels) → IsWithin levels → levels.weight < 256 → is_past (behind_token (levels_of levels) Weighs) ≡ false
weighs_within levels within light =
    not_past (behind_token (levels_of levels) Weighs) (omega (arith, as_many levels, within.brackets)) (omega (arith, heavier levels, light, within.weighed))

pub weighs_heavy : (levels : Levels) → IsWithin levels → 256 ≤ levels.weight → true ≡ is_past (behind_token (levels_of levels) Weighs)
weighs_heavy levels within heavy =
    or_right (nat_lt 65 (length (behind_token (levels_of levels) Weighs))) (nat_lt 256 (weight (behind_token (levels_of levels) Weighs)))
    (lt-ltb 256 (weight (behind_token (levels_of levels) Weighs)) (omega (arith, heavier levels, heavy, within.weighed)))

pub weighed_within : (levels : Levels) → IsWithin levels → levels.weight < 256
    → IsWithin (record { weights = set levels.weights levels.innermost (get_or levels.weights levels.innermost 0 + 1); innermost = levels.innermost; weight = levels.weight + 1 })
weighed_within levels within light = record {
  places = length-set levels.weights levels.innermost (get_or levels.weights levels.innermost 0 + 1) ∙ within.places;
  brackets = within.brackets;
  light = omega (arith, light);
  weighed = let same = ap weight (weighed_levels levels within) in omega (arith, same, heavier levels, within.weighed);
}
