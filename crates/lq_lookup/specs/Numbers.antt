-- Keys by number: each key's number is its place among the keys in order of first appearance.
use Rattle.std.specs.Prelude.{◌≡◌, List, ℕ, Some, map, slice_get}
use Rattle.std.specs.List.{IsDistinct}
use Rattle.lq_value.specs.KeyTests.{key_is}
use Rattle.lq_value.specs.Lookups.{first_keys}
use Rattle.lq_value.specs.declared.key.Key.{Key}

-- the firsts are the keys in order of first appearance, and the numbers say which of them each key is
pub record AreNumbers (keys firsts : List Key) (numbers : List ℕ) : Type 0 where
  pub in_order : firsts ≡ first_keys key_is keys
  pub apart : IsDistinct key_is firsts
  pub each : map (slice_get firsts) numbers ≡ map Some keys
