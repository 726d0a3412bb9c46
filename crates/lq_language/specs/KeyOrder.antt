-- The law of the order of sort keys: the first place at which two lists of keys differ decides, in
-- that place's direction.
use Rattle.std.specs.Prelude.{◌≡◌, ◌↔◌, ◌<◌, if◌then◌else◌, List, ℕ, Bool, Some, slice_get}
use Rattle.std.specs.declared.cmp.Ordering.TheVariants.{Greater, Less}
use Rattle.lq_value.specs.SameAndOrder.{order_of}
use Rattle.lq_value.specs.declared.scalar.Scalar.{Scalar}
use Rattle.lq_language.specs.Arrangement.{order_of_keys}

-- One list of keys comes before another: at the first place at which they differ its key is less,
-- or greater where that key descends.
pub record StandsBefore (ds : List Bool) (keys others : List Scalar) : Type 0 where
  pub place : ℕ
  pub descending : Bool
  pub key : Scalar
  pub other : Scalar
  pub direction : slice_get ds place ≡ Some descending
  pub here : slice_get keys place ≡ Some key
  pub there : slice_get others place ≡ Some other
  pub decisive : order_of key other ≡ (if descending then Greater else Less)
  pub same : (earlier : ℕ) → earlier < place → slice_get keys earlier ≡ slice_get others earlier

-- the order of keys says exactly which of two lists comes before the other
abbrev pub TellsKeyOrder : Type 0
TellsKeyOrder =
    (ds : List Bool) (keys others : List Scalar)
    → ((order_of_keys ds keys others ≡ Less) ↔ StandsBefore ds keys others)
    × ((order_of_keys ds keys others ≡ Greater) ↔ StandsBefore ds others keys)
