-- What a prepared inner side of a join represents.
use Rattle.std.specs.Prelude.{List, [], ◌∷◌, ◌++◌, ℕ, Option, None, if◌then◌else◌, slice_get}
use Rattle.std.specs.List.{zip}
use Rattle.std.specs.Option.{option_to_list}
use Rattle.lq_value.specs.SameAndOrder.{same_values}
use Rattle.lq_value.specs.declared.value.Value.{Value}
use Rattle.lq_operators.specs.Places.{passes_at}
use Rattle.lq_operators.specs.declared.matches.Matches.{Matches}

module _ {R : Type 0} where
  -- the pairs of a key and its item, in their order
  unfoldable pub pairs_of : Matches R → List (Value R × Value R)
  pairs_of m = zip m.keys m.items

  -- the item at a place, where its key is the same as k
  unfoldable pub item_at : Matches R → Value R → ℕ → Option (Value R)
  item_at m k place = if passes_at (same_values k) m.keys place then slice_get m.items place else None

  -- the items at those of these places whose keys are the same as k, one place after another
  abbrev pub items_at : Matches R → Value R → List ℕ → List (Value R)
  items_at m k [] = []
  items_at m k (place ∷ places) = option_to_list (item_at m k place) ++ items_at m k places
