-- The groups of elements by their keys, as one pair after another is added.
use Rattle.std.specs.Prelude.{◌≡◌, ◌++◌, ◌∷◌, [], List}
use Rattle.lq_value.specs.SameAndOrder.{same_values}
use Rattle.lq_value.specs.declared.value.Value.{Value}
use Rattle.lq_language.specs.Stream.{groups_of}
use Rattle.lq_operators.specs.declared.groups.Grouping.{Grouping}

module _ {R : Type 0} where
  -- the keys of the pairs that were added, in the order of their first appearances, each with its elements
  abbrev pub groups_in : Grouping R → List (Value R × List (Value R))
  groups_in grouping = grouping.groups.items

  -- where the groups so far are those of some pairs, they become those of these pairs and a key with an element
  abbrev pub AddsPair : List (Value R × List (Value R)) → List (Value R × List (Value R)) → Value R → Value R → Type 0
  AddsPair groups more key element =
      (done : List (Value R × Value R)) → groups ≡ groups_of same_values done → more ≡ groups_of same_values (done ++ (key, element) ∷ [])
