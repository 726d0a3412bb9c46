-- The first ones of items, as one after another is added.
use Rattle.std.specs.Prelude.{◌≡◌, ◌++◌, ◌∷◌, [], List}
use Rattle.lq_value.specs.SameAndOrder.{same_values}
use Rattle.lq_value.specs.declared.value.Value.{Value}
use Rattle.lq_language.specs.Stream.{first_keys}
use Rattle.lq_operators.specs.declared.firsts.Distinct.{Distinct}

module _ {R : Type 0} where
  -- the first ones of the items that were added, in their order
  abbrev pub firsts_in : Distinct R → List (Value R)
  firsts_in distinct = distinct.firsts

  -- where the first ones so far are those of some items, they become those of these items and x
  abbrev pub AddsFirst : List (Value R) → List (Value R) → Value R → Type 0
  AddsFirst firsts more x = (done : List (Value R)) → firsts ≡ first_keys same_values done → more ≡ first_keys same_values (done ++ x ∷ [])
