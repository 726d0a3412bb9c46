-- What is gathered of things as one after another comes: distinct ones, and groups of pairs.
use Rattle.std.specs.Prelude.{◌≡◌, ◌++◌, List}
use Rattle.lq_value.specs.SameAndOrder.{same_values}
use Rattle.lq_value.specs.declared.value.End.{End}
use Rattle.lq_value.specs.declared.value.Value.{Value}
use Rattle.lq_language.specs.Stream.{Stream, first_keys, groups_of}

-- where what was gathered is that of some things, it becomes that of these and of what comes in a stream, and this is how the stream ends
abbrev pub Gathers : {A B : Type 0} → (List A → B) → B → B → Stream A → End → Type 0
Gathers {A} gathered old new s e = (s.1 ≡ e) × ((done : List A) → old ≡ gathered done → new ≡ gathered (done ++ s.0))

module _ {R : Type 0} where
  -- items are put behind the first ones so far, and pairs into the groups so far
  abbrev pub AddsFirsts : List (Value R) → List (Value R) → Stream (Value R) → End → Type 0
  AddsFirsts = Gathers (first_keys same_values)

  abbrev pub AddsPairs : List (Value R × List (Value R)) → List (Value R × List (Value R)) → Stream (Value R × Value R) → End → Type 0
  AddsPairs = Gathers (groups_of same_values)
