-- What the running of a form answers, in slots that are a chain.
use Rattle.std.specs.Prelude.{◌≡◌, Bool, Result, Ok, Err}
use Rattle.lq_value.specs.declared.scalar.Scalar.{Scalar}
use Rattle.lq_value.specs.declared.value.Fault.{Fault}
use Rattle.lq_value.specs.declared.value.Value.{Value, out-Value}
use Rattle.lq_language.specs.Worlds.{World}
use Rattle.lq_language.specs.OperandMeaning.{scalar_of, stream_of}
use Rattle.lq_language.specs.Operations.{on_ok, truth_of}
use Rattle.lq_language.specs.Stream.{Stream}
use Rattle.lq_operators.specs.declared.error.RunError.{RunError}
use Rattle.lq_operators.specs.declared.error.RunError.TheVariants as error
use Rattle.lq_tree.specs.FormMeaning.{form_meaning, is_true, with_item}
use Rattle.lq_tree.specs.declared.tree.Form.{Form}
use Rattle.lq_plan.specs.Slots.{values_in}
use Rattle.lq_plan.specs.declared.slots.Slots.{Slots}

-- The answer is what is meant, or memory was refused.
abbrev pub Answers : {A : Type 0} → Result A Fault → Result A RunError → Type 0
Answers meant (Ok v) = meant ≡ Ok v
Answers meant (Err (error.Fault f)) = meant ≡ Err f
Answers meant (Err error.Memory) = Unit {0}

module _ {R : Type 0} (world : World R) where
  -- the value of a form, or its first fault
  abbrev pub meant : Form → Slots R → Result (Value R) Fault
  meant form slots = form_meaning world form (values_in slots)

  -- the items that it is enumerated as, and how they end
  abbrev pub items_meant : Form → Slots R → Stream (Value R)
  items_meant form slots = stream_of world (meant form slots)

  -- the scalar that a value is
  abbrev pub scalar_in : Result (Value R) Fault → Result Scalar Fault
  scalar_in found = on_ok found (λ v. scalar_of world (out-Value R v))

  -- the truth value that it is
  abbrev pub truth_in : Result (Value R) Fault → Result Bool Fault
  truth_in found = on_ok (scalar_in found) (truth_of world.unknown)

  -- what a form gives of an item, and whether it is true of it
  abbrev pub value_of_item : Form → Slots R → Value R → Result (Value R) Fault
  value_of_item form slots v = form_meaning world form (with_item world (values_in slots) v)

  abbrev pub holds_of : Form → Slots R → Value R → Result Bool Fault
  holds_of form slots v = is_true world (form_meaning world form) (with_item world (values_in slots) v)
