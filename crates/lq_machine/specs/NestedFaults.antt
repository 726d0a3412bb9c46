-- Faults inside of a value: sequences in it that end with one, and which of them a reply names in the value's place.
use Rattle.std.specs.Prelude.{◌≡◌, ◌↔◌, ◌∷◌, ◌++◌, List, ℕ, Some, None, slice_get}
use Rattle.lq_value.specs.declared.scalar.Scalar.{Scalar}
use Rattle.lq_value.specs.declared.value.End.{End}
use Rattle.lq_value.specs.declared.value.End.TheVariants as end
use Rattle.lq_value.specs.declared.value.Fault.{Fault}
use Rattle.lq_value.specs.declared.value.Value.{Value}
use Rattle.lq_value.specs.declared.value.Value.TheVariants as value
use Rattle.lq_language.specs.ValuesOfTypes.{Every}
use Rattle.lq_machine.specs.Served.{nested_fault}

module _ {R : Type 0} where
  -- No sequence in a value ends with a fault.
  pub data HasNoFault : Value R → Type 0 where
    scalar : (s : Scalar) → HasNoFault (value.Scalar s)
    row : (r : R) → HasNoFault (value.Row r)
    in_record : (members : List (List ℕ × Value R))
        → ((k : ℕ) (m : List ℕ × Value R) → slice_get members k ≡ Some m → HasNoFault m.1) → HasNoFault (value.Rec members)
    in_group : (key : Value R) (elements : List (Value R))
        → HasNoFault key → ((k : ℕ) (v : Value R) → slice_get elements k ≡ Some v → HasNoFault v)
        → HasNoFault (value.Group key elements)
    in_sequence : (items : List (Value R))
        → ((k : ℕ) (v : Value R) → slice_get items k ≡ Some v → HasNoFault v) → HasNoFault (value.Seq items end.Done)

  -- The first fault inside of a value, depth first: a record's members in the order in which they are written, a group's key before its
  -- elements, and the items of a sequence before its end. Nothing before the place of the first fault holds one.
  pub data IsFirstFault : Value R → Fault → Type 0 where
    in_member : {f : Fault} (before : List (List ℕ × Value R)) (member : List ℕ × Value R) (behind : List (List ℕ × Value R))
        → Every (λ m. HasNoFault m.1) before → IsFirstFault member.1 f → IsFirstFault (value.Rec (before ++ member ∷ behind)) f
    in_key : {f : Fault} (key : Value R) (elements : List (Value R)) → IsFirstFault key f → IsFirstFault (value.Group key elements) f
    in_element : {f : Fault} (key : Value R) (before : List (Value R)) (element : Value R) (behind : List (Value R))
        → HasNoFault key → Every HasNoFault before → IsFirstFault element f
        → IsFirstFault (value.Group key (before ++ element ∷ behind)) f
    in_item : {f : Fault} (before : List (Value R)) (item : Value R) (behind : List (Value R)) (e : End)
        → Every HasNoFault before → IsFirstFault item f → IsFirstFault (value.Seq (before ++ item ∷ behind) e) f
    at_end : {f : Fault} (items : List (Value R)) → Every HasNoFault items → IsFirstFault (value.Seq items (end.Fault f)) f

-- the fault that is named in a value's place is the first one inside of it
abbrev pub NamesFirstFault : Type 0 → Type 0
NamesFirstFault R = (v : Value R) (f : Fault) → (nested_fault v ≡ Some f) ↔ IsFirstFault v f

-- and a value that holds none is served
abbrev pub ServesFaultless : Type 0 → Type 0
ServesFaultless R = (v : Value R) → (nested_fault v ≡ None) ↔ HasNoFault v
