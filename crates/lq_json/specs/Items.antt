-- What is written of a reply of items.
use Rattle.std.specs.Prelude.{◌≡◌, ◌++◌, List, ℕ, Bool, false, true, codes}
use Rattle.serde_json.specs.Data.{Data}
use Rattle.serde_json.specs.Written.{comma_if, compact_text}
use Rattle.lq_value.specs.declared.value.Fault.{Fault}
use Rattle.lq_value.specs.declared.value.Fault.TheVariants as fault
use Rattle.lq_json.specs.Texts.{has_any, items_front, texts}
use Rattle.lq_json.specs.declared.items.ItemsLine.{ItemsLine}

-- the text written so far, and whether an item is in it
abbrev pub text_in : ItemsLine → List ℕ
text_in line = line.out

abbrev pub has_items : ItemsLine → Bool
has_items line = line.has_items

-- The line holds these items so far.
pub record Holds (line : ItemsLine) (ds : List Data) : Type 0 where
  pub text : text_in line ≡ items_front ++ texts false ds
  pub later : has_items line ≡ has_any ds

-- One item more is written.
pub record Pushes (old new : ItemsLine) (d : Data) : Type 0 where
  pub text : text_in new ≡ text_in old ++ (comma_if (has_items old) ++ compact_text d)
  pub later : has_items new ≡ true

-- what a reply begins with that ends in a fault, up to the name of its items
abbrev pub fault_front : Fault → List ℕ
fault_front fault.DivideByZero = codes "{\"fault\":\"DivideByZero\","
fault_front fault.Overflow = codes "{\"fault\":\"Overflow\","
fault_front fault.NullReference = codes "{\"fault\":\"NullReference\","
fault_front fault.InvalidOperation = codes "{\"fault\":\"InvalidOperation\","
fault_front fault.ArgumentOutOfRange = codes "{\"fault\":\"ArgumentOutOfRange\","
