-- What comes of an item in a slot of its own.
use Rattle.std.specs.Prelude.{◌≡◌, List, Option, Some, None, Result, Ok}
use Rattle.std.specs.Borrow.{Bor}
use Rattle.lq_value.specs.SameAndOrder.{same_values}
use Rattle.lq_value.specs.declared.value.End.{End}
use Rattle.lq_value.specs.declared.value.End.TheVariants as end
use Rattle.lq_value.specs.declared.value.Fault.{Fault}
use Rattle.lq_value.specs.declared.value.Value.{Value}
use Rattle.lq_language.specs.Worlds.{World}
use Rattle.lq_language.specs.OperandMeaning.{stream_of}
use Rattle.lq_language.specs.Stream.{Stream, both, each, groups_of, select_each, on_value, select_by}
use Rattle.lq_operators.specs.Groups.{groups_in}
use Rattle.lq_operators.specs.declared.groups.Grouping.{Grouping}
use Rattle.lq_tree.specs.FormMeaning.{Slots, form_meaning, matched, with_item, with_items}
use Rattle.lq_tree.specs.declared.tree.Form.{Form}
use Rattle.lq_tree.specs.declared.tree.Joined.{Joined}

module _ {R : Type 0} (world : World R) (slots : Slots R) where
  -- what comes of an item and of each item of the sequence that it leads to
  abbrev pub item_expansion : Form → Form → Value R → Stream (Value R)
  item_expansion inner result x =
      select_each (λ w. form_meaning world result (with_items world slots x w)) (stream_of world (form_meaning world inner (with_item world slots x)))

  -- what a lambda gives of an item, or the item
  abbrev pub element_of : Option (Bor Form) → Value R → Result (Value R) Fault
  element_of (Some body) x = form_meaning world body.now (with_item world slots x)
  element_of None x = Ok x

  -- the key of an item and its element: of an inner item of a join the item
  abbrev pub key_and_element : Form → Option (Bor Form) → Value R → Result (Value R × Value R) Fault
  key_and_element key element x = both (form_meaning world key (with_item world slots x)) (element_of element x)

  -- what comes of an outer item and of what its key matches
  abbrev pub item_join : Joined Form → List (Value R × Value R) → Value R → Stream (Value R)
  item_join j qs x =
      on_value (form_meaning world j.outer_key (with_item world slots x))
      (λ k. select_each (λ w. form_meaning world j.result (with_items world slots x w)) (matched world j.grouped k qs, end.Done))

  -- what comes of the items of a stream
  abbrev pub stream_expansion : Form → Form → Stream (Value R) → Stream (Value R)
  stream_expansion inner result s = each (item_expansion inner result) s.0 s.1

  abbrev pub keys_and_elements : Form → Option (Bor Form) → Stream (Value R) → Stream (Value R × Value R)
  keys_and_elements key element s = select_by (key_and_element key element) s.0 s.1

  abbrev pub stream_join : Joined Form → List (Value R × Value R) → Stream (Value R) → Stream (Value R)
  stream_join j qs s = each (item_join j qs) s.0 s.1

-- the groups are those of pairs, as far as these were read, and this is how the pairs end
abbrev pub AreGrouped : {R : Type 0} → Grouping R → End → Stream (Value R × Value R) → Type 0
AreGrouped grouping e pairs = (groups_in grouping ≡ groups_of same_values pairs.0) × (e ≡ pairs.1)
