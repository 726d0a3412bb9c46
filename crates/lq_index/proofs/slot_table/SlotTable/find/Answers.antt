-- What a search comes to: all places of the scalar, or a free slot where it has none.
use Rattle.std.proofs.Common.{rules, ◌≡◌, ◌<◌, ◌∙◌, sym, refl, length, ap}
use Rattle.std.proofs.lemmas.List.{get_or_read_under}
use Rattle.lq_index.specs.Entries.{cells_of}
use Rattle.lq_index.specs.Slots.{no_slot, entry_at, slot_at, places_in}
use Rattle.lq_index.specs.declared.slot.Slot.{Slot}
use Rattle.lq_index.proofs.SearchLemmas.{absent, places_found}
use Rattle.lq_index.proofs.slot_table.SlotTable.find.Goals as goal

pub returns-in-Occupied : goal.returns-in-Occupied
returns-in-Occupied c =
    let slots = c.args.self.now.slots.items in
    let groups = c.args.self.now.groups in
    let low : c.in-Occupied.at < length slots = search rules in
    let slot : c.index.result.now ≡ slot_at slots c.in-Occupied.at = get_or_read_under slots c.in-Occupied.at (length slots) c.index.result.now no_slot c.index.ensures low refl in
    c.places_in.ensures ∙ ap (λ (x : Slot). places_in groups x.spot) slot
    ∙ places_found c.args.self.now.width (entry_at groups slots) (cells_of c.args.column c.args.rows.now) c.requires.index c.args.key.now c.in-Occupied.at c.in-Occupied.ensures.1

pub returns-in-Vacant : goal.returns-in-Vacant
returns-in-Vacant c =
    sym (absent c.args.self.now.width (entry_at c.args.self.now.groups c.args.self.now.slots.items) (cells_of c.args.column c.args.rows.now) c.requires.index
    c.args.key.now c.in-Vacant.field-0 c.in-Vacant.ensures.1 c.in-Vacant.ensures.2)
