-- One slot more that is taken and isn't the scalar's.
use Rattle.std.proofs.Common.{rules, ◌≡◌, ◌<◌, ◌∙◌, sym, refl, length, false, arith}
use Rattle.std.proofs.lemmas.List.{get_or_read_under}
use Rattle.lq_index.specs.Entries.{cells_of}
use Rattle.lq_index.specs.Slots.{is_free, is_entry_of, no_slot, entry_at, slot_at}
use Rattle.lq_index.specs.Hashes.{hash_of, home}
use Rattle.lq_index.proofs.SearchLemmas.{from_more}
use Rattle.lq_index.proofs.slot_table.SlotTable.search.Goals as goal

pub loop-at-preserved : goal.loop-at-preserved
loop-at-preserved c =
    let slots = c.args.self.now.slots.items in
    let low : c.loop-at.at < length slots = search rules in
    let slot : c.index-slot.result.now ≡ slot_at slots c.loop-at.at = get_or_read_under slots c.loop-at.at (length slots) c.index-slot.result.now no_slot c.index-slot.ensures low refl in
    let full : is_free (slot_at slots c.loop-at.at).spot ≡ false = rw (sym slot) (sym c.is_free.ensures ∙ c.if-is_free.false) in
    let unlike : is_entry_of c.args.key.now (cells_of c.args.column c.args.rows.now) (entry_at c.args.self.now.groups slots c.loop-at.at) ≡ false
    = rw (sym slot) (sym c.is_slot.ensures ∙ c.if-is_slot.false) in
    record {
      from = omega (arith, c.loop-at.invariant.from);
      within = omega (arith, low);
      full = from_more (home c.args.self.now.width (hash_of c.args.key.now)) c.loop-at.at (λ t. is_free (slot_at slots t).spot ≡ false) c.loop-at.invariant.full full;
      unlike = from_more (home c.args.self.now.width (hash_of c.args.key.now)) c.loop-at.at
          (λ t. is_entry_of c.args.key.now (cells_of c.args.column c.args.rows.now) (entry_at c.args.self.now.groups slots t) ≡ false) c.loop-at.invariant.unlike unlike;
    }
