-- The row's place joins those of its scalar, or takes a slot for it.
use Rattle.std.proofs.Common.{◌≡◌, sym, length, subst, ℕ}
use Rattle.std.proofs.lemmas.List.{length-map}
use Rattle.lq_index.specs.Entries.{cell_of, cells_of}
use Rattle.lq_index.specs.Slots.{Joins, entry_at}
use Rattle.lq_index.proofs.AdditionLemmas.{index_joins, on_err, on_ok, index_takes, same_entries}
use Rattle.lq_index.proofs.slot_table.SlotTable.put_key.Goals as goal

pub returns-in-Occupied-clause-ok : goal.returns-in-Occupied-clause-ok
returns-in-Occupied-clause-ok c =
    let cells = cells_of c.args.column c.args.rows.now in
    let old = entry_at c.args.self.now.groups c.args.self.now.slots.items in
    let new = entry_at c.join.new.self.groups c.join.new.self.slots.items in
    let long : length c.args.rows.now ≡ length cells = sym (length-map c.args.rows.now (cell_of c.args.column)) in
    rw c.join.ensures.width (on_ok c.join.result (λ j. index_joins c.args.self.now.width old new cells c.requires c.args.key.now c.in-Occupied.at c.in-Occupied.ensures.1
    (subst (λ (n : ℕ). Joins old new c.in-Occupied.at n) long j)) c.join.ensures.ok)

pub returns-in-Occupied-clause-err : goal.returns-in-Occupied-clause-err
returns-in-Occupied-clause-err c =
    let cells = cells_of c.args.column c.args.rows.now in
    let old = entry_at c.args.self.now.groups c.args.self.now.slots.items in
    let new = entry_at c.join.new.self.groups c.join.new.self.slots.items in
    rw c.join.ensures.width (on_err c.join.result (λ e. same_entries c.args.self.now.width old new cells c.requires c.args.key.now c.in-Occupied.at e) c.join.ensures.err)

pub returns-in-Vacant-clause-ok : goal.returns-in-Vacant-clause-ok
returns-in-Vacant-clause-ok c =
    let cells = cells_of c.args.column c.args.rows.now in
    let old = entry_at c.args.self.now.groups c.args.self.now.slots.items in
    let new = entry_at c.occupy.new.self.groups c.occupy.new.self.slots.items in
    let long : length c.args.rows.now ≡ length cells = sym (length-map c.args.rows.now (cell_of c.args.column)) in
    rw c.occupy.ensures.width (on_ok c.occupy.result (λ j. index_takes c.args.self.now.width old new cells c.requires c.args.key.now c.in-Vacant.at c.in-Vacant.ensures.1 c.in-Vacant.ensures.2
    (rw (← c.hash_of-hash.ensures, ← long) j)) c.occupy.ensures.ok)

pub returns-in-Vacant-clause-err : goal.returns-in-Vacant-clause-err
returns-in-Vacant-clause-err c =
    let cells = cells_of c.args.column c.args.rows.now in
    let old = entry_at c.args.self.now.groups c.args.self.now.slots.items in
    let new = entry_at c.occupy.new.self.groups c.occupy.new.self.slots.items in
    rw c.occupy.ensures.width (on_err c.occupy.result (λ e. same_entries c.args.self.now.width old new cells c.requires c.args.key.now c.in-Vacant.at e) c.occupy.ensures.err)
