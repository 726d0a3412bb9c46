-- A live slot is put into the new table, any other is passed.
use Rattle.std.proofs.Common.{rules, ◌≡◌, ◌<◌, refl, length, ℕ, true, false, subst}
use Rattle.std.proofs.lemmas.List.{get_or_past, get_or_read_under}
use Rattle.lq_index.specs.Moves.{AreMoved, IsPut}
use Rattle.lq_index.specs.Slots.{is_free, is_live, no_slot, slot_at}
use Rattle.lq_index.proofs.MoveLemmas.{all_moved, held_passed, held_put, live_taken, none_of_dead, passes_over, put}
use Rattle.lq_index.proofs.slot_table.SlotTable.slots_in.Goals as goal
use Rattle.lq_index.proofs.slot_table.SlotTable.slots_in.Goals.{then-is_live+in_ok-put, else-is_live}

pub loop-at-preserved : goal.loop-at-preserved
loop-at-preserved c =
    let old = c.args.self.now.slots.items in
    let groups = c.args.self.now.groups in
    let width = c.args.self.now.width in
    let wide = c.args.width in
    let new = c.loop-at.new.items in
    let j = c.loop-at.at in
    let inv = c.loop-at.invariant in
    let low : j < length old = search rules in
    let slot : c.index-slot.result.now ≡ slot_at old j = get_or_read_under old j (length old) c.index-slot.result.now no_slot c.index-slot.ensures low refl in
    elim c.if-is_live.branch [
      | then-is_live+in_ok-put w ↦
          let next = w.put.new.slots.items in
          let p : IsPut wide new next (slot_at old j) = rw (← slot) w.in_ok-put.ensures.put in
          let live : is_live (slot_at old j).spot ≡ true = rw (← slot) (search rules) in
          let full : is_free (slot_at old j).spot ≡ false = live_taken (slot_at old j).spot live in
          rw w.new-is (record {
            long = search rules;
            held = held_put groups old c.args.self.now.owned new j inv.held wide next p;
            moved = λ cells index. put width wide groups old cells index new next j (inv.moved cells index) full p.i p.free (p.from, p.full) p.here p.others;
          })
      | else-is_live w ↦
          let dead : is_live (slot_at old j).spot ≡ false = rw (← slot) (search rules) in
          rw w.new-is (record {
            long = inv.long;
            held = held_passed groups old c.args.self.now.owned new j inv.held;
            moved = λ cells index. passes_over width wide groups old cells index new new j (inv.moved cells index) (none_of_dead groups (slot_at old j).spot dead);
          })
    ]

pub returns-clause-index : goal.returns-clause-index
returns-clause-index c = λ cells index.
    let old = c.args.self.now.slots.items in
    let all : c.loop-at.at ≡ length old = search rules in
    let moved = subst (λ (n : ℕ). AreMoved c.args.self.now.groups c.args.width old c.loop-at.new.items n) all (c.loop-at.invariant.moved cells index) in
    all_moved c.args.self.now.width c.args.width c.args.self.now.groups old cells index c.loop-at.new.items moved (λ t far. get_or_past old t no_slot far)
