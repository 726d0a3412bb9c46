-- The slots before this one are moved.
use Rattle.std.proofs.Common.{◌≤◌, List, length}
use Rattle.lq_value.specs.declared.scalar.Scalar.{Scalar}
use Rattle.lq_index.specs.Entries.{IsIndex}
use Rattle.lq_index.specs.Slots.{entry_at}
use Rattle.lq_index.specs.Moves.{AreMoved, AreHeld}
use Rattle.lq_index.proofs.slot_table.SlotTable.slots_in.Given as goal

abbrev pub invariant-loop-at : goal.invariant-loop-at
invariant-loop-at l = record {
  long : l.width ≤ length l.new.items;
  held : AreHeld l.self.slots.items l.new.items l.at;
  moved : (cells : List Scalar) → IsIndex l.self.width (entry_at l.self.groups l.self.slots.items) cells → AreMoved l.self.groups l.width l.self.slots.items l.new.items l.at;
}
