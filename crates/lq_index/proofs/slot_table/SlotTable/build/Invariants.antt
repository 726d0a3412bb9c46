-- The table is the index of the rows before this one.
use Rattle.std.proofs.Common.{take}
use Rattle.lq_index.specs.Entries.{IsIndex, cells_of}
use Rattle.lq_index.specs.Slots.{entry_at}
use Rattle.lq_index.proofs.slot_table.SlotTable.build.Given as goal

abbrev pub invariant-loop-place : goal.invariant-loop-place
invariant-loop-place l = IsIndex l.table.width (entry_at l.table.groups l.table.slots.items) (cells_of l.column (take l.place l.rows))
