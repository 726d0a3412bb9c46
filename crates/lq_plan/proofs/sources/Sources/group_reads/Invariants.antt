use Rattle.std.proofs.Common.{length, take}
use Rattle.lq_plan.specs.Aggregates.{AreReadOf, GiveNumbers}
use Rattle.lq_plan.specs.Slots.{values_in}
use Rattle.lq_plan.proofs.sources.Sources.group_reads.Given as goal

-- a member for each field so far, and tallies that have their numbers
abbrev pub invariant-loop-field : goal.invariant-loop-field
invariant-loop-field g l =
    record {
      read : AreReadOf (length (values_in l.fn.slots)) l.tallies.items (take l.field-index l.fields) l.members.items;
      cells : GiveNumbers l.fn.self l.fn.slots l.tallies.items;
    }
