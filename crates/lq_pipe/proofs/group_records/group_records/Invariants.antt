use Rattle.lq_pipe.proofs.GroupRecordLemmas.{RecordsLeft}
use Rattle.lq_pipe.proofs.group_records.group_records.Given as goal

-- The records so far, with those of the groups that are left, are those of all groups.
abbrev pub invariant-loop-group : goal.invariant-loop-group
invariant-loop-group g l = RecordsLeft l.fn.reads.tallies.items l.fn.reads.members.items l.group-items l.group-index l.records
