use Rattle.lq_pipe.proofs.GroupRecordLemmas.{MembersLeft}
use Rattle.lq_pipe.proofs.group_records.group_record.Given as goal

-- The members so far, with those that are left, are the members of the record.
abbrev pub invariant-loop-member : goal.invariant-loop-member
invariant-loop-member g l = MembersLeft l.fn.reads.tallies.items l.fn.key l.fn.kept l.member-items l.member-index l.members
