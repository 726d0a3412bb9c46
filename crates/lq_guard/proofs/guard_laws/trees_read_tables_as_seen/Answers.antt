use Rattle.lq_guard.proofs.GuardedLaws.{reads_tables_as_seen}
use Rattle.lq_guard.proofs.guard_laws.trees_read_tables_as_seen.Goals as goal

pub returns : goal.returns
returns c = reads_tables_as_seen
