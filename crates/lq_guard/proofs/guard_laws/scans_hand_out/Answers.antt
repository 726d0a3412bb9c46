use Rattle.lq_guard.proofs.SeenLaws.{all_tables_as_seen, all_visible}
use Rattle.lq_guard.proofs.guard_laws.scans_hand_out.Goals as goal

pub returns-clause-tables : goal.returns-clause-tables
returns-clause-tables c = all_tables_as_seen

pub returns-clause-visible : goal.returns-clause-visible
returns-clause-visible c = all_visible
