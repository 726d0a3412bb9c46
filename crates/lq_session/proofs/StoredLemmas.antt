-- What the tables of a store serve has a meaning.
use Rattle.lq_machine.proofs.MachineMeaningLaws.{serves_meanings}
use Rattle.lq_run.proofs.StoredLaws.{typed_tables}
use Rattle.lq_session.specs.StoredMeanings.{ServesStoredMeanings}

pub serves_stored_meanings : ServesStoredMeanings
serves_stored_meanings s kept defined e unknown = serves_meanings s (typed_tables s.tables kept) defined e unknown
