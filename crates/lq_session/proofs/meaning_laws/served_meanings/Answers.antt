use Rattle.lq_session.proofs.StoredLemmas.{serves_stored_meanings}
use Rattle.lq_session.proofs.meaning_laws.served_meanings.Goals as goal

pub returns : goal.returns
returns c = serves_stored_meanings
