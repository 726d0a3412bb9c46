use Rattle.lq_machine.proofs.OpeningLemmas.{finds_rank, finds_size, opens_nothing}
use Rattle.lq_machine.proofs.StoredQueries.{stores_opening}
use Rattle.lq_machine.proofs.session_laws.opened_queries.Goals as goal

pub returns-clause-size : goal.returns-clause-size
returns-clause-size c = finds_size

pub returns-clause-rank : goal.returns-clause-rank
returns-clause-rank c = finds_rank

pub returns-clause-unread : goal.returns-clause-unread
returns-clause-unread c = opens_nothing

pub returns-clause-stored : goal.returns-clause-stored
returns-clause-stored c = stores_opening
