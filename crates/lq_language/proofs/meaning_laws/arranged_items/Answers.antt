use Rattle.lq_language.proofs.ArrangementLemmas.{arranges_by_keys, keeps_ties}
use Rattle.lq_language.proofs.meaning_laws.arranged_items.Goals as goal

pub returns-clause-sorted : goal.returns-clause-sorted
returns-clause-sorted c start = arranges_by_keys

pub returns-clause-ties : goal.returns-clause-ties
returns-clause-ties c start = keeps_ties
