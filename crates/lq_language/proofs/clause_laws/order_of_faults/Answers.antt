use Rattle.lq_language.proofs.ClauseTypeLemmas.{records_match}
use Rattle.lq_language.proofs.ClauseLemmas.{groups_in_turn, meets_first_keys_first, meets_inner_keys_first, null_matches_nothing, sorts_whole}
use Rattle.lq_language.proofs.clause_laws.order_of_faults.Goals as goal

pub returns-clause-nulls : goal.returns-clause-nulls
returns-clause-nulls c start = null_matches_nothing

pub returns-clause-join : goal.returns-clause-join
returns-clause-join c start = meets_inner_keys_first

pub returns-clause-orderby : goal.returns-clause-orderby
returns-clause-orderby c start = sorts_whole

pub returns-clause-group : goal.returns-clause-group
returns-clause-group c start = groups_in_turn

pub returns-clause-keys : goal.returns-clause-keys
returns-clause-keys c start = meets_first_keys_first

pub returns-clause-records : goal.returns-clause-records
returns-clause-records g c = records_match
