use Rattle.lq_language.proofs.ClauseTypeLemmas.{bounds_parts, compares_one_type, counts_parts, takes_all_else}
use Rattle.lq_language.proofs.ClauseLemmas.{enumerates_groups, takes_no_null}
use Rattle.lq_language.proofs.clause_laws.types_of_clauses.Goals as goal

pub returns-clause-placed : goal.returns-clause-placed
returns-clause-placed c start = takes_no_null

pub returns-clause-enumerated : goal.returns-clause-enumerated
returns-clause-enumerated c start = enumerates_groups

pub returns-clause-keys : goal.returns-clause-keys
returns-clause-keys g c = compares_one_type

pub returns-clause-bounded : goal.returns-clause-bounded
returns-clause-bounded g c = bounds_parts

pub returns-clause-parts : goal.returns-clause-parts
returns-clause-parts g c = counts_parts

pub returns-clause-others : goal.returns-clause-others
returns-clause-others g c = takes_all_else
