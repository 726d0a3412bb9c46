use Rattle.lq_language.proofs.ClauseLemmas.{reads_source_anew}
use Rattle.lq_language.proofs.clause_laws.sources_of_clauses.Goals as goal

pub returns : goal.returns
returns g c = reads_source_anew
