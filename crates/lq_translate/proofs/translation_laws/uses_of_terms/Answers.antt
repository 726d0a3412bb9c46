use Rattle.lq_translate.proofs.AlikeUseLaws.{queries_used, terms_used}
use Rattle.lq_translate.proofs.translation_laws.uses_of_terms.Goals as goal

pub returns-clause-terms : goal.returns-clause-terms
returns-clause-terms c e names = terms_used e names

pub returns-clause-calls : goal.returns-clause-calls
returns-clause-calls c q names = queries_used q names
