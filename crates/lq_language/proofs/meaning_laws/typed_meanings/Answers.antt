use Rattle.lq_language.proofs.TypedMeaningLaws.{has_language_meaning, has_language_stream}
use Rattle.lq_language.proofs.meaning_laws.typed_meanings.Goals as goal

pub returns-clause-expression : goal.returns-clause-expression
returns-clause-expression c start = has_language_meaning

pub returns-clause-query : goal.returns-clause-query
returns-clause-query c start = has_language_stream
