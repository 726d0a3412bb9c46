use Rattle.lq_language.proofs.TypedMeaningLaws.{gives_one_type, one_type}
use Rattle.lq_language.proofs.typing_laws.one_type.Goals as goal

pub returns-clause-expression : goal.returns-clause-expression
returns-clause-expression c = one_type

pub returns-clause-query : goal.returns-clause-query
returns-clause-query c = gives_one_type
