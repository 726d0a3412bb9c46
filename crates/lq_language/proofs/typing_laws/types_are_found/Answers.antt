use Rattle.lq_language.proofs.TypedMeaningLaws.{finds_query_items, finds_types}
use Rattle.lq_language.proofs.typing_laws.types_are_found.Goals as goal

pub returns-clause-expression : goal.returns-clause-expression
returns-clause-expression c = finds_types

pub returns-clause-query : goal.returns-clause-query
returns-clause-query c = finds_query_items
