use Rattle.lq_language.proofs.WithinLimitLaws.{limits_items, limits_types}
use Rattle.lq_language.proofs.typing_laws.types_are_limited.Goals as goal

pub returns-clause-expression : goal.returns-clause-expression
returns-clause-expression c = limits_types

pub returns-clause-query : goal.returns-clause-query
returns-clause-query c = limits_items
