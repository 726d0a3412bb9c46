use Rattle.lq_language.proofs.OperationLaws.{finds_prefixes, finds_suffixes, finds_parts}
use Rattle.lq_language.proofs.operation_laws.texts_are_searched.Goals as goal

pub returns-clause-prefixes : goal.returns-clause-prefixes
returns-clause-prefixes c = finds_prefixes

pub returns-clause-suffixes : goal.returns-clause-suffixes
returns-clause-suffixes c = finds_suffixes

pub returns-clause-parts : goal.returns-clause-parts
returns-clause-parts c = finds_parts
