use Rattle.lq_language.proofs.NullLemmas.{null_gives_null, null_is_empty_text}
use Rattle.lq_language.proofs.operation_laws.null_operands.Goals as goal

pub returns-clause-arithmetic : goal.returns-clause-arithmetic
returns-clause-arithmetic c = null_gives_null

pub returns-clause-texts : goal.returns-clause-texts
returns-clause-texts c = null_is_empty_text
