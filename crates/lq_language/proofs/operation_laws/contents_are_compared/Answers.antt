use Rattle.lq_language.proofs.NullLemmas.{same_by_content}
use Rattle.lq_language.proofs.operation_laws.contents_are_compared.Goals as goal

pub returns : goal.returns
returns c = same_by_content
