use Rattle.lq_language.proofs.TypingLaws.{type_found}
use Rattle.lq_language.proofs.typing_laws.rule_type_is_found.Goals as goal

pub returns : goal.returns
returns c = type_found
