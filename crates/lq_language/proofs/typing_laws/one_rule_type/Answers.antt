use Rattle.lq_language.proofs.TypingLaws.{one_expression_type}
use Rattle.lq_language.proofs.typing_laws.one_rule_type.Goals as goal

pub returns : goal.returns
returns c = one_expression_type
