use Rattle.lq_language.proofs.KeptTypeLaws.{keeps_types}
use Rattle.lq_language.proofs.typing_laws.rule_types_are_kept.Goals as goal

pub returns : goal.returns
returns c = keeps_types
