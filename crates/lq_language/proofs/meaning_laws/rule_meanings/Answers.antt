use Rattle.lq_language.proofs.MeaningLaws.{has_meaning}
use Rattle.lq_language.proofs.meaning_laws.rule_meanings.Goals as goal

pub returns : goal.returns
returns c = has_meaning
