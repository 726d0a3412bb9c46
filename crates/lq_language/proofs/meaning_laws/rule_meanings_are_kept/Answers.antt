use Rattle.lq_language.proofs.KeptMeaningLaws.{keeps_meanings}
use Rattle.lq_language.proofs.meaning_laws.rule_meanings_are_kept.Goals as goal

pub returns : goal.returns
returns c start = keeps_meanings
