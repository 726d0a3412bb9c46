use Rattle.lq_translate.proofs.MeaningLemmas.{means_alike}
use Rattle.lq_translate.proofs.TypingLemmas.{typed_alike}
use Rattle.lq_translate.proofs.translation_laws.calls_and_clauses.Goals as goal

pub returns-clause-meaning : goal.returns-clause-meaning
returns-clause-meaning c start is_name world typed meant names_typed names_mean q outer = means_alike is_name world typed meant outer names_typed names_mean q

pub returns-clause-typing : goal.returns-clause-typing
returns-clause-typing c start is_name typed names_typed q outer = typed_alike is_name typed names_typed outer q
