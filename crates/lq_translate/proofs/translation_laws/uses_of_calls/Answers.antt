use Rattle.lq_translate.proofs.UseLemmas.{used_alike}
use Rattle.lq_translate.proofs.translation_laws.uses_of_calls.Goals as goal

pub returns : goal.returns
returns c start is_name typed uses named used q outer = used_alike is_name typed uses named used outer q
