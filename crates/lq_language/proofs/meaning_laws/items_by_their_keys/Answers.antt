use Rattle.lq_language.proofs.OneArrangement.{arranges_items}
use Rattle.lq_language.proofs.meaning_laws.items_by_their_keys.Goals as goal

pub returns : goal.returns
returns c start = arranges_items
