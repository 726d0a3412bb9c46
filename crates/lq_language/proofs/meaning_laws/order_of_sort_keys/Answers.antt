use Rattle.lq_language.proofs.KeyOrder.{tells_key_order}
use Rattle.lq_language.proofs.meaning_laws.order_of_sort_keys.Goals as goal

pub returns : goal.returns
returns c = tells_key_order
