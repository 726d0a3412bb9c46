use Rattle.lq_value.proofs.KeyLaws.{tells_equal_keys}
use Rattle.lq_value.proofs.key_laws.equal_keys.Goals as goal

pub returns : goal.returns
returns c = tells_equal_keys
