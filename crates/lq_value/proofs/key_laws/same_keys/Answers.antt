use Rattle.lq_value.proofs.SamenessLaws.{tells_keys}
use Rattle.lq_value.proofs.key_laws.same_keys.Goals as goal

pub returns : goal.returns
returns g c = tells_keys g.row.R.Denot
