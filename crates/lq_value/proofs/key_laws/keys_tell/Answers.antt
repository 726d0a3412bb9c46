use Rattle.lq_value.proofs.KeyLaws.{keys_tell}
use Rattle.lq_value.proofs.key_laws.keys_tell.Goals as goal

pub returns : goal.returns
returns g c = keys_tell g.row.R.Denot
