use Rattle.lq_serve.proofs.DeviceLemmas.{Writes-next}
use Rattle.lq_serve.proofs.audit.write_word.Goals as goal

pub returns : goal.returns
returns g c = Writes-next _ _ _ _ _ _ _ _ c.write_more.ensures c.write_more-2.ensures
