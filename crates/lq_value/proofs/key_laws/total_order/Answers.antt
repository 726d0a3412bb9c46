use Rattle.lq_value.proofs.OrderLaws.{orders_scalars, tells_scalars}
use Rattle.lq_value.proofs.key_laws.total_order.Goals as goal

pub returns-clause-total : goal.returns-clause-total
returns-clause-total c = orders_scalars

pub returns-clause-exact : goal.returns-clause-exact
returns-clause-exact c = tells_scalars
