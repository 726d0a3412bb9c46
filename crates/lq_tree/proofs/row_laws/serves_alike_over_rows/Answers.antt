use Rattle.lq_tree.proofs.MappedReplyLaws.{serves_alike}
use Rattle.lq_tree.proofs.row_laws.serves_alike_over_rows.Goals as goal

pub returns : goal.returns
returns g c = serves_alike
