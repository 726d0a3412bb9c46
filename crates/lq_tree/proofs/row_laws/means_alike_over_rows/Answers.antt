use Rattle.lq_tree.proofs.RowFormLaws.{means_alike, streams_alike}
use Rattle.lq_tree.proofs.row_laws.means_alike_over_rows.Goals as goal

pub returns-clause-meaning : goal.returns-clause-meaning
returns-clause-meaning c start = means_alike

pub returns-clause-stream : goal.returns-clause-stream
returns-clause-stream c start = streams_alike
