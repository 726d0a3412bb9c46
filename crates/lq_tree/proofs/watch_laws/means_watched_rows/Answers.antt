use Rattle.lq_tree.proofs.WatchLaws.{flows}
use Rattle.lq_tree.proofs.watch_laws.means_watched_rows.Goals as goal

pub returns : goal.returns
returns g c = flows
