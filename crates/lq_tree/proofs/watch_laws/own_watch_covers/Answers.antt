use Rattle.lq_tree.proofs.OwnWatchLaws.{covered_by_own}
use Rattle.lq_tree.proofs.watch_laws.own_watch_covers.Goals as goal

pub returns : goal.returns
returns g c = covered_by_own
