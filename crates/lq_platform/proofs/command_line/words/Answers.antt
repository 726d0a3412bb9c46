-- The words are what is still to come, which is as long as its length says.
use Rattle.std.proofs.Common.{refl}
use Rattle.std.proofs.lemmas.Iterator.{items_from_collect}
use Rattle.std.proofs.lemmas.Iterator.Adapters.{YieldsList-from_vec}
use Rattle.std.specs.Vec.Iter.{into_iter_deque, into_iter_items}
use Rattle.lq_platform.proofs.command_line.words.Goals as goal

pub returns : goal.returns
returns c =
    let args = c.args.args in
    items_from_collect c.collect.result c.collect.ensures.ran
    (YieldsList-from_vec (into_iter_items args) refl (into_iter_deque args).ok.0)
