use Rattle.std.proofs.Common.{slice_get, arith}
use Rattle.std.proofs.lemmas.Option.{slice_get_past}
use Rattle.lq_operators.proofs.PairLemmas.{none_pushed}
use Rattle.lq_operators.proofs.pairs.push_at.Goals as goal

pub returns-in-None : goal.returns-in-None
returns-in-None g c =
    let past = c.in-None.ensures.lookup in
    none_pushed c.args.elements.now (slice_get c.args.values.now c.args.place) (slice_get_past c.args.values.now c.args.place (omega (arith, past)))
