use Rattle.lq_operators.proofs.KnownLemmas.{firsts_at}
use Rattle.lq_operators.proofs.firsts.Distinct.add.Goals as goal

pub returns-then-is_other_same : goal.returns-then-is_other_same
returns-then-is_other_same g c = λ done so_far.
    firsts_at done c.args.self.now.firsts c.as_slice.result.now c.args.item c.place-hint.result c.is_other_same.result c.as_slice.ensures c.is_other_same.ensures
    c.if-is_other_same.true so_far
