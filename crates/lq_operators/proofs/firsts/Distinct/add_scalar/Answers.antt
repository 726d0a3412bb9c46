use Rattle.lq_value.specs.declared.value.Value.TheVariants as value
use Rattle.lq_operators.proofs.KnownLemmas.{firsts_at}
use Rattle.lq_operators.proofs.firsts.Distinct.add_scalar.Goals as goal

pub returns-then-is_other_scalar : goal.returns-then-is_other_scalar
returns-then-is_other_scalar g c = λ done so_far.
    firsts_at done c.args.self.now.firsts c.as_slice.result.now (value.Scalar c.args.item.now) c.scalar_place-hint.result c.is_other_scalar.result
    c.as_slice.ensures c.is_other_scalar.ensures c.if-is_other_scalar.true so_far
