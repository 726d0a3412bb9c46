use Rattle.lq_value.specs.declared.value.Value.TheVariants as value
use Rattle.lq_operators.proofs.GroupLemmas.{pair_at}
use Rattle.lq_operators.proofs.groups.Grouping.add_by_scalar.Goals as goal

pub returns-then-is_group_of_scalar : goal.returns-then-is_group_of_scalar
returns-then-is_group_of_scalar g c =
    pair_at c.push_at.result c.args.self.now.groups.items c.as_slice.result.now c.push_at.new.groups.items (value.Scalar c.args.key.now) c.args.element
    c.scalar_place-hint.result c.is_group_of_scalar.result c.as_slice.ensures.value c.is_group_of_scalar.ensures c.if-is_group_of_scalar.true
    c.push_at.ensures.element
