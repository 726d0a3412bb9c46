use Rattle.lq_operators.proofs.GroupLemmas.{pair_at}
use Rattle.lq_operators.proofs.groups.Grouping.add.Goals as goal

pub returns-then-is_group_of : goal.returns-then-is_group_of
returns-then-is_group_of g c =
    pair_at c.push_at.result c.args.self.now.groups.items c.as_slice.result.now c.push_at.new.groups.items c.args.key c.args.element c.place-hint.result
    c.is_group_of.result c.as_slice.ensures.value c.is_group_of.ensures c.if-is_group_of.true c.push_at.ensures.element
