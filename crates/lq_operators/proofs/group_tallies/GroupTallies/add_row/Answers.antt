use Rattle.lq_operators.specs.GroupTallies.{numbers_at}
use Rattle.lq_value.specs.declared.value.Value.TheVariants as value
use Rattle.lq_operators.proofs.GroupTallyLemmas.{row_at}
use Rattle.lq_operators.proofs.group_tallies.GroupTallies.add_row.Goals as goal

pub returns-then-is_group_of_scalar-clause-row : goal.returns-then-is_group_of_scalar-clause-row
returns-then-is_group_of_scalar-clause-row g c =
    row_at c.args.self.now.begins c.args.self.now.groups.items c.as_slice.result.now c.add_row_at.new.groups.items (value.Scalar c.args.key.now)
    (numbers_at c.args.cells.now c.args.places.now) c.scalar_place-hint.result c.is_group_of_scalar.result c.as_slice.ensures.value c.is_group_of_scalar.ensures
    c.if-is_group_of_scalar.true c.add_row_at.ensures.row
