use Rattle.lq_plan.proofs.scalars.of_copies.Goals as goal

pub returns : goal.returns
returns g c = c.as_value.ensures _ c.apply.ensures
