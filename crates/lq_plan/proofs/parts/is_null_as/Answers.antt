use Rattle.std.proofs.Common.{ap, not}
use Rattle.lq_plan.proofs.parts.is_null_as.Goals as goal

pub returns-then-wanted : goal.returns-then-wanted
returns-then-wanted g c world = rw c.if-wanted.true (c.is_null-null.ensures world)

pub returns-else-wanted : goal.returns-else-wanted
returns-else-wanted g c world = rw c.if-wanted.false (ap not (c.is_null-null.ensures world))
