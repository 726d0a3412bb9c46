use Rattle.std.proofs.Common.{◌∷◌, [], length, arith}
use Rattle.std.proofs.lemmas.Grind.{common_steps}
use Rattle.lq_plan.specs.Slots.{values_in}
use Rattle.lq_plan.proofs.AggregateLaws.{tally_put}
use Rattle.lq_plan.proofs.sources.Sources.group_read.Goals as goal

pub returns-in_ok-push-in-Some-clause-read : goal.returns-in_ok-push-in-Some-clause-read
returns-in_ok-push-in-Some-clause-read g c =
    tally_put (length (values_in c.args.slots.now)) c.args.form.now _ _ c.in-Some.tally c.len-place.result c.in_ok-push-in-Some.ensures.items
    (grind (arith, common_steps, c.len-place.ensures)) c.in-Some.ensures.tally

pub returns-in_ok-push-in-Some-clause-more : goal.returns-in_ok-push-in-Some-clause-more
returns-in_ok-push-in-Some-clause-more g c = (c.in-Some.tally ∷ [], c.in_ok-push-in-Some.ensures.items, (c.in-Some.ensures.cell, tt))
