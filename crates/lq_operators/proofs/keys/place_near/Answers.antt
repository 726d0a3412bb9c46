use Rattle.std.proofs.Common.{◌∙◌, sym}
use Rattle.lq_operators.proofs.GroupLemmas.{near}
use Rattle.lq_operators.proofs.keys.place_near.Goals as goal

pub returns-then-is_group_of : goal.returns-then-is_group_of
returns-then-is_group_of g c = near c.args.key.now c.args.groups.now c.args.place (sym c.is_group_of.ensures ∙ c.if-is_group_of.true)
