use Rattle.std.proofs.Common.{◌∙◌, sym}
use Rattle.lq_operators.proofs.GroupLemmas.{placed_new}
use Rattle.lq_operators.proofs.keys.place_of.Goals as goal

pub returns-then-is_new-clause-place : goal.returns-then-is_new-clause-place
returns-then-is_new-clause-place g c =
    placed_new c.args.keys.now c.args.groups.now c.args.key.now c.in_ok-hashed.hashed c.requires c.in_ok-hashed.ensures
    (sym c.in_ok-number.ensures.new ∙ c.if-is_new.true)
