-- The literal's number, with the other sign.
use Rattle.std.proofs.Common.{rules, sym, ◌∙◌, of_z, to_z, w32}
use Rattle.lq_rule.proofs.FormLemmas.{stands_negative}
use Rattle.lq_rule.proofs.literals.negative.Goals as goal

pub returns-in-Some : goal.returns-in-Some
returns-in-Some c columns =
    stands_negative columns c.args.operand.now c.in-Some.number (to_z w32 (of_z w32 c.in-Some.number)) c.negative_of.result
    (sym c.integer_in.ensures ∙ c.in-Some.is) (search rules) c.negative_of.ensures
