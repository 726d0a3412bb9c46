-- The ends that a sign has beside a number are those of the range.
use Rattle.std.proofs.Common.{rules, SFits, w32}
use Rattle.std.proofs.lemmas.Int.{to_z-of_z}
use Rattle.lq_rule.proofs.RangeLemmas.{range_agrees}
use Rattle.lq_rule.proofs.ranges.range_of_sign.Goals as goal

pub returns : goal.returns
returns c =
    let fits : SFits w32 c.args.number = search rules in
    range_agrees c.args.sign c.args.place c.args.number c.in_ok-numbers_beside.field-0 (simp to_z-of_z at c.in_ok-numbers_beside.ensures)
