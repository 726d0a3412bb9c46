use Rattle.std.proofs.Common.{◌<◌, ◌∙◌, length, sym, arith}
use Rattle.lq_operators.proofs.GroupTallyLemmas.{number_missed, number_put}
use Rattle.lq_operators.proofs.tally_rows.add_numbers.Goals as goal
use Rattle.lq_operators.proofs.tally_rows.add_numbers.Goals.{in-Some, in_default}

pub loop-place-preserved : goal.loop-place-preserved
loop-place-preserved c =
    let here : c.loop-place.place < length c.loop-place.tallies = omega arith in
    elim c.match-get.branch [
      | in-Some w ↦ number_put _ _ _ _ _ _ _ _ here (sym c.get.ensures ∙ w.in-Some.is) w.add_number.ensures w.tallies-is c.loop-place.invariant
      | in_default w ↦ number_missed _ _ _ _ _ _ here (sym c.get.ensures ∙ w.in_default.is) w.tallies-is c.loop-place.invariant
    ]
