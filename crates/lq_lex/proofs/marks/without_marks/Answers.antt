use Rattle.std.proofs.Common.{◌∙◌, arith, length-drop}
use Rattle.lq_lex.proofs.MarkLemmas.{marked, marked_text, unmarked}
use Rattle.lq_lex.proofs.marks.without_marks.Goals as goal

pub loop-tail-preserved : goal.loop-tail-preserved
loop-tail-preserved c =
    let inv = c.loop-tail.invariant in
    let cut = c.in-Some.ensures.cases in
    let text = marked_text c.loop-tail.rest.now cut.0 in
    record {
      same = rw cut.1 ((marked c.loop-tail.rest.now cut.0).1 ∙ inv.same);
      no_longer = rw cut.1 (omega (arith, length-drop 3 c.loop-tail.rest.now, inv.no_longer));
      text = rw cut.1 (λ t. inv.text.0 (text.0 t), λ t. text.1 (inv.text.1 t));
    }

pub returns-clause-marks : goal.returns-clause-marks
returns-clause-marks c = unmarked c.loop-tail.rest.now c.in_default.ensures.cases ∙ c.loop-tail.invariant.same
