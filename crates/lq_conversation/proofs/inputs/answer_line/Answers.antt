use Rattle.std.proofs.Common.{ap}
use Rattle.std.proofs.lemmas.Result.{on_err_weaker}
use Rattle.lq_prompt.specs.Desks.{desk_of}
use Rattle.lq_conversation.proofs.InputLemmas.{given-all, given-front, is_given}
use Rattle.lq_conversation.proofs.inputs.answer_line.Goals as goal

pub returns-clause-ok : goal.returns-clause-ok
returns-clause-ok g c =
    given-all _ _ _ c.answer-given.result (is_given _ _ _ c.answer-given.result c.answer-given.ensures.ok (on_err_weaker c.answer-given.result (ap desk_of) c.answer-given.ensures.err)) _ _
    c.write_given.result c.write_given.ensures.ok

pub returns-clause-err : goal.returns-clause-err
returns-clause-err g c =
    given-front _ _ _ c.answer-given.result (is_given _ _ _ c.answer-given.result c.answer-given.ensures.ok (on_err_weaker c.answer-given.result (ap desk_of) c.answer-given.ensures.err)) _ _
    c.write_given.result c.write_given.ensures.err

pub returns-clause-unmarked : goal.returns-clause-unmarked
returns-clause-unmarked g c = c.write_given.ensures.unmarked

pub returns-clause-marked : goal.returns-clause-marked
returns-clause-marked g c = c.write_given.ensures.marked
