use Rattle.std.proofs.lemmas.Result.{err_from_is_err_and}
use Rattle.lq_conversation.specs.declared.next.Next.TheVariants as next
use Rattle.lq_conversation.specs.Scripts.{RefusesScript, no_other_text, AnswersInScript}
use Rattle.lq_conversation.specs.Outcomes.{Tells}
use Rattle.lq_prompt.specs.Desks.{desk_of}
use Rattle.lq_conversation.proofs.InputLemmas.{by-cut, by-quit, by-said, said_next}
use Rattle.lq_conversation.proofs.ScriptLemmas.{in_script-other}
use Rattle.lq_conversation.proofs.WriterLemmas.{each_err, each_ok, on_err}
use Rattle.lq_conversation.proofs.script.answer_in_script.Goals as goal

pub returns-in_err-answer_input-clause-ok : goal.returns-in_err-answer_input-clause-ok
returns-in_err-answer_input-clause-ok g c = let p = err_from_is_err_and c.from_residual.result c.from_residual.ensures.1 in rw p.1 tt

pub returns-in_err-answer_input-clause-err : goal.returns-in_err-answer_input-clause-err
returns-in_err-answer_input-clause-err g c = on_err _ (by-cut RefusesScript _ _ _ _ _ c.in_err-answer_input.ensures.err)

pub returns-in_err-answer_input-clause-unmarked : goal.returns-in_err-answer_input-clause-unmarked
returns-in_err-answer_input-clause-unmarked g c = let p = err_from_is_err_and c.from_residual.result c.from_residual.ensures.1 in rw p.1 tt

pub returns-in_err-answer_input-clause-marked : goal.returns-in_err-answer_input-clause-marked
returns-in_err-answer_input-clause-marked g c = on_err _ c.in_err-answer_input.ensures.marked

pub returns-in-Line-clause-ok : goal.returns-in-Line-clause-ok
returns-in-Line-clause-ok g c = by-said RefusesScript _ _ _ _ _ (said_next _ _ _ _ _ _ next.Line c.in-Line.is c.in_ok-answer_input.ensures.ok)

pub returns-in-Line-clause-err : goal.returns-in-Line-clause-err
returns-in-Line-clause-err g c = tt

pub returns-in-Line-clause-unmarked : goal.returns-in-Line-clause-unmarked
returns-in-Line-clause-unmarked g c = c.in_ok-answer_input.ensures.unmarked

pub returns-in-Line-clause-marked : goal.returns-in-Line-clause-marked
returns-in-Line-clause-marked g c = tt

pub returns-in-Nothing-clause-ok : goal.returns-in-Nothing-clause-ok
returns-in-Nothing-clause-ok g c = by-quit RefusesScript _ _ _ _ _ (said_next _ _ _ _ _ _ next.Nothing c.in-Nothing.is c.in_ok-answer_input.ensures.ok)

pub returns-in-Nothing-clause-err : goal.returns-in-Nothing-clause-err
returns-in-Nothing-clause-err g c = tt

pub returns-in-Nothing-clause-unmarked : goal.returns-in-Nothing-clause-unmarked
returns-in-Nothing-clause-unmarked g c = c.in_ok-answer_input.ensures.unmarked

pub returns-in-Nothing-clause-marked : goal.returns-in-Nothing-clause-marked
returns-in-Nothing-clause-marked g c = tt

pub returns-in-Script-clause-ok : goal.returns-in-Script-clause-ok
returns-in-Script-clause-ok g c =
    each_ok (λ bytes outcome. Tells no_other_text bytes outcome) (λ bytes outcome. AnswersInScript c.args.input.now (desk_of c.args.desk.now) (desk_of c.answer_input.new.desk) bytes outcome) _ _ _ c.say.result
    (λ outcome told. in_script-other _ _ _ _ _ _ _ outcome (said_next _ _ _ _ _ _ (next.Script c.in-Script._other) c.in-Script.is c.in_ok-answer_input.ensures.ok) told) c.say.ensures.ok

pub returns-in-Script-clause-err : goal.returns-in-Script-clause-err
returns-in-Script-clause-err g c =
    each_err (λ bytes outcome. Tells no_other_text bytes outcome) (λ bytes outcome. AnswersInScript c.args.input.now (desk_of c.args.desk.now) (desk_of c.answer_input.new.desk) bytes outcome) _ _ _ c.say.result
    (λ outcome told. in_script-other _ _ _ _ _ _ _ outcome (said_next _ _ _ _ _ _ (next.Script c.in-Script._other) c.in-Script.is c.in_ok-answer_input.ensures.ok) told) c.say.ensures.err

pub returns-in-Script-clause-unmarked : goal.returns-in-Script-clause-unmarked
returns-in-Script-clause-unmarked g c = c.say.ensures.unmarked

pub returns-in-Script-clause-marked : goal.returns-in-Script-clause-marked
returns-in-Script-clause-marked g c = c.say.ensures.marked
