use Rattle.std.proofs.lemmas.Result.{err_from_is_err_and}
use Rattle.lq_conversation.specs.declared.next.Next.TheVariants as next
use Rattle.std.proofs.Common.{string_bytes, refl}
use Rattle.lq_conversation.specs.Scripts.{RunsFile}
use Rattle.lq_conversation.specs.Conversations.{AnswersTyped}
use Rattle.lq_prompt.specs.Desks.{desk_of}
use Rattle.lq_conversation.proofs.InputLemmas.{by-cut, by-quit, by-run, by-said, said_next}
use Rattle.lq_conversation.proofs.WriterLemmas.{each_err, each_ok, on_err}
use Rattle.lq_conversation.proofs.conversation.answer_typed.Goals as goal

pub returns-in_err-answer_input-clause-ok : goal.returns-in_err-answer_input-clause-ok
returns-in_err-answer_input-clause-ok g c = let p = err_from_is_err_and c.from_residual.result c.from_residual.ensures.1 in rw p.1 tt

pub returns-in_err-answer_input-clause-err : goal.returns-in_err-answer_input-clause-err
returns-in_err-answer_input-clause-err g c = on_err _ (by-cut (RunsFile (g.F.Files.holds c.args.files.now)) _ _ _ _ _ c.in_err-answer_input.ensures.err)

pub returns-in_err-answer_input-clause-unmarked : goal.returns-in_err-answer_input-clause-unmarked
returns-in_err-answer_input-clause-unmarked g c = let p = err_from_is_err_and c.from_residual.result c.from_residual.ensures.1 in rw p.1 tt

pub returns-in_err-answer_input-clause-marked : goal.returns-in_err-answer_input-clause-marked
returns-in_err-answer_input-clause-marked g c = on_err _ c.in_err-answer_input.ensures.marked

pub returns-in_err-answer_input-clause-keeps : goal.returns-in_err-answer_input-clause-keeps
returns-in_err-answer_input-clause-keeps g c = λ name. refl

pub returns-in-Line-clause-ok : goal.returns-in-Line-clause-ok
returns-in-Line-clause-ok g c = by-said (RunsFile (g.F.Files.holds c.args.files.now)) _ _ _ _ _ (said_next _ _ _ _ _ _ next.Line c.in-Line.is c.in_ok-answer_input.ensures.ok)

pub returns-in-Line-clause-err : goal.returns-in-Line-clause-err
returns-in-Line-clause-err g c = tt

pub returns-in-Line-clause-unmarked : goal.returns-in-Line-clause-unmarked
returns-in-Line-clause-unmarked g c = c.in_ok-answer_input.ensures.unmarked

pub returns-in-Line-clause-marked : goal.returns-in-Line-clause-marked
returns-in-Line-clause-marked g c = tt

pub returns-in-Line-clause-keeps : goal.returns-in-Line-clause-keeps
returns-in-Line-clause-keeps g c = λ name. refl

pub returns-in-Nothing-clause-ok : goal.returns-in-Nothing-clause-ok
returns-in-Nothing-clause-ok g c = by-quit (RunsFile (g.F.Files.holds c.args.files.now)) _ _ _ _ _ (said_next _ _ _ _ _ _ next.Nothing c.in-Nothing.is c.in_ok-answer_input.ensures.ok)

pub returns-in-Nothing-clause-err : goal.returns-in-Nothing-clause-err
returns-in-Nothing-clause-err g c = tt

pub returns-in-Nothing-clause-unmarked : goal.returns-in-Nothing-clause-unmarked
returns-in-Nothing-clause-unmarked g c = c.in_ok-answer_input.ensures.unmarked

pub returns-in-Nothing-clause-marked : goal.returns-in-Nothing-clause-marked
returns-in-Nothing-clause-marked g c = tt

pub returns-in-Nothing-clause-keeps : goal.returns-in-Nothing-clause-keeps
returns-in-Nothing-clause-keeps g c = λ name. refl

pub returns-clause-ok : goal.returns-clause-ok
returns-clause-ok g c =
    each_ok (λ bytes outcome. RunsFile (g.F.Files.holds c.args.files.now) (string_bytes c.in-Script.file) (desk_of c.answer_input.new.desk) (desk_of c.run_file.new.desk) bytes outcome)
    (λ bytes outcome. AnswersTyped (g.F.Files.holds c.args.files.now) c.args.input (desk_of c.args.desk.now) (desk_of c.run_file.new.desk) bytes outcome) _ _ _ c.run_file.result
    (λ outcome ran. by-run (RunsFile (g.F.Files.holds c.args.files.now)) _ _ _ _ _ _ _ _ outcome (said_next _ _ _ _ _ _ (next.Script c.in-Script.file) c.in-Script.is c.in_ok-answer_input.ensures.ok) ran) (rw c.as_str.ensures.value at c.run_file.ensures.ok)

pub returns-clause-err : goal.returns-clause-err
returns-clause-err g c =
    each_err (λ bytes outcome. RunsFile (g.F.Files.holds c.args.files.now) (string_bytes c.in-Script.file) (desk_of c.answer_input.new.desk) (desk_of c.run_file.new.desk) bytes outcome)
    (λ bytes outcome. AnswersTyped (g.F.Files.holds c.args.files.now) c.args.input (desk_of c.args.desk.now) (desk_of c.run_file.new.desk) bytes outcome) _ _ _ c.run_file.result
    (λ outcome ran. by-run (RunsFile (g.F.Files.holds c.args.files.now)) _ _ _ _ _ _ _ _ outcome (said_next _ _ _ _ _ _ (next.Script c.in-Script.file) c.in-Script.is c.in_ok-answer_input.ensures.ok) ran) (rw c.as_str.ensures.value at c.run_file.ensures.err)

pub returns-clause-unmarked : goal.returns-clause-unmarked
returns-clause-unmarked g c = c.run_file.ensures.unmarked

pub returns-clause-marked : goal.returns-clause-marked
returns-clause-marked g c = c.run_file.ensures.marked

pub returns-clause-keeps : goal.returns-clause-keeps
returns-clause-keeps g c = c.run_file.ensures.keeps
