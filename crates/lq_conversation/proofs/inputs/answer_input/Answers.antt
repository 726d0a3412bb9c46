use Rattle.std.proofs.Common.{Ok, refl}
use Rattle.lq_command.specs.declared.input.Input.TheVariants as input
use Rattle.lq_prompt.specs.Desks.{desk_of}
use Rattle.lq_conversation.specs.Inputs.{AnswersInput, no_text_text, refused_line_text, too_long_text}
use Rattle.lq_conversation.specs.declared.next.Next.TheVariants as next
use Rattle.lq_conversation.proofs.InputLemmas.{same_input, same_input-front, told-all, told-front}
use Rattle.lq_conversation.proofs.WriterLemmas.{Receives-none}
use Rattle.lq_conversation.proofs.inputs.answer_input.Goals as goal

pub returns-in-Line-clause-ok : goal.returns-in-Line-clause-ok
returns-in-Line-clause-ok g c = same_input c.args.input.now (input.Line _) c.in-Line.is _ _ _ _ c.answer_line.result (rw c.as_str.ensures.value at c.answer_line.ensures.ok)

pub returns-in-Line-clause-err : goal.returns-in-Line-clause-err
returns-in-Line-clause-err g c = same_input-front c.args.input.now (input.Line _) c.in-Line.is _ _ _ _ c.answer_line.result (rw c.as_str.ensures.value at c.answer_line.ensures.err)

pub returns-in-Line-clause-unmarked : goal.returns-in-Line-clause-unmarked
returns-in-Line-clause-unmarked g c = c.answer_line.ensures.unmarked

pub returns-in-Line-clause-marked : goal.returns-in-Line-clause-marked
returns-in-Line-clause-marked g c = c.answer_line.ensures.marked

pub returns-in-TooLong-clause-ok : goal.returns-in-TooLong-clause-ok
returns-in-TooLong-clause-ok g c = same_input c.args.input.now input.TooLong c.in-TooLong.is _ _ _ _ c.complain.result (told-all (AnswersInput input.TooLong (desk_of c.args.desk.now) (desk_of c.args.desk.now)) c.complain.result too_long_text _ _ (refl, refl, refl) c.complain.ensures.ok)

pub returns-in-TooLong-clause-err : goal.returns-in-TooLong-clause-err
returns-in-TooLong-clause-err g c = same_input-front c.args.input.now input.TooLong c.in-TooLong.is _ _ _ _ c.complain.result (told-front (AnswersInput input.TooLong (desk_of c.args.desk.now) (desk_of c.args.desk.now)) c.complain.result too_long_text _ _ (refl, refl, refl) c.complain.ensures.err)

pub returns-in-TooLong-clause-unmarked : goal.returns-in-TooLong-clause-unmarked
returns-in-TooLong-clause-unmarked g c = c.complain.ensures.unmarked

pub returns-in-TooLong-clause-marked : goal.returns-in-TooLong-clause-marked
returns-in-TooLong-clause-marked g c = c.complain.ensures.marked

pub returns-in-NoText-clause-ok : goal.returns-in-NoText-clause-ok
returns-in-NoText-clause-ok g c = same_input c.args.input.now input.NoText c.in-NoText.is _ _ _ _ c.complain-in-NoText.result (told-all (AnswersInput input.NoText (desk_of c.args.desk.now) (desk_of c.args.desk.now)) c.complain-in-NoText.result no_text_text _ _ (refl, refl, refl) c.complain-in-NoText.ensures.ok)

pub returns-in-NoText-clause-err : goal.returns-in-NoText-clause-err
returns-in-NoText-clause-err g c = same_input-front c.args.input.now input.NoText c.in-NoText.is _ _ _ _ c.complain-in-NoText.result (told-front (AnswersInput input.NoText (desk_of c.args.desk.now) (desk_of c.args.desk.now)) c.complain-in-NoText.result no_text_text _ _ (refl, refl, refl) c.complain-in-NoText.ensures.err)

pub returns-in-NoText-clause-unmarked : goal.returns-in-NoText-clause-unmarked
returns-in-NoText-clause-unmarked g c = c.complain-in-NoText.ensures.unmarked

pub returns-in-NoText-clause-marked : goal.returns-in-NoText-clause-marked
returns-in-NoText-clause-marked g c = c.complain-in-NoText.ensures.marked

pub returns-in-NoMemory-clause-ok : goal.returns-in-NoMemory-clause-ok
returns-in-NoMemory-clause-ok g c = same_input c.args.input.now input.NoMemory c.in-NoMemory.is _ _ _ _ c.complain-in-NoMemory.result (told-all (AnswersInput input.NoMemory (desk_of c.args.desk.now) (desk_of c.args.desk.now)) c.complain-in-NoMemory.result refused_line_text _ _ (refl, refl, refl) c.complain-in-NoMemory.ensures.ok)

pub returns-in-NoMemory-clause-err : goal.returns-in-NoMemory-clause-err
returns-in-NoMemory-clause-err g c = same_input-front c.args.input.now input.NoMemory c.in-NoMemory.is _ _ _ _ c.complain-in-NoMemory.result (told-front (AnswersInput input.NoMemory (desk_of c.args.desk.now) (desk_of c.args.desk.now)) c.complain-in-NoMemory.result refused_line_text _ _ (refl, refl, refl) c.complain-in-NoMemory.ensures.err)

pub returns-in-NoMemory-clause-unmarked : goal.returns-in-NoMemory-clause-unmarked
returns-in-NoMemory-clause-unmarked g c = c.complain-in-NoMemory.ensures.unmarked

pub returns-in-NoMemory-clause-marked : goal.returns-in-NoMemory-clause-marked
returns-in-NoMemory-clause-marked g c = c.complain-in-NoMemory.ensures.marked

pub returns-in-End-clause-ok : goal.returns-in-End-clause-ok
returns-in-End-clause-ok g c = same_input c.args.input.now input.End c.in-End.is _ _ _ _ (Ok next.Nothing) (Receives-none _ (refl, refl, refl))

pub returns-in-End-clause-err : goal.returns-in-End-clause-err
returns-in-End-clause-err g c = tt

pub returns-in-End-clause-unmarked : goal.returns-in-End-clause-unmarked
returns-in-End-clause-unmarked g c = c.requires

pub returns-in-End-clause-marked : goal.returns-in-End-clause-marked
returns-in-End-clause-marked g c = tt
