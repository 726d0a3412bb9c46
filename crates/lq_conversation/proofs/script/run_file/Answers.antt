use Rattle.std.proofs.Common.{refl}
use Rattle.lq_prompt.specs.Desks.{desk_of}
use Rattle.lq_conversation.specs.Outcomes.{Tells}
use Rattle.lq_conversation.specs.Scripts.{RunsFile, RunsScript, fault_text}
use Rattle.lq_conversation.proofs.ScriptLemmas.{file-fault, file-lines}
use Rattle.lq_conversation.proofs.WriterLemmas.{each_err, each_ok}
use Rattle.lq_conversation.proofs.script.run_file.Goals as goal

pub returns-in-Ok-clause-ok : goal.returns-in-Ok-clause-ok
returns-in-Ok-clause-ok g c =
    each_ok (λ bytes outcome. RunsScript c.in-Ok.script.items (desk_of c.args.desk.now) (desk_of c.answer_script.new.desk) bytes outcome)
    (λ bytes outcome. RunsFile (g.F.Files.holds c.args.files.now) c.args.file.now (desk_of c.args.desk.now) (desk_of c.answer_script.new.desk) bytes outcome) _ _ _ c.answer_script.result
    (λ outcome ran. file-lines _ _ _ _ _ _ outcome c.in-Ok.script _ c.in-Ok.ensures.script refl ran) (rw c.as_slice.ensures.value at c.answer_script.ensures.ok)

pub returns-in-Err-clause-ok : goal.returns-in-Err-clause-ok
returns-in-Err-clause-ok g c =
    each_ok (λ bytes outcome. Tells (fault_text c.in-Err.fault) bytes outcome)
    (λ bytes outcome. RunsFile (g.F.Files.holds c.args.files.now) c.args.file.now (desk_of c.args.desk.now) (desk_of c.args.desk.now) bytes outcome) _ _ _ c.say.result
    (λ outcome told. file-fault _ _ _ _ _ _ outcome c.in-Err.fault _ c.in-Err.ensures.script refl refl told) (rw c.fault_text.ensures at c.say.ensures.ok)

pub returns-in-Ok-clause-err : goal.returns-in-Ok-clause-err
returns-in-Ok-clause-err g c =
    each_err (λ bytes outcome. RunsScript c.in-Ok.script.items (desk_of c.args.desk.now) (desk_of c.answer_script.new.desk) bytes outcome)
    (λ bytes outcome. RunsFile (g.F.Files.holds c.args.files.now) c.args.file.now (desk_of c.args.desk.now) (desk_of c.answer_script.new.desk) bytes outcome) _ _ _ c.answer_script.result
    (λ outcome ran. file-lines _ _ _ _ _ _ outcome c.in-Ok.script _ c.in-Ok.ensures.script refl ran) (rw c.as_slice.ensures.value at c.answer_script.ensures.err)

pub returns-in-Err-clause-err : goal.returns-in-Err-clause-err
returns-in-Err-clause-err g c =
    each_err (λ bytes outcome. Tells (fault_text c.in-Err.fault) bytes outcome)
    (λ bytes outcome. RunsFile (g.F.Files.holds c.args.files.now) c.args.file.now (desk_of c.args.desk.now) (desk_of c.args.desk.now) bytes outcome) _ _ _ c.say.result
    (λ outcome told. file-fault _ _ _ _ _ _ outcome c.in-Err.fault _ c.in-Err.ensures.script refl refl told) (rw c.fault_text.ensures at c.say.ensures.err)

pub returns-in-Ok-clause-unmarked : goal.returns-in-Ok-clause-unmarked
returns-in-Ok-clause-unmarked g c = c.answer_script.ensures.unmarked

pub returns-in-Ok-clause-marked : goal.returns-in-Ok-clause-marked
returns-in-Ok-clause-marked g c = c.answer_script.ensures.marked

pub returns-in-Ok-clause-keeps : goal.returns-in-Ok-clause-keeps
returns-in-Ok-clause-keeps g c = c.in-Ok.ensures.keeps

pub returns-in-Err-clause-unmarked : goal.returns-in-Err-clause-unmarked
returns-in-Err-clause-unmarked g c = c.say.ensures.unmarked

pub returns-in-Err-clause-marked : goal.returns-in-Err-clause-marked
returns-in-Err-clause-marked g c = c.say.ensures.marked

pub returns-in-Err-clause-keeps : goal.returns-in-Err-clause-keeps
returns-in-Err-clause-keeps g c = c.in-Err.ensures.keeps
