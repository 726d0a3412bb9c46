-- How the lines of a script are answered.
use Rattle.std.specs.Prelude.{◌≡◌, ◌+◌, if◌then◌else◌, List, [], ℕ, Option, Result, Ok, Err, Vec, IfSome, codes, length, nat_lt}
use Rattle.std.specs.declared.alloc.Global.{Global}
use Rattle.lq_command.specs.declared.input.Input.{Input}
use Rattle.lq_grammar.specs.Script.{lines_of, script_limit}
use Rattle.lq_prompt.specs.Answers.{DeskState}
use Rattle.lq_serve.specs.Files.{IsAnswer}
use Rattle.lq_serve.specs.declared.files.FileError.{FileError}
use Rattle.lq_serve.specs.declared.files.FileError.TheVariants as error
use Rattle.lq_conversation.specs.Inputs.{AnswersBy}
use Rattle.lq_conversation.specs.Outcomes.{Outcome, Tells, goes_on}
use Rattle.lq_conversation.specs.Turns.{Begins, InOrder}
use Rattle.lq_conversation.specs.declared.script.ScriptFault.{ScriptFault}
use Rattle.lq_conversation.specs.declared.script.ScriptFault.TheVariants as fault

abbrev pub no_other_text : List ℕ
no_other_text = codes "A script can't run another one.\n"

-- a script is refused with a sentence, and the desk stays as it is
abbrev pub RefusesScript : List ℕ → DeskState → DeskState → List ℕ → Outcome → Type 0
RefusesScript name old new written outcome = (new ≡ old) × Tells no_other_text written outcome

-- an input of a script is answered as one that was typed, but that another script isn't run
abbrev pub AnswersInScript : Input → DeskState → DeskState → List ℕ → Outcome → Type 0
AnswersInScript given old new written outcome = AnswersBy RefusesScript given old new written outcome

-- The lines of a script are answered in order: to its end, unless the desk ends or the writer fails before.
pub record RunsScript (script : List ℕ) (old new : DeskState) (written : List ℕ) (outcome : Outcome) : Type 0 where
  pub inputs : List Input
  pub left : List (List ℕ)
  pub given : Begins (lines_of script) left inputs
  pub answers : InOrder AnswersInScript inputs old new written outcome
  pub is_whole : outcome ≡ goes_on → left ≡ []

-- ---- files

abbrev pub fault_text : ScriptFault → List ℕ
fault_text fault.TooLong = codes "The script has more than 1,048,576 bytes, and no line of it was answered.\n"
fault_text fault.Unreadable = codes "There is no file of this name that can be read.\n"
fault_text fault.Memory = codes "There was not enough memory for the script.\n"

-- the script that a read gave, or why there is none
abbrev pub script_of : Result (Vec ℕ Global) FileError → Result (Vec ℕ Global) ScriptFault
script_of (Ok bytes) = if nat_lt script_limit (length bytes.items) then Err fault.TooLong else Ok bytes
script_of (Err error.Read) = Err fault.Unreadable
script_of (Err error.Memory) = Err fault.Memory

-- what a read of the file of this name gave, where it is known what the file holds
abbrev pub IsRead : (List ℕ → Option (Option (List ℕ))) → List ℕ → Result (Vec ℕ Global) FileError → Type 0
IsRead holds name gave = IfSome (holds name) (λ there. IsAnswer there (script_limit + 1) gave)

-- the lines of a script are answered, or a sentence says why there is none, and then the desk is as it was
abbrev pub Follows : Result (Vec ℕ Global) ScriptFault → DeskState → DeskState → List ℕ → Outcome → Type 0
Follows (Ok script) old new written outcome = RunsScript script.items old new written outcome
Follows (Err why) old new written outcome = (new ≡ old) × Tells (fault_text why) written outcome

-- The file of this name was read, and gave this script, or there is none for this reason.
pub record ReadsScript (holds : List ℕ → Option (Option (List ℕ))) (name : List ℕ) (script : Result (Vec ℕ Global) ScriptFault) : Type 0 where
  pub gave : Result (Vec ℕ Global) FileError
  pub is_read : IsRead holds name gave
  pub is_script : script ≡ script_of gave

-- The file of this name was read, and its lines are answered.
pub record RunsFile (holds : List ℕ → Option (Option (List ℕ))) (name : List ℕ) (old new : DeskState) (written : List ℕ) (outcome : Outcome)
    : Type 0 where
  pub script : Result (Vec ℕ Global) ScriptFault
  pub reads : ReadsScript holds name script
  pub follows : Follows script old new written outcome
