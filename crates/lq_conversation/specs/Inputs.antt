-- How one input is answered.
use Rattle.std.specs.Prelude.{◌≡◌, ◌++◌, List, [], ℕ, Result, Ok, Err, String, codes, string_bytes}
use Rattle.std.specs.declared.alloc.AllocError.{AllocError}
use Rattle.std.specs.declared.alloc.Global.{Global}
use Rattle.lq_command.specs.declared.input.Input.{Input}
use Rattle.lq_command.specs.declared.input.Input.TheVariants as input
use Rattle.lq_prompt.specs.Answers.{DeskState}
use Rattle.lq_prompt.specs.Desks.{AnswersLine}
use Rattle.lq_prompt.specs.declared.answer.Answer.{Answer}
use Rattle.lq_prompt.specs.declared.answer.Answer.TheVariants as answer
use Rattle.lq_conversation.specs.Outcomes.{Outcome, goes_on, has_ended, has_failed}
use Rattle.lq_conversation.specs.declared.next.Next.{Next}
use Rattle.lq_conversation.specs.declared.next.Next.TheVariants as next

-- what is written of an answer
abbrev pub text_of : Answer → List ℕ
text_of answer.Nothing = []
text_of (answer.Shown text) = string_bytes text
text_of (answer.Reply line) = line
text_of (answer.Text text) = string_bytes text
text_of (answer.Script file) = []
text_of answer.End = []

-- what is left to do after it
abbrev pub next_after : Answer → Next
next_after answer.Nothing = next.Line
next_after (answer.Shown text) = next.Line
next_after (answer.Reply line) = next.Line
next_after (answer.Text text) = next.Line
next_after (answer.Script file) = next.Script file
next_after answer.End = next.Nothing

abbrev pub no_memory_text : List ℕ
no_memory_text = codes "There was not enough memory for that, and nothing was done.\n"

-- what is written of what the desk gave for a line: its answer, or a sentence where memory was refused
abbrev pub said_of : Result Answer AllocError → List ℕ
said_of (Ok given) = text_of given
said_of (Err e) = no_memory_text

abbrev pub left_after : Result Answer AllocError → Next
left_after (Ok given) = next_after given
left_after (Err e) = next.Line

-- the desk answered the line; or memory was refused, and then the desk is as it was
abbrev pub IsGiven : List ℕ → DeskState → DeskState → Result Answer AllocError → Type 0
IsGiven line old new (Ok given) = AnswersLine line old new given
IsGiven line old new (Err e) = new ≡ old

-- The desk was asked a line, once, and what is written is what it gave.
pub record AnswersOnce (line : List ℕ) (old new : DeskState) (written : List ℕ) (left : Next) : Type 0 where
  pub given : Result Answer AllocError
  pub is_given : IsGiven line old new given
  pub is_written : written ≡ said_of given
  pub is_left : left ≡ left_after given

abbrev pub too_long_text : List ℕ
too_long_text = codes "The line has more than 65,536 bytes, and was not read: write a shorter one.\n"

abbrev pub no_text_text : List ℕ
no_text_text = codes "The line is not UTF-8, and was not read: write it in UTF-8.\n"

abbrev pub refused_line_text : List ℕ
refused_line_text = codes "There was not enough memory for the line: write a shorter one.\n"

-- a sentence is written, and the desk stays as it is
abbrev pub Complains : List ℕ → DeskState → DeskState → List ℕ → Next → Type 0
Complains text old new written left = (new ≡ old) × (written ≡ text) × (left ≡ next.Line)

-- A line is answered once. At the end nothing is written and the desk ends; what is no line is answered with a sentence.
abbrev pub AnswersInput : Input → DeskState → DeskState → List ℕ → Next → Type 0
AnswersInput (input.Line text) old new written left = AnswersOnce (string_bytes text) old new written left
AnswersInput input.TooLong old new written left = Complains too_long_text old new written left
AnswersInput input.NoText old new written left = Complains no_text_text old new written left
AnswersInput input.NoMemory old new written left = Complains refused_line_text old new written left
AnswersInput input.End old new written left = (new ≡ old) × (written ≡ []) × (left ≡ next.Nothing)

-- What is done with the script of a name: what it does to the desk, what is written, and how that leaves the conversation.
abbrev pub Running : Type 1
Running = List ℕ → DeskState → DeskState → List ℕ → Outcome → Type 0

-- An input is answered, and this is done with a script that it names. Of an answer over which the writer fails, the first is written.
pub data AnswersBy (Runs : Running) (given : Input) (old new : DeskState) (written : List ℕ) (outcome : Outcome) : Type 0 where
  says : AnswersInput given old new written next.Line → outcome ≡ goes_on → AnswersBy Runs given old new written outcome
  quits : AnswersInput given old new written next.Nothing → outcome ≡ has_ended → AnswersBy Runs given old new written outcome
  runs : (file : String Global) → (mid : DeskState) → (said later : List ℕ) → AnswersInput given old mid said (next.Script file)
      → Runs (string_bytes file) mid new later outcome → written ≡ said ++ later → AnswersBy Runs given old new written outcome
  cuts : (rest : List ℕ) → AnswersInput given old new (written ++ rest) next.Line → outcome ≡ has_failed
      → AnswersBy Runs given old new written outcome
