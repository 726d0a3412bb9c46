-- What a conversation does to the desk, and what it writes.
use Rattle.std.specs.Prelude.{◌≡◌, List, ℕ, Bool, true, false, Option}
use Rattle.std.specs.Io.KnownBytes.{Appends}
use Rattle.lq_command.specs.declared.input.Input.{Input}
use Rattle.lq_prompt.specs.Answers.{DeskState}
use Rattle.lq_conversation.specs.Inputs.{AnswersBy}
use Rattle.lq_conversation.specs.Outcomes.{Outcome, goes_on, has_ended, has_failed}
use Rattle.lq_conversation.specs.Scripts.{RunsFile}
use Rattle.lq_conversation.specs.Turns.{AnswersEach}

-- an input that was typed is answered, and where it names a file, the lines of the file are
abbrev pub AnswersTyped : (List ℕ → Option (Option (List ℕ))) → Input → DeskState → DeskState → List ℕ → Outcome → Type 0
AnswersTyped holds given old new written outcome = AnswersBy (RunsFile holds) given old new written outcome

-- Inputs of a reader are answered in order; it has counted them.
pub record AnswersInputs (holds : List ℕ → Option (Option (List ℕ))) (known : Option (List ℕ)) (from upto : ℕ) (old new : DeskState)
    (written : List ℕ) (outcome : Outcome) : Type 0 where
  pub left : Option (List ℕ)
  pub ended : Bool
  pub each : AnswersEach (AnswersTyped holds) known left ended from upto old new written outcome

-- the one outcome after which the line reader is marked: it has refused the next input
abbrev pub is_refusal : Outcome → Bool
is_refusal goes_on = true
is_refusal has_ended = false
is_refusal has_failed = false

-- the one outcome after which the writer is marked
abbrev pub is_failure : Outcome → Bool
is_failure has_failed = true
is_failure goes_on = false
is_failure has_ended = false

-- A conversation over what a reader has. Each input that it gave was answered once, in order, and the writer took what was answered, in that
-- order, whole unless it failed. It ends where the desk ends, or where the line reader has refused the next input, or the writer has failed, and
-- these two then show it.
pub record Conversation (holds : List ℕ → Option (Option (List ℕ))) (known : Option (List ℕ)) (from upto : ℕ) (old new : DeskState)
    (before after : Option (List ℕ)) (refused failed : Bool) : Type 0 where
  pub written : List ℕ
  pub outcome : Outcome
  pub answers : AnswersInputs holds known from upto old new written outcome
  pub took : Appends before after written
  pub marks_reader : refused ≡ is_refusal outcome
  pub marks_writer : failed ≡ is_failure outcome
