-- A desk, and what a line does to it.
use Rattle.std.specs.Prelude.{◌≡◌, List, ℕ, MatchBool}
use Rattle.std.specs.Str.{trim}
use Rattle.lq_command.specs.Commands.{command_of}
use Rattle.lq_command.specs.Typing.{closed, is_command}
use Rattle.lq_command.specs.Words.{words_of}
use Rattle.lq_policy.specs.Roles.{number_of}
use Rattle.lq_session.specs.States.{hosts_in, session_state, state_of}
use Rattle.lq_prompt.specs.Answers.{DeskState, Steps, Tells, object_of, settings_after}
use Rattle.lq_prompt.specs.declared.answer.Answer.{Answer}
use Rattle.lq_prompt.specs.declared.desk.Desk.{Desk}

abbrev pub desk_of : {a b c d e f : _} → Desk a b c d e f → DeskState
desk_of desk = record {
  state = state_of desk.session;
  session = session_state desk.session;
  hosts = hosts_in desk.session;
  starting = number_of desk.starting;
  settings = desk.settings;
}

-- A statement steps the session once, and changes nothing else.
pub record AnswersStatement (line : List ℕ) (old new : DeskState) (given : Answer) : Type 0 where
  pub steps : Steps old.settings (closed line) old.state new.state old.hosts new.hosts given
  pub settings : new.settings ≡ old.settings
  pub starting : new.starting ≡ old.starting

-- A command is answered from the state of the session, which stays as it was, and asks nobody.
pub record AnswersCommand (line : List ℕ) (old new : DeskState) (given : Answer) : Type 0 where
  pub tells : Tells old (command_of (words_of line)) (object_of (words_of line)) given
  pub state : new.state ≡ old.state
  pub hosts : new.hosts ≡ old.hosts
  pub settings : new.settings ≡ settings_after (command_of (words_of line)) old.settings
  pub starting : new.starting ≡ old.starting

-- what is done with a line, without the white space round it
abbrev pub AnswersTrimmed : List ℕ → DeskState → DeskState → Answer → Type 0
AnswersTrimmed line old new given = MatchBool (is_command line) (AnswersCommand line old new given) (AnswersStatement line old new given)

abbrev pub AnswersLine : List ℕ → DeskState → DeskState → Answer → Type 0
AnswersLine line old new given = AnswersTrimmed (trim line) old new given
