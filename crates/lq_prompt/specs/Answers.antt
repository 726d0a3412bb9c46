-- What a desk answers to a line.
use Rattle.std.specs.Prelude.{◌≡◌, ◌∷◌, List, [], ℕ, false, Option, Some, None, Result, Ok, Err, string_bytes}
use Rattle.std.specs.Str.{IsUtf8}
use Rattle.lq_value.specs.Tables.{Table, first_named}
use Rattle.lq_value.specs.declared.ty.Ty.{Ty}
use Rattle.lq_host.specs.Hosts.{Hosts}
use Rattle.lq_audit.specs.Disclosure.{Discloses}
use Rattle.lq_audit.specs.declared.answers.Why.{Why}
use Rattle.lq_command.specs.declared.command.Command.{Command}
use Rattle.lq_command.specs.declared.command.Command.TheVariants as command
use Rattle.lq_command.specs.declared.command.Misuse.{Misuse}
use Rattle.lq_machine.specs.Machine.{Reply}
use Rattle.lq_machine.specs.States.{State, schemas_of}
use Rattle.lq_run.specs.States.{SessionState}
use Rattle.lq_session.specs.Calls.{AnswersAndLogs}
use Rattle.lq_render.specs.Layouts.{shape_of}
use Rattle.lq_render.specs.Replies.{bytes_text, front_of, line_text}
use Rattle.lq_security.specs.declared.policy.Action.{Action}
use Rattle.lq_machine.specs.ServedTypes.{line_type}
use Rattle.lq_store.specs.Rules.{name_of}
use Rattle.lq_prompt.specs.Names.{names_text}
use Rattle.lq_prompt.specs.Reasons.{no_table_text, why_text}
use Rattle.lq_prompt.specs.Rights.{rights_text}
use Rattle.lq_prompt.specs.Roles.{present_role, roles_text}
use Rattle.lq_prompt.specs.Sentences.{json_text, misuse_text, rows_text, time_text}
use Rattle.lq_prompt.specs.Tables.{tables_text}
use Rattle.lq_prompt.specs.declared.help.TheConstants.{HELP}
use Rattle.lq_prompt.specs.declared.answer.Answer.{Answer}
use Rattle.lq_prompt.specs.declared.answer.Answer.TheVariants as answer
use Rattle.lq_prompt.specs.declared.settings.Settings.{Settings}

-- ---- statements

-- A reply's line as people read it, by the type that it is served by; bytes that are no UTF-8 as a sentence that says so.
pub record IsTextOf (settings : Settings) (tables : List Table) (ty : Option Ty) (line text : List ℕ) : Type 0 where
  pub is_text : IsUtf8 (front_of line) → text ≡ line_text (shape_of (schemas_of tables) settings.most_rows ty) (front_of line)
  pub is_sentence : ¬ IsUtf8 (front_of line) → text ≡ bytes_text

-- A reply is shown as people read it, unless it was asked for as its line of JSON; and as that, too, where there was no memory for the
-- text. Nothing is shown of none.
abbrev pub Shows : Settings → List Table → Option Ty → Reply → Answer → Type 0
Shows settings tables ty None answer.Nothing = Unit {0}
Shows settings tables ty (Some line) (answer.Shown text) = (settings.is_json ≡ false) × IsTextOf settings tables ty line (string_bytes text)
Shows settings tables ty (Some line) (answer.Reply shown) = shown ≡ line
Shows settings tables ty reply given = ⊥

-- A statement was stepped, once, and its reply is shown.
pub record Steps (settings : Settings) (statement : List ℕ) (old new : State) (hosts hosts_after : Hosts) (given : Answer) : Type 0 where
  pub reply : Reply
  pub stepped : AnswersAndLogs old hosts statement reply new hosts_after
  pub shown : Shows settings new.tables (line_type old statement) reply given

-- ---- commands

-- what a command is about, which follows its name
abbrev pub object_of : List (List ℕ) → List ℕ
object_of (name ∷ object ∷ more) = object
object_of other = []

-- the settings after a command
abbrev pub settings_after : Result Command Misuse → Settings → Settings
settings_after (Ok (command.Rows most)) settings = record settings { most_rows = most }
settings_after (Ok (command.Json is_json)) settings = record settings { is_json = is_json }
settings_after (Ok (command.Time is_timed)) settings = record settings { is_timed = is_timed }
settings_after other settings = settings

-- A question about a row is answered with what may be disclosed of it to a session that began under a role.
pub record Explains (s : SessionState) (starting : ℕ) (act : Action) (table : List ℕ) (place number : ℕ) (text : List ℕ) : Type 0 where
  pub why : Why
  pub disclosed : Discloses s.tables s.policies s.role starting act place number why
  pub reported : text ≡ why_text (record { role = present_role s; table = table; number = number; act = act }) why

abbrev pub ExplainsIn : SessionState → ℕ → Action → List ℕ → ℕ → List ℕ → Option ℕ → Type 0
ExplainsIn s starting act table number text None = text ≡ no_table_text table
ExplainsIn s starting act table number text (Some place) = Explains s starting act table place number text

-- What a desk is: the machine's state, the session's beside it, without the host predicates, these with the log of their calls, the role
-- that the session began under, and how replies are shown.
pub record DeskState : Type 0 where
  pub state : State
  pub session : SessionState
  pub hosts : Hosts
  pub starting : ℕ
  pub settings : Settings

-- what a command is answered at this desk with a text
abbrev pub TellsText : DeskState → Result Command Misuse → List ℕ → List ℕ → Type 0
TellsText desk (Ok command.Tables) object text = text ≡ tables_text desk.session
TellsText desk (Ok command.Roles) object text = text ≡ roles_text desk.session
TellsText desk (Ok command.Names) object text = text ≡ names_text desk.state
TellsText desk (Ok command.Rights) object text = text ≡ rights_text desk.session
TellsText desk (Ok (command.Why number act)) object text =
    ExplainsIn desk.session desk.starting act object number text (first_named name_of object desk.session.tables)
TellsText desk (Ok (command.Rows most)) object text = text ≡ rows_text most
TellsText desk (Ok (command.Json is_json)) object text = text ≡ json_text is_json
TellsText desk (Ok (command.Time is_timed)) object text = text ≡ time_text is_timed
TellsText desk (Ok command.Help) object text = text ≡ HELP.now
TellsText desk (Ok command.Run) object text = ⊥
TellsText desk (Ok command.Quit) object text = ⊥
TellsText desk (Err misuse) object text = text ≡ misuse_text misuse

-- a command is answered with a text, but `.run FILE` with the file, and `.quit` with the end
abbrev pub Tells : DeskState → Result Command Misuse → List ℕ → Answer → Type 0
Tells desk spelled object (answer.Text text) = TellsText desk spelled object (string_bytes text)
Tells desk spelled object (answer.Script file) = (spelled ≡ Ok command.Run) × (string_bytes file ≡ object)
Tells desk spelled object answer.End = spelled ≡ Ok command.Quit
Tells desk spelled object given = ⊥
