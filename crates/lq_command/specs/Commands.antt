-- The commands of the prompt, and how they are written.
use Rattle.std.specs.Prelude.{◌∷◌, ◌==◌, ◌&&◌, not, if◌then◌else◌, List, [], ℕ, Bool, true, false, Option, Some, None, Result, Ok, Err, bytes_eq, codes, length, nat_lt, option_map}
use Rattle.std.specs.List.{list_all}
use Rattle.lq_grammar.specs.Tokens.{decimal_value, is_digit}
use Rattle.lq_security.specs.declared.policy.Action.{Action}
use Rattle.lq_security.specs.declared.policy.Action.TheVariants as action
use Rattle.lq_command.specs.declared.command.Command.{Command}
use Rattle.lq_command.specs.declared.command.Command.TheVariants as command
use Rattle.lq_command.specs.declared.command.Misuse.{Misuse}
use Rattle.lq_command.specs.declared.command.Misuse.TheVariants as misuse
use Rattle.lq_command.specs.declared.verb.Verb.{Verb}
use Rattle.lq_command.specs.declared.verb.Verb.TheVariants as verb

-- ---- words

-- what runs the desk, explains it or ends it
abbrev pub session_verb_of : List ℕ → Option Verb
session_verb_of name =
    if bytes_eq name (codes ".run") then Some verb.Run
    else if bytes_eq name (codes ".help") then Some verb.Help
    else if bytes_eq name (codes ".quit") then Some verb.Quit
    else None

-- what sets how the desk answers
abbrev pub setting_verb_of : List ℕ → Option Verb
setting_verb_of name =
    if bytes_eq name (codes ".rows") then Some verb.Rows
    else if bytes_eq name (codes ".json") then Some verb.Json
    else if bytes_eq name (codes ".time") then Some verb.Time
    else session_verb_of name

-- what asks about the session, and all others
abbrev pub verb_of : List ℕ → Option Verb
verb_of name =
    if bytes_eq name (codes ".tables") then Some verb.Tables
    else if bytes_eq name (codes ".roles") then Some verb.Roles
    else if bytes_eq name (codes ".names") then Some verb.Names
    else if bytes_eq name (codes ".rights") then Some verb.Rights
    else if bytes_eq name (codes ".why") then Some verb.Why
    else setting_verb_of name

abbrev pub switch_of : List ℕ → Option Bool
switch_of word = if bytes_eq word (codes "on") then Some true else if bytes_eq word (codes "off") then Some false else None

abbrev pub action_of : List ℕ → Option Action
action_of word = if bytes_eq word (codes "delete") then Some action.Delete else if bytes_eq word (codes "insert") then Some action.Insert else None

-- a number is written by decimal digits, and is below 10^18
abbrev pub is_number : List ℕ → Bool
is_number word = not (length word == 0) && list_all is_digit word

abbrev pub number_limit : ℕ
number_limit = 1000000000000000000

abbrev pub value_of : List ℕ → Option ℕ
value_of digits = if nat_lt (decimal_value digits) number_limit then Some (decimal_value digits) else None

abbrev pub number_of : List ℕ → Option ℕ
number_of word = if is_number word then value_of word else None

-- ---- commands: `.tables`, `.roles`, `.names`, `.rights`, `.help`, `.quit`

abbrev pub bare : Verb → Option Command
bare verb.Tables = Some command.Tables
bare verb.Roles = Some command.Roles
bare verb.Names = Some command.Names
bare verb.Rights = Some command.Rights
bare verb.Help = Some command.Help
bare verb.Quit = Some command.Quit
bare other = None

-- `.rows NUMBER`, `.json on|off`, `.time on|off`, `.run FILE`
abbrev pub with_one : Verb → List ℕ → Option Command
with_one verb.Rows word = option_map command.Rows (number_of word)
with_one verb.Json word = option_map command.Json (switch_of word)
with_one verb.Time word = option_map command.Time (switch_of word)
with_one verb.Run word = Some command.Run
with_one other word = None

-- `.why TABLE NUMBER`
abbrev pub with_two : Verb → List ℕ → Option Command
with_two verb.Why number = option_map (λ n. command.Why n action.Select) (number_of number)
with_two other number = None

-- an action on a row
abbrev pub why_of : Option ℕ → Option Action → Option Command
why_of (Some n) (Some a) = Some (command.Why n a)
why_of n a = None

-- `.why TABLE NUMBER delete|insert`
abbrev pub with_three : Verb → List ℕ → List ℕ → Option Command
with_three verb.Why number word = why_of (number_of number) (action_of word)
with_three other number word = None

-- the command of a verb with these arguments
abbrev pub command_with : Verb → List (List ℕ) → Option Command
command_with v [] = bare v
command_with v (one ∷ []) = with_one v one
command_with v (one ∷ two ∷ []) = with_two v two
command_with v (one ∷ two ∷ three ∷ []) = with_three v two three
command_with v arguments = None

abbrev pub or_misuse : Verb → Option Command → Result Command Misuse
or_misuse v (Some c) = Ok c
or_misuse v None = Err (misuse.Arguments v)

abbrev pub command_by : Option Verb → List (List ℕ) → Result Command Misuse
command_by None arguments = Err misuse.Unknown
command_by (Some v) arguments = or_misuse v (command_with v arguments)

-- the command that words spell, of which the first is its name
abbrev pub command_of : List (List ℕ) → Result Command Misuse
command_of [] = Err misuse.Unknown
command_of (name ∷ arguments) = command_by (verb_of name) arguments
