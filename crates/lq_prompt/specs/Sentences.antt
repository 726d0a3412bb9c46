-- Sentences about commands.
use Rattle.std.specs.Prelude.{◌∷◌, if◌then◌else◌, List, [], ℕ, Bool, codes, decimal}
use Rattle.lq_command.specs.declared.command.Misuse.{Misuse}
use Rattle.lq_command.specs.declared.command.Misuse.TheVariants as misuse
use Rattle.lq_command.specs.declared.verb.Verb.{Verb}
use Rattle.lq_command.specs.declared.verb.Verb.TheVariants as verb
use Rattle.lq_prompt.specs.Grids.{joined}

-- the arguments that a command takes
abbrev pub usage : Verb → List ℕ
usage verb.Tables = codes "Write .tables alone.\n"
usage verb.Roles = codes "Write .roles alone.\n"
usage verb.Names = codes "Write .names alone.\n"
usage verb.Rights = codes "Write .rights alone.\n"
usage verb.Why =
    codes "Write .why T NUMBER, where T is a table and NUMBER the number of a row, or .why T NUMBER delete, or .why T NUMBER insert.\n"
usage verb.Rows = codes "Write .rows N, where N is a number.\n"
usage verb.Json = codes "Write .json on or .json off.\n"
usage verb.Time = codes "Write .time on or .time off.\n"
usage verb.Run = codes "Write .run FILE, where FILE has no space in its name.\n"
usage verb.Help = codes "Write .help alone.\n"
usage verb.Quit = codes "Write .quit alone.\n"

abbrev pub misuse_text : Misuse → List ℕ
misuse_text misuse.Unknown =
    codes "There is no such command. There are .tables, .roles, .names, .rights, .why, .rows, .json, .time, .run, .help and .quit.\n"
misuse_text (misuse.Arguments v) = usage v

-- how replies are shown from now on
abbrev pub rows_text : ℕ → List ℕ
rows_text most = joined (codes "Rows shown per reply: at most " ∷ decimal most ∷ codes ".\n" ∷ [])

abbrev pub json_text : Bool → List ℕ
json_text is_json = if is_json then codes "Replies are shown as lines of JSON.\n" else codes "Replies are shown as tables.\n"

abbrev pub time_text : Bool → List ℕ
time_text is_timed = if is_timed then codes "The time of each statement is reported on standard error.\n" else codes "No times are reported.\n"
