-- What is said of a line while it comes, and once it is there.
use Rattle.std.specs.Prelude.{◌≡◌, ◌<◌, ◌≤◌, List, ℕ, Bool, true, false, Option, Some, None, length, string_bytes}
use Rattle.std.specs.Str.{IsUtf8}
use Rattle.lq_grammar.specs.Script.{line_limit}
use Rattle.lq_command.specs.declared.input.Draft.{Draft}
use Rattle.lq_command.specs.declared.input.Fault.{Fault}
use Rattle.lq_command.specs.declared.input.Fault.TheVariants as fault
use Rattle.lq_command.specs.declared.input.Input.{Input}
use Rattle.lq_command.specs.declared.input.Input.TheVariants as input

-- what a line of these bytes is given as; where memory was refused, nothing is known of it
abbrev pub IsInput : List ℕ → Input → Type 0
IsInput line (input.Line text) = (string_bytes text ≡ line) × (length line ≤ line_limit)
IsInput line input.TooLong = line_limit < length line
IsInput line input.NoText = (¬ IsUtf8 line) × (length line ≤ line_limit)
IsInput line input.NoMemory = Unit {0}
IsInput line input.End = ⊥

-- whether a line is missing for want of memory
abbrev pub is_refused : Input → Bool
is_refused input.NoMemory = true
is_refused given = false

-- these bytes of a line have come
abbrev pub IsDraftBy : List ℕ → List ℕ → Option Fault → Type 0
IsDraftBy line bytes None = (bytes ≡ line) × (length line ≤ line_limit)
IsDraftBy line bytes (Some fault.TooLong) = line_limit < length line
IsDraftBy line bytes (Some fault.Memory) = 0 < length line

abbrev pub IsDraft : List ℕ → Draft → Type 0
IsDraft line draft = IsDraftBy line draft.bytes.items draft.fault

abbrev pub lacks_memory_by : Option Fault → Bool
lacks_memory_by (Some fault.Memory) = true
lacks_memory_by other = false

-- whether memory was refused for the bytes of a line
abbrev pub lacks_memory : Draft → Bool
lacks_memory draft = lacks_memory_by draft.fault
