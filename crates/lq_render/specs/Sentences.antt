-- The sentences of replies without rows.
use Rattle.std.specs.Prelude.{◌++◌, ◌==◌, List, [], ℕ, Option, Some, None, bytes_eq, codes, if◌then◌else◌, unwrap_or}
use Rattle.lq_render.specs.Cells.{count_text, escaped_text}

-- ---- faults

-- what happened, of a fault of this name; empty of any other
abbrev pub reason : List ℕ → List ℕ
reason name =
    if bytes_eq name (codes "DivideByZero") then codes ", a division by zero"
    else if bytes_eq name (codes "Overflow") then codes ", a number left the range of int"
    else if bytes_eq name (codes "NullReference") then codes ", a member of null was read"
    else if bytes_eq name (codes "InvalidOperation") then codes ", no value or no single item where one is needed"
    else if bytes_eq name (codes "ArgumentOutOfRange") then codes ", an index, or a host predicate's argument, out of range"
    else []

abbrev pub fault_sentence : List ℕ → List ℕ
fault_sentence name = codes "fault: " ++ (escaped_text name ++ reason name)

abbrev pub fault_text : List ℕ → List ℕ
fault_text name = fault_sentence name ++ codes "\n"

-- under the items before the fault
abbrev pub ending_text : List ℕ → List ℕ
ending_text name = fault_sentence name ++ codes " (these are the items before it)\n"

-- ---- refusals

-- what to do next where what is asked for isn't there, or has no room
abbrev pub advice_on_data : List ℕ → Option (List ℕ)
advice_on_data word =
    if bytes_eq word (codes "memory") then Some (codes "there was not enough memory, and nothing has changed; ask for less at once")
    else if bytes_eq word (codes "role") then Some (codes "the policy file has no such role; try .roles")
    else if bytes_eq word (codes "cell") then Some (codes "a value lies outside of its column's range; try .tables")
    else if bytes_eq word (codes "full") then Some (codes "the table has used up its row numbers; it takes no more rows")
    else None

-- what to do next, of a refusal under this word; none of another word
abbrev pub advice : List ℕ → Option (List ℕ)
advice word =
    if bytes_eq word (codes "syntax") then Some (codes "this is not a statement; the statements are: run E; var N = E; N = E; as R; insert T (..); delete T x => p;")
    else if bytes_eq word (codes "type") then Some (codes "a name is unknown or already in use, a type doesn't fit, or the number of cells is wrong; try .tables and .names")
    else if bytes_eq word (codes "too-deep") then Some (codes "the statement is too long or too deeply nested; give parts of it a name with var")
    else advice_on_data word

abbrev pub error_text : List ℕ → List ℕ
error_text word = codes "error: " ++ (unwrap_or (advice word) (escaped_text word) ++ codes "\n")

-- a rule that has a name
abbrev pub denied_by : List ℕ → List ℕ → List ℕ
denied_by rule used = codes "denied by " ++ (escaped_text rule ++ (codes ": " ++ (escaped_text used ++ codes "\n")))

-- the rule that denies a use, and the use
abbrev pub denied_text : List ℕ → List ℕ → List ℕ
denied_text rule used =
    if bytes_eq rule (codes "no-grant") then codes "denied: no grant covers " ++ (escaped_text used ++ codes "\n")
    else if bytes_eq rule (codes "default-deny") then codes "denied by default: no policy permits this row (" ++ (escaped_text used ++ codes ")\n")
    else denied_by rule used

-- ---- what was done

abbrev pub defined_text : List ℕ → List ℕ
defined_text name = escaped_text name ++ codes " is defined\n"

abbrev pub assigned_text : List ℕ → List ℕ
assigned_text name = escaped_text name ++ codes " is assigned\n"

abbrev pub role_text : List ℕ → List ℕ
role_text name = codes "the role is " ++ (escaped_text name ++ codes "\n")

-- a number of rows
abbrev pub rows_text : ℕ → List ℕ
rows_text n = if n == 1 then codes "1 row" else count_text n ++ codes " rows"

abbrev pub inserted_text : ℕ → List ℕ
inserted_text n = rows_text n ++ codes " inserted\n"

abbrev pub deleted_text : ℕ → List ℕ
deleted_text n = rows_text n ++ codes " deleted\n"
