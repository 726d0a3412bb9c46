-- «Audit»: what `--audit` prints of host calls, a line a call, as in `LeapYear employees 1 year 2000 true`.
use Rattle.std.specs.Prelude.{◌∷◌, ◌++◌, if◌then◌else◌, List, [], ℕ, ℤ, Bool, codes, decimal, flat_map, slice_get, unwrap_or}
use Rattle.std.specs.Fmt.{signed_decimal}
use Rattle.std.specs.Option.{option_map}
use Rattle.lq_value.specs.declared.table.Schema.{Schema}
use Rattle.lq_host.specs.Hosts.{name_of}
use Rattle.lq_host.specs.Predicates.{Predicate}
use Rattle.lq_host.specs.declared.call.Call.{Call}
use Rattle.lq_host.specs.declared.call.Pick.{Pick}
use Rattle.lq_host.specs.declared.call.Pick.TheVariants as columns
use Rattle.lq_host.specs.declared.call.Pick2.{Pick2}
use Rattle.lq_host.specs.declared.call.Pick2.TheVariants as arguments
use Rattle.lq_machine.specs.Served.{columns_in, name_at, name_of_table}
use Rattle.lq_machine.specs.States.{State, schemas_of}

-- the name of a predicate, empty where there is none of this number, which no call has that a statement may make
abbrev pub predicate_name : List Predicate → ℕ → List ℕ
predicate_name predicates number = unwrap_or (option_map name_of (slice_get predicates number)) []

-- the name of a column, empty where there is none
abbrev pub column_name : List Schema → ℕ → ℕ → List ℕ
column_name schemas table column = name_at (slice_get (columns_in (slice_get schemas table)) column)

-- one more word of a line
abbrev pub word : List ℕ → List ℕ
word text = codes " " ++ text

-- the name of a column, and the argument from it
abbrev pub argument_words : List ℕ → ℤ → List ℕ
argument_words column argument = word column ++ word (signed_decimal argument)

-- each column with its argument, of which a call has as many
abbrev pub asked_words : List Schema → ℕ → Pick → Pick2 → List ℕ
asked_words schemas table (columns.One column) (arguments.One x) = argument_words (column_name schemas table column) x
asked_words schemas table (columns.Two first second) (arguments.Two x y) =
    argument_words (column_name schemas table first) x ++ argument_words (column_name schemas table second) y
asked_words schemas table _ _ = []

abbrev pub answer_text : Bool → List ℕ
answer_text answer = if answer then codes "true" else codes "false"

-- the line of a call: the predicate, the table, the row's number, each column with its argument, and the answer
unfoldable pub audit_line : List Schema → List Predicate → Call → List ℕ
audit_line schemas predicates call =
    predicate_name predicates call.predicate ++ (word (name_of_table (slice_get schemas call.table)) ++ (word (decimal call.row)
    ++ (asked_words schemas call.table call.columns call.arguments ++ (word (answer_text call.answer) ++ 10 ∷ []))))

-- the lines of calls, in their order, by the names that the tables and the predicates of a state have
abbrev pub audit_text : State → List Call → List ℕ
audit_text s calls = flat_map (audit_line (schemas_of s.tables) s.predicates) calls

-- what is printed of calls where `--audit` is given, and nothing else
abbrev pub audited : Bool → State → List Call → List ℕ
audited audit s calls = if audit then audit_text s calls else []
