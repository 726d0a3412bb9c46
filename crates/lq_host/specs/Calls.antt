-- Host calls: the arguments that a row has in some columns, the entry of a call, and what asking appends to a log.
use Rattle.std.specs.Prelude.{◌≡◌, ◌∷◌, ◌++◌, List, [], ℕ, ℤ, Bool, true, Option, Some, None, Result, Ok, Err, is_some, slice_get}
use Rattle.std.specs.Option.{option_and_then, option_map}
use Rattle.lq_value.specs.declared.scalar.Scalar.{Scalar}
use Rattle.lq_value.specs.declared.scalar.Scalar.TheVariants.{Int}
use Rattle.lq_host.specs.declared.call.Call.{Call}
use Rattle.lq_host.specs.declared.call.Pick.{Pick}
use Rattle.lq_host.specs.declared.call.Pick.TheVariants as columns
use Rattle.lq_host.specs.declared.call.Pick2.{Pick2}
use Rattle.lq_host.specs.declared.call.Pick2.TheVariants as arguments
use Rattle.lq_host.specs.declared.call.Question.{Question}
use Rattle.lq_host.specs.declared.error.HostError.{HostError}
use Rattle.lq_host.specs.declared.error.HostError.TheVariants.{Memory, Range}

-- the number of a cell that is an integer
abbrev pub number_of : Option Scalar → Option ℤ
number_of (Some (Int number)) = Some number
number_of _ = None

-- the integer in a column
abbrev pub number_at : List Scalar → ℕ → Option ℤ
number_at cells column = number_of (slice_get cells column)

-- the arguments in some columns; none where a cell is missing or isn't an integer
abbrev pub arguments_at : List Scalar → Pick → Option Pick2
arguments_at cells (columns.One column) = option_map arguments.One (number_at cells column)
arguments_at cells (columns.Two first second) =
    option_and_then (λ x. option_map (arguments.Two x) (number_at cells second)) (number_at cells first)

-- the entry of a call: what was asked, and the answer
abbrev pub entry_of : Question → Bool → Call
entry_of question answer = record {
  predicate = question.predicate;
  table = question.table;
  row = question.row;
  columns = question.columns;
  arguments = question.arguments;
  answer = answer;
}

-- why nobody is asked: there is no answer, as the arguments are out of range; or there is one, and no memory for its entry
abbrev pub IsUnasked : Option Bool → HostError → Type 0
IsUnasked answer Range = answer ≡ None
IsUnasked answer Memory = is_some answer ≡ true
IsUnasked answer _ = ⊥

-- Asking, where this is the answer if there is one: the log has one entry more, that of the question and the answer that was given.
-- Or nobody was asked, and the log is as it was.
abbrev pub LogsCall : Option Bool → Question → List Call → Result Bool HostError → List Call → Type 0
LogsCall answer question old (Ok given) new = (answer ≡ Some given) × (new ≡ old ++ entry_of question given ∷ [])
LogsCall answer question old (Err refused) new = IsUnasked answer refused × (new ≡ old)

-- asking for a row of a table: the arguments are those in the row's columns, and what is asked has the row's number
abbrev pub question_of : ℕ → ℕ → ℕ → Pick → Pick2 → Question
question_of predicate table row columns xs = record { predicate = predicate; table = table; row = row; columns = columns; arguments = xs }

-- how many columns there are
abbrev pub count_of : Pick → ℕ
count_of (columns.One column) = 1
count_of (columns.Two first second) = 2
