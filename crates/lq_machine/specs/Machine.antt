-- «Session machine»: a step of the session, a function of its state and a line to the reply and the new state.
use Rattle.std.specs.Prelude.{◌∷◌, ◌++◌, if◌then◌else◌, List, [], ℕ, Option, Some, None, codes}
use Rattle.lq_machine.specs.Opening.{is_past_opening, opening_of}
use Rattle.lq_grammar.specs.Reading.{Reading, Nothing, Says, IsNoSyntax, IsTooDeep, reading_of}
use Rattle.lq_machine.specs.Served.{line_of}
use Rattle.lq_machine.specs.Serving.{run_in}
use Rattle.lq_machine.specs.Statements.{Outcome, assigned, defined, deleted, inserted, refused, taking_role}
use Rattle.lq_machine.specs.States.{State}
use Rattle.lq_machine.specs.declared.session.Opened.{Opened}
use Rattle.lq_grammar.specs.declared.syntax.Statement.{Statement}
use Rattle.lq_grammar.specs.declared.syntax.Statement.TheVariants as statement

-- a reply's bytes with their line feed; None where there is no statement on the line
abbrev pub Reply : Type 0
Reply = Option (List ℕ)

-- the line that may take the place of any reply where memory was refused
abbrev pub memory_line : List ℕ
memory_line = codes "{\"error\":\"memory\"}" ++ 10 ∷ []

-- what a statement that opens this is answered, and the state after it
abbrev pub perform : State → Opened → Statement → Outcome
perform old opened (statement.Run x) = (run_in old x, old)
perform old opened (statement.Define name x) = defined old name opened x
perform old opened (statement.Assign name x) = assigned old name x
perform old opened (statement.As name) = taking_role old name
perform old opened (statement.Insert table cells) = inserted old table cells
perform old opened (statement.Delete table row x) = deleted old table row x

-- what opens too much is refused, whatever it is
abbrev pub perform_opened : State → Opened → Statement → Outcome
perform_opened old opened statement = if is_past_opening opened then refused old (codes "too-deep") else perform old opened statement

abbrev pub replied : Outcome → Reply × State
replied answer = (Some (line_of answer.0), answer.1)

-- a line that says nothing has no reply
abbrev pub step_by : State → Opened → Reading Statement → Reply × State
step_by old opened Nothing = (None, old)
step_by old opened (Says statement) = replied (perform_opened old opened statement)
step_by old opened IsNoSyntax = replied (refused old (codes "syntax"))
step_by old opened IsTooDeep = replied (refused old (codes "too-deep"))

unfoldable pub step : State → List ℕ → Reply × State
step old line = step_by old (opening_of old.definitions line) (reading_of line)
