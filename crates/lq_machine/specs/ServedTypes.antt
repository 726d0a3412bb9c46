-- The type by which what a line says is served.
use Rattle.std.specs.Prelude.{if◌then◌else◌, List, ℕ, Option, None}
use Rattle.lq_value.specs.declared.ty.Ty.{Ty}
use Rattle.lq_grammar.specs.Reading.{Reading, Says, reading_of}
use Rattle.lq_grammar.specs.declared.syntax.Statement.{Statement}
use Rattle.lq_grammar.specs.declared.syntax.Statement.TheVariants as statement
use Rattle.lq_machine.specs.Opening.{is_past_opening, opening_of}
use Rattle.lq_machine.specs.Serving.{served_type}
use Rattle.lq_machine.specs.States.{State, names_in}
use Rattle.lq_machine.specs.declared.session.Opened.{Opened}

-- a `run` serves its expression by the expression's type; no other statement serves a value
abbrev pub statement_type : State → Statement → Option Ty
statement_type s (statement.Run x) = served_type (names_in s) x
statement_type s other = None

-- and nothing is served of what opens too much
abbrev pub type_within : State → Opened → Statement → Option Ty
type_within s opened x = if is_past_opening opened then None else statement_type s x

-- what is read says a statement, or serves nothing
abbrev pub type_read : State → Opened → Reading Statement → Option Ty
type_read s opened (Says x) = type_within s opened x
type_read s opened other = None

-- the type by which the value is served that a line asks for in this state; none where it asks for none, or is refused
unfoldable pub line_type : State → List ℕ → Option Ty
line_type s line = type_read s (opening_of s.definitions line) (reading_of line)
