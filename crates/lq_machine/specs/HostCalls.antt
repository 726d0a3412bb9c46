-- «Allowed calls»: which calls of host predicates a statement may add to the log.
use Rattle.std.specs.Prelude.{◌≡◌, ◌∷◌, if◌then◌else◌, List, [], ℕ, Option, Some, None, slice_get}
use Rattle.lq_value.specs.declared.ty.Ty.{Ty, out-Ty}
use Rattle.lq_value.specs.declared.ty.Ty.TheVariants as ty
use Rattle.lq_host.specs.Calls.{arguments_at}
use Rattle.lq_host.specs.Predicates.{answer_in}
use Rattle.lq_host.specs.declared.call.Call.{Call}
use Rattle.lq_grammar.specs.Reading.{Reading, Nothing, Says, IsNoSyntax, IsTooDeep, reading_of}
use Rattle.lq_grammar.specs.declared.syntax.Expr.{Expr}
use Rattle.lq_grammar.specs.declared.syntax.Statement.{Statement}
use Rattle.lq_grammar.specs.declared.syntax.Statement.TheVariants as statement
use Rattle.lq_language.specs.ClauseTyping.{expression_type}
use Rattle.lq_language.specs.Mentions.{Mention, HostAt, uses_of}
use Rattle.lq_language.specs.Names.{table_number, with_local}
use Rattle.lq_language.specs.OperandTypes.{is_bool_type, is_scalar}
use Rattle.lq_language.specs.TableRows.{TableRow}
use Rattle.lq_language.specs.Typing.{converts}
use Rattle.lq_language.specs.Uses.{expression_uses}
use Rattle.lq_language.specs.ValuesOfTypes.{Every}
use Rattle.lq_language.specs.declared.rights.Use.{Use}
use Rattle.lq_language.specs.declared.rights.Use.TheVariants as used
use Rattle.lq_security.specs.Rights.{Denied, denial}
use Rattle.lq_machine.specs.Definitions.{definition_of}
use Rattle.lq_machine.specs.Opening.{is_past_opening, opening_of}
use Rattle.lq_machine.specs.Serving.{served_type, used_by}
use Rattle.lq_machine.specs.States.{State, names_in, schemas_of, seen_by_role}
use Rattle.lq_machine.specs.Statements.{is_taken}
use Rattle.lq_machine.specs.declared.session.Defined.{Defined}
use Rattle.lq_machine.specs.declared.session.Defined.TheVariants as of
use Rattle.lq_machine.specs.declared.session.Definition.{Definition}
use Rattle.lq_machine.specs.declared.session.Opened.{Opened}

-- ---- what a statement evaluates

-- a statement that is denied evaluates nothing
abbrev pub named_unless : Option Denied → List Mention → List Mention
named_unless None named = named
named_unless (Some denied) named = []

module _ (s : State) where
  -- what is named where each of these uses is allowed
  abbrev pub named_if_allowed : List Use → List Mention → List Mention
  named_if_allowed uses named = named_unless (denial s.policies s.role uses) named

  -- what an expression of a scalar's type names, which is evaluated now
  abbrev pub named_now : Expr → List Mention
  named_now e = let named = expression_uses e (names_in s) in named_if_allowed (uses_of named) named

  -- what has no type is refused
  abbrev pub run_named : Expr → Option Ty → List Mention
  run_named e None = []
  run_named e (Some t) = named_if_allowed (used_by (names_in s) e t) (expression_uses e (names_in s))

  -- a sequence is stored as its expression, which isn't evaluated
  abbrev pub definition_named : Expr → Option Ty → List Mention
  definition_named e None = []
  definition_named e (Some t) = if is_scalar (out-Ty t) then named_now e else []

  abbrev pub value_named : Expr → Ty → Option Ty → List Mention
  value_named e t None = []
  value_named e t (Some u) = if converts u t then named_now e else []

  abbrev pub assignment_named_as : Expr → Defined → List Mention
  assignment_named_as e (of.Variable t before) = value_named e t (expression_type e (names_in s))
  assignment_named_as e (of.Query query opened) = []

  abbrev pub assignment_named : Expr → Option Definition → List Mention
  assignment_named e None = []
  assignment_named e (Some d) = assignment_named_as e d.defined

  abbrev pub deletion_named : List ℕ → Expr → Option ℕ → List Mention
  deletion_named x condition None = []
  deletion_named x condition (Some n) =
      let names = with_local (names_in s) x (ty.Row n) in
      let named = expression_uses condition names in
      if is_bool_type (expression_type condition names) then named_if_allowed (used.Delete n ∷ uses_of named) named else []

  -- what the expression names that a statement evaluates; nothing where it is refused or denied, or evaluates none
  abbrev pub evaluated_named : Statement → List Mention
  evaluated_named (statement.Run e) = run_named e (served_type (names_in s) e)
  evaluated_named (statement.Define name e) = if is_taken s name then [] else definition_named e (expression_type e (names_in s))
  evaluated_named (statement.Assign name e) = assignment_named e (definition_of name s.definitions)
  evaluated_named (statement.As name) = []
  evaluated_named (statement.Insert table cells) = []
  evaluated_named (statement.Delete table row condition) = deletion_named row condition (table_number table (schemas_of s.tables))

  -- what opens too much is refused
  abbrev pub reading_named : Opened → Reading Statement → List Mention
  reading_named opened Nothing = []
  reading_named opened (Says statement) = if is_past_opening opened then [] else evaluated_named statement
  reading_named opened IsNoSyntax = []
  reading_named opened IsTooDeep = []

  abbrev pub line_named : List ℕ → List Mention
  line_named line = reading_named (opening_of s.definitions line) (reading_of line)

-- ---- the calls

-- An allowed call: it asks a predicate that is named with these columns, in a row of their table that the role sees; its arguments are the
-- row's cells there, within the predicate's range, and its answer is the predicate's.
pub record IsAllowed (s : State) (named : List Mention) (call : Call) : Type 0 where
  pub place : ℕ
  pub mention : slice_get named place ≡ Some (HostAt call.predicate call.table call.columns)
  pub rows : List TableRow
  pub seen : slice_get (seen_by_role s) call.table ≡ Some rows
  pub position : ℕ
  pub row : TableRow
  pub there : slice_get rows position ≡ Some row
  pub number : row.row.number ≡ call.row
  pub arguments : arguments_at row.row.cells call.columns ≡ Some call.arguments
  pub answer : answer_in s.predicates call.predicate call.arguments ≡ Some call.answer

-- the step of a line may add these calls to the log
abbrev pub MayCall : State → List ℕ → List Call → Type 0
MayCall s line calls = Every (IsAllowed s (line_named s line)) calls
