-- What `run` is answered.
use Rattle.std.specs.Prelude.{◌++◌, List, [], ℕ, Option, Some, None, Result, codes, option_and_then}
use Rattle.serde_json.specs.Data.{Data}
use Rattle.lq_value.specs.declared.table.Schema.{Schema}
use Rattle.lq_value.specs.declared.ty.Ty.{Ty, out-Ty}
use Rattle.lq_value.specs.declared.ty.Ty.TheOpen.{Ty-F}
use Rattle.lq_value.specs.declared.value.Fault.{Fault}
use Rattle.lq_value.specs.declared.value.Value.{Value}
use Rattle.lq_language.specs.ClauseTyping.{expression_type}
use Rattle.lq_language.specs.Worlds.{World}
use Rattle.lq_language.specs.OperandMeaning.{stream_of}
use Rattle.lq_security.specs.Rights.{Denied, denial}
use Rattle.lq_machine.specs.Served.{denied_data, error_data, stream_data, value_data}
use Rattle.lq_machine.specs.States.{State, cells_of, host_names, names_in, schemas_of, world_in}
use Rattle.lq_language.specs.Types.{if_placed}
use Rattle.lq_language.specs.Names.{Names}
use Rattle.lq_language.specs.Mentions.{uses_of}
use Rattle.lq_language.specs.Uses.{expression_uses, shown_columns}
use Rattle.lq_language.specs.TableRows.{TableRow}
use Rattle.lq_language.specs.Meaning.{expression_meaning}
use Rattle.lq_security.specs.declared.policy.PolicyParts.{PolicyParts}
use Rattle.lq_language.specs.declared.host_name.HostName.{HostName}
use Rattle.lq_language.specs.declared.rights.Use.{Use}
use Rattle.lq_grammar.specs.declared.syntax.Expr.{Expr}

-- a sequence is served item by item, and any other value as one
abbrev pub served_as : World TableRow → Ty → Ty-F Ty → Result (Value TableRow) Fault → Data
served_as world t (Ty-F.Seq item) found = stream_data world.schemas cells_of item (stream_of world found)
served_as world t layer found = value_data world.schemas cells_of t found

-- an expression without a type is refused
abbrev pub served : World TableRow → Option Ty → Result (Value TableRow) Fault → Data
served world None found = error_data (codes "type")
served world (Some t) found = served_as world t (out-Ty t) found

-- the type that an expression is served by: any but that of null, which is not allowed there
abbrev pub served_type : Names → Expr → Option Ty
served_type names e = if_placed (expression_type e names)

-- the reply of a `run` that isn't denied, under these names and over what is read
unfoldable pub run_reply : Names → World TableRow → Expr → Data
run_reply names world e = served world (served_type names e) (expression_meaning world e [])

-- what a statement uses that serves an expression of this type: what its text names, and then each column that its reply may show
abbrev pub used_by : Names → Expr → Ty → List Use
used_by names e t = uses_of (expression_uses e names) ++ shown_columns names.tables t

-- the first of these uses to which a role has no right; what has no type is refused before
unfoldable pub run_denial : PolicyParts → ℕ → Names → Expr → Option Denied
run_denial parts role names e = option_and_then (λ t. denial parts role (used_by names e t)) (served_type names e)

-- what is denied isn't run
abbrev pub unless_denied : List Schema → List HostName → Option Denied → Data → Data
unless_denied schemas predicates None reply = reply
unless_denied schemas predicates (Some denied) reply = denied_data schemas predicates denied.rule denied.used

-- the reply of `run` in a state
abbrev pub run_in : State → Expr → Data
run_in s e =
    unless_denied (schemas_of s.tables) (host_names s) (run_denial s.policies s.role (names_in s) e) (run_reply (names_in s) (world_in s) e)
