-- Variables among what is defined, and what a name is defined as.
use Rattle.std.specs.Prelude.{◌≡◌, List, ℕ, Option, Some, None, Result, Ok, Err, option_and_then}
use Rattle.lq_value.specs.declared.ty.Ty.{Ty, out-Ty}
use Rattle.lq_machine.specs.DefinitionLaws.{IsDefined}
use Rattle.lq_machine.specs.Definitions.{definition_of, known_names}
use Rattle.lq_machine.specs.Served.{defined_data}
use Rattle.lq_machine.specs.States.{State, host_names, schemas_of}
use Rattle.lq_machine.specs.Statements.{Outcome, defined_as, defining_also}
use Rattle.lq_machine.specs.declared.session.Defined.{Defined}
use Rattle.lq_machine.specs.declared.session.Defined.TheVariants as of
use Rattle.lq_machine.specs.declared.session.Definition.{Definition}
use Rattle.lq_machine.specs.declared.session.Opened.{Opened}
use Rattle.lq_grammar.specs.declared.syntax.Expr.{Expr}
use Rattle.lq_tree.specs.declared.tree.Tree.{Tree}
use Rattle.lq_run.specs.Stops.{Stops}
use Rattle.lq_run.specs.declared.stop.Stop.{Stop}

-- the type of a variable; a named query is none
abbrev pub type_if_variable : Defined → Option Ty
type_if_variable (of.Variable t s) = Some t
type_if_variable (of.Query e opened) = None

-- the type of the variable of this name
abbrev pub variable_type : List Definition → List ℕ → Option Ty
variable_type definitions name = option_and_then (λ d. type_if_variable d.defined) (definition_of name definitions)

-- a name is defined as this by an expression that has this tree, whatever the name is; or the machine answers this
abbrev pub DefinesBy : State → Opened → Expr → Tree → Result Defined Stop → Type 0
DefinesBy s opened e tree (Ok defined) =
    IsDefined (schemas_of s.tables) (host_names s) (known_names (schemas_of s.tables) (host_names s) s.definitions) defined
    × ((name : List ℕ) → let outcome : Outcome = (defined_data name, defining_also s name defined) in defined_as s name opened e tree.ty (out-Ty tree.ty) ≡ outcome)
DefinesBy s opened e tree (Err why) = (name : List ℕ) → Stops s (defined_as s name opened e tree.ty (out-Ty tree.ty)) why
