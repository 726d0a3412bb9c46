-- What a statement adds to the log of host calls.
use Rattle.std.specs.Prelude.{◌≡◌, ◌∷◌, ◌++◌, List, ℕ, true, Some, None}
use Rattle.lq_value.specs.declared.ty.Ty.TheVariants as ty
use Rattle.lq_host.specs.declared.call.Call.{Call}
use Rattle.lq_grammar.specs.declared.syntax.Expr.{Expr}
use Rattle.lq_language.specs.ClauseTyping.{expression_type}
use Rattle.lq_language.specs.Mentions.{Mention, uses_of}
use Rattle.lq_language.specs.Names.{Names, with_local}
use Rattle.lq_language.specs.OperandTypes.{is_bool_type}
use Rattle.lq_language.specs.Uses.{expression_uses}
use Rattle.lq_language.specs.ValuesOfTypes.{Every}
use Rattle.lq_language.specs.declared.rights.Use.TheVariants as used
use Rattle.lq_security.specs.Rights.{denial}
use Rattle.lq_machine.specs.HostCalls.{IsAllowed, deletion_named}
use Rattle.lq_machine.specs.States.{State, names_in}
use Rattle.lq_tree.specs.declared.tree.Tree.{Tree}
use Rattle.lq_run.specs.Statements.{condition_in}

-- the log has calls more that a statement may make which names this
abbrev pub AddsCalls : State → List Mention → List Call → List Call → Type 0
AddsCalls s named old new = (calls : List Call) × (new ≡ old ++ calls) × Every (IsAllowed s named) calls

-- the names in a condition on a row of the table with this number
abbrev pub condition_names : State → List ℕ → ℕ → Names
condition_names s x n = with_local (names_in s) x (ty.Row n)

-- A `delete` comes to the rows: its condition is a truth value, and the role has a right to remove rows of the table, and to what the
-- condition uses.
abbrev pub MayDelete : State → List ℕ → Expr → ℕ → Type 0
MayDelete s x e n =
    (is_bool_type (expression_type e (condition_names s x n)) ≡ true)
    × (denial s.policies s.role (used.Delete n ∷ uses_of (expression_uses e (condition_names s x n))) ≡ None)

-- the log has calls more that a `delete` may make which comes to the rows and whose condition has this tree
abbrev pub AddsDeletionCalls : State → ℕ → Tree → List Call → List Call → Type 0
AddsDeletionCalls s n tree old new =
    (x : List ℕ) (e : Expr) → condition_in s x n e ≡ Some tree → MayDelete s x e n → AddsCalls s (deletion_named s x e (Some n)) old new
