-- What the parts of statements come to in a state: the trees of their expressions, rights, scalars, and the rows that are removed.
use Rattle.std.specs.Prelude.{◌≡◌, List, [], map, ℕ, Bool, true, false, Option, Some, None, Result, Ok, Err, Vec, codes, slice_get}
use Rattle.std.specs.declared.alloc.Global.{Global}
use Rattle.lq_value.specs.Tables.{Table}
use Rattle.lq_value.specs.declared.scalar.Scalar.{Scalar}
use Rattle.lq_value.specs.declared.ty.Ty.{Ty, out-Ty}
use Rattle.lq_value.specs.declared.ty.Ty.TheOpen.{Ty-F}
use Rattle.lq_value.specs.declared.value.End.{End}
use Rattle.lq_value.specs.declared.value.Fault.{Fault}
use Rattle.lq_value.specs.declared.value.Value.{Value}
use Rattle.lq_value.specs.declared.value.Value.TheOpen.{Value-F}
use Rattle.lq_language.specs.ValuesOfTypes.{IsScalarOf}
use Rattle.lq_security.specs.Rights.{Denied, denial}
use Rattle.lq_machine.specs.Served.{denied_data, line_of}
use Rattle.lq_machine.specs.States.{State, host_names, schemas_of, world_in}
use Rattle.lq_machine.specs.Statements.{Outcome, removed_items, evaluated, with_value}
use Rattle.lq_language.specs.Stream.{Stream}
use Rattle.lq_language.specs.TableRows.{TableRow}
use Rattle.lq_language.specs.Meaning.{expression_meaning}
use Rattle.lq_language.specs.declared.rights.Use.{Use}
use Rattle.lq_grammar.specs.declared.syntax.Expr.{Expr}
use Rattle.lq_bind.specs.Outcomes.{IsBound}
use Rattle.lq_bind.specs.declared.error.BindError.{BindError}
use Rattle.lq_translate.specs.Translated.{translated}
use Rattle.lq_tree.specs.Binding.{term_tree}
use Rattle.lq_tree.specs.SessionPlaces.{condition_places, statement_places}
use Rattle.lq_tree.specs.declared.tree.Tree.{Tree}
use Rattle.lq_run.specs.Stops.{Refuses, Stops}
use Rattle.lq_run.specs.declared.stop.Stop.{Stop}
use Rattle.lq_run.specs.declared.stop.Stop.TheVariants as stop

-- the tree of an expression of a statement
abbrev pub tree_in : State → Expr → Option Tree
tree_in s e = term_tree (schemas_of s.tables) (translated e) (statement_places (schemas_of s.tables) (host_names s) s.definitions)

-- and that of a condition on a row of the table with this number, under the row's name
abbrev pub condition_in : State → List ℕ → ℕ → Expr → Option Tree
condition_in s x n e =
    term_tree (schemas_of s.tables) (translated e) (condition_places (schemas_of s.tables) (host_names s) s.definitions x n)

-- the tree that there is; where there is none the statement is refused
abbrev pub FindsTree : Option Tree → Result Tree Stop → Type 0
FindsTree tree (Ok found) = tree ≡ Some found
FindsTree tree (Err why) = Refuses (codes "type") (tree ≡ None) why

-- and so of what was bound, within the limits of opening
abbrev pub IsTyped : Result Tree BindError → Result Tree Stop → Type 0
IsTyped bound found = (tree : Option Tree) → IsBound false tree bound → FindsTree tree found

-- the role has a right to each of these uses; or the first that is denied is
abbrev pub HasRights : State → List Use → Result (Unit {0}) Stop → Type 0
HasRights s uses (Ok all) = denial s.policies s.role uses ≡ None
HasRights s uses (Err (stop.Answer line)) =
    (d : Denied) × (denial s.policies s.role uses ≡ Some d) × (line ≡ line_of (denied_data (schemas_of s.tables) (host_names s) d.rule d.used))
HasRights s uses (Err stop.Memory) = Unit {0}

-- types of scalars alone, and that of null
abbrev pub is_of_scalars : Ty-F Ty → Bool
is_of_scalars Ty-F.Int = true
is_of_scalars Ty-F.IntN = true
is_of_scalars Ty-F.Bool = true
is_of_scalars Ty-F.Str = true
is_of_scalars Ty-F.Null = true
is_of_scalars layer = false

-- an expression of this type is evaluated to a scalar of it, with which whatever is done with it goes on; or the statement stops
abbrev pub IsEvaluated : State → Expr → Ty → Result Scalar Stop → Type 0
IsEvaluated s e t (Ok v) = ((next : Scalar → Outcome) → evaluated s e next ≡ next v) × IsScalarOf (out-Ty t) v
IsEvaluated s e t (Err why) = (next : Scalar → Outcome) → Stops s (evaluated s e next) why

-- what is done with what an expression means that isn't denied: the scalar that it is, of this type, or the line of a fault
abbrev pub Yields : State → Result (Value TableRow) Fault → Ty → Result Scalar Stop → Type 0
Yields s meant t (Ok v) = ((next : Scalar → Outcome) → with_value s next meant ≡ next v) × IsScalarOf (out-Ty t) v
Yields s meant t (Err why) = (next : Scalar → Outcome) → Stops s (with_value s next meant) why

-- and so for each expression of this tree
abbrev pub YieldsTree : State → Tree → Result Scalar Stop → Type 0
YieldsTree s tree found = (e : Expr) → tree_in s e ≡ Some tree → Yields s (expression_meaning (world_in s) e []) tree.ty found

-- the scalar that a value is
abbrev pub scalar_in : {R : Type 0} → Value-F R (Value R) → Option Scalar
scalar_in (Value-F.Scalar s) = Some s
scalar_in layer = None

-- each expression of this tree is evaluated so
abbrev pub EvaluatesTree : State → Tree → Result Scalar Stop → Type 0
EvaluatesTree s tree found = (e : Expr) → tree_in s e ≡ Some tree → IsEvaluated s e tree.ty found

-- these are the numbers of the rows on which a condition of this tree is true, up to its first fault
abbrev pub ChoosesRows : State → ℕ → Tree → Vec ℕ Global × End → Type 0
ChoosesRows s n tree found =
    (x : List ℕ) (e : Expr) (table : Table) → slice_get s.tables n ≡ Some table → condition_in s x n e ≡ Some tree
    → let rows : Stream TableRow = removed_items s x e n table.rows in (found.0.items ≡ map (λ r. r.row.number) rows.0) × (found.1 ≡ rows.1)
