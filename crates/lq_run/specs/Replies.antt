-- What the line of a tree serves: every expression that is bound to the tree.
use Rattle.std.specs.Prelude.{◌≡◌, List, ℕ, Some}
use Rattle.lq_machine.specs.Serving.{run_reply}
use Rattle.lq_machine.specs.States.{State, names_in, world_in}
use Rattle.lq_machine.specs.Served.{line_of}
use Rattle.lq_grammar.specs.declared.syntax.Expr.{Expr}
use Rattle.lq_tree.specs.declared.tree.Tree.{Tree}
use Rattle.lq_run.specs.Statements.{tree_in}

module _ (s : State) where
  -- the machine's line of `run` of an expression that isn't denied
  abbrev pub served_line : Expr → List ℕ
  served_line e = line_of (run_reply (names_in s) (world_in s) e)

  -- a tree is the expression's
  abbrev pub IsTreeOf : Expr → Tree → Type 0
  IsTreeOf e tree = tree_in s e ≡ Some tree

  -- a line is what is served of every expression that is bound to the tree
  abbrev pub ServesTree : Tree → List ℕ → Type 0
  ServesTree tree line = (e : Expr) → IsTreeOf e tree → line ≡ served_line e
