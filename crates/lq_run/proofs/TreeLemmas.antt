-- From what is bound within the limits of opening to the tree of a statement.
use Rattle.std.proofs.Common.{◌≡◌, false, Option, Result, subst}
use Rattle.lq_bind.specs.Outcomes.{IsBound}
use Rattle.lq_bind.specs.declared.error.BindError.{BindError}
use Rattle.lq_tree.specs.declared.tree.Tree.{Tree}
use Rattle.lq_run.specs.Statements.{FindsTree, IsTyped}
use Rattle.lq_run.specs.declared.stop.Stop.{Stop}

pub finds : (x y : Option Tree) (bound : Result Tree BindError) (found : Result Tree Stop) → x ≡ y → IsBound false x bound → IsTyped bound found
    → FindsTree y found
finds x y bound found same is_bound is_typed = is_typed y (subst (λ (tree : Option Tree). IsBound false tree bound) same is_bound)
