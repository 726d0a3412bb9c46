-- The statement is within the limits, and the tree is that of its expression.
use Rattle.std.proofs.Common.{◌∙◌, sym}
use Rattle.lq_machine.specs.States.{schemas_of}
use Rattle.lq_tree.specs.Binding.{term_tree}
use Rattle.lq_tree.specs.SessionPlaces.{statement_places}
use Rattle.lq_run.proofs.TreeLemmas.{finds}
use Rattle.lq_run.proofs.trees.tree_of.Goals as goal

pub returns : goal.returns
returns c = λ predicates known.
    finds _ _ c.bind_term.result c.typed.result
    (λ i. term_tree (schemas_of (c.scope_in.ensures.store i)) (c.in_ok-term.ensures i)
    (statement_places (schemas_of (c.scope_in.ensures.store i)) ((c.scope_in.ensures.hosts ∙ sym known) i) (c.scope_in.ensures.definitions i)))
    c.bind_term.ensures c.typed.ensures
