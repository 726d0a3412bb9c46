-- The statement is within the limits, and the tree is that of its condition.
use Rattle.std.proofs.Common.{◌∙◌, sym}
use Rattle.lq_machine.specs.States.{schemas_of}
use Rattle.lq_tree.specs.Binding.{term_tree}
use Rattle.lq_tree.specs.SessionPlaces.{condition_places}
use Rattle.lq_run.proofs.TreeLemmas.{finds}
use Rattle.lq_run.proofs.trees.condition_of.Goals as goal

pub returns : goal.returns
returns c = λ predicates known.
    finds _ _ c.bind_condition.result c.typed.result
    (λ i. term_tree (schemas_of (c.scope_in-scope.ensures.store i)) (c.in_ok-term.ensures i)
    (condition_places (schemas_of (c.scope_in-scope.ensures.store i)) ((c.scope_in-scope.ensures.hosts ∙ sym known) i)
    (c.scope_in-scope.ensures.definitions i) c.args.row.now c.args.table))
    c.bind_condition.ensures c.typed.ensures
