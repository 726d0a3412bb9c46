-- The tree of a term is typed, and so is that of an expression, through the term that it is translated to: by induction over the terms in it.
use Rattle.std.proofs.Common.{◌≡◌, List, Some, ap, ◌∙◌, sym}
use Rattle.lq_value.specs.declared.table.Schema.{Schema}
use Rattle.lq_language.specs.declared.calls.Call.{Call}
use Rattle.lq_language.specs.declared.calls.Term.{Term}
use Rattle.lq_language.specs.declared.calls.Term.TheVariants as term
use Rattle.lq_grammar.specs.declared.syntax.Node.{Node}
use Rattle.lq_translate.specs.Maps.{map_call, map_node}
use Rattle.lq_translate.specs.Translated.{translated}
use Rattle.lq_tree.specs.Binding.{Binds, term_tree}
use Rattle.lq_tree.specs.Places.{Places}
use Rattle.lq_tree.specs.TypedForms.{Shape}
use Rattle.lq_tree.specs.TypedFormLaws.{AreTyped, TypedCalls, TypedExpressions, TypedTrees}
use Rattle.lq_tree.specs.declared.tree.Tree.{Tree}
use Rattle.lq_translate.proofs.LayerLaws.{Such, of_every, plain}
use Rattle.lq_tree.proofs.TreePullLaws.{call_pull, node_pull, tree_of_call, tree_of_node}
use Rattle.lq_tree.proofs.TypedCalls.{call_typed}
use Rattle.lq_tree.proofs.TypedNodes.{IsTypedTree, node_typed}

module _ (schemas : List Schema) where
  abbrev IsTypedTerm : Term → Type 0
  IsTypedTerm t =
      (places : Places) (shapes : List Shape) → AreTyped schemas shapes places → (r : Tree) → term_tree schemas t places ≡ Some r → IsTypedTree schemas shapes r

  abbrev base : Such IsTypedTerm → Term
  base = plain {P = IsTypedTerm}

  abbrev tree_at : Such IsTypedTerm → Binds
  tree_at z = term_tree schemas z.0

  at_node : (n : Node (Such IsTypedTerm)) → IsTypedTerm (term.Node (map_node base n))
  at_node n places shapes known r h =
      node_typed schemas tree_at (λ z. z.1) places shapes known n r
      (sym (ap (λ (b : Binds). b places) (tree_of_node schemas (map_node base n)) ∙ node_pull schemas base (term_tree schemas) n places) ∙ h)

  at_call : (c : Call (Such IsTypedTerm)) → IsTypedTerm (term.Call (map_call base c))
  at_call c places shapes known r h =
      call_typed schemas tree_at (λ z. z.1) places shapes known c r
      (sym (ap (λ (b : Binds). b places) (tree_of_call schemas (map_call base c)) ∙ call_pull schemas base (term_tree schemas) c places) ∙ h)

  pub term_typed : (t : Term) → IsTypedTerm t
  term_typed = of_every IsTypedTerm at_node at_call

pub typed_trees : TypedTrees
typed_trees schemas t places shapes known tree h = term_typed schemas t places shapes known tree h

pub typed_calls : TypedCalls
typed_calls schemas c places shapes known tree h = call_typed schemas (term_tree schemas) (term_typed schemas) places shapes known c tree h

pub typed_expressions : TypedExpressions
typed_expressions schemas e places shapes known tree h = term_typed schemas (translated e) places shapes known tree h
