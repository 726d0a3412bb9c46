-- A term has a tree exactly where it has a type, and the tree's type is that: by induction over the terms in it.
use Rattle.std.proofs.Common.{◌≡◌, List, Option, ap, ◌∙◌, sym, option_map}
use Rattle.lq_value.specs.declared.table.Schema.{Schema}
use Rattle.lq_value.specs.declared.ty.Ty.{Ty}
use Rattle.lq_value.specs.declared.ty.Ty.TheVariants as ty
use Rattle.lq_language.specs.Operators.{call_items}
use Rattle.lq_language.specs.Terms.{term_type}
use Rattle.lq_language.specs.Names.{Names}
use Rattle.lq_language.specs.Typing.{node_type}
use Rattle.lq_language.specs.declared.calls.Call.{Call}
use Rattle.lq_language.specs.declared.calls.Term.{Term}
use Rattle.lq_language.specs.declared.calls.Term.TheVariants as term
use Rattle.lq_grammar.specs.declared.syntax.Node.{Node}
use Rattle.lq_translate.specs.Maps.{map_call, map_node}
use Rattle.lq_translate.proofs.AlikeTermLaws.{term_call, term_node}
use Rattle.lq_translate.proofs.NodePullLaws.{map_nodes}
use Rattle.lq_translate.proofs.CallPullLaws.{call_typed}
use Rattle.lq_tree.specs.Binding.{Binds, call_tree, term_tree}
use Rattle.lq_tree.specs.Places.{Places, names_of_places}
use Rattle.lq_tree.proofs.CallTypes.{call_found}
use Rattle.lq_translate.proofs.LayerLaws.{Such, of_every, plain}
use Rattle.lq_tree.proofs.NodeTypes.{node_found}
use Rattle.lq_tree.proofs.TreePullLaws.{call_pull, node_pull, tree_of_call, tree_of_node}
use Rattle.lq_tree.proofs.TypeLaws.{type_found}

module _ (schemas : List Schema) where
  abbrev TypesAlike : Term → Type 0
  TypesAlike t = (places : Places) → type_found (term_tree schemas t places) ≡ term_type t (names_of_places schemas places)

  abbrev base : Such TypesAlike → Term
  base = plain {P = TypesAlike}

  abbrev tree_at : Such TypesAlike → Binds
  tree_at z = term_tree schemas z.0

  abbrev type_at : Such TypesAlike → Names → Option Ty
  type_at z = term_type z.0

  at_node : (n : Node (Such TypesAlike)) → TypesAlike (term.Node (map_node base n))
  at_node n places =
      ap (λ (b : Binds). type_found (b places)) (tree_of_node schemas (map_node base n))
      ∙ ap type_found (node_pull schemas base (term_tree schemas) n places)
      ∙ node_found schemas tree_at type_at (λ z. z.1) n places
      ∙ ap (λ (m : Node (Names → Option Ty)). node_type m (names_of_places schemas places)) (sym (map_nodes term_type base n))
      ∙ ap (λ (t : Names → Option Ty). t (names_of_places schemas places)) (sym (term_node (map_node base n)))

  at_call : (c : Call (Such TypesAlike)) → TypesAlike (term.Call (map_call base c))
  at_call c places =
      ap (λ (b : Binds). type_found (b places)) (tree_of_call schemas (map_call base c))
      ∙ ap type_found (call_pull schemas base (term_tree schemas) c places)
      ∙ call_found schemas tree_at type_at (λ z. z.1) c places
      ∙ ap (option_map ty.Seq) (sym (call_typed base term_type c (names_of_places schemas places)))
      ∙ ap (λ (t : Names → Option Ty). t (names_of_places schemas places)) (sym (term_call (map_call base c)))

  pub types_same : (t : Term) (places : Places) → type_found (term_tree schemas t places) ≡ term_type t (names_of_places schemas places)
  types_same = of_every TypesAlike at_node at_call

  pub call_types_same : (c : Call Term) (places : Places)
      → type_found (call_tree schemas (term_tree schemas) c places) ≡ option_map ty.Seq (call_items term_type c (names_of_places schemas places))
  call_types_same = call_found schemas (term_tree schemas) term_type types_same
