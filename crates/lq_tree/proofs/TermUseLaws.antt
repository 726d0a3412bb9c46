-- A tree uses what its term uses, and what the expression uses that was translated to the term, in the same order: by induction over the
-- terms in it.
use Rattle.std.proofs.Common.{◌≡◌, List, Option, Some, ap, ◌∙◌, sym}
use Rattle.lq_value.specs.declared.table.Schema.{Schema}
use Rattle.lq_value.specs.declared.ty.Ty.{Ty}
use Rattle.lq_language.specs.Terms.{term_type}
use Rattle.lq_language.specs.Names.{Names}
use Rattle.lq_language.specs.Uses.{expression_uses}
use Rattle.lq_language.specs.UsesOfCalls.{call_uses, term_uses}
use Rattle.lq_language.specs.declared.calls.Call.{Call}
use Rattle.lq_language.specs.declared.calls.Term.{Term}
use Rattle.lq_language.specs.declared.calls.Term.TheVariants as term
use Rattle.lq_language.specs.Mentions.{Mention}
use Rattle.lq_grammar.specs.declared.syntax.Expr.{Expr}
use Rattle.lq_grammar.specs.declared.syntax.Node.{Node}
use Rattle.lq_translate.specs.Maps.{map_call, map_node}
use Rattle.lq_translate.specs.Translated.{translated}
use Rattle.lq_translate.proofs.UsePullLaws.{call_pull as call_uses_pull, node_pull as node_uses_pull}
use Rattle.lq_translate.proofs.AlikeUseLaws.{term_uses_of_call, term_uses_of_node, terms_used}
use Rattle.lq_tree.specs.Binding.{Binds, call_tree, term_tree}
use Rattle.lq_tree.specs.Places.{Places, names_of_places}
use Rattle.lq_tree.specs.UsesOfForms.{UseWhatIsKnown, form_uses}
use Rattle.lq_tree.specs.declared.tree.Tree.{Tree}
use Rattle.lq_tree.proofs.CallUses.{call_used}
use Rattle.lq_translate.proofs.LayerLaws.{Such, of_every, plain}
use Rattle.lq_tree.proofs.NodeUseLaws.{node_used}
use Rattle.lq_tree.proofs.TermTypeLaws.{types_same}
use Rattle.lq_tree.proofs.TreePullLaws.{call_pull, node_pull, tree_of_call, tree_of_node}
use Rattle.lq_tree.proofs.TypeLaws.{type_found}

module _ (schemas : List Schema) where
  abbrev UsesAlike : Term → Type 0
  UsesAlike t =
      (places : Places) → UseWhatIsKnown places → (r : Tree) → term_tree schemas t places ≡ Some r → form_uses r.form ≡ term_uses t (names_of_places schemas places)

  abbrev base : Such UsesAlike → Term
  base = plain {P = UsesAlike}

  abbrev tree_at : Such UsesAlike → Binds
  tree_at z = term_tree schemas z.0

  abbrev type_at : Such UsesAlike → Names → Option Ty
  type_at z = term_type z.0

  abbrev uses_at : Such UsesAlike → Names → List Mention
  uses_at z = term_uses z.0

  typed : (z : Such UsesAlike) (places : Places) → type_found (tree_at z places) ≡ type_at z (names_of_places schemas places)
  typed z places = types_same schemas z.0 places

  at_node : (n : Node (Such UsesAlike)) → UsesAlike (term.Node (map_node base n))
  at_node n places nothing r h =
      node_used schemas tree_at type_at uses_at typed (λ z. z.1) places nothing n r
      (sym (ap (λ (b : Binds). b places) (tree_of_node schemas (map_node base n)) ∙ node_pull schemas base (term_tree schemas) n places) ∙ h)
      ∙ sym (node_uses_pull base term_type term_uses n (names_of_places schemas places))
      ∙ ap (λ (g : Names → List Mention). g (names_of_places schemas places)) (sym (term_uses_of_node (map_node base n)))

  at_call : (c : Call (Such UsesAlike)) → UsesAlike (term.Call (map_call base c))
  at_call c places nothing r h =
      call_used schemas tree_at type_at uses_at typed (λ z. z.1) places nothing c r
      (sym (ap (λ (b : Binds). b places) (tree_of_call schemas (map_call base c)) ∙ call_pull schemas base (term_tree schemas) c places) ∙ h)
      ∙ sym (call_uses_pull base term_type term_uses c (names_of_places schemas places))
      ∙ ap (λ (g : Names → List Mention). g (names_of_places schemas places)) (sym (term_uses_of_call (map_call base c)))

  pub uses_same : (t : Term) → UsesAlike t
  uses_same = of_every UsesAlike at_node at_call

  pub call_uses_same : (c : Call Term) (places : Places) → UseWhatIsKnown places → (r : Tree) → call_tree schemas (term_tree schemas) c places ≡ Some r
      → form_uses r.form ≡ call_uses term_type term_uses c (names_of_places schemas places)
  call_uses_same c places nothing r h = call_used schemas (term_tree schemas) term_type term_uses (types_same schemas) uses_same places nothing c r h

  pub expression_uses_same : (e : Expr) (places : Places) → UseWhatIsKnown places → (r : Tree) → term_tree schemas (translated e) places ≡ Some r
      → form_uses r.form ≡ expression_uses e (names_of_places schemas places)
  expression_uses_same e places nothing r h = uses_same (translated e) places nothing r h ∙ terms_used e (names_of_places schemas places)
