-- The tree of a term means what the term means, and gives values of its type: by induction over the terms in it.
use Rattle.std.proofs.Common.{◌≡◌, Option, None, Some, Result, Ok, ap, ◌∙◌, sym, subst, option_map}
use Rattle.std.proofs.lemmas.Option.{none-some, same_Some}
use Rattle.lq_value.specs.declared.ty.Ty.{Ty}
use Rattle.lq_value.specs.declared.ty.Ty.TheVariants as ty
use Rattle.lq_value.specs.declared.value.Fault.{Fault}
use Rattle.lq_value.specs.declared.value.Value.{Value}
use Rattle.lq_language.specs.ClauseTyping.{expression_type, query_items}
use Rattle.lq_language.specs.Worlds.{Meaning, Scope, World}
use Rattle.lq_language.specs.OperandMeaning.{sequence}
use Rattle.lq_language.specs.ValuesOfTypes.{HoldsRows}
use Rattle.lq_language.specs.Operators.{call_meaning}
use Rattle.lq_language.specs.Stream.{Stream}
use Rattle.lq_language.specs.Terms.{MeantTerm, term_meaning, term_meaning_step, term_type}
use Rattle.lq_language.specs.Names.{Names}
use Rattle.lq_language.specs.Meaning.{node_meaning}
use Rattle.lq_language.specs.MeaningLaws.{IsSessionOfValues, IsValueOf}
use Rattle.lq_language.specs.declared.calls.Call.{Call}
use Rattle.lq_language.specs.declared.calls.Term.{Term}
use Rattle.lq_language.specs.declared.calls.Term.TheVariants as term
use Rattle.lq_grammar.specs.declared.syntax.Node.{Node}
use Rattle.lq_language.proofs.AlikeStreamLaws.{Agree}
use Rattle.lq_translate.specs.Maps.{map_call, map_node}
use Rattle.lq_translate.specs.Translated.{translated, translated_query}
use Rattle.lq_translate.proofs.AlikeTermLaws.{items_typed, streams_mean, terms_mean, terms_typed}
use Rattle.lq_translate.proofs.LayerLaws.{para_call, para_term_node}
use Rattle.lq_translate.proofs.NodePullLaws.{map_nodes, node_pull as meaning_pull}
use Rattle.lq_translate.proofs.CallPullLaws.{call_meant}
use Rattle.lq_tree.specs.Binding.{Binds, call_tree, term_tree, tree_of}
use Rattle.lq_tree.specs.BindingLaws.{BindsExpressions, BindsQueries, MeaningsOfCalls, MeaningsOfTrees}
use Rattle.lq_tree.specs.FormMeaning.{Slots, form_meaning}
use Rattle.lq_tree.specs.Places.{Places, names_of_places}
use Rattle.lq_tree.specs.declared.tree.Form.{Form}
use Rattle.lq_tree.specs.declared.tree.Tree.{Tree}
use Rattle.lq_tree.proofs.CallMeans.{call_means}
use Rattle.lq_translate.proofs.LayerLaws.{Such, of_every, plain}
use Rattle.lq_tree.proofs.NodeMeans.{node_means}
use Rattle.lq_tree.proofs.ScopeLaws.{Stands, names_same}
use Rattle.lq_tree.proofs.TermTypeLaws.{call_types_same, types_same}
use Rattle.lq_tree.proofs.TypeLaws.{type_found}
use Rattle.lq_tree.proofs.TreePullLaws.{call_pull, node_pull, tree_of_call, tree_of_node}

module _ {R : Type 0} (world : World R) (holds : HoldsRows world) (kept : IsSessionOfValues world) where
  -- a term beside what it means
  abbrev beside : Term → MeantTerm R
  beside t = (t, term_meaning world t)

  meaning_of_node : (n : Node Term) → term_meaning world (term.Node n) ≡ (λ scope. node_meaning world term_type (map_node beside n) scope)
  unfolding term_meaning
  meaning_of_node n = para_term_node (Meaning R) (term_meaning_step world) n

  meaning_of_call : (c : Call Term) → term_meaning world (term.Call c)
      ≡ (λ scope. Ok (sequence (call_meaning world (λ x. term_type x.0) (λ x. x.1) (map_call beside c) scope)))
  unfolding term_meaning
  meaning_of_call c = para_call (Meaning R) (term_meaning_step world) c

  abbrev MeansAlike : Term → Type 0
  MeansAlike t =
      (slots : Slots R) (places : Places) (scope : Scope R) → Stands world slots places scope → (r : Tree) → term_tree world.schemas t places ≡ Some r
      → Agree (IsValueOf world r.ty) (form_meaning world r.form slots) (term_meaning world t scope)

  abbrev base : Such MeansAlike → Term
  base = plain {P = MeansAlike}

  abbrev tree_at : Such MeansAlike → Binds
  tree_at z = term_tree world.schemas z.0

  abbrev type_at : Such MeansAlike → Names → Option Ty
  type_at z = term_type z.0

  abbrev meant_at : Such MeansAlike → Meaning R
  meant_at z = term_meaning world z.0

  node_meant : (n : Node (Such MeansAlike)) (scope : Scope R)
      → term_meaning world (term.Node (map_node base n)) scope ≡ node_meaning world type_at (map_node (λ z. (z, meant_at z)) n) scope
  node_meant n scope =
      ap (λ (m : Meaning R). m scope) (meaning_of_node (map_node base n))
      ∙ ap (λ (m : Node (MeantTerm R)). node_meaning world term_type m scope) (map_nodes beside base n)
      ∙ meaning_pull world term_type base meant_at n scope

  call_meant_at : (c : Call (Such MeansAlike)) (scope : Scope R)
      → term_meaning world (term.Call (map_call base c)) scope ≡ Ok (sequence (call_meaning world type_at meant_at c scope))
  call_meant_at c scope =
      ap (λ (m : Meaning R). m scope) (meaning_of_call (map_call base c))
      ∙ ap (λ (s : Stream (Value R)). Ok (sequence s))
      (call_meant beside world (λ x. term_type x.0) (λ x. x.1) (map_call base c) scope ∙ call_meant base world term_type (term_meaning world) c scope)

  at_node : (n : Node (Such MeansAlike)) → MeansAlike (term.Node (map_node base n))
  at_node n slots places scope at r h =
      subst (λ (o : Result (Value R) Fault). Agree (IsValueOf world r.ty) (form_meaning world r.form slots) o) (sym (node_meant n scope))
      (node_means world holds kept tree_at type_at meant_at (λ z. types_same world.schemas z.0) (λ z. z.1) slots places scope at n r
      (sym (ap (λ (b : Binds). b places) (tree_of_node world.schemas (map_node base n)) ∙ node_pull world.schemas base (term_tree world.schemas) n places) ∙ h))

  at_call : (c : Call (Such MeansAlike)) → MeansAlike (term.Call (map_call base c))
  at_call c slots places scope at r h =
      subst (λ (o : Result (Value R) Fault). Agree (IsValueOf world r.ty) (form_meaning world r.form slots) o) (sym (call_meant_at c scope))
      (call_means world holds tree_at type_at meant_at (λ z. types_same world.schemas z.0) (λ z. z.1) slots places scope at c r
      (sym (ap (λ (b : Binds). b places) (tree_of_call world.schemas (map_call base c)) ∙ call_pull world.schemas base (term_tree world.schemas) c places) ∙ h))

  every_means : (t : Term) → MeansAlike t
  every_means = of_every MeansAlike at_node at_call

pub meanings_same : {R : Type 0} → MeaningsOfTrees R
meanings_same world holds kept t places slots scope fits reached tree h = every_means world holds kept t slots places scope (fits, reached) tree h

pub call_meanings_same : {R : Type 0} → MeaningsOfCalls R
call_meanings_same world holds kept c places slots scope fits reached tree h =
    call_means world holds (term_tree world.schemas) term_type (term_meaning world) (types_same world.schemas) (every_means world holds kept) slots places scope
    (fits, reached) c tree h

-- ---- whole expressions

-- a tree that is found with this type
pub tree_there : (o : Option Tree) (t : Ty) → type_found o ≡ Some t → (f : Form) × (o ≡ Some (tree_of t f))
tree_there None t h = absurd (none-some t h)
tree_there (Some tree) t h = (tree.form, ap (λ (u : Ty). Some (tree_of u tree.form)) (same_Some tree.ty t h))

pub expressions_bound : {R : Type 0} → BindsExpressions R
expressions_bound world holds kept e places slots scope fits reached t typed =
    let there =
    tree_there (term_tree world.schemas (translated e) places) t
    (types_same world.schemas (translated e) places ∙ terms_typed e (names_of_places world.schemas places)
    ∙ ap (expression_type e) (sym (names_same world slots places scope reached)) ∙ typed) in (
      there.0,
      there.1,
      (meanings_same world holds kept (translated e) places slots scope fits reached (tree_of t there.0) there.1).0 ∙ terms_mean world e scope,
    )

pub queries_bound : {R : Type 0} → BindsQueries R
queries_bound {R} world holds kept q places slots scope fits reached t typed =
    let there =
    tree_there (call_tree world.schemas (term_tree world.schemas) (translated_query q) places) (ty.Seq t)
    (call_types_same world.schemas (translated_query q) places
    ∙ ap (option_map ty.Seq) (items_typed q (names_of_places world.schemas places)
    ∙ ap (query_items expression_type q) (sym (names_same world slots places scope reached)) ∙ typed)) in (
      there.0,
      there.1,
      (call_meanings_same world holds kept (translated_query q) places slots scope fits reached (tree_of (ty.Seq t) there.0) there.1).0
          ∙ ap (λ (s : Stream (Value R)). Ok (sequence s)) (streams_mean world q scope),
    )
