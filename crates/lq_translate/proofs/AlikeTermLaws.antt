-- Whole expressions: what one is translated to has its type and means what it means.
use Rattle.std.proofs.Common.{◌≡◌, ◌∷◌, if◌then◌else◌, List, ℕ, true, Option, Some, Ok, ap, ◌∙◌, sym, refl, option_map, bytes_eq, true≢false}
use Rattle.lq_value.specs.declared.ty.Ty.{Ty}
use Rattle.lq_value.specs.declared.ty.Ty.TheVariants as ty
use Rattle.lq_language.specs.ClauseTyping.{expression_type, query_items}
use Rattle.lq_language.specs.Worlds.{Binding, Meaning, Scope, World, binding_of}
use Rattle.lq_language.specs.OperandMeaning.{sequence}
use Rattle.lq_language.specs.ClauseMeaning.{query_meaning}
use Rattle.lq_language.specs.RuleMeaning.{Meant}
use Rattle.lq_language.specs.Operators.{call_items, call_meaning}
use Rattle.lq_language.specs.Terms.{MeantTerm, term_meaning, term_meaning_step, term_step, term_type}
use Rattle.lq_language.specs.Names.{Names, local_type, with_local}
use Rattle.lq_language.specs.Meaning.{expression_meaning, expression_meaning_step, items_meaning, node_meaning, value_of_name}
use Rattle.lq_language.specs.Typing.{node_type, type_of_name}
use Rattle.lq_language.specs.declared.calls.Call.{Call}
use Rattle.lq_language.specs.declared.calls.Term.{Term, out-Term, roll-Term}
use Rattle.lq_language.specs.declared.calls.Term.TheOpen.{Term-F}
use Rattle.lq_language.specs.declared.calls.Term.TheVariants as term
use Rattle.lq_language.specs.declared.calls.Term.TheVariants.{rolls-Node}
use Rattle.lq_language.specs.declared.calls.Term.TheViews.{roll-out-Term}
use Rattle.lq_grammar.specs.declared.syntax.Expr.{Expr}
use Rattle.lq_grammar.specs.declared.syntax.Expr.TheVariants as expr
use Rattle.lq_grammar.specs.declared.syntax.Node.{Node}
use Rattle.lq_grammar.specs.declared.syntax.Node.TheVariants as node
use Rattle.lq_grammar.specs.declared.syntax.Query.{Query}
use Rattle.lq_translate.specs.Maps.{map_call, map_node, map_query}
use Rattle.lq_translate.specs.Translated.{is_name, layer_is_name, translated, translated_query, translated_step}
use Rattle.lq_translate.specs.TranslationLaws.{NamesMean, NamesTyped}
use Rattle.lq_language.proofs.ExpressionTypeLaws.{expression_type_node, expression_type_query}
use Rattle.lq_language.proofs.LayerLaws.{With, base, fold_node, fold_query, of_every, para_node, para_query}
use Rattle.lq_translate.proofs.LayerLaws.{fold_call, fold_term_node, para_call, para_term_node}
use Rattle.lq_translate.proofs.MeaningLemmas.{means_alike}
use Rattle.lq_translate.proofs.NodePullLaws.{map_nodes, node_pull}
use Rattle.lq_language.proofs.QueryPullLaws.{query_meant, query_typed}
use Rattle.lq_translate.proofs.CallPullLaws.{call_meant, call_typed}
use Rattle.lq_translate.proofs.TypingLemmas.{typed_alike}

-- ---- what is translated

pub translated_node : (n : Node Expr) → translated (expr.Node n) ≡ term.Node (map_node translated n)
unfolding translated
translated_node n = fold_node Term translated_step n

pub translated_to_call : (q : Query Expr) → translated (expr.Query q) ≡ term.Call (translated_query q)
unfolding translated
translated_to_call q = fold_query Term translated_step q

-- ---- the types of forms

pub term_node : (n : Node Term) → term_type (term.Node n) ≡ (λ names. node_type (map_node term_type n) names)
unfolding term_type
term_node n = fold_term_node (Names → Option Ty) term_step n

pub term_call : (c : Call Term) → term_type (term.Call c) ≡ (λ names. option_map ty.Seq (call_items term_type c names))
unfolding term_type
term_call c = fold_call (Names → Option Ty) term_step c ∙ (λ i names. option_map ty.Seq (call_typed term_type (λ t. t) c names i))

-- ---- names

name_layer : (layer : Term-F Term) (n : List ℕ) → layer_is_name layer n ≡ true → (used : List ℕ) × (layer ≡ Term-F.Node (node.Name used)) × (bytes_eq n used ≡ true)
name_layer (Term-F.Node (node.Name used)) n h = (used, refl, h)
name_layer (Term-F.Node other) n h = absurd (true≢false (sym h))
name_layer (Term-F.Call c) n h = absurd (true≢false (sym h))

pub named : (t : Term) (n : List ℕ) → is_name t n ≡ true → (used : List ℕ) × (t ≡ term.Node (node.Name used)) × (bytes_eq n used ≡ true)
named t n h =
    let found = name_layer (out-Term t) n h in
    (found.0, sym (roll-out-Term t) ∙ ap roll-Term found.1 ∙ rolls-Node (node.Name found.0), found.2)

-- a name has the type of what it refers to
pub names_typed : NamesTyped is_name term_type
names_typed t n h names s =
    let found = named t n h in
    ap (λ (x : Term). term_type x (with_local names n s)) found.1
    ∙ ap (λ (g : Names → Option Ty). g (with_local names n s)) (term_node (node.Name found.0))
    ∙ ap (λ b. type_of_name (with_local names n s) found.0 (if b then Some s else local_type found.0 names.locals)) found.2

-- ---- types

abbrev pub TypesAlike : Expr → Type 0
TypesAlike e = term_type (translated e) ≡ expression_type e

types_at_node : (n : Node (With TypesAlike)) → TypesAlike (expr.Node (map_node (base {P = TypesAlike}) n))
types_at_node n =
    ap term_type (translated_node (map_node (base {P = TypesAlike}) n))
    ∙ term_node (map_node translated (map_node (base {P = TypesAlike}) n))
    ∙ ap (λ (m : Node (Names → Option Ty)). (λ names. node_type m names))
    (ap (map_node term_type) (map_nodes translated (base {P = TypesAlike}) n) ∙ map_nodes term_type (λ z. translated z.0) n
    ∙ (λ i. map_node (λ z. z.1 i) n) ∙ sym (map_nodes expression_type (base {P = TypesAlike}) n))
    ∙ sym (expression_type_node (map_node (base {P = TypesAlike}) n))

-- the calls of a query whose expressions are translated
calls_typed : (q : Query Expr) (names : Names) → call_items term_type (translated_query q) names ≡ query_items (λ e. term_type (translated e)) q names
calls_typed q names = typed_alike is_name term_type names_typed names (map_query translated q) ∙ query_typed translated term_type q names

types_at_query : (q : Query (With TypesAlike)) → TypesAlike (expr.Query (map_query (base {P = TypesAlike}) q))
types_at_query q =
    ap term_type (translated_to_call (map_query (base {P = TypesAlike}) q))
    ∙ term_call (translated_query (map_query (base {P = TypesAlike}) q))
    ∙ (λ i names. option_map ty.Seq (here names i))
    ∙ sym (expression_type_query (map_query (base {P = TypesAlike}) q))
  where
    here : (names : Names)
        → call_items term_type (translated_query (map_query (base {P = TypesAlike}) q)) names ≡ query_items expression_type (map_query (base {P = TypesAlike}) q) names
    here names =
        calls_typed (map_query (base {P = TypesAlike}) q) names
        ∙ query_typed (base {P = TypesAlike}) (λ e. term_type (translated e)) q names
        ∙ (λ i. query_items (λ z. z.1 i) q names)
        ∙ sym (query_typed (base {P = TypesAlike}) expression_type q names)

pub types_same : (e : Expr) → TypesAlike e
types_same = of_every TypesAlike types_at_node types_at_query

pub terms_typed : (e : Expr) (names : Names) → term_type (translated e) names ≡ expression_type e names
terms_typed e names = ap (λ (g : Names → Option Ty). g names) (types_same e)

pub items_typed : (q : Query Expr) (names : Names) → call_items term_type (translated_query q) names ≡ query_items expression_type q names
items_typed q names = calls_typed q names ∙ (λ i. query_items (λ e. types_same e i) q names)

-- ---- meaning

module _ {R : Type 0} (world : World R) where
  abbrev meant : Expr → Meant R
  meant e = (e, expression_meaning world e)

  abbrev meant_term : Term → MeantTerm R
  meant_term t = (t, term_meaning world t)

  meaning_node : (n : Node Expr) → expression_meaning world (expr.Node n) ≡ (λ scope. node_meaning world expression_type (map_node meant n) scope)
  unfolding expression_meaning
  meaning_node n = para_node (Meaning R) (expression_meaning_step world) n

  meaning_query : (q : Query Expr) → expression_meaning world (expr.Query q) ≡ (λ scope. Ok (sequence (query_meaning world (λ x. expression_type x.0) (λ x. x.1) (map_query meant q) scope)))
  unfolding expression_meaning
  meaning_query q = para_query (Meaning R) (expression_meaning_step world) q

  term_meaning_node : (n : Node Term) → term_meaning world (term.Node n) ≡ (λ scope. node_meaning world term_type (map_node meant_term n) scope)
  unfolding term_meaning
  term_meaning_node n = para_term_node (Meaning R) (term_meaning_step world) n

  term_meaning_call : (c : Call Term)
      → term_meaning world (term.Call c) ≡ (λ scope. Ok (sequence (call_meaning world (λ x. term_type x.0) (λ x. x.1) (map_call meant_term c) scope)))
  unfolding term_meaning
  term_meaning_call c = para_call (Meaning R) (term_meaning_step world) c

  -- a name means what it refers to
  names_mean : NamesMean is_name {R = R} (term_meaning world)
  names_mean t n h s v scope =
      let found = named t n h in
      let b : Binding R = record { name = n; ty = s; value = v } in
      ap (λ (x : Term). term_meaning world x (b ∷ scope)) found.1
      ∙ ap (λ (g : Meaning R). g (b ∷ scope)) (term_meaning_node (node.Name found.0))
      ∙ ap (λ c. value_of_name world found.0 (if c then Some b else binding_of found.0 scope)) found.2

  abbrev MeaningsAlike : Expr → Type 0
  MeaningsAlike e = term_meaning world (translated e) ≡ expression_meaning world e

  abbrev Such : Type 0
  Such = With MeaningsAlike

  abbrev plain : Such → Expr
  plain z = z.0

  means_at_node : (n : Node Such) → MeaningsAlike (expr.Node (map_node plain n))
  means_at_node n =
      ap (term_meaning world) (translated_node (map_node plain n))
      ∙ term_meaning_node (map_node translated (map_node plain n))
      ∙ (λ i scope. here scope i)
      ∙ sym (meaning_node (map_node plain n))
    where
      here : (scope : Scope R)
          → node_meaning world term_type (map_node meant_term (map_node translated (map_node plain n))) scope
          ≡ node_meaning world expression_type (map_node meant (map_node plain n)) scope
      here scope =
          ap (λ (m : Node (MeantTerm R)). node_meaning world term_type m scope)
          (ap (map_node meant_term) (map_nodes translated plain n) ∙ map_nodes meant_term (λ (z : Such). translated z.0) n)
          ∙ node_pull world term_type (λ (z : Such). translated z.0) (λ z. term_meaning world (translated z.0)) n scope
          ∙ (λ i. node_meaning world (λ (z : Such). types_same z.0 i) (map_node (λ (z : Such). (z, z.1 i)) n) scope)
          ∙ sym (node_pull world expression_type plain (λ z. expression_meaning world z.0) n scope)
          ∙ ap (λ (m : Node (Meant R)). node_meaning world expression_type m scope) (sym (map_nodes meant plain n))

  -- the calls of a query whose expressions are translated
  calls_meant : (q : Query Expr) (scope : Scope R)
      → call_meaning world term_type (term_meaning world) (translated_query q) scope
      ≡ query_meaning world (λ e. term_type (translated e)) (λ e. term_meaning world (translated e)) q scope
  calls_meant q scope =
      means_alike is_name world term_type (term_meaning world) scope names_typed names_mean (map_query translated q)
      ∙ query_meant translated world term_type (term_meaning world) q scope

  means_at_query : (q : Query Such) → MeaningsAlike (expr.Query (map_query plain q))
  means_at_query q =
      ap (term_meaning world) (translated_to_call (map_query plain q))
      ∙ term_meaning_call (translated_query (map_query plain q))
      ∙ (λ i scope. Ok (sequence (here scope i)))
      ∙ sym (meaning_query (map_query plain q))
    where
      here : (scope : Scope R)
          → call_meaning world (λ x. term_type x.0) (λ x. x.1) (map_call meant_term (translated_query (map_query plain q))) scope
          ≡ query_meaning world (λ x. expression_type x.0) (λ x. x.1) (map_query meant (map_query plain q)) scope
      here scope =
          call_meant meant_term world (λ x. term_type x.0) (λ x. x.1) (translated_query (map_query plain q)) scope
          ∙ calls_meant (map_query plain q) scope
          ∙ query_meant plain world (λ e. term_type (translated e)) (λ e. term_meaning world (translated e)) q scope
          ∙ (λ i. query_meaning world (λ (z : Such). types_same z.0 i) (λ (z : Such). z.1 i) q scope)
          ∙ sym (query_meant plain world expression_type (expression_meaning world) q scope)
          ∙ sym (query_meant meant world (λ x. expression_type x.0) (λ x. x.1) (map_query plain q) scope)

  means_same : (e : Expr) → MeaningsAlike e
  means_same = of_every MeaningsAlike means_at_node means_at_query

  pub terms_mean : (e : Expr) (scope : Scope R) → term_meaning world (translated e) scope ≡ expression_meaning world e scope
  terms_mean e scope = ap (λ (g : Meaning R). g scope) (means_same e)

  pub streams_mean : (q : Query Expr) (scope : Scope R) → call_meaning world term_type (term_meaning world) (translated_query q) scope ≡ items_meaning world q scope
  streams_mean q scope = calls_meant q scope ∙ (λ i. query_meaning world (λ e. types_same e i) (λ e. means_same e i) q scope)
