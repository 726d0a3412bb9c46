-- Whole expressions: what one is translated to uses what it uses.
use Rattle.std.proofs.Common.{◌≡◌, List, Some, ap, ◌∙◌, sym, if◌then◌else◌}
use Rattle.lq_language.specs.ClauseTyping.{expression_type}
use Rattle.lq_language.specs.Terms.{term_type}
use Rattle.lq_language.specs.Mentions.{Mention}
use Rattle.lq_language.specs.Names.{Names, local_type, with_local}
use Rattle.lq_language.specs.Uses.{Used, expression_uses, name_uses, node_uses, query_uses, uses_step}
use Rattle.lq_language.specs.UsesOfCalls.{UsedTerm, call_uses, term_uses, term_uses_step}
use Rattle.lq_language.specs.declared.calls.Call.{Call}
use Rattle.lq_language.specs.declared.calls.Term.{Term}
use Rattle.lq_language.specs.declared.calls.Term.TheVariants as term
use Rattle.lq_grammar.specs.declared.syntax.Expr.{Expr}
use Rattle.lq_grammar.specs.declared.syntax.Expr.TheVariants as expr
use Rattle.lq_grammar.specs.declared.syntax.Node.{Node}
use Rattle.lq_grammar.specs.declared.syntax.Node.TheVariants as node
use Rattle.lq_grammar.specs.declared.syntax.Query.{Query}
use Rattle.lq_translate.specs.Maps.{map_node, map_query}
use Rattle.lq_translate.specs.Translated.{is_name, translated, translated_query}
use Rattle.lq_translate.specs.TranslationLaws.{NamesUsed}
use Rattle.lq_translate.proofs.AlikeTermLaws.{named, names_typed, translated_node, translated_to_call, types_same}
use Rattle.lq_language.proofs.LayerLaws.{With, of_every, para_node, para_query}
use Rattle.lq_translate.proofs.LayerLaws.{para_call, para_term_node}
use Rattle.lq_translate.proofs.UseLemmas.{used_alike}
use Rattle.lq_translate.proofs.UsePullLaws.{call_pull, node_pull, query_pull}

-- what expressions and terms use, layer by layer
abbrev Uses : Type 0
Uses = Names → List Mention

abbrev beside : Expr → Used
beside e = (e, expression_uses e)

abbrev beside_term : Term → UsedTerm
beside_term t = (t, term_uses t)

uses_of_node : (n : Node Expr) → expression_uses (expr.Node n) ≡ (λ names. node_uses expression_type expression_uses n names)
unfolding expression_uses
uses_of_node n = para_node Uses uses_step n ∙ (λ i names. node_pull beside (λ x. expression_type x.0) (λ x. x.1) n names i)

uses_of_query : (q : Query Expr) → expression_uses (expr.Query q) ≡ (λ names. query_uses expression_type expression_uses q names)
unfolding expression_uses
uses_of_query q = para_query Uses uses_step q ∙ (λ i names. query_pull beside (λ x. expression_type x.0) (λ x. x.1) q names i)

pub term_uses_of_node : (n : Node Term) → term_uses (term.Node n) ≡ (λ names. node_uses term_type term_uses n names)
unfolding term_uses
term_uses_of_node n = para_term_node Uses term_uses_step n ∙ (λ i names. node_pull beside_term (λ x. term_type x.0) (λ x. x.1) n names i)

pub term_uses_of_call : (c : Call Term) → term_uses (term.Call c) ≡ (λ names. call_uses term_type term_uses c names)
unfolding term_uses
term_uses_of_call c = para_call Uses term_uses_step c ∙ (λ i names. call_pull beside_term (λ x. term_type x.0) (λ x. x.1) c names i)

-- a local name uses nothing
names_used : NamesUsed is_name term_uses
names_used t n h names s =
    let found = named t n h in
    ap (λ (x : Term). term_uses x (with_local names n s)) found.1
    ∙ ap (λ (g : Uses). g (with_local names n s)) (term_uses_of_node (node.Name found.0))
    ∙ ap (λ b. name_uses (if b then Some s else local_type found.0 names.locals) found.0 (with_local names n s)) found.2

abbrev UsesSame : Expr → Type 0
UsesSame e = term_uses (translated e) ≡ expression_uses e

abbrev Such : Type 0
Such = With UsesSame

abbrev plain : Such → Expr
plain z = z.0

uses_at_node : (n : Node Such) → UsesSame (expr.Node (map_node plain n))
uses_at_node n =
    ap term_uses (translated_node (map_node plain n))
    ∙ term_uses_of_node (map_node translated (map_node plain n))
    ∙ (λ i names. here names i)
    ∙ sym (uses_of_node (map_node plain n))
  where
    here : (names : Names) → node_uses term_type term_uses (map_node translated (map_node plain n)) names
        ≡ node_uses expression_type expression_uses (map_node plain n) names
    here names =
        node_pull translated term_type term_uses (map_node plain n) names
        ∙ node_pull plain (λ e. term_type (translated e)) (λ e. term_uses (translated e)) n names
        ∙ (λ i. node_uses (λ (z : Such). types_same z.0 i) (λ (z : Such). z.1 i) n names)
        ∙ sym (node_pull plain expression_type expression_uses n names)

-- the calls of a query whose expressions are translated
calls_used : (q : Query Expr) (names : Names)
    → call_uses term_type term_uses (translated_query q) names ≡ query_uses (λ e. term_type (translated e)) (λ e. term_uses (translated e)) q names
calls_used q names =
    used_alike is_name term_type term_uses names_typed names_used names (map_query translated q) ∙ query_pull translated term_type term_uses q names

uses_at_query : (q : Query Such) → UsesSame (expr.Query (map_query plain q))
uses_at_query q =
    ap term_uses (translated_to_call (map_query plain q))
    ∙ term_uses_of_call (translated_query (map_query plain q))
    ∙ (λ i names. here names i)
    ∙ sym (uses_of_query (map_query plain q))
  where
    here : (names : Names) → call_uses term_type term_uses (translated_query (map_query plain q)) names
        ≡ query_uses expression_type expression_uses (map_query plain q) names
    here names =
        calls_used (map_query plain q) names
        ∙ query_pull plain (λ e. term_type (translated e)) (λ e. term_uses (translated e)) q names
        ∙ (λ i. query_uses (λ (z : Such). types_same z.0 i) (λ (z : Such). z.1 i) q names)
        ∙ sym (query_pull plain expression_type expression_uses q names)

uses_same : (e : Expr) → UsesSame e
uses_same = of_every UsesSame uses_at_node uses_at_query

pub terms_used : (e : Expr) (names : Names) → term_uses (translated e) names ≡ expression_uses e names
terms_used e names = ap (λ (g : Uses). g names) (uses_same e)

pub queries_used : (q : Query Expr) (names : Names)
    → call_uses term_type term_uses (translated_query q) names ≡ query_uses expression_type expression_uses q names
queries_used q names = calls_used q names ∙ (λ i. query_uses (λ e. types_same e i) (λ e. uses_same e i) q names)
