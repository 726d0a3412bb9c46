-- The equations of the fold `expression_type`: the type of a node, and of a query, over the types of what is in them; and what follows for
-- operands and members whose types are known.
use Rattle.std.proofs.Common.{◌≡◌, ◌&&◌, if◌then◌else◌, List, ℕ, Bool, true, false, Option, Some, ap, ap₂, ◌∙◌, option_and_then, option_map}
use Rattle.lq_value.specs.declared.ty.Ty.{Ty, out-Ty}
use Rattle.lq_value.specs.declared.ty.Ty.TheOpen.{Ty-F}
use Rattle.lq_value.specs.declared.ty.Ty.TheVariants as ty
use Rattle.lq_value.specs.declared.ty.Ty.TheVariants.{outs-Bool, outs-Str}
use Rattle.lq_language.specs.ClauseTyping.{expression_step, expression_type, query_items}
use Rattle.lq_language.specs.Maps.{map_node}
use Rattle.lq_language.specs.Names.{Names}
use Rattle.lq_language.specs.OperandTypes.{is_bool, is_bool_type, is_equality, is_text, is_text_type, operated_type, truth_type}
use Rattle.lq_language.specs.Typing.{are_null_tests, node_type, type_of_member, type_of_operation}
use Rattle.lq_grammar.specs.declared.syntax.Binary.{Binary}
use Rattle.lq_grammar.specs.declared.syntax.Expr.{Expr}
use Rattle.lq_grammar.specs.declared.syntax.Expr.TheVariants as expr
use Rattle.lq_grammar.specs.declared.syntax.Node.{Node}
use Rattle.lq_grammar.specs.declared.syntax.Query.{Query}
use Rattle.lq_language.proofs.LayerLaws.{fold_node, fold_query}
use Rattle.lq_language.proofs.QueryPullLaws.{query_typed}

-- the type of a node, over those of the expressions in it
abbrev pub node_type_in : Node Expr → Names → Option Ty
node_type_in n = node_type (map_node expression_type n)

pub expression_type_node : (n : Node Expr) → expression_type (expr.Node n) ≡ (λ names. node_type_in n names)
unfolding expression_type
expression_type_node n = fold_node (Names → Option Ty) expression_step n

pub expression_type_query : (q : Query Expr) → expression_type (expr.Query q) ≡ (λ names. option_map ty.Seq (query_items expression_type q names))
unfolding expression_type
expression_type_query q =
    fold_query (Names → Option Ty) expression_step q ∙ (λ i names. option_map ty.Seq (query_typed expression_type (λ t. t) q names i))

-- ---- under given names

pub type_of_node : (n : Node Expr) (names : Names) → expression_type (expr.Node n) names ≡ node_type_in n names
type_of_node n names = ap (λ (t : Names → Option Ty). t names) (expression_type_node n)

pub type_of_query : (q : Query Expr) (names : Names) → expression_type (expr.Query q) names ≡ option_map ty.Seq (query_items expression_type q names)
type_of_query q names = ap (λ (t : Names → Option Ty). t names) (expression_type_query q)

-- an expression that is this node
pub expression_type_is : (names : Names) (e : Expr) (n : Node Expr) → e ≡ expr.Node n → expression_type e names ≡ node_type_in n names
expression_type_is names e n is = ap (λ (x : Expr). expression_type x names) is ∙ type_of_node n names

-- ---- operands and members

pub truth_found : (names : Names) (x : Expr) → expression_type x names ≡ Some ty.Bool → is_bool_type (expression_type x names) ≡ true
truth_found names x typed = ap is_bool_type typed ∙ ap is_bool outs-Bool

pub text_found : (names : Names) (x : Expr) → expression_type x names ≡ Some ty.Str → is_text_type (expression_type x names) ≡ true
text_found names x typed = ap is_text_type typed ∙ ap is_text outs-Str

pub both_found : (names : Names) (a b : Expr) → expression_type a names ≡ Some ty.Bool → expression_type b names ≡ Some ty.Bool
    → truth_type (is_bool_type (expression_type a names) && is_bool_type (expression_type b names)) ≡ Some ty.Bool
both_found names a b left right = ap₂ (λ (x y : Bool). truth_type (x && y)) (truth_found names a left) (truth_found names b right)

pub member_found : (names : Names) (m : List ℕ) (a : Expr) (t : Ty) (layer : Ty-F Ty) (r : Option Ty) → expression_type a names ≡ Some t → out-Ty t ≡ layer
    → type_of_member names m layer ≡ r → option_and_then (λ s. type_of_member names m (out-Ty s)) (expression_type a names) ≡ r
member_found names m a t layer r typed is found =
    ap (λ (o : Option Ty). option_and_then (λ s. type_of_member names m (out-Ty s)) o) typed ∙ ap (type_of_member names m) is ∙ found

pub operated_found : (op : Binary) (s t : Ty-F Ty) (r : Ty) → operated_type op s t ≡ Some r → is_equality op ≡ false → type_of_operation op s t ≡ Some r
operated_found op s t r given alone = ap (λ (b : Bool). if b && are_null_tests s t then Some ty.Bool else operated_type op s t) alone ∙ given
