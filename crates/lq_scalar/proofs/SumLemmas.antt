-- How many `+` there are in an expression, form by form; in a rule that is total there is none.
use Rattle.std.proofs.Common.{◌≡◌, ◌+◌, ◌∷◌, List, [], ℕ, ℤ, Bool, true, ap, ap₂, ◌∙◌, refl}
use Rattle.lq_language.specs.Members.{sole_argument}
use Rattle.lq_security.specs.Totality.{Claim, Holds, IsTotal, Sure, Total, is_division, sure_coalesce, sure_conditional, sure_text, sure_user, total_and, total_coalesce, total_column, total_comparison, total_conditional, total_division, total_has_value, total_integer, total_minus, total_not, total_null, total_or, total_search, total_text, total_truth, total_user}
use Rattle.lq_language.specs.OperandTypes.{is_comparison}
use Rattle.lq_grammar.specs.declared.syntax.Argument.{Argument}
use Rattle.lq_grammar.specs.declared.syntax.Argument.TheVariants as argument
use Rattle.lq_grammar.specs.declared.syntax.Binary.{Binary}
use Rattle.lq_grammar.specs.declared.syntax.Binary.TheVariants as binary
use Rattle.lq_grammar.specs.declared.syntax.Expr.{Expr, fold_out-Expr, map-Expr, out-Expr}
use Rattle.lq_grammar.specs.declared.syntax.Expr.TheOpen.{Expr-F}
use Rattle.lq_grammar.specs.declared.syntax.Expr.TheVariants.{outs-Node, outs-Query}
use Rattle.lq_grammar.specs.declared.syntax.Expr.TheVariants as expr
use Rattle.lq_grammar.specs.declared.syntax.Node.{Node}
use Rattle.lq_grammar.specs.declared.syntax.Node.TheVariants as node
use Rattle.lq_grammar.specs.declared.syntax.Picked.{Picked}
use Rattle.lq_grammar.specs.declared.syntax.Unary.{Unary}
use Rattle.lq_grammar.specs.declared.syntax.Unary.TheVariants as unary
use Rattle.lq_scalar.specs.Sums.{sum_sign, sums_in, sums_of_argument, sums_step}

abbrev layer_sums : Expr-F Expr → ℕ
layer_sums layer = sums_step (map-Expr Expr ℕ sums_in layer)

sums_out : (e : Expr) → sums_in e ≡ layer_sums (out-Expr e)
unfolding sums_in
sums_out e = fold_out-Expr ℕ sums_step e

node_is : (n : Node Expr) → sums_in (expr.Node n) ≡ layer_sums (Expr-F.Node n)
node_is n = sums_out (expr.Node n) ∙ ap layer_sums (outs-Node n)

pub sums_integer : (n : ℤ) → sums_in (expr.Node (node.Integer n)) ≡ 0
sums_integer n = node_is (node.Integer n)

pub sums_text : (t : List ℕ) → sums_in (expr.Node (node.Text t)) ≡ 0
sums_text t = node_is (node.Text t)

pub sums_truth : (b : Bool) → sums_in (expr.Node (node.Bool b)) ≡ 0
sums_truth b = node_is (node.Bool b)

pub sums_null : sums_in (expr.Node node.Null) ≡ 0
sums_null = node_is node.Null

pub sums_name : (x : List ℕ) → sums_in (expr.Node (node.Name x)) ≡ 0
sums_name x = node_is (node.Name x)

pub sums_member : (a : Expr) (m : List ℕ) → sums_in (expr.Node (node.Member a m)) ≡ sums_in a
sums_member a m = node_is (node.Member a m)

pub sums_unary : (sign : Unary) (a : Expr) → sums_in (expr.Node (node.Unary sign a)) ≡ sums_in a
sums_unary sign a = node_is (node.Unary sign a)

pub sums_binary : (sign : Binary) (a b : Expr) → sums_in (expr.Node (node.Binary sign a b)) ≡ sum_sign sign + (sums_in a + sums_in b)
sums_binary sign a b = node_is (node.Binary sign a b)

pub sums_both : (a b : Expr) → sums_in (expr.Node (node.And a b)) ≡ sums_in a + sums_in b
sums_both a b = node_is (node.And a b)

pub sums_either : (a b : Expr) → sums_in (expr.Node (node.Or a b)) ≡ sums_in a + sums_in b
sums_either a b = node_is (node.Or a b)

pub sums_coalesce : (a b : Expr) → sums_in (expr.Node (node.Coalesce a b)) ≡ sums_in a + sums_in b
sums_coalesce a b = node_is (node.Coalesce a b)

pub sums_choice : (c a b : Expr) → sums_in (expr.Node (node.Conditional c a b)) ≡ sums_in c + (sums_in a + sums_in b)
sums_choice c a b = node_is (node.Conditional c a b)

pub sums_host : (p : List ℕ) (row : Expr) (columns : Picked) → sums_in (expr.Node (node.Host p row columns)) ≡ sums_in row
sums_host p row columns = node_is (node.Host p row columns)

pub sums_other : (p : List ℕ) (xs : List Expr) → sums_in (expr.Node (node.HostOther p xs)) ≡ 0
sums_other p xs = node_is (node.HostOther p xs)

pub sums_method : (a : Expr) (m : List ℕ) (xs : List (Argument Expr)) → sums_in (expr.Node (node.Method a m xs)) ≡ sums_in a + sums_of_argument (sole_argument xs)
sums_method a m [] = node_is (node.Method a m [])
sums_method a m (argument.Value b ∷ []) = node_is (node.Method a m (argument.Value b ∷ []))
sums_method a m (argument.Lambda x b ∷ []) = node_is (node.Method a m (argument.Lambda x b ∷ []))
sums_method a m (argument.Value b ∷ c ∷ xs) = node_is (node.Method a m (argument.Value b ∷ c ∷ xs))
sums_method a m (argument.Lambda x b ∷ c ∷ xs) = node_is (node.Method a m (argument.Lambda x b ∷ c ∷ xs))

pub ruleset sums = (sums_integer, sums_text, sums_truth, sums_null, sums_name, sums_member, sums_unary, sums_binary, sums_both, sums_either, sums_coalesce, sums_choice, sums_host, sums_other, sums_method)

-- ---- total rules

comparison_is_no_sum : (sign : Binary) → is_comparison sign ≡ true → sum_sign sign ≡ 0
comparison_is_no_sum binary.Add h = absurd cc
comparison_is_no_sum sign h = refl

division_is_no_sum : (sign : Binary) → is_division sign ≡ true → sum_sign sign ≡ 0
division_is_no_sum binary.Add h = absurd cc
division_is_no_sum sign h = refl

abbrev HasNoSum : Claim → Type 0
HasNoSum (Total e) = sums_in e ≡ 0
HasNoSum (Sure e) = sums_in e ≡ 0

two : (m n : ℕ) → m ≡ 0 → n ≡ 0 → m + n ≡ 0
two m n left right = ap₂ (λ (x y : ℕ). x + y) left right

no_sum : {claim : Claim} → Holds claim → HasNoSum claim
no_sum (total_integer e n is) = ap sums_in is ∙ sums_integer n
no_sum (total_text e t is) = ap sums_in is ∙ sums_text t
no_sum (total_truth e b is) = ap sums_in is ∙ sums_truth b
no_sum (total_null e is) = ap sums_in is ∙ sums_null
no_sum (total_minus e a n is literal) = ap sums_in is ∙ sums_unary unary.Minus a ∙ ap sums_in literal ∙ sums_integer _
no_sum (total_column e row c is named) = ap sums_in is ∙ sums_member row c ∙ ap sums_in named ∙ sums_name _
no_sum (total_user e is) = ap sums_in is ∙ sums_name _
no_sum (total_not e a is h) = ap sums_in is ∙ sums_unary unary.Not a ∙ no_sum h
no_sum (total_and e a b is h k) = ap sums_in is ∙ sums_both a b ∙ two (sums_in a) (sums_in b) (no_sum h) (no_sum k)
no_sum (total_or e a b is h k) = ap sums_in is ∙ sums_either a b ∙ two (sums_in a) (sums_in b) (no_sum h) (no_sum k)
no_sum (total_comparison e a b sign is compares h k) =
    ap sums_in is ∙ sums_binary sign a b ∙ two (sum_sign sign) (sums_in a + sums_in b) (comparison_is_no_sum sign compares) (two (sums_in a) (sums_in b) (no_sum h) (no_sum k))
no_sum (total_conditional e c a b is h k l) =
    ap sums_in is ∙ sums_choice c a b ∙ two (sums_in c) (sums_in a + sums_in b) (no_sum h) (two (sums_in a) (sums_in b) (no_sum k) (no_sum l))
no_sum (total_coalesce e a b is h k) = ap sums_in is ∙ sums_coalesce a b ∙ two (sums_in a) (sums_in b) (no_sum h) (no_sum k)
no_sum (total_has_value e a is h) = ap sums_in is ∙ sums_member a _ ∙ no_sum h
no_sum (total_division e a b sign n is divides h literal) =
    ap sums_in is ∙ sums_binary sign a b ∙ two (sum_sign sign) (sums_in a + sums_in b) (division_is_no_sum sign divides) (two (sums_in a) (sums_in b) (no_sum h) (ap sums_in literal ∙ sums_integer _))
no_sum (total_search e a b m is searches h k) = ap sums_in is ∙ sums_method a m (argument.Value b ∷ []) ∙ two (sums_in a) (sums_in b) (no_sum h) (no_sum k)
no_sum (sure_text e t is) = ap sums_in is ∙ sums_text t
no_sum (sure_user e is) = ap sums_in is ∙ sums_name _
no_sum (sure_coalesce e a b is h k) = ap sums_in is ∙ sums_coalesce a b ∙ two (sums_in a) (sums_in b) (no_sum h) (no_sum k)
no_sum (sure_conditional e c a b is h k l) =
    ap sums_in is ∙ sums_choice c a b ∙ two (sums_in c) (sums_in a + sums_in b) (no_sum h) (two (sums_in a) (sums_in b) (no_sum k) (no_sum l))

-- in a rule that is total there is no `+`
pub total_has_no_sum : (e : Expr) → IsTotal e → sums_in e ≡ 0
total_has_no_sum e h = no_sum h
