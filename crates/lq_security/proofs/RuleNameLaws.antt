-- The type of a total rule is the same whatever host predicates are known, since it asks none.
use Rattle.std.proofs.Common.{◌≡◌, ◌∷◌, ◌&&◌, List, [], ℕ, Option, Some, None, codes, ap, ap₂, ◌∙◌, sym, refl, option_and_then}
use Rattle.lq_value.specs.declared.table.Column.{Column}
use Rattle.lq_value.specs.declared.ty.Ty.{Ty, out-Ty}
use Rattle.lq_value.specs.declared.ty.Ty.TheOpen.{Ty-F}
use Rattle.lq_value.specs.declared.ty.Ty.TheVariants as ty
use Rattle.lq_language.specs.Members.{is_search}
use Rattle.lq_language.specs.Names.{Names}
use Rattle.lq_language.specs.OperandTypes.{binary_type, choice_type, coalesced, if_number, is_bool_type, is_text_type, member_type, of_operands, truth_type}
use Rattle.lq_language.specs.RuleTyping.{rule_type}
use Rattle.lq_language.specs.declared.host_name.HostName.{HostName}
use Rattle.lq_security.specs.Totality.{Claim, Holds, IsTotal, Sure, Total, sure_coalesce, sure_conditional, sure_text, sure_user, total_and, total_coalesce, total_column, total_comparison, total_conditional, total_division, total_has_value, total_integer, total_minus, total_not, total_null, total_or, total_search, total_text, total_truth, total_user}
use Rattle.lq_security.specs.TotalityLaws.{rule_names_among}
use Rattle.lq_grammar.specs.declared.syntax.Argument.TheVariants as argument
use Rattle.lq_grammar.specs.declared.syntax.Expr.{Expr}
use Rattle.lq_grammar.specs.declared.syntax.Expr.TheVariants as expr
use Rattle.lq_grammar.specs.declared.syntax.Node.{Node}
use Rattle.lq_grammar.specs.declared.syntax.Node.TheVariants as node
use Rattle.lq_grammar.specs.declared.syntax.Unary.TheVariants as unary
use Rattle.lq_language.proofs.FormLaws.{type_binary, type_both, type_choice, type_coalesce, type_either, type_integer, type_member, type_method, type_minus, type_name, type_not, type_null, type_text, type_truth}

module _ (table : List ℕ) (columns : List Column) (ps qs : List HostName) where
  abbrev M : Names
  M = rule_names_among ps table columns

  abbrev N : Names
  N = rule_names_among qs table columns

  abbrev IsSame : Expr → Type 0
  IsSame e = rule_type e M ≡ rule_type e N

  abbrev IsSameClaim : Claim → Type 0
  IsSameClaim (Total e) = IsSame e
  IsSameClaim (Sure e) = IsSame e

  -- an expression that is this node, by the types of what is in it
  same_by : (e : Expr) (n : Node Expr) (o p : Option Ty) → e ≡ expr.Node n → rule_type (expr.Node n) M ≡ o → rule_type (expr.Node n) N ≡ p → o ≡ p → IsSame e
  same_by e n o p is left right alike =
      ap (λ (x : Expr). rule_type x M) is ∙ left ∙ alike ∙ sym right ∙ sym (ap (λ (x : Expr). rule_type x N) is)

  -- a member is looked up in the tables alone
  layer_same : (m : List ℕ) (layer : Ty-F Ty) → member_type M m layer ≡ member_type N m layer
  layer_same m (Ty-F.Row n) = refl
  layer_same m Ty-F.IntN = refl
  layer_same m Ty-F.Str = refl
  layer_same m layer = refl

  abbrev member_at : Names → List ℕ → Option Ty → Option Ty
  member_at names m o = option_and_then (λ t. member_type names m (out-Ty t)) o

  operand_same : (m : List ℕ) (o : Option Ty) → member_at M m o ≡ member_at N m o
  operand_same m None = refl
  operand_same m (Some t) = layer_same m (out-Ty t)

  member_same : (e a : Expr) (m : List ℕ) → e ≡ expr.Node (node.Member a m) → IsSame a → IsSame e
  member_same e a m is same =
      same_by e (node.Member a m) _ _ is (type_member a m M) (type_member a m N) (ap (member_at M m) same ∙ operand_same m (rule_type a N))

  row_same : (row : Expr) → row ≡ expr.Node (node.Name (codes "row")) → IsSame row
  row_same row is = same_by row (node.Name (codes "row")) (Some (ty.Row 0)) (Some (ty.Row 0)) is (type_name (codes "row") M) (type_name (codes "row") N) refl

  user_same : (e : Expr) → e ≡ expr.Node (node.Name (codes "user")) → IsSame e
  user_same e is = same_by e (node.Name (codes "user")) (Some ty.Str) (Some ty.Str) is (type_name (codes "user") M) (type_name (codes "user") N) refl

  same : {claim : Claim} → Holds claim → IsSameClaim claim
  same (total_integer e n is) = same_by e (node.Integer n) _ _ is (type_integer n M) (type_integer n N) refl
  same (total_text e x is) = same_by e (node.Text x) _ _ is (type_text x M) (type_text x N) refl
  same (total_truth e b is) = same_by e (node.Bool b) _ _ is (type_truth b M) (type_truth b N) refl
  same (total_null e is) = same_by e node.Null _ _ is (type_null M) (type_null N) refl
  same (total_minus e a n is literal) =
      same_by e (node.Unary unary.Minus a) _ _ is (type_minus a M) (type_minus a N)
      (ap if_number (same_by a (node.Integer _) _ _ literal (type_integer _ M) (type_integer _ N) refl))
  same (total_column e row c is of_row) = member_same e row c is (row_same row of_row)
  same (total_user e is) = user_same e is
  same (total_not e a is operand) =
      same_by e (node.Unary unary.Not a) _ _ is (type_not a M) (type_not a N) (ap (λ (o : Option Ty). truth_type (is_bool_type o)) (same operand))
  same (total_and e a b is left right) =
      same_by e (node.And a b) _ _ is (type_both a b M) (type_both a b N) (ap₂ (λ (o p : Option Ty). truth_type (is_bool_type o && is_bool_type p)) (same left) (same right))
  same (total_or e a b is left right) =
      same_by e (node.Or a b) _ _ is (type_either a b M) (type_either a b N) (ap₂ (λ (o p : Option Ty). truth_type (is_bool_type o && is_bool_type p)) (same left) (same right))
  same (total_comparison e a b op is compares left right) =
      same_by e (node.Binary op a b) _ _ is (type_binary op a b M) (type_binary op a b N) (ap₂ (binary_type op) (same left) (same right))
  same (total_conditional e c a b is test left right) =
      same_by e (node.Conditional c a b) _ _ is (type_choice c a b M) (type_choice c a b N) (λ i. choice_type (is_bool_type (same test i)) (same left i) (same right i))
  same (total_coalesce e a b is left right) =
      same_by e (node.Coalesce a b) _ _ is (type_coalesce a b M) (type_coalesce a b N) (ap₂ (of_operands coalesced) (same left) (same right))
  same (total_has_value e a is operand) = member_same e a (codes "HasValue") is (same operand)
  same (total_division e a b op n is divides left literal) =
      same_by e (node.Binary op a b) _ _ is (type_binary op a b M) (type_binary op a b N)
      (ap₂ (binary_type op) (same left) (same_by b (node.Integer _) _ _ literal (type_integer _ M) (type_integer _ N) refl))
  same (total_search e a b m is looks left right) =
      same_by e (node.Method a m (argument.Value b ∷ [])) _ _ is (type_method a m (argument.Value b ∷ []) M) (type_method a m (argument.Value b ∷ []) N)
      (ap₂ (λ (o p : Option Ty). truth_type (is_search m && is_text_type o && is_text_type p)) (same left) (same right))
  same (sure_text e x is) = same_by e (node.Text x) _ _ is (type_text x M) (type_text x N) refl
  same (sure_user e is) = user_same e is
  same (sure_coalesce e a b is left right) =
      same_by e (node.Coalesce a b) _ _ is (type_coalesce a b M) (type_coalesce a b N) (ap₂ (of_operands coalesced) (same left) (same right))
  same (sure_conditional e c a b is test left right) =
      same_by e (node.Conditional c a b) _ _ is (type_choice c a b M) (type_choice c a b N) (λ i. choice_type (is_bool_type (same test i)) (same left i) (same right i))

  pub total_type_same : {e : Expr} → IsTotal e → rule_type e M ≡ rule_type e N
  total_type_same total = same total
