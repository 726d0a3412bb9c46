-- «Typing» of the rule language, the part of the language in which the rules of row policies are written: scalar expressions over a row.
-- Which type an expression has, rule by rule, and the same as a function; it is the type in the whole language (RuleTypingLaws).
use Rattle.std.specs.Prelude.{◌≡◌, ◌∷◌, ◌&&◌, List, [], ℕ, ℤ, Bool, true, false, Option, Some, None, option_and_then, option_map, codes}
use Rattle.lq_value.specs.declared.ty.Ty.{Ty, out-Ty}
use Rattle.lq_value.specs.declared.ty.Ty.TheVariants as ty
use Rattle.lq_language.specs.HostNames.{are_int_columns, host_type, predicate_number}
use Rattle.lq_language.specs.Members.{IsSearch, is_search, sole_argument}
use Rattle.lq_grammar.specs.declared.syntax.Argument.TheVariants as argument
use Rattle.lq_grammar.specs.declared.syntax.Binary.{Binary}
use Rattle.lq_grammar.specs.declared.syntax.Binary.TheVariants as binary
use Rattle.lq_grammar.specs.declared.syntax.Expr.{Expr, fold-Expr}
use Rattle.lq_grammar.specs.declared.syntax.Expr.TheOpen.{Expr-F}
use Rattle.lq_grammar.specs.declared.syntax.Expr.TheVariants as expr
use Rattle.lq_grammar.specs.declared.syntax.Node.{Node}
use Rattle.lq_grammar.specs.declared.syntax.Node.TheVariants as node
use Rattle.lq_grammar.specs.declared.syntax.Picked.{Picked}
use Rattle.lq_grammar.specs.declared.syntax.Unary.TheVariants as unary
use Rattle.lq_language.specs.Names.{Names, column_type, local_type, table_number}
use Rattle.lq_language.specs.OperandTypes.{are_comparable, are_joined, binary_type, choice_type, choice_type_of_layers, coalesced, if_number, is_bool_type, is_comparison, is_equality, is_number, is_ordering, is_text_type, member_type, number_type, of_operands, truth_type}

-- Which types an expression has under given names, rule by rule. Forms that are spelled and have no rule here, queries and names of
-- the session among them, have theirs in `TypingRules`.
pub data HasRuleType : Names → Expr → Ty → Type 0 where
  of_integer : (names : Names) (e : Expr) (n : ℤ) → e ≡ expr.Node (node.Integer n) → HasRuleType names e ty.Int
  of_local : (names : Names) (e : Expr) (x : List ℕ) (t : Ty) → e ≡ expr.Node (node.Name x) → local_type x names.locals ≡ Some t → HasRuleType names e t
  -- a local name hides a table of its name
  of_table : (names : Names) (e : Expr) (x : List ℕ) (n : ℕ) → e ≡ expr.Node (node.Name x) → local_type x names.locals ≡ None
      → table_number x names.tables ≡ Some n → HasRuleType names e (ty.Seq (ty.Row n))
  of_column : (names : Names) (e row : Expr) (c : List ℕ) (n : ℕ) (t : Ty) → e ≡ expr.Node (node.Member row c) → HasRuleType names row (ty.Row n)
      → column_type names.tables n c ≡ Some t → HasRuleType names e t
  of_text : (names : Names) (e : Expr) (x : List ℕ) → e ≡ expr.Node (node.Text x) → HasRuleType names e ty.Str
  of_null : (names : Names) (e : Expr) → e ≡ expr.Node node.Null → HasRuleType names e ty.Null
  -- members of an int? and of a text
  of_has_value : (names : Names) (e a : Expr) → e ≡ expr.Node (node.Member a (codes "HasValue")) → HasRuleType names a ty.IntN → HasRuleType names e ty.Bool
  of_value : (names : Names) (e a : Expr) → e ≡ expr.Node (node.Member a (codes "Value")) → HasRuleType names a ty.IntN → HasRuleType names e ty.Int
  of_length : (names : Names) (e a : Expr) → e ≡ expr.Node (node.Member a (codes "Length")) → HasRuleType names a ty.Str → HasRuleType names e ty.Int
  of_search : (names : Names) (e a b : Expr) (m : List ℕ) → e ≡ expr.Node (node.Method a m (argument.Value b ∷ [])) → IsSearch m → HasRuleType names a ty.Str
      → HasRuleType names b ty.Str → HasRuleType names e ty.Bool
  of_ordering : (names : Names) (e a b : Expr) (op : Binary) (s t : Ty) → e ≡ expr.Node (node.Binary op a b) → is_ordering op ≡ true
      → HasRuleType names a s → is_number (out-Ty s) ≡ true → HasRuleType names b t → is_number (out-Ty t) ≡ true → HasRuleType names e ty.Bool
  of_equality : (names : Names) (e a b : Expr) (op : Binary) (s t : Ty) → e ≡ expr.Node (node.Binary op a b) → is_equality op ≡ true
      → HasRuleType names a s → HasRuleType names b t → are_comparable (out-Ty s) (out-Ty t) ≡ true → HasRuleType names e ty.Bool
  of_arithmetic : (names : Names) (e a b : Expr) (op : Binary) (s t : Ty) → e ≡ expr.Node (node.Binary op a b) → is_comparison op ≡ false
      → HasRuleType names a s → is_number (out-Ty s) ≡ true → HasRuleType names b t → is_number (out-Ty t) ≡ true
      → HasRuleType names e (number_type (out-Ty s) (out-Ty t))
  of_joined : (names : Names) (e a b : Expr) (s t : Ty) → e ≡ expr.Node (node.Binary binary.Add a b) → HasRuleType names a s → HasRuleType names b t
      → are_joined (out-Ty s) (out-Ty t) ≡ true → HasRuleType names e ty.Str
  of_minus : (names : Names) (e a : Expr) (t : Ty) → e ≡ expr.Node (node.Unary unary.Minus a) → HasRuleType names a t → is_number (out-Ty t) ≡ true
      → HasRuleType names e t
  of_truth : (names : Names) (e : Expr) (b : Bool) → e ≡ expr.Node (node.Bool b) → HasRuleType names e ty.Bool
  of_not : (names : Names) (e a : Expr) → e ≡ expr.Node (node.Unary unary.Not a) → HasRuleType names a ty.Bool → HasRuleType names e ty.Bool
  of_both : (names : Names) (e a b : Expr) → e ≡ expr.Node (node.And a b) → HasRuleType names a ty.Bool → HasRuleType names b ty.Bool
      → HasRuleType names e ty.Bool
  of_either : (names : Names) (e a b : Expr) → e ≡ expr.Node (node.Or a b) → HasRuleType names a ty.Bool → HasRuleType names b ty.Bool
      → HasRuleType names e ty.Bool
  of_coalesced : (names : Names) (e a b : Expr) (s t r : Ty) → e ≡ expr.Node (node.Coalesce a b) → HasRuleType names a s → HasRuleType names b t
      → coalesced (out-Ty s) (out-Ty t) ≡ Some r → HasRuleType names e r
  of_choice : (names : Names) (e c a b : Expr) (s t r : Ty) → e ≡ expr.Node (node.Conditional c a b) → HasRuleType names c ty.Bool
      → HasRuleType names a s → HasRuleType names b t → choice_type_of_layers (out-Ty s) (out-Ty t) ≡ Some r → HasRuleType names e r
  -- a host predicate that is there takes one int of a row, or two
  of_host : (names : Names) (e row : Expr) (p : List ℕ) (columns : Picked) (k n : ℕ) → e ≡ expr.Node (node.Host p row columns)
      → predicate_number names.predicates p columns ≡ Some k → HasRuleType names row (ty.Row n) → are_int_columns names.tables n columns ≡ true
      → HasRuleType names e ty.Bool

-- a local name's type, else a table's
abbrev pub name_type : Names → List ℕ → Option Ty → Option Ty
name_type names x (Some t) = Some t
name_type names x None = option_map (λ n. ty.Seq (ty.Row n)) (table_number x names.tables)

-- the type of an argument that is there
abbrev pub type_at : Names → Option (Names → Option Ty) → Option Ty
type_at names None = None
type_at names (Some typed) = typed names

abbrev pub rule_node_type : Node (Names → Option Ty) → Names → Option Ty
rule_node_type (node.Integer n) names = Some ty.Int
rule_node_type (node.Name x) names = name_type names x (local_type x names.locals)
rule_node_type (node.Text t) names = Some ty.Str
rule_node_type node.Null names = Some ty.Null
rule_node_type (node.Member a m) names = option_and_then (λ t. member_type names m (out-Ty t)) (a names)
rule_node_type (node.Method a m arguments) names = truth_type (is_search m && is_text_type (a names) && is_text_type (type_at names (sole_argument arguments)))
rule_node_type (node.Binary op a b) names = binary_type op (a names) (b names)
rule_node_type (node.Bool b) names = Some ty.Bool
rule_node_type (node.Unary unary.Minus a) names = if_number (a names)
rule_node_type (node.Unary unary.Not a) names = truth_type (is_bool_type (a names))
rule_node_type (node.Coalesce a b) names = of_operands coalesced (a names) (b names)
rule_node_type (node.Conditional c a b) names = choice_type (is_bool_type (c names)) (a names) (b names)
rule_node_type (node.And a b) names = truth_type (is_bool_type (a names) && is_bool_type (b names))
rule_node_type (node.Or a b) names = truth_type (is_bool_type (a names) && is_bool_type (b names))
rule_node_type (node.Host p row columns) names = host_type names p columns (row names)
rule_node_type node names = None

abbrev pub rule_type_step : Expr-F (Names → Option Ty) → Names → Option Ty
rule_type_step (Expr-F.Node n) names = rule_node_type n names
rule_type_step (Expr-F.Query q) names = None

unfoldable pub rule_type : Expr → Names → Option Ty
rule_type = fold-Expr (Names → Option Ty) rule_type_step
