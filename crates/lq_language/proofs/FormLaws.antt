-- The equations of the folds over expressions, one for each form.
use Rattle.std.proofs.Common.{◌≡◌, ◌∷◌, ◌&&◌, if◌then◌else◌, not, List, [], ℕ, ℤ, Bool, true, false, Option, Some, None, Result, Ok, Err, ap, ◌∙◌, sym, option_and_then}
use Rattle.lq_value.specs.declared.scalar.Scalar.TheVariants as scalar
use Rattle.lq_value.specs.declared.ty.Ty.{Ty, out-Ty}
use Rattle.lq_value.specs.declared.ty.Ty.TheVariants as ty
use Rattle.lq_value.specs.declared.value.Fault.{Fault}
use Rattle.lq_value.specs.declared.value.Value.{Value, out-Value}
use Rattle.lq_value.specs.declared.value.Value.TheVariants as value
use Rattle.lq_language.specs.Worlds.{Meaning, Scope, World, binding_of, names_at}
use Rattle.lq_language.specs.OperandMeaning.{host_value, is_null, member_value, name_value, as_value, on_scalar, on_truth, truth_value}
use Rattle.lq_language.specs.RuleMeaning.{Meant, compared_meaning, rule_meaning, rule_meaning_step, operated_meaning}
use Rattle.lq_language.specs.HostNames.{host_type}
use Rattle.lq_language.specs.Members.{is_search, search_named, sole_argument}
use Rattle.lq_language.specs.Operations.{negated, of_search, on_ok}
use Rattle.lq_language.specs.Names.{Names, local_type}
use Rattle.lq_language.specs.OperandTypes.{binary_type, choice_type, coalesced, if_number, is_bool_type, is_equality, is_text_type, member_type, of_operands, truth_type}
use Rattle.lq_language.specs.RuleTyping.{name_type, rule_type, rule_type_step}
use Rattle.lq_grammar.specs.declared.syntax.Binary.{Binary}
use Rattle.lq_grammar.specs.declared.syntax.Expr.{Expr, fold_out-Expr, map-Expr, out-Expr, para-roll-Expr, roll-Expr}
use Rattle.lq_grammar.specs.declared.syntax.Expr.TheOpen.{Expr-F}
use Rattle.lq_grammar.specs.declared.syntax.Expr.TheVariants.{outs-Node, outs-Query, rolls-Node, rolls-Query}
use Rattle.lq_grammar.specs.declared.syntax.Expr.TheViews.{out-roll-Expr}
use Rattle.lq_grammar.specs.declared.syntax.Expr.TheVariants as expr
use Rattle.lq_grammar.specs.declared.syntax.Node.{Node}
use Rattle.lq_grammar.specs.declared.syntax.Node.TheVariants as node
use Rattle.lq_grammar.specs.declared.syntax.Argument.{Argument}
use Rattle.lq_grammar.specs.declared.syntax.Argument.TheVariants as argument
use Rattle.lq_grammar.specs.declared.syntax.Field.{Field}
use Rattle.lq_grammar.specs.declared.syntax.Picked.{Picked}
use Rattle.lq_grammar.specs.declared.syntax.Query.{Query}
use Rattle.lq_grammar.specs.declared.syntax.Unary.TheVariants as unary

module _ {R : Type 0} (world : World R) where
  -- an expression beside what it means
  abbrev pub beside : Expr → Meant R
  beside e = (e, rule_meaning world e)

  -- one layer of an expression, with each operand beside its meaning
  abbrev pub layer_meaning : Expr-F Expr → Meaning R
  layer_meaning layer = rule_meaning_step world (map-Expr Expr (Meant R) beside layer)

  -- the meaning of a layer's expression
  pub rolled_meaning : (layer : Expr-F Expr) (scope : Scope R) → rule_meaning world (roll-Expr layer) scope ≡ layer_meaning layer scope
  unfolding rule_meaning
  rolled_meaning layer scope = ap (λ (m : Meaning R). m scope) (para-roll-Expr (Meaning R) (rule_meaning_step world) layer)

  pub meaning_integer : (n : ℤ) (scope : Scope R) → rule_meaning world (expr.Node (node.Integer n)) scope ≡ Ok (value.Scalar (scalar.Int n))
  meaning_integer n scope = ap (λ (e : Expr). rule_meaning world e scope) (sym (rolls-Node (node.Integer n))) ∙ rolled_meaning (Expr-F.Node (node.Integer n)) scope

  pub meaning_name : (x : List ℕ) (scope : Scope R) → rule_meaning world (expr.Node (node.Name x)) scope ≡ name_value world x (binding_of x scope)
  meaning_name x scope = ap (λ (e : Expr). rule_meaning world e scope) (sym (rolls-Node (node.Name x))) ∙ rolled_meaning (Expr-F.Node (node.Name x)) scope

  -- the meaning of a node, over the meanings of what it holds
  node_is : (n : Node Expr) (scope : Scope R) → rule_meaning world (expr.Node n) scope ≡ layer_meaning (Expr-F.Node n) scope
  node_is n scope = ap (λ (e : Expr). rule_meaning world e scope) (sym (rolls-Node n)) ∙ rolled_meaning (Expr-F.Node n) scope

  pub meaning_text : (t : List ℕ) (scope : Scope R) → rule_meaning world (expr.Node (node.Text t)) scope ≡ Ok (value.Scalar (scalar.Text t))
  meaning_text t scope = node_is (node.Text t) scope

  pub meaning_null : (scope : Scope R) → rule_meaning world (expr.Node node.Null) scope ≡ Ok (value.Scalar scalar.Null)
  meaning_null scope = node_is node.Null scope

  pub meaning_member : (a : Expr) (m : List ℕ) (scope : Scope R)
      → rule_meaning world (expr.Node (node.Member a m)) scope
      ≡ on_ok (rule_meaning world a scope) (λ v. member_value world (rule_type a (names_at world scope)) m (out-Value R v))
  meaning_member a m scope = node_is (node.Member a m) scope

  -- the meaning of an argument that is there
  abbrev pub argument_meaning : Option Expr → Scope R → Result (Value R) Fault
  argument_meaning None scope = Err world.unknown
  argument_meaning (Some e) scope = rule_meaning world e scope

  pub meaning_method : (a : Expr) (m : List ℕ) (xs : List (Argument Expr)) (scope : Scope R)
      → rule_meaning world (expr.Node (node.Method a m xs)) scope
      ≡ on_scalar world (rule_meaning world a scope)
      (λ s. on_scalar world (argument_meaning (sole_argument xs) scope) (λ t. as_value (of_search world.unknown (search_named m) s t)))
  meaning_method a m [] scope = node_is (node.Method a m []) scope
  meaning_method a m (argument.Value b ∷ []) scope = node_is (node.Method a m (argument.Value b ∷ [])) scope
  meaning_method a m (argument.Lambda x b ∷ []) scope = node_is (node.Method a m (argument.Lambda x b ∷ [])) scope
  meaning_method a m (argument.Value b ∷ c ∷ xs) scope = node_is (node.Method a m (argument.Value b ∷ c ∷ xs)) scope
  meaning_method a m (argument.Lambda x b ∷ c ∷ xs) scope = node_is (node.Method a m (argument.Lambda x b ∷ c ∷ xs)) scope

  pub meaning_binary : (op : Binary) (a b : Expr) (scope : Scope R)
      → rule_meaning world (expr.Node (node.Binary op a b)) scope
      ≡ (if is_equality op then compared_meaning world op (rule_meaning world a scope) (rule_meaning world b scope)
      else operated_meaning world op (rule_type a (names_at world scope)) (rule_type b (names_at world scope)) (rule_meaning world a scope) (rule_meaning world b scope))
  meaning_binary op a b scope = node_is (node.Binary op a b) scope

  pub meaning_coalesce : (a b : Expr) (scope : Scope R)
      → rule_meaning world (expr.Node (node.Coalesce a b)) scope
      ≡ on_scalar world (rule_meaning world a scope) (λ s. if is_null s then rule_meaning world b scope else Ok (value.Scalar s))
  meaning_coalesce a b scope = node_is (node.Coalesce a b) scope

  pub meaning_query : (q : Query Expr) (scope : Scope R) → rule_meaning world (expr.Query q) scope ≡ layer_meaning (Expr-F.Query q) scope
  meaning_query q scope = ap (λ (e : Expr). rule_meaning world e scope) (sym (rolls-Query q)) ∙ rolled_meaning (Expr-F.Query q) scope

  pub meaning_host : (p : List ℕ) (row : Expr) (columns : Picked) (scope : Scope R)
      → rule_meaning world (expr.Node (node.Host p row columns)) scope ≡ on_ok (rule_meaning world row scope) (λ v. host_value world p columns (out-Value R v))
  meaning_host p row columns scope = node_is (node.Host p row columns) scope

  pub meaning_other : (p : List ℕ) (xs : List Expr) (scope : Scope R) → rule_meaning world (expr.Node (node.HostOther p xs)) scope ≡ Err world.unknown
  meaning_other p xs scope = node_is (node.HostOther p xs) scope

  pub meaning_record : (fs : List (Field Expr)) (scope : Scope R) → rule_meaning world (expr.Node (node.New fs)) scope ≡ Err world.unknown
  meaning_record fs scope = node_is (node.New fs) scope

  pub meaning_minus : (a : Expr) (scope : Scope R)
      → rule_meaning world (expr.Node (node.Unary unary.Minus a)) scope ≡ on_scalar world (rule_meaning world a scope) (λ s. as_value (negated world.unknown s))
  meaning_minus a scope = ap (λ (e : Expr). rule_meaning world e scope) (sym (rolls-Node (node.Unary unary.Minus a))) ∙ rolled_meaning (Expr-F.Node (node.Unary unary.Minus a)) scope

  pub meaning_truth : (b : Bool) (scope : Scope R) → rule_meaning world (expr.Node (node.Bool b)) scope ≡ Ok (truth_value b)
  meaning_truth b scope = ap (λ (e : Expr). rule_meaning world e scope) (sym (rolls-Node (node.Bool b))) ∙ rolled_meaning (Expr-F.Node (node.Bool b)) scope

  pub meaning_not : (a : Expr) (scope : Scope R)
      → rule_meaning world (expr.Node (node.Unary unary.Not a)) scope ≡ on_truth world (rule_meaning world a scope) (λ t. Ok (truth_value (not t)))
  meaning_not a scope = ap (λ (e : Expr). rule_meaning world e scope) (sym (rolls-Node (node.Unary unary.Not a))) ∙ rolled_meaning (Expr-F.Node (node.Unary unary.Not a)) scope

  pub meaning_both : (a b : Expr) (scope : Scope R)
      → rule_meaning world (expr.Node (node.And a b)) scope ≡ on_truth world (rule_meaning world a scope) (λ t. if t then rule_meaning world b scope else Ok (truth_value false))
  meaning_both a b scope = ap (λ (e : Expr). rule_meaning world e scope) (sym (rolls-Node (node.And a b))) ∙ rolled_meaning (Expr-F.Node (node.And a b)) scope

  pub meaning_either : (a b : Expr) (scope : Scope R)
      → rule_meaning world (expr.Node (node.Or a b)) scope ≡ on_truth world (rule_meaning world a scope) (λ t. if t then Ok (truth_value true) else rule_meaning world b scope)
  meaning_either a b scope = ap (λ (e : Expr). rule_meaning world e scope) (sym (rolls-Node (node.Or a b))) ∙ rolled_meaning (Expr-F.Node (node.Or a b)) scope

  pub meaning_choice : (c a b : Expr) (scope : Scope R)
      → rule_meaning world (expr.Node (node.Conditional c a b)) scope
      ≡ on_truth world (rule_meaning world c scope) (λ t. if t then rule_meaning world a scope else rule_meaning world b scope)
  meaning_choice c a b scope = ap (λ (e : Expr). rule_meaning world e scope) (sym (rolls-Node (node.Conditional c a b))) ∙ rolled_meaning (Expr-F.Node (node.Conditional c a b)) scope

abbrev pub layer_type : Expr-F Expr → Names → Option Ty
layer_type layer = rule_type_step (map-Expr Expr (Names → Option Ty) rule_type layer)

pub type_out : (e : Expr) (names : Names) → rule_type e names ≡ layer_type (out-Expr e) names
unfolding rule_type
type_out e names = ap (λ (t : Names → Option Ty). t names) (fold_out-Expr (Names → Option Ty) rule_type_step e)

pub type_integer : (n : ℤ) (names : Names) → rule_type (expr.Node (node.Integer n)) names ≡ Some ty.Int
type_integer n names = type_out (expr.Node (node.Integer n)) names ∙ ap (λ (x : Expr-F Expr). layer_type x names) (outs-Node (node.Integer n))

pub type_name : (x : List ℕ) (names : Names) → rule_type (expr.Node (node.Name x)) names ≡ name_type names x (local_type x names.locals)
type_name x names = type_out (expr.Node (node.Name x)) names ∙ ap (λ (e : Expr-F Expr). layer_type e names) (outs-Node (node.Name x))

pub type_member : (a : Expr) (m : List ℕ) (names : Names)
    → rule_type (expr.Node (node.Member a m)) names ≡ option_and_then (λ t. member_type names m (out-Ty t)) (rule_type a names)
type_member a m names = type_out (expr.Node (node.Member a m)) names ∙ ap (λ (e : Expr-F Expr). layer_type e names) (outs-Node (node.Member a m))

-- the type of an argument that is there
abbrev pub argument_type : Option Expr → Names → Option Ty
argument_type None names = None
argument_type (Some e) names = rule_type e names

node_type_is : (n : Node Expr) (names : Names) → rule_type (expr.Node n) names ≡ layer_type (Expr-F.Node n) names
node_type_is n names = type_out (expr.Node n) names ∙ ap (λ (e : Expr-F Expr). layer_type e names) (outs-Node n)

pub type_method : (a : Expr) (m : List ℕ) (xs : List (Argument Expr)) (names : Names)
    → rule_type (expr.Node (node.Method a m xs)) names
    ≡ truth_type (is_search m && is_text_type (rule_type a names) && is_text_type (argument_type (sole_argument xs) names))
type_method a m [] names = node_type_is (node.Method a m []) names
type_method a m (argument.Value b ∷ []) names = node_type_is (node.Method a m (argument.Value b ∷ [])) names
type_method a m (argument.Lambda x b ∷ []) names = node_type_is (node.Method a m (argument.Lambda x b ∷ [])) names
type_method a m (argument.Value b ∷ c ∷ xs) names = node_type_is (node.Method a m (argument.Value b ∷ c ∷ xs)) names
type_method a m (argument.Lambda x b ∷ c ∷ xs) names = node_type_is (node.Method a m (argument.Lambda x b ∷ c ∷ xs)) names

pub type_text : (t : List ℕ) (names : Names) → rule_type (expr.Node (node.Text t)) names ≡ Some ty.Str
type_text t names = node_type_is (node.Text t) names

pub type_null : (names : Names) → rule_type (expr.Node node.Null) names ≡ Some ty.Null
type_null names = node_type_is node.Null names

pub type_coalesce : (a b : Expr) (names : Names) → rule_type (expr.Node (node.Coalesce a b)) names ≡ of_operands coalesced (rule_type a names) (rule_type b names)
type_coalesce a b names = node_type_is (node.Coalesce a b) names

pub type_binary : (op : Binary) (a b : Expr) (names : Names)
    → rule_type (expr.Node (node.Binary op a b)) names ≡ binary_type op (rule_type a names) (rule_type b names)
type_binary op a b names = type_out (expr.Node (node.Binary op a b)) names ∙ ap (λ (e : Expr-F Expr). layer_type e names) (outs-Node (node.Binary op a b))

pub type_minus : (a : Expr) (names : Names) → rule_type (expr.Node (node.Unary unary.Minus a)) names ≡ if_number (rule_type a names)
type_minus a names = type_out (expr.Node (node.Unary unary.Minus a)) names ∙ ap (λ (e : Expr-F Expr). layer_type e names) (outs-Node (node.Unary unary.Minus a))

pub type_truth : (b : Bool) (names : Names) → rule_type (expr.Node (node.Bool b)) names ≡ Some ty.Bool
type_truth b names = type_out (expr.Node (node.Bool b)) names ∙ ap (λ (e : Expr-F Expr). layer_type e names) (outs-Node (node.Bool b))

pub type_not : (a : Expr) (names : Names) → rule_type (expr.Node (node.Unary unary.Not a)) names ≡ truth_type (is_bool_type (rule_type a names))
type_not a names = type_out (expr.Node (node.Unary unary.Not a)) names ∙ ap (λ (e : Expr-F Expr). layer_type e names) (outs-Node (node.Unary unary.Not a))

pub type_both : (a b : Expr) (names : Names)
    → rule_type (expr.Node (node.And a b)) names ≡ truth_type (is_bool_type (rule_type a names) && is_bool_type (rule_type b names))
type_both a b names = type_out (expr.Node (node.And a b)) names ∙ ap (λ (e : Expr-F Expr). layer_type e names) (outs-Node (node.And a b))

pub type_either : (a b : Expr) (names : Names)
    → rule_type (expr.Node (node.Or a b)) names ≡ truth_type (is_bool_type (rule_type a names) && is_bool_type (rule_type b names))
type_either a b names = type_out (expr.Node (node.Or a b)) names ∙ ap (λ (e : Expr-F Expr). layer_type e names) (outs-Node (node.Or a b))

pub type_choice : (c a b : Expr) (names : Names)
    → rule_type (expr.Node (node.Conditional c a b)) names ≡ choice_type (is_bool_type (rule_type c names)) (rule_type a names) (rule_type b names)
type_choice c a b names = type_out (expr.Node (node.Conditional c a b)) names ∙ ap (λ (e : Expr-F Expr). layer_type e names) (outs-Node (node.Conditional c a b))

-- the type of a layer's expression
pub rolled_type : (layer : Expr-F Expr) (names : Names) → rule_type (roll-Expr layer) names ≡ layer_type layer names
rolled_type layer names = type_out (roll-Expr layer) names ∙ ap (λ (x : Expr-F Expr). layer_type x names) (out-roll-Expr layer)

pub type_host : (p : List ℕ) (row : Expr) (columns : Picked) (names : Names)
    → rule_type (expr.Node (node.Host p row columns)) names ≡ host_type names p columns (rule_type row names)
type_host p row columns names = node_type_is (node.Host p row columns) names

-- forms that have no type

pub type_other : (p : List ℕ) (xs : List Expr) (names : Names) → rule_type (expr.Node (node.HostOther p xs)) names ≡ None
type_other p xs names = type_out (expr.Node (node.HostOther p xs)) names ∙ ap (λ (e : Expr-F Expr). layer_type e names) (outs-Node (node.HostOther p xs))

pub type_record : (fs : List (Field Expr)) (names : Names) → rule_type (expr.Node (node.New fs)) names ≡ None
type_record fs names = type_out (expr.Node (node.New fs)) names ∙ ap (λ (e : Expr-F Expr). layer_type e names) (outs-Node (node.New fs))

pub type_query : (q : Query Expr) (names : Names) → rule_type (expr.Query q) names ≡ None
type_query q names = type_out (expr.Query q) names ∙ ap (λ (e : Expr-F Expr). layer_type e names) (outs-Query q)
