-- «Scalar meaning» of the rule language: what each form means over what it holds. It is the meaning in the whole language (MeaningLaws).
use Rattle.std.specs.Prelude.{if◌then◌else◌, not, Bool, true, false, Option, Some, None, Result, Ok, Err}
use Rattle.lq_value.specs.declared.scalar.Scalar.TheVariants as scalar
use Rattle.lq_value.specs.declared.ty.Ty.{Ty}
use Rattle.lq_value.specs.declared.value.Fault.{Fault}
use Rattle.lq_value.specs.declared.value.Value.{Value, out-Value}
use Rattle.lq_value.specs.declared.value.Value.TheVariants as value
use Rattle.lq_language.specs.Members.{search_named, sole_argument}
use Rattle.lq_language.specs.Operations.{negated, of_search, of_two, on_ok}
use Rattle.lq_language.specs.Names.{Names}
use Rattle.lq_language.specs.OperandTypes.{is_equality}
use Rattle.lq_language.specs.RuleTyping.{rule_type}
use Rattle.lq_grammar.specs.declared.syntax.Binary.{Binary}
use Rattle.lq_grammar.specs.declared.syntax.Expr.{Expr, para-Expr}
use Rattle.lq_grammar.specs.declared.syntax.Expr.TheOpen.{Expr-F}
use Rattle.lq_grammar.specs.declared.syntax.Node.{Node}
use Rattle.lq_grammar.specs.declared.syntax.Node.TheVariants as node
use Rattle.lq_grammar.specs.declared.syntax.Unary.TheVariants as unary
use Rattle.lq_language.specs.Worlds.{Meaning, Scope, World, binding_of, names_at}
use Rattle.lq_language.specs.OperandMeaning.{as_value, host_value, is_null, member_value, name_value, on_comparand, on_scalar, on_truth, operation_on, same_values, equality_truth, truth_value}
use Rattle.lq_language.specs.ClauseMeaning.{condition_at}

-- ---- expressions

-- an expression, and what it means
abbrev pub Meant : Type 0 → Type 0
Meant R = Expr × Meaning R

module _ {R : Type 0} (world : World R) where
  -- the meaning of an argument that is there
  abbrev pub meaning_at : {E : Type 0} → Scope R → Option (E × Meaning R) → Result (Value R) Fault
  meaning_at scope None = Err world.unknown
  meaning_at scope (Some a) = a.1 scope

  -- an operator that evaluates two scalars, which are used where expressions of these types are
  abbrev pub operated_meaning : Binary → Option Ty → Option Ty → Result (Value R) Fault → Result (Value R) Fault → Result (Value R) Fault
  operated_meaning sign t u a b = on_scalar world a (λ x. on_scalar world b (λ y. as_value (of_two world.unknown (operation_on sign t u x y) x y)))

  -- `==` and `!=`
  abbrev pub compared_meaning : Binary → Result (Value R) Fault → Result (Value R) Fault → Result (Value R) Fault
  compared_meaning sign a b = on_comparand world a (λ v. on_comparand world b (λ w. on_ok (same_values world v w) (λ same. Ok (truth_value (equality_truth sign same)))))

-- An operand beside its meaning: `operand_type` gives its type where it is a scalar or a row, which is all that a node's meaning asks for.
module _ {R E : Type 0} (world : World R) (operand_type : E → Names → Option Ty) where
  -- the meaning of a node, over the meanings of what it holds
  abbrev pub rule_node_meaning : Node (E × Meaning R) → Meaning R
  rule_node_meaning (node.Integer n) scope = Ok (value.Scalar (scalar.Int n))
  rule_node_meaning (node.Name x) scope = name_value world x (binding_of x scope)
  rule_node_meaning (node.Text t) scope = Ok (value.Scalar (scalar.Text t))
  rule_node_meaning node.Null scope = Ok (value.Scalar scalar.Null)
  rule_node_meaning (node.Member a m) scope = on_ok (a.1 scope) (λ v. member_value world (operand_type a.0 (names_at world scope)) m (out-Value R v))
  rule_node_meaning (node.Method a m arguments) scope =
      on_scalar world (a.1 scope) (λ s. on_scalar world (meaning_at world scope (sole_argument arguments)) (λ t. as_value (of_search world.unknown (search_named m) s t)))
  rule_node_meaning (node.Binary op a b) scope =
      if is_equality op then compared_meaning world op (a.1 scope) (b.1 scope)
      else operated_meaning world op (operand_type a.0 (names_at world scope)) (operand_type b.0 (names_at world scope)) (a.1 scope) (b.1 scope)
  rule_node_meaning (node.Unary unary.Minus a) scope = on_scalar world (a.1 scope) (λ s. as_value (negated world.unknown s))
  rule_node_meaning (node.Bool b) scope = Ok (truth_value b)
  rule_node_meaning (node.Unary unary.Not a) scope = on_truth world (a.1 scope) (λ t. Ok (truth_value (not t)))
  -- the second operand is evaluated only where the first leaves it open
  rule_node_meaning (node.And a b) scope = on_truth world (a.1 scope) (λ t. if t then b.1 scope else Ok (truth_value false))
  rule_node_meaning (node.Or a b) scope = on_truth world (a.1 scope) (λ t. if t then Ok (truth_value true) else b.1 scope)
  rule_node_meaning (node.Coalesce a b) scope = on_scalar world (a.1 scope) (λ s. if is_null s then b.1 scope else Ok (value.Scalar s))
  -- and of two values the one that is chosen
  rule_node_meaning (node.Conditional c a b) scope = on_truth world (c.1 scope) (λ t. if t then a.1 scope else b.1 scope)
  -- a host predicate is asked about a row
  rule_node_meaning (node.Host p row columns) scope = on_ok (row.1 scope) (λ v. host_value world p columns (out-Value R v))
  rule_node_meaning node scope = Err world.unknown

module _ {R : Type 0} (world : World R) where
  abbrev pub rule_meaning_step : Expr-F (Meant R) → Meaning R
  rule_meaning_step (Expr-F.Node n) scope = rule_node_meaning world rule_type n scope
  rule_meaning_step (Expr-F.Query q) scope = Err world.unknown

  -- «Scalar meaning»: the value of an expression, or its first fault
  unfoldable pub rule_meaning : Expr → Meaning R
  rule_meaning = para-Expr (Meaning R) rule_meaning_step

  -- whether an expression is true
  abbrev pub rule_truth : Expr → Scope R → Result Bool Fault
  rule_truth c scope = condition_at world rule_type rule_meaning c scope
