-- Laws of total rules: the function gives exactly the rules that the forms give, and a total rule that is typed has a truth value.
use Rattle.std.specs.Prelude.{◌≡◌, ◌↔◌, ◌∷◌, ◌&&◌, List, [], map, ℕ, Bool, true, Ok, codes}
use Rattle.std.specs.List.{list_all}
use Rattle.lq_value.specs.declared.scalar.Scalar.{Scalar}
use Rattle.lq_value.specs.declared.scalar.Scalar.TheVariants as scalar
use Rattle.lq_value.specs.declared.table.Column.{Column}
use Rattle.lq_value.specs.declared.ty.Ty.TheVariants as ty
use Rattle.lq_value.specs.declared.value.Value.TheVariants as value
use Rattle.lq_language.specs.RuleMeaning.{rule_meaning}
use Rattle.lq_language.specs.ValuesOfTypes.{HaveTypes}
use Rattle.lq_language.specs.Operations.{is_int}
use Rattle.lq_security.specs.Totality.{IsTotal, is_total}
use Rattle.lq_language.specs.Names.{Names}
use Rattle.lq_language.specs.declared.host_name.HostName.{HostName}
use Rattle.lq_language.specs.RuleTyping.{HasRuleType}
use Rattle.lq_security.specs.Visible.{rule_scope, rule_world}
use Rattle.lq_grammar.specs.declared.syntax.Argument.TheVariants as argument
use Rattle.lq_grammar.specs.declared.syntax.Expr.{Expr, fold-Expr}
use Rattle.lq_grammar.specs.declared.syntax.Expr.TheOpen.{Expr-F}
use Rattle.lq_grammar.specs.declared.syntax.Node.{Node}
use Rattle.lq_grammar.specs.declared.syntax.Node.TheVariants as node

-- the function says of a rule that it is total exactly where its form is
abbrev pub TellsTotal : Type 0
TellsTotal = (e : Expr) → (is_total e ≡ true) ↔ IsTotal e

-- ---- what a total rule means

-- the names of a rule where these host predicates are known: `row`, of the table with these columns, and `user`
abbrev pub rule_names_among : List HostName → List ℕ → List Column → Names
rule_names_among predicates table columns = record {
  tables = record { name = table; columns = columns } ∷ [];
  predicates = predicates;
  session = [];
  locals = (codes "row", ty.Row 0) ∷ (codes "user", ty.Str) ∷ [];
}

-- and where none is: a total rule asks none
abbrev pub rule_names : List ℕ → List Column → Names
rule_names = rule_names_among []

-- An `i32` holds the number of a scalar. In the definitions numbers have no end, and the quotient of one past 32 bits may overflow;
-- Rust holds cells and literals, so that no other scalar or rule is there.
abbrev pub is_held : Scalar → Bool
is_held (scalar.Int n) = is_int n
is_held s = true

-- the same of the integer literals of an expression, in the forms that total rules have
abbrev pub is_held_node : Node Bool → Bool
is_held_node (node.Integer n) = is_int n
is_held_node (node.Member a c) = a
is_held_node (node.Unary op a) = a
is_held_node (node.Binary op a b) = a && b
is_held_node (node.And a b) = a && b
is_held_node (node.Or a b) = a && b
is_held_node (node.Coalesce a b) = a && b
is_held_node (node.Conditional c a b) = c && a && b
is_held_node (node.Method a m (argument.Value b ∷ [])) = a && b
is_held_node node = true

abbrev pub is_held_step : Expr-F Bool → Bool
is_held_step (Expr-F.Node n) = is_held_node n
is_held_step (Expr-F.Query q) = true

unfoldable pub is_held_rule : Expr → Bool
is_held_rule = fold-Expr Bool is_held_step

-- on every row whose cells are of the columns' types, and for every user, a total rule that is typed as a truth value means one
abbrev pub DecidesRules : Type 0
DecidesRules =
    (table : List ℕ) (columns : List Column) (cells : List Scalar) → HaveTypes columns cells → list_all is_held cells ≡ true
    → (user : List ℕ) (rule : Expr) → is_held_rule rule ≡ true → HasRuleType (rule_names table columns) rule ty.Bool → IsTotal rule
    → (b : Bool) × (rule_meaning (rule_world (map (λ column. column.name) columns)) rule (rule_scope cells user) ≡ Ok (value.Scalar (scalar.Bool b)))
