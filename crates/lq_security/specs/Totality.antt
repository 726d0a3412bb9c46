-- Which rules of row policies are total, form by form, and the same as a function: where one is typed, it can't fault (TotalityLaws). A
-- rule's names are `row`, with its columns, and `user`.
use Rattle.std.specs.Prelude.{◌≡◌, ◌∷◌, ◌&&◌, ◌||◌, if◌then◌else◌, List, [], ℕ, suc, ℤ, pos, Bool, true, false, codes, int_le}
use Rattle.std.specs.Str.{bytes_eq}
use Rattle.lq_language.specs.Members.{IsSearch, is_search}
use Rattle.lq_language.specs.OperandTypes.{is_comparison}
use Rattle.lq_grammar.specs.declared.syntax.Argument.{Argument}
use Rattle.lq_grammar.specs.declared.syntax.Argument.TheVariants as argument
use Rattle.lq_grammar.specs.declared.syntax.Binary.{Binary}
use Rattle.lq_grammar.specs.declared.syntax.Binary.TheVariants as binary
use Rattle.lq_grammar.specs.declared.syntax.Expr.{Expr, out-Expr, para-Expr}
use Rattle.lq_grammar.specs.declared.syntax.Expr.TheOpen.{Expr-F}
use Rattle.lq_grammar.specs.declared.syntax.Expr.TheVariants as expr
use Rattle.lq_grammar.specs.declared.syntax.Node.{Node}
use Rattle.lq_grammar.specs.declared.syntax.Node.TheVariants as node
use Rattle.lq_grammar.specs.declared.syntax.Unary.TheVariants as unary

-- whether an operator divides
abbrev pub is_division : Binary → Bool
is_division binary.Divide = true
is_division binary.Remainder = true
is_division op = false

-- What is said of an expression of a rule.
pub data Claim : Type 0 where
  -- it can't fault
  Total : Expr → Claim
  -- it can't fault, and is a text other than null
  Sure : Expr → Claim

-- Form by form, which of it is so.
pub data Holds : Claim → Type 0 where
  total_integer : (e : Expr) (n : ℤ) → e ≡ expr.Node (node.Integer n) → Holds (Total e)
  total_text : (e : Expr) (t : List ℕ) → e ≡ expr.Node (node.Text t) → Holds (Total e)
  total_truth : (e : Expr) (b : Bool) → e ≡ expr.Node (node.Bool b) → Holds (Total e)
  total_null : (e : Expr) → e ≡ expr.Node node.Null → Holds (Total e)
  -- the literal is 0 or more: the least int, whose sign is part of it, has no negative
  total_minus : (e a : Expr) (n : ℕ) → e ≡ expr.Node (node.Unary unary.Minus a) → a ≡ expr.Node (node.Integer (pos n)) → Holds (Total e)
  total_column : (e row : Expr) (c : List ℕ) → e ≡ expr.Node (node.Member row c) → row ≡ expr.Node (node.Name (codes "row")) → Holds (Total e)
  total_user : (e : Expr) → e ≡ expr.Node (node.Name (codes "user")) → Holds (Total e)
  total_not : (e a : Expr) → e ≡ expr.Node (node.Unary unary.Not a) → Holds (Total a) → Holds (Total e)
  total_and : (e a b : Expr) → e ≡ expr.Node (node.And a b) → Holds (Total a) → Holds (Total b) → Holds (Total e)
  total_or : (e a b : Expr) → e ≡ expr.Node (node.Or a b) → Holds (Total a) → Holds (Total b) → Holds (Total e)
  total_comparison : (e a b : Expr) (op : Binary) → e ≡ expr.Node (node.Binary op a b) → is_comparison op ≡ true
      → Holds (Total a) → Holds (Total b) → Holds (Total e)
  total_conditional : (e c a b : Expr) → e ≡ expr.Node (node.Conditional c a b) → Holds (Total c) → Holds (Total a) → Holds (Total b) → Holds (Total e)
  total_coalesce : (e a b : Expr) → e ≡ expr.Node (node.Coalesce a b) → Holds (Total a) → Holds (Total b) → Holds (Total e)
  total_has_value : (e a : Expr) → e ≡ expr.Node (node.Member a (codes "HasValue")) → Holds (Total a) → Holds (Total e)
  -- by a literal above 0: one with a minus sign is another form, and the least int isn't taken
  total_division : (e a b : Expr) (op : Binary) (n : ℕ) → e ≡ expr.Node (node.Binary op a b) → is_division op ≡ true → Holds (Total a)
      → b ≡ expr.Node (node.Integer (pos (suc n))) → Holds (Total e)
  total_search : (e a b : Expr) (m : List ℕ) → e ≡ expr.Node (node.Method a m (argument.Value b ∷ [])) → IsSearch m
      → Holds (Sure a) → Holds (Sure b) → Holds (Total e)
  sure_text : (e : Expr) (t : List ℕ) → e ≡ expr.Node (node.Text t) → Holds (Sure e)
  sure_user : (e : Expr) → e ≡ expr.Node (node.Name (codes "user")) → Holds (Sure e)
  sure_coalesce : (e a b : Expr) → e ≡ expr.Node (node.Coalesce a b) → Holds (Total a) → Holds (Sure b) → Holds (Sure e)
  sure_conditional : (e c a b : Expr) → e ≡ expr.Node (node.Conditional c a b) → Holds (Total c) → Holds (Sure a) → Holds (Sure b) → Holds (Sure e)

abbrev pub IsTotal : Expr → Type 0
IsTotal e = Holds (Total e)

abbrev pub IsSure : Expr → Type 0
IsSure e = Holds (Sure e)

-- ---- the same as a function

-- an integer literal of 0 or more
abbrev pub is_natural : Expr-F Expr → Bool
is_natural (Expr-F.Node (node.Integer n)) = int_le (pos 0) n
is_natural layer = false

-- an integer literal above 0
abbrev pub is_divisor : Expr-F Expr → Bool
is_divisor (Expr-F.Node (node.Integer n)) = int_le (pos 1) n
is_divisor layer = false

-- the name `row`
abbrev pub is_row : Expr-F Expr → Bool
is_row (Expr-F.Node (node.Name x)) = bytes_eq x (codes "row")
is_row layer = false

-- whether an expression is total, and whether it is sure
pub record Strength : Type 0 where
  pub total : Bool
  pub sure : Bool

abbrev pub total_where : Bool → Strength
total_where b = record { total = b; sure = false }

-- an expression, and what is said of it
abbrev pub RatedExpr : Type 0
RatedExpr = Expr × Strength

-- one argument, which is sure
abbrev pub is_sure_argument : List (Argument RatedExpr) → Bool
is_sure_argument (argument.Value a ∷ []) = a.1.sure
is_sure_argument arguments = false

abbrev pub node_strength : Node RatedExpr → Strength
node_strength (node.Integer n) = total_where true
node_strength (node.Text t) = record { total = true; sure = true }
node_strength (node.Bool b) = total_where true
node_strength node.Null = total_where true
node_strength (node.Name x) = record { total = bytes_eq x (codes "user"); sure = bytes_eq x (codes "user") }
node_strength (node.Member a c) = total_where (is_row (out-Expr a.0) || (bytes_eq c (codes "HasValue") && a.1.total))
node_strength (node.Unary unary.Not a) = total_where a.1.total
node_strength (node.Unary unary.Minus a) = total_where (is_natural (out-Expr a.0))
node_strength (node.Binary op a b) =
    total_where (if is_comparison op then a.1.total && b.1.total else is_division op && a.1.total && is_divisor (out-Expr b.0))
node_strength (node.And a b) = total_where (a.1.total && b.1.total)
node_strength (node.Or a b) = total_where (a.1.total && b.1.total)
node_strength (node.Coalesce a b) = record { total = a.1.total && b.1.total; sure = a.1.total && b.1.sure }
node_strength (node.Conditional c a b) = record { total = c.1.total && a.1.total && b.1.total; sure = c.1.total && a.1.sure && b.1.sure }
node_strength (node.Method a m arguments) = total_where (is_search m && a.1.sure && is_sure_argument arguments)
node_strength node = total_where false

abbrev pub strength_step : Expr-F RatedExpr → Strength
strength_step (Expr-F.Node n) = node_strength n
strength_step (Expr-F.Query q) = total_where false

unfoldable pub strength_of : Expr → Strength
strength_of = para-Expr Strength strength_step

abbrev pub is_total : Expr → Bool
is_total e = (strength_of e).total

abbrev pub is_sure : Expr → Bool
is_sure e = (strength_of e).sure
