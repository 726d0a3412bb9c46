-- Laws of what an expression means that is made of an operator or a member: what this gives on the scalars that the operands mean
-- (ECMA-334, unary operators, arithmetic, relational and equality operators; .NET, Nullable<int> and String).
use Rattle.std.specs.Prelude.{◌≡◌, ◌⊎◌, ◌∷◌, List, [], ℕ, Some, Result, Ok, Err}
use Rattle.lq_value.specs.declared.scalar.Scalar.{Scalar}
use Rattle.lq_value.specs.declared.ty.Ty.{Ty}
use Rattle.lq_value.specs.declared.ty.Ty.TheVariants as ty
use Rattle.lq_value.specs.declared.value.Fault.{Fault}
use Rattle.lq_value.specs.declared.value.Value.{Value}
use Rattle.lq_value.specs.declared.value.Value.TheVariants as value
use Rattle.lq_language.specs.ClauseTyping.{expression_type}
use Rattle.lq_language.specs.Meaning.{expression_meaning}
use Rattle.lq_language.specs.Members.{member_named, search_named}
use Rattle.lq_language.specs.OperandMeaning.{operation_on}
use Rattle.lq_language.specs.Operations.{applied}
use Rattle.lq_language.specs.Worlds.{Scope, World, names_at}
use Rattle.lq_language.specs.declared.operation.Op.{Op}
use Rattle.lq_language.specs.declared.operation.Op.TheVariants as op
use Rattle.lq_grammar.specs.declared.syntax.Argument.TheVariants as argument
use Rattle.lq_grammar.specs.declared.syntax.Binary.{Binary}
use Rattle.lq_grammar.specs.declared.syntax.Expr.{Expr}
use Rattle.lq_grammar.specs.declared.syntax.Expr.TheVariants as expr
use Rattle.lq_grammar.specs.declared.syntax.Node.TheVariants as node
use Rattle.lq_grammar.specs.declared.syntax.Unary.TheVariants as unary

-- a scalar as the value that it is, and a fault as it is
abbrev pub IsResult : {R : Type 0} → Result Scalar Fault → Result (Value R) Fault → Type 0
IsResult (Ok s) found = found ≡ Ok (value.Scalar s)
IsResult (Err f) found = found ≡ Err f

module _ {R : Type 0} (world : World R) (scope : Scope R) where
  -- The second expression is the operator or member, applied to the first: where this means a scalar, it is applied to the scalar,
  -- and a fault of this is its fault.
  abbrev pub AppliesToOne : Op → Expr → Expr → Type 0
  AppliesToOne o a e =
      ((s : Scalar) → expression_meaning world a scope ≡ Ok (value.Scalar s) → IsResult (applied world.unknown o (s ∷ [])) (expression_meaning world e scope))
      × ((f : Fault) → expression_meaning world a scope ≡ Err f → expression_meaning world e scope ≡ Err f)

  -- The third expression is one, which depends on the two scalars, applied to the first two; of faults of these the first is its fault.
  abbrev pub AppliesToTwo : (Scalar → Scalar → Op) → Expr → Expr → Expr → Type 0
  AppliesToTwo o a b e =
      ((s t : Scalar) → expression_meaning world a scope ≡ Ok (value.Scalar s) → expression_meaning world b scope ≡ Ok (value.Scalar t)
      → IsResult (applied world.unknown (o s t) (s ∷ t ∷ [])) (expression_meaning world e scope))
      × ((f : Fault) → expression_meaning world a scope ≡ Err f → expression_meaning world e scope ≡ Err f)
      × ((s : Scalar) (f : Fault) → expression_meaning world a scope ≡ Ok (value.Scalar s) → expression_meaning world b scope ≡ Err f
      → expression_meaning world e scope ≡ Err f)

-- `HasValue` and `Value` of an int?, and `Length` of a text
abbrev pub MembersAreApplied : Type 0 → Type 0
MembersAreApplied R =
    (world : World R) (scope : Scope R) (a : Expr) (t : Ty) → expression_type a (names_at world scope) ≡ Some t → (t ≡ ty.IntN) ⊎ (t ≡ ty.Str)
    → (m : List ℕ) (o : Op) → member_named m ≡ Some o → AppliesToOne world scope o a (expr.Node (node.Member a m))

-- each sign between two operands, `==` and `!=` too; which operator `+` is, their types say where both are null
abbrev pub SignsAreApplied : Type 0 → Type 0
SignsAreApplied R =
    (world : World R) (scope : Scope R) (sign : Binary) (a b : Expr)
    → AppliesToTwo world scope (operation_on sign (expression_type a (names_at world scope)) (expression_type b (names_at world scope)))
    a b (expr.Node (node.Binary sign a b))

-- `-` and `!` before an operand
abbrev pub NegationsAreApplied : Type 0 → Type 0
NegationsAreApplied R =
    (world : World R) (scope : Scope R) (a : Expr)
    → AppliesToOne world scope op.Minus a (expr.Node (node.Unary unary.Minus a)) × AppliesToOne world scope op.Not a (expr.Node (node.Unary unary.Not a))

-- the search of a text for another one
abbrev pub SearchesAreApplied : Type 0 → Type 0
SearchesAreApplied R =
    (world : World R) (scope : Scope R) (a b : Expr) → expression_type a (names_at world scope) ≡ Some ty.Str
    → (m : List ℕ) (o : Op) → search_named m ≡ Some o → AppliesToTwo world scope (λ s t. o) a b (expr.Node (node.Method a m (argument.Value b ∷ [])))
