-- Laws of meaning: what is typed has a meaning of its own, which is a value of its type or a fault; and
-- an expression of the rule language means the same by `RuleMeaning`.
use Rattle.std.specs.Prelude.{◌≡◌, ◌∷◌, List, [], ℕ, Some, Ok, slice_get}
use Rattle.lq_value.specs.declared.scalar.Scalar.{Scalar}
use Rattle.lq_value.specs.declared.scalar.Scalar.TheVariants as scalar
use Rattle.lq_value.specs.declared.ty.Ty.{Ty, out-Ty}
use Rattle.lq_value.specs.declared.ty.Ty.TheOpen.{Ty-F}
use Rattle.lq_value.specs.declared.ty.Ty.TheVariants as ty
use Rattle.lq_value.specs.declared.value.End.{End}
use Rattle.lq_value.specs.declared.value.Fault.{Fault}
use Rattle.lq_value.specs.declared.value.Value.{Value}
use Rattle.lq_value.specs.declared.value.Value.TheVariants as value
use Rattle.lq_language.specs.ClauseTyping.{expression_type, query_items}
use Rattle.lq_language.specs.Worlds.{Scope, World, names_at}
use Rattle.lq_language.specs.OperandMeaning.{sequence}
use Rattle.lq_language.specs.RuleMeaning.{rule_meaning}
use Rattle.lq_language.specs.ValuesOfTypes.{Every, HasCells, HoldsRows, IsOfScope, IsScalarOf, assuming}
use Rattle.lq_language.specs.Stream.{Stream}
use Rattle.lq_language.specs.RuleTyping.{HasRuleType}
use Rattle.lq_language.specs.Meaning.{expression_meaning, items_meaning}
use Rattle.lq_grammar.specs.declared.syntax.Expr.{Expr}
use Rattle.lq_grammar.specs.declared.syntax.Query.{Query}

-- What is said of values: one is of a type, and the members of a record are those of its type, in order.
pub data ValueClaim (R : Type 0) : Type 0 where
  IsA : Ty → Value R → ValueClaim R
  AreMembers : List (List ℕ × Ty) → List (List ℕ × Value R) → ValueClaim R

module _ {R : Type 0} (world : World R) where
  -- Which of it is so. A null record is the scalar null. All items of a sequence are of its items' type, whatever its ending is.
  pub data Fits : ValueClaim R → Type 0 where
    by_scalar : (t : Ty) (s : Scalar) → IsScalarOf (out-Ty t) s → Fits (IsA t (value.Scalar s))
    by_null_record : (t : Ty) (ms : List (List ℕ × Ty)) → out-Ty t ≡ Ty-F.Rec ms → Fits (IsA t (value.Scalar scalar.Null))
    by_row : (t : Ty) (n : ℕ) (r : R) → out-Ty t ≡ Ty-F.Row n → HasCells world n r → Fits (IsA t (value.Row r))
    by_record : (t : Ty) (ms : List (List ℕ × Ty)) (vs : List (List ℕ × Value R)) → out-Ty t ≡ Ty-F.Rec ms → Fits (AreMembers ms vs) → Fits (IsA t (value.Rec vs))
    by_group : (t k u : Ty) (key : Value R) (vs : List (Value R)) → out-Ty t ≡ Ty-F.Group k u → Fits (IsA k key)
        → ((i : ℕ) (v : Value R) → slice_get vs i ≡ Some v → Fits (IsA u v)) → Fits (IsA t (value.Group key vs))
    by_sequence : (t u : Ty) (vs : List (Value R)) (e : End) → out-Ty t ≡ Ty-F.Seq u
        → ((i : ℕ) (v : Value R) → slice_get vs i ≡ Some v → Fits (IsA u v)) → Fits (IsA t (value.Seq vs e))
    no_member : Fits (AreMembers [] [])
    one_member : (n : List ℕ) (t : Ty) (v : Value R) (ms : List (List ℕ × Ty)) (vs : List (List ℕ × Value R)) → Fits (IsA t v) → Fits (AreMembers ms vs)
        → Fits (AreMembers ((n, t) ∷ ms) ((n, v) ∷ vs))

  -- a value is of a type
  abbrev pub IsValueOf : Ty → Value R → Type 0
  IsValueOf t v = Fits (IsA t v)

  -- each name of the session has a value of its type
  abbrev pub IsSessionOfValues : Type 0
  IsSessionOfValues = Every (λ s. IsValueOf s.known.ty s.value) world.session

  -- each local name has a value of its type
  abbrev pub IsScopeOfValues : Scope R → Type 0
  IsScopeOfValues scope = Every (λ b. IsValueOf b.ty b.value) scope

-- what a typed expression means is the same whatever is used where there is no meaning, and if it is a value, then one of its type
abbrev pub HasMeaning : Type 0 → Type 0
HasMeaning R =
    (world : World R) → HoldsRows world → IsSessionOfValues world → (scope : Scope R) → IsScopeOfValues world scope → (e : Expr) (t : Ty)
    → expression_type e (names_at world scope) ≡ Some t
    → (f g : Fault)
    → (expression_meaning (assuming f world) e scope ≡ expression_meaning (assuming g world) e scope)
    × ((v : Value R) → expression_meaning (assuming f world) e scope ≡ Ok v → IsValueOf world t v)

-- and so are a typed query's stream, and the items in it
abbrev pub HasStream : Type 0 → Type 0
HasStream R =
    (world : World R) → HoldsRows world → IsSessionOfValues world → (scope : Scope R) → IsScopeOfValues world scope → (q : Query Expr) (t : Ty)
    → query_items expression_type q (names_at world scope) ≡ Some t
    → (f g : Fault)
    → (items_meaning (assuming f world) q scope ≡ items_meaning (assuming g world) q scope)
    × Every (IsValueOf world t) (items_meaning (assuming f world) q scope).0

-- an expression of a sequence's type never faults: it is a stream, though this may end in a fault
abbrev pub NeverFaults : Type 0 → Type 0
NeverFaults R =
    (world : World R) → HoldsRows world → IsSessionOfValues world → (scope : Scope R) → IsScopeOfValues world scope → (e : Expr) (t : Ty)
    → expression_type e (names_at world scope) ≡ Some (ty.Seq t)
    → (unknown : Fault) → (s : Stream (Value R)) × (expression_meaning (assuming unknown world) e scope ≡ Ok (sequence s))

-- ---- the rule language

-- what has a type in the rule language means in the whole language what it means there
abbrev pub KeepsRuleMeanings : Type 0 → Type 0
KeepsRuleMeanings R =
    (world : World R) → HoldsRows world → (scope : Scope R) → IsOfScope world scope → (e : Expr) (t : Ty) → HasRuleType (names_at world scope) e t → (unknown : Fault)
    → expression_meaning (assuming unknown world) e scope ≡ rule_meaning (assuming unknown world) e scope
