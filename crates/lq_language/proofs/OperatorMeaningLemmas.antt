-- What an expression of an operator or a member means, by the scalars that its operands mean.
use Rattle.std.proofs.Common.{◌≡◌, ◌⊎◌, ◌∷◌, ◌&&◌, inl, inr, if◌then◌else◌, List, [], ℕ, Bool, true, false, not, true≢false, Option, Some, None, Result, Ok, Err, ap, ◌∙◌, sym, refl, subst, bytes_eq, codes, option_and_then}
use Rattle.std.specs.Prelude.{is_some}
use Rattle.lq_value.specs.declared.scalar.Scalar.{Scalar}
use Rattle.lq_value.specs.declared.scalar.Scalar.TheVariants as scalar
use Rattle.lq_value.specs.declared.ty.Ty.{Ty, out-Ty}
use Rattle.lq_value.specs.declared.ty.Ty.TheOpen.{Ty-F}
use Rattle.lq_value.specs.declared.ty.Ty.TheVariants as ty
use Rattle.lq_value.specs.declared.ty.Ty.TheVariants.{outs-Bool, outs-Int, outs-IntN, outs-Str}
use Rattle.lq_value.specs.declared.value.Fault.{Fault}
use Rattle.lq_value.specs.declared.value.Fault.TheVariants as fault
use Rattle.lq_value.specs.declared.value.Value.{Value, out-Value}
use Rattle.lq_value.specs.declared.value.Value.TheOpen.{Value-F}
use Rattle.lq_value.specs.declared.value.Value.TheVariants as value
use Rattle.lq_value.specs.declared.value.Value.TheVariants.{outs-Scalar}
use Rattle.lq_language.specs.ClauseTyping.{expression_type, source_type}
use Rattle.lq_language.specs.EnumerableCalls.{enumerable_call}
use Rattle.lq_language.specs.Meaning.{as_sequence, called_meaning, equality_meaning, expression_meaning, has_members, is_sequence_layer, is_sequence_type, same_operands, search_meaning, settled, value_of_member}
use Rattle.lq_language.specs.Members.{is_search, member_named, search_named}
use Rattle.lq_language.specs.Names.{Names}
use Rattle.lq_language.specs.OperandMeaning.{as_value, equality_truth, member_value, on_scalar, operation_on, scalar_of, stream_of, truth_value}
use Rattle.lq_language.specs.OperandTypes.{is_equality, is_text, is_text_type, row_table, truth_type}
use Rattle.lq_language.specs.Operations.{applied, negated, of_member, of_search, of_two, on_ok, same_content, truth, truth_of}
use Rattle.lq_language.specs.OperatorMeaningLaws.{AppliesToOne, AppliesToTwo, IsResult, MembersAreApplied, NegationsAreApplied, SearchesAreApplied, SignsAreApplied}
use Rattle.lq_language.specs.RuleMeaning.{Meant, compared_meaning, operated_meaning}
use Rattle.lq_language.specs.Typing.{called_type, search_type, type_of_member}
use Rattle.lq_language.specs.Worlds.{Scope, World, names_at, or_null}
use Rattle.lq_language.specs.declared.operation.Op.{Op}
use Rattle.lq_language.specs.declared.operation.Op.TheVariants as op
use Rattle.lq_grammar.specs.declared.syntax.Argument.{Argument}
use Rattle.lq_grammar.specs.declared.syntax.Argument.TheVariants as argument
use Rattle.lq_grammar.specs.declared.syntax.Binary.{Binary}
use Rattle.lq_grammar.specs.declared.syntax.Binary.TheVariants as binary
use Rattle.lq_grammar.specs.declared.syntax.Expr.{Expr}
use Rattle.lq_grammar.specs.declared.syntax.Expr.TheVariants as expr
use Rattle.lq_grammar.specs.declared.syntax.Node.TheVariants as node
use Rattle.lq_grammar.specs.declared.syntax.Unary.TheVariants as unary
use Rattle.lq_language.proofs.KeptMeanings.{beside, meaning_of_node, type_beside}

-- ---- types of members

-- members of a type whose values are scalars: none is a sequence, and null has them too
abbrev HasScalarMembers : Ty-F Ty → Type 0
HasScalarMembers layer =
    (has_members layer ≡ false) × (is_some (row_table layer) ≡ false) × ((names : Names) (m : List ℕ) → is_sequence_type (type_of_member names m layer) ≡ false)

int_member : (value other : Bool) → is_sequence_type (if value then Some ty.Bool else (if other then Some ty.Int else None)) ≡ false
int_member true other = ap is_sequence_layer outs-Bool
int_member false true = ap is_sequence_layer outs-Int
int_member false false = refl

text_member : (length : Bool) → is_sequence_type (if length then Some ty.Int else None) ≡ false
text_member true = ap is_sequence_layer outs-Int
text_member false = refl

truth_settles : (are_truths : Bool) → is_sequence_type (truth_type are_truths) ≡ false
truth_settles true = ap is_sequence_layer outs-Bool
truth_settles false = refl

of_int : HasScalarMembers Ty-F.IntN
of_int = (refl, refl, λ names m. int_member (bytes_eq m (codes "HasValue")) (bytes_eq m (codes "Value")))

of_text : HasScalarMembers Ty-F.Str
of_text = (refl, refl, λ names m. text_member (bytes_eq m (codes "Length")))

members_there : (t : Ty) → (t ≡ ty.IntN) ⊎ (t ≡ ty.Str) → HasScalarMembers (out-Ty t)
members_there t (inl is) = subst HasScalarMembers (sym (ap out-Ty is ∙ outs-IntN)) of_int
members_there t (inr is) = subst HasScalarMembers (sym (ap out-Ty is ∙ outs-Str)) of_text

-- ---- `==` and `!=`

same_told : (unknown : Fault) {R : Type 0} (o : Result Bool Fault)
    → on_ok o (λ same. Ok (truth_value {R = R} (equality_truth binary.Equal same))) ≡ as_value (truth unknown o)
same_told unknown (Ok same) = refl
same_told unknown (Err f) = refl

other_told : (unknown : Fault) {R : Type 0} (o : Result Bool Fault)
    → on_ok o (λ same. Ok (truth_value {R = R} (equality_truth binary.NotEqual same))) ≡ as_value (truth unknown (on_ok o (λ same. Ok (not same))))
other_told unknown (Ok same) = refl
other_told unknown (Err f) = refl

equality_told : (unknown : Fault) {R : Type 0} (sign : Binary) → is_equality sign ≡ true → (t u : Option Ty) (x y : Scalar)
    → on_ok (same_content unknown x y) (λ same. Ok (truth_value {R = R} (equality_truth sign same))) ≡ as_value (applied unknown (operation_on sign t u x y) (x ∷ y ∷ []))
equality_told unknown binary.Equal h t u x y = same_told unknown (same_content unknown x y)
equality_told unknown binary.NotEqual h t u x y = other_told unknown (same_content unknown x y)
equality_told unknown sign h t u x y = absurd (true≢false (sym h))

negation_told : (unknown : Fault) {R : Type 0} (o : Result Bool Fault)
    → on_ok o (λ b. Ok (truth_value {R = R} (not b))) ≡ as_value (truth unknown (on_ok o (λ b. Ok (not b))))
negation_told unknown (Ok b) = refl
negation_told unknown (Err f) = refl

module _ {R : Type 0} (world : World R) (scope : Scope R) where
  abbrev Outcome : Type 0
  Outcome = Result (Value R) Fault

  abbrev mean : Expr → Outcome
  mean e = expression_meaning world e scope

  abbrev type_at : Expr → Option Ty
  type_at e = expression_type e (names_at world scope)

  -- ---- operands

  result_of : (found : Result Scalar Fault) (m : Outcome) → m ≡ as_value found → IsResult found m
  result_of (Ok s) m is = is
  result_of (Err f) m is = is

  on_scalar_is : {B : Type 0} (m : Outcome) (s : Scalar) (next : Scalar → Result B Fault) → m ≡ Ok (value.Scalar s) → on_scalar world m next ≡ next s
  on_scalar_is m s next is =
      ap (λ (o : Outcome). on_scalar world o next) is ∙ ap (λ (layer : Value-F R (Value R)). on_ok (scalar_of world layer) next) (outs-Scalar s)

  on_fault_is : {B : Type 0} (m : Outcome) (f : Fault) (next : Scalar → Result B Fault) → m ≡ Err f → on_scalar world m next ≡ Err f
  on_fault_is m f next is = ap (λ (o : Outcome). on_scalar world o next) is

  -- what isn't a sequence is as it is
  unsettled : (t : Option Ty) (found : Outcome) → is_sequence_type t ≡ false → settled world t found ≡ found
  unsettled t found none = ap (λ (b : Bool). if b then as_sequence (stream_of world found) else found) none

  -- ---- members

  abbrev member_of : Ty → List ℕ → Outcome → Outcome
  member_of t m operand = on_ok operand (λ v. value_of_member world (Some t) m (out-Value R v))

  member_is : (a : Expr) (t : Ty) (m : List ℕ) → type_at a ≡ Some t → HasScalarMembers (out-Ty t) → mean (expr.Node (node.Member a m)) ≡ member_of t m (mean a)
  member_is a t m typed members =
      meaning_of_node world (node.Member a m) scope
      ∙ ap (λ (o : Option Ty). settled world (option_and_then (λ u. type_of_member (names_at world scope) m (out-Ty u)) o)
      (on_ok (mean a) (λ v. value_of_member world o m (out-Value R v)))) typed
      ∙ unsettled (type_of_member (names_at world scope) m (out-Ty t)) (member_of t m (mean a)) (members.2 (names_at world scope) m)

  scalar_member : (t : Ty) (m : List ℕ) (s : Scalar) → HasScalarMembers (out-Ty t)
      → value_of_member world (Some t) m (Value-F.Scalar s) ≡ as_value (of_member world.unknown (member_named m) s)
  scalar_member t m scalar.Null members =
      ap (λ (b : Bool). if b then Err fault.NullReference else member_value world (Some t) m (Value-F.Scalar scalar.Null)) members.0
      ∙ ap (λ (b : Bool). as_value (if b then Err fault.NullReference else of_member world.unknown (member_named m) scalar.Null)) members.1
  scalar_member t m (scalar.Int n) members = refl
  scalar_member t m (scalar.Bool b) members = refl
  scalar_member t m (scalar.Text x) members = refl

  member_applied : (a : Expr) (t : Ty) → type_at a ≡ Some t → HasScalarMembers (out-Ty t) → (m : List ℕ) (o : Op) → member_named m ≡ Some o
      → AppliesToOne world scope o a (expr.Node (node.Member a m))
  member_applied a t typed members m o named = (
    λ s is. result_of (applied world.unknown o (s ∷ [])) _
        (member_is a t m typed members ∙ ap (member_of t m) is ∙ ap (value_of_member world (Some t) m) (outs-Scalar s) ∙ scalar_member t m s members
        ∙ ap (λ (p : Option Op). as_value (of_member world.unknown p s)) named),
    λ f is. member_is a t m typed members ∙ ap (member_of t m) is,
  )

  -- ---- signs

  abbrev operation_at : Binary → Expr → Expr → Scalar → Scalar → Op
  operation_at sign a b = operation_on sign (type_at a) (type_at b)

  -- a sign, by whether it is `==` or `!=`
  sign_is : (sign : Binary) (a b : Expr) (equal : Bool) → is_equality sign ≡ equal
      → mean (expr.Node (node.Binary sign a b))
      ≡ (if equal then equality_meaning world sign (mean a) (mean b)
      else (if equal then compared_meaning world sign (mean a) (mean b) else operated_meaning world sign (type_at a) (type_at b) (mean a) (mean b)))
  sign_is sign a b equal is =
      meaning_of_node world (node.Binary sign a b) scope
      ∙ ap (λ (e : Bool). if e then equality_meaning world sign (mean a) (mean b)
      else (if e then compared_meaning world sign (mean a) (mean b) else operated_meaning world sign (type_at a) (type_at b) (mean a) (mean b))) is

  same_scalars : (s t : Scalar) → same_operands world (Value-F.Scalar s) (Value-F.Scalar t) ≡ same_content world.unknown s t
  same_scalars scalar.Null t = refl
  same_scalars (scalar.Int n) t = refl
  same_scalars (scalar.Bool b) t = refl
  same_scalars (scalar.Text x) t = refl

  equality_applied : (sign : Binary) (a b : Expr) → is_equality sign ≡ true → AppliesToTwo world scope (operation_at sign a b) a b (expr.Node (node.Binary sign a b))
  equality_applied sign a b same = (
    λ s t a_is b_is. result_of (applied world.unknown (operation_at sign a b s t) (s ∷ t ∷ [])) _
        (sign_is sign a b true same
        ∙ ap (λ (o : Outcome). equality_meaning world sign o (mean b)) a_is
        ∙ ap (λ (o : Outcome). equality_meaning world sign (Ok (value.Scalar s)) o) b_is
        ∙ ap (λ (v : Value-F R (Value R)). on_ok (same_operands world v (out-Value R (value.Scalar t))) (λ equal. Ok (truth_value (equality_truth sign equal)))) (outs-Scalar s)
        ∙ ap (λ (w : Value-F R (Value R)). on_ok (same_operands world (Value-F.Scalar s) w) (λ equal. Ok (truth_value (equality_truth sign equal)))) (outs-Scalar t)
        ∙ ap (λ (o : Result Bool Fault). on_ok o (λ equal. Ok (truth_value (equality_truth sign equal)))) (same_scalars s t)
        ∙ equality_told world.unknown sign same (type_at a) (type_at b) s t),
    λ f is. sign_is sign a b true same ∙ ap (λ (o : Outcome). equality_meaning world sign o (mean b)) is,
    λ s f a_is b_is.
        sign_is sign a b true same ∙ ap (λ (o : Outcome). equality_meaning world sign o (mean b)) a_is
        ∙ ap (λ (o : Outcome). equality_meaning world sign (Ok (value.Scalar s)) o) b_is,
  )

  -- an operator that evaluates two scalars, on the second one
  abbrev on_second : Binary → Expr → Expr → Scalar → Scalar → Outcome
  on_second sign a b x y = as_value (of_two world.unknown (operation_at sign a b x y) x y)

  abbrev on_first : Binary → Expr → Expr → Scalar → Outcome
  on_first sign a b x = on_scalar world (mean b) (on_second sign a b x)

  operator_applied : (sign : Binary) (a b : Expr) → is_equality sign ≡ false → AppliesToTwo world scope (operation_at sign a b) a b (expr.Node (node.Binary sign a b))
  operator_applied sign a b other = (
    λ s t a_is b_is. result_of (applied world.unknown (operation_at sign a b s t) (s ∷ t ∷ [])) _
        (sign_is sign a b false other ∙ on_scalar_is (mean a) s (on_first sign a b) a_is ∙ on_scalar_is (mean b) t (on_second sign a b s) b_is),
    λ f is. sign_is sign a b false other ∙ on_fault_is (mean a) f (on_first sign a b) is,
    λ s f a_is b_is. sign_is sign a b false other ∙ on_scalar_is (mean a) s (on_first sign a b) a_is ∙ on_fault_is (mean b) f (on_second sign a b s) b_is,
  )

  sign_applied : (sign : Binary) (a b : Expr) (equal : Bool) → is_equality sign ≡ equal → AppliesToTwo world scope (operation_at sign a b) a b (expr.Node (node.Binary sign a b))
  sign_applied sign a b true is = equality_applied sign a b is
  sign_applied sign a b false is = operator_applied sign a b is

  -- ---- negations

  minus_applied : (a : Expr) → AppliesToOne world scope op.Minus a (expr.Node (node.Unary unary.Minus a))
  minus_applied a = (
    λ s is. result_of (applied world.unknown op.Minus (s ∷ [])) _
        (meaning_of_node world (node.Unary unary.Minus a) scope ∙ on_scalar_is (mean a) s (λ x. as_value (negated world.unknown x)) is),
    λ f is. meaning_of_node world (node.Unary unary.Minus a) scope ∙ on_fault_is (mean a) f (λ x. as_value (negated world.unknown x)) is,
  )

  abbrev if_not : Result Bool Fault → Outcome
  if_not o = on_ok o (λ b. Ok (truth_value (not b)))

  not_applied : (a : Expr) → AppliesToOne world scope op.Not a (expr.Node (node.Unary unary.Not a))
  not_applied a = (
    λ s is. result_of (applied world.unknown op.Not (s ∷ [])) _
        (meaning_of_node world (node.Unary unary.Not a) scope ∙ ap if_not (on_scalar_is (mean a) s (truth_of world.unknown) is)
        ∙ negation_told world.unknown (truth_of world.unknown s)),
    λ f is. meaning_of_node world (node.Unary unary.Not a) scope ∙ ap if_not (on_fault_is (mean a) f (truth_of world.unknown) is),
  )

  -- ---- searches

  abbrev search_of : Expr → Expr → List ℕ → Outcome
  search_of a b m = search_meaning world expression_type (mean a) m (mean b)

  abbrev argument_of : Expr → List (Argument (Meant R))
  argument_of b = argument.Value (beside world b) ∷ []

  search_is : (a b : Expr) (m : List ℕ) → type_at a ≡ Some ty.Str → mean (expr.Node (node.Method a m (argument.Value b ∷ []))) ≡ search_of a b m
  search_is a b m typed =
      meaning_of_node world (node.Method a m (argument.Value b ∷ [])) scope
      ∙ ap (λ (c : Bool).
      settled world
      (if c then search_type (type_beside world) m (argument_of b) (names_at world scope)
      else called_type (type_beside world) (type_at a) (enumerable_call m (argument_of b)) (names_at world scope))
      (if c then search_of a b m
      else called_meaning world expression_type (enumerable_call m (argument_of b)) (or_null (source_type expression_type a (names_at world scope))) (mean a) scope))
      (ap is_text_type typed ∙ ap is_text outs-Str)
      ∙ unsettled (truth_type (is_search m && is_text_type (type_at b))) (search_of a b m) (truth_settles (is_search m && is_text_type (type_at b)))

  abbrev search_second : List ℕ → Scalar → Scalar → Outcome
  search_second m x y = as_value (of_search world.unknown (search_named m) x y)

  abbrev search_first : Expr → List ℕ → Scalar → Outcome
  search_first b m x = on_scalar world (mean b) (search_second m x)

  search_applied : (a b : Expr) → type_at a ≡ Some ty.Str → (m : List ℕ) (o : Op) → search_named m ≡ Some o
      → AppliesToTwo world scope (λ x y. o) a b (expr.Node (node.Method a m (argument.Value b ∷ [])))
  search_applied a b typed m o named = (
    λ s t a_is b_is. result_of (applied world.unknown o (s ∷ t ∷ [])) _
        (search_is a b m typed ∙ on_scalar_is (mean a) s (search_first b m) a_is ∙ on_scalar_is (mean b) t (search_second m s) b_is
        ∙ ap (λ (p : Option Op). as_value (of_search world.unknown p s t)) named),
    λ f is. search_is a b m typed ∙ on_fault_is (mean a) f (search_first b m) is,
    λ s f a_is b_is. search_is a b m typed ∙ on_scalar_is (mean a) s (search_first b m) a_is ∙ on_fault_is (mean b) f (search_second m s) b_is,
  )

pub members_are_applied : {R : Type 0} → MembersAreApplied R
members_are_applied world scope a t typed kind m o named = member_applied world scope a t typed (members_there t kind) m o named

pub signs_are_applied : {R : Type 0} → SignsAreApplied R
signs_are_applied world scope sign a b = sign_applied world scope sign a b (is_equality sign) refl

pub negations_are_applied : {R : Type 0} → NegationsAreApplied R
negations_are_applied world scope a = (minus_applied world scope a, not_applied world scope a)

pub searches_are_applied : {R : Type 0} → SearchesAreApplied R
searches_are_applied world scope a b typed m o named = search_applied world scope a b typed m o named
