-- What a total rule means in the language, over the row with its columns' types, is what it means in a world without schemas.
use Rattle.std.proofs.Common.{◌≡◌, ◌∷◌, if◌then◌else◌, List, [], ℕ, Bool, true, false, not, true≢false, Option, Some, None, Result, Ok, Err, codes, ap, ap₂, ◌∙◌, sym, refl, subst}
use Rattle.lq_value.specs.declared.scalar.Scalar.{Scalar}
use Rattle.lq_value.specs.declared.scalar.Scalar.TheVariants as scalar
use Rattle.lq_value.specs.declared.table.Schema.{Schema}
use Rattle.lq_value.specs.declared.ty.Ty.{Ty}
use Rattle.lq_value.specs.declared.value.Fault.{Fault}
use Rattle.lq_value.specs.declared.value.Fault.TheVariants as fault
use Rattle.lq_value.specs.declared.value.Value.{Value, out-Value}
use Rattle.lq_value.specs.declared.value.Value.TheOpen.{Value-F}
use Rattle.lq_value.specs.declared.value.Value.TheVariants as value
use Rattle.lq_value.specs.declared.value.Value.TheVariants.{outs-Row as outs-value-Row, outs-Scalar}
use Rattle.lq_language.specs.Worlds.{Scope, World, names_at}
use Rattle.lq_language.specs.OperandMeaning.{as_value, cell_value, comparand, is_null, is_row_type, member_value, on_comparand, on_scalar, on_truth, operation_on, same_values, scalar_of, equality_truth, truth_value}
use Rattle.lq_language.specs.RuleMeaning.{compared_meaning, rule_meaning, operated_meaning}
use Rattle.lq_language.specs.Members.{member_named, search_named}
use Rattle.lq_language.specs.Operations.{negated, of_member, of_search, of_two, on_ok, truth_of}
use Rattle.lq_security.specs.Totality.{Claim, Holds, IsTotal, Sure, Total, is_division, sure_coalesce, sure_conditional, sure_text, sure_user, total_and, total_coalesce, total_column, total_comparison, total_conditional, total_division, total_has_value, total_integer, total_minus, total_not, total_null, total_or, total_search, total_text, total_truth, total_user}
use Rattle.lq_language.specs.OperandTypes.{is_comparison, is_equality}
use Rattle.lq_language.specs.RuleTyping.{rule_type}
use Rattle.lq_security.specs.Visible.{rule_scope}
use Rattle.lq_language.specs.declared.operation.Op.{Op}
use Rattle.lq_grammar.specs.declared.syntax.Argument.TheVariants as argument
use Rattle.lq_grammar.specs.declared.syntax.Binary.{Binary}
use Rattle.lq_grammar.specs.declared.syntax.Binary.TheVariants as binary
use Rattle.lq_grammar.specs.declared.syntax.Expr.{Expr}
use Rattle.lq_grammar.specs.declared.syntax.Expr.TheVariants as expr
use Rattle.lq_grammar.specs.declared.syntax.Node.TheVariants as node
use Rattle.lq_language.proofs.FormLaws.{meaning_binary, meaning_both, meaning_choice, meaning_coalesce, meaning_either, meaning_integer, meaning_member, meaning_method, meaning_minus, meaning_name, meaning_not, meaning_null, meaning_text, meaning_truth}
use Rattle.lq_security.proofs.RuleTypeLaws.{total_no_row}

-- ---- what follows an operand

on_ok_same : {A B : Type 0} (o : Result A Fault) (k l : A → Result B Fault) → ((x : A) → k x ≡ l x) → on_ok o k ≡ on_ok o l
on_ok_same (Ok x) k l each = each x
on_ok_same (Err f) k l each = refl

-- the operators of total rules, of which none is `+`
abbrev is_sum : Binary → Bool
is_sum binary.Add = true
is_sum op = false

compares_alone : (op : Binary) → is_comparison op ≡ true → is_sum op ≡ false
compares_alone binary.Add h = absurd (true≢false (sym h))
compares_alone op h = refl

divides_alone : (op : Binary) → is_division op ≡ true → is_sum op ≡ false
divides_alone binary.Add h = absurd (true≢false (sym h))
divides_alone op h = refl

-- the types of operands matter to `+` alone
operation_same : (op : Binary) → is_sum op ≡ false → (t u v w : Option Ty) (x y : Scalar) → operation_on op t u x y ≡ operation_on op v w x y
operation_same binary.Add h t u v w x y = absurd (true≢false h)
operation_same op h t u v w x y = refl

-- ---- two worlds that differ in their schemas and rows alone

module _ (schemas : List Schema) (rows : List (List (List Scalar))) (cell : List Scalar → List ℕ → Option Scalar) (unknown : Fault) where
  abbrev V : Type 0
  V = Value (List Scalar)

  abbrev Layer : Type 0
  Layer = Value-F (List Scalar) V

  abbrev Outcome : Type 0
  Outcome = Result V Fault

  abbrev pub table_world : World (List Scalar)
  table_world = record { schemas = schemas; rows = rows; predicates = []; session = []; cell = cell; table = λ cells. 0; unknown = unknown }

  abbrev pub bare : World (List Scalar)
  bare = record { schemas = []; rows = []; predicates = []; session = []; cell = cell; table = λ cells. 0; unknown = unknown }

  scalar_same : (layer : Layer) → scalar_of table_world layer ≡ scalar_of bare layer
  scalar_same (Value-F.Scalar s) = refl
  scalar_same layer = refl

  comparand_same : (layer : Layer) → comparand table_world layer ≡ comparand bare layer
  comparand_same (Value-F.Scalar s) = refl
  comparand_same (Value-F.Row r) = refl
  comparand_same layer = refl

  values_same : (v w : Layer) → same_values table_world v w ≡ same_values bare v w
  values_same (Value-F.Scalar s) (Value-F.Scalar t) = refl
  values_same (Value-F.Scalar scalar.Null) (Value-F.Row r) = refl
  values_same (Value-F.Row r) (Value-F.Scalar scalar.Null) = refl
  values_same v w = refl

  on_scalar_same : {B : Type 0} (o : Outcome) (k l : Scalar → Result B Fault) → ((s : Scalar) → k s ≡ l s) → on_scalar table_world o k ≡ on_scalar bare o l
  on_scalar_same o k l each =
      ap (λ (r : Result Scalar Fault). on_ok r k) (on_ok_same o _ _ (λ v. scalar_same (out-Value (List Scalar) v))) ∙ on_ok_same _ k l each

  on_comparand_same : {B : Type 0} (o : Outcome) (k l : Layer → Result B Fault) → ((layer : Layer) → k layer ≡ l layer) → on_comparand table_world o k ≡ on_comparand bare o l
  on_comparand_same o k l each =
      ap (λ (r : Result Layer Fault). on_ok r k) (on_ok_same o _ _ (λ v. comparand_same (out-Value (List Scalar) v))) ∙ on_ok_same _ k l each

  on_truth_same : {B : Type 0} (o : Outcome) (k l : Bool → Result B Fault) → ((b : Bool) → k b ≡ l b) → on_truth table_world o k ≡ on_truth bare o l
  on_truth_same o k l each =
      ap (λ (r : Result Bool Fault). on_ok r k) (on_scalar_same o (truth_of unknown) (truth_of unknown) (λ s. refl)) ∙ on_ok_same _ k l each

  compared_same : (op : Binary) (o p : Outcome) → compared_meaning table_world op o p ≡ compared_meaning bare op o p
  compared_same op o p =
      on_comparand_same o _ _
      (λ v. on_comparand_same p _ _ (λ w. ap (λ (r : Result Bool Fault). on_ok r (λ same. Ok (truth_value (equality_truth op same)))) (values_same v w)))

  operated_same : (op : Binary) → is_sum op ≡ false → (t u v w : Option Ty) (o p : Outcome) → operated_meaning table_world op t u o p ≡ operated_meaning bare op v w o p
  operated_same op alone t u v w o p =
      on_scalar_same o _ _ (λ x. on_scalar_same p _ _ (λ y. ap (λ (k : Op). as_value (of_two unknown k x y)) (operation_same op alone t u v w x y)))

  cell_same : (o : Option Scalar) → cell_value table_world o ≡ cell_value bare o
  cell_same None = refl
  cell_same (Some s) = refl

  -- a member of what isn't a row, whose type isn't a row's
  null_as : (t : Option Ty) (m : List ℕ) → is_row_type t ≡ false → (world : World (List Scalar)) → world.unknown ≡ unknown
      → member_value world t m (Value-F.Scalar scalar.Null) ≡ as_value (of_member unknown (member_named m) scalar.Null)
  null_as t m none world is =
      ap (λ (b : Bool). as_value (if b then Err fault.NullReference else of_member world.unknown (member_named m) scalar.Null)) none
      ∙ ap (λ (f : Fault). as_value (of_member f (member_named m) scalar.Null)) is

  member_same : (t u : Option Ty) (m : List ℕ) → is_row_type t ≡ false → is_row_type u ≡ false → (layer : Layer)
      → member_value table_world t m layer ≡ member_value bare u m layer
  member_same t u m t_none u_none (Value-F.Row r) = cell_same (cell r m)
  member_same t u m t_none u_none (Value-F.Scalar scalar.Null) = null_as t m t_none table_world refl ∙ sym (null_as u m u_none bare refl)
  member_same t u m t_none u_none (Value-F.Scalar s) = refl
  member_same t u m t_none u_none layer = refl

  -- ---- form by form

  module _ (cells : List Scalar) (user : List ℕ) where
    abbrev scope : Scope (List Scalar)
    scope = rule_scope cells user

    abbrev AreSame : Expr → Type 0
    AreSame e = rule_meaning table_world e scope ≡ rule_meaning bare e scope

    abbrev IsSame : Claim → Type 0
    IsSame (Total e) = AreSame e
    IsSame (Sure e) = AreSame e

    same_as : {e d : Expr} → e ≡ d → AreSame d → AreSame e
    same_as is same = subst AreSame (sym is) same

    text_same : (x : List ℕ) → AreSame (expr.Node (node.Text x))
    text_same x = meaning_text table_world x scope ∙ sym (meaning_text bare x scope)

    user_same : AreSame (expr.Node (node.Name (codes "user")))
    user_same = meaning_name table_world (codes "user") scope ∙ sym (meaning_name bare (codes "user") scope)

    row_same : AreSame (expr.Node (node.Name (codes "row")))
    row_same = meaning_name table_world (codes "row") scope ∙ sym (meaning_name bare (codes "row") scope)

    column_same : (row : Expr) (c : List ℕ) → row ≡ expr.Node (node.Name (codes "row")) → AreSame (expr.Node (node.Member row c))
    column_same row c is = of_row table_world ∙ cell_same (cell cells c) ∙ sym (of_row bare) where
      of_row : (world : World (List Scalar)) → rule_meaning world (expr.Node (node.Member row c)) scope ≡ cell_value world (world.cell cells c)
      of_row world =
          meaning_member world row c scope
          ∙ ap (λ (o : Outcome). on_ok o (λ v. member_value world (rule_type row (names_at world scope)) c (out-Value (List Scalar) v)))
          (ap (λ (e : Expr). rule_meaning world e scope) is ∙ meaning_name world (codes "row") scope)
          ∙ ap (member_value world (rule_type row (names_at world scope)) c) (outs-value-Row cells)

    conditional_same : (c a b : Expr) → AreSame c → AreSame a → AreSame b → AreSame (expr.Node (node.Conditional c a b))
    conditional_same c a b test left right =
        meaning_choice table_world c a b scope
        ∙ (λ i. on_truth table_world (test i) (λ t. if t then left i else right i))
        ∙ on_truth_same (rule_meaning bare c scope) _ _ (λ t. refl)
        ∙ sym (meaning_choice bare c a b scope)

    coalesce_same : (a b : Expr) → AreSame a → AreSame b → AreSame (expr.Node (node.Coalesce a b))
    coalesce_same a b left right =
        meaning_coalesce table_world a b scope
        ∙ (λ i. on_scalar table_world (left i) (λ s. if is_null s then right i else Ok (value.Scalar s)))
        ∙ on_scalar_same (rule_meaning bare a scope) _ _ (λ s. refl)
        ∙ sym (meaning_coalesce bare a b scope)

    binary_same : (op : Binary) (a b : Expr) → is_sum op ≡ false → AreSame a → AreSame b → AreSame (expr.Node (node.Binary op a b))
    binary_same op a b alone left right =
        meaning_binary table_world op a b scope
        ∙ (λ i. signed table_world (left i) (right i))
        ∙ by (is_equality op)
        ∙ sym (meaning_binary bare op a b scope)
      where
        signed : World (List Scalar) → Outcome → Outcome → Outcome
        signed world o p =
            if is_equality op then compared_meaning world op o p
            else operated_meaning world op (rule_type a (names_at world scope)) (rule_type b (names_at world scope)) o p

        by : (equal : Bool)
            → (if equal then compared_meaning table_world op (rule_meaning bare a scope) (rule_meaning bare b scope)
            else operated_meaning table_world op (rule_type a (names_at table_world scope)) (rule_type b (names_at table_world scope)) (rule_meaning bare a scope) (rule_meaning bare b scope))
            ≡ (if equal then compared_meaning bare op (rule_meaning bare a scope) (rule_meaning bare b scope)
            else operated_meaning bare op (rule_type a (names_at bare scope)) (rule_type b (names_at bare scope)) (rule_meaning bare a scope) (rule_meaning bare b scope))
        by true = compared_same op (rule_meaning bare a scope) (rule_meaning bare b scope)
        by false = operated_same op alone _ _ _ _ (rule_meaning bare a scope) (rule_meaning bare b scope)

    has_value_same : (a : Expr) → IsTotal a → AreSame a → AreSame (expr.Node (node.Member a (codes "HasValue")))
    has_value_same a total operand =
        meaning_member table_world a (codes "HasValue") scope
        ∙ ap (λ (o : Outcome). on_ok o (λ v. member_value table_world (rule_type a (names_at table_world scope)) (codes "HasValue") (out-Value (List Scalar) v))) operand
        ∙ on_ok_same (rule_meaning bare a scope) _ _
        (λ v. member_same (rule_type a (names_at table_world scope)) (rule_type a (names_at bare scope)) (codes "HasValue") (total_no_row schemas total) (total_no_row [] total)
        (out-Value (List Scalar) v))
        ∙ sym (meaning_member bare a (codes "HasValue") scope)

    search_same : (a b : Expr) (m : List ℕ) → AreSame a → AreSame b → AreSame (expr.Node (node.Method a m (argument.Value b ∷ [])))
    search_same a b m left right =
        meaning_method table_world a m (argument.Value b ∷ []) scope
        ∙ (λ i. on_scalar table_world (left i) (λ s. on_scalar table_world (right i) (λ t. as_value (of_search unknown (search_named m) s t))))
        ∙ on_scalar_same (rule_meaning bare a scope) _ _ (λ s. on_scalar_same (rule_meaning bare b scope) _ _ (λ t. refl))
        ∙ sym (meaning_method bare a m (argument.Value b ∷ []) scope)

    same : {claim : Claim} → Holds claim → IsSame claim
    same (total_integer _ n is) = same_as is (meaning_integer table_world n scope ∙ sym (meaning_integer bare n scope))
    same (total_text _ x is) = same_as is (text_same x)
    same (total_truth _ b is) = same_as is (meaning_truth table_world b scope ∙ sym (meaning_truth bare b scope))
    same (total_null _ is) = same_as is (meaning_null table_world scope ∙ sym (meaning_null bare scope))
    same (total_minus _ a n is literal) =
        same_as is
        (meaning_minus table_world a scope
        ∙ ap (λ (o : Outcome). on_scalar table_world o (λ s. as_value (negated unknown s)))
        (same_as literal (meaning_integer table_world _ scope ∙ sym (meaning_integer bare _ scope)))
        ∙ on_scalar_same (rule_meaning bare a scope) _ _ (λ s. refl) ∙ sym (meaning_minus bare a scope))
    same (total_column _ row c is of_row) = same_as is (column_same row c of_row)
    same (total_user _ is) = same_as is user_same
    same (total_not _ a is operand) =
        same_as is
        (meaning_not table_world a scope ∙ ap (λ (o : Outcome). on_truth table_world o (λ t. Ok (truth_value (not t)))) (same operand)
        ∙ on_truth_same (rule_meaning bare a scope) _ _ (λ t. refl) ∙ sym (meaning_not bare a scope))
    same (total_and _ a b is left right) =
        same_as is
        (meaning_both table_world a b scope ∙ ap₂ (λ (o p : Outcome). on_truth table_world o (λ t. if t then p else Ok (truth_value false))) (same left) (same right)
        ∙ on_truth_same (rule_meaning bare a scope) _ _ (λ t. refl) ∙ sym (meaning_both bare a b scope))
    same (total_or _ a b is left right) =
        same_as is
        (meaning_either table_world a b scope ∙ ap₂ (λ (o p : Outcome). on_truth table_world o (λ t. if t then Ok (truth_value true) else p)) (same left) (same right)
        ∙ on_truth_same (rule_meaning bare a scope) _ _ (λ t. refl) ∙ sym (meaning_either bare a b scope))
    same (total_comparison _ a b op is compares left right) = same_as is (binary_same op a b (compares_alone op compares) (same left) (same right))
    same (total_conditional _ c a b is test left right) = same_as is (conditional_same c a b (same test) (same left) (same right))
    same (total_coalesce _ a b is left right) = same_as is (coalesce_same a b (same left) (same right))
    same (total_has_value _ a is operand) = same_as is (has_value_same a operand (same operand))
    same (total_division _ a b op n is divides left literal) =
        same_as is
        (binary_same op a b (divides_alone op divides) (same left) (same_as literal (meaning_integer table_world _ scope ∙ sym (meaning_integer bare _ scope))))
    same (total_search _ a b m is looks left right) = same_as is (search_same a b m (same left) (same right))
    same (sure_text _ x is) = same_as is (text_same x)
    same (sure_user _ is) = same_as is user_same
    same (sure_coalesce _ a b is left right) = same_as is (coalesce_same a b (same left) (same right))
    same (sure_conditional _ c a b is test left right) = same_as is (conditional_same c a b (same test) (same left) (same right))

    pub total_same : {e : Expr} → IsTotal e → rule_meaning table_world e scope ≡ rule_meaning bare e scope
    total_same total = same total
