-- What an expression is, form by form, from what its operands are.
use Rattle.std.proofs.Common.{◌≡◌, if◌then◌else◌, not, List, [], map, ℕ, ℤ, Bool, true, false, Option, Some, None, Result, Ok, Err, ap, ◌∙◌, refl, slice_get, option_and_then}
use Rattle.lq_value.specs.declared.scalar.Scalar.{Scalar}
use Rattle.lq_value.specs.declared.scalar.Scalar.TheVariants as scalar
use Rattle.lq_value.specs.declared.ty.Ty.{Ty}
use Rattle.lq_value.specs.declared.value.End.TheVariants as end
use Rattle.lq_value.specs.declared.value.Fault.{Fault}
use Rattle.lq_value.specs.declared.value.Fault.TheVariants as fault
use Rattle.lq_value.specs.declared.value.Value.{Value, out-Value}
use Rattle.lq_value.specs.declared.value.Value.TheOpen.{Value-F}
use Rattle.lq_value.specs.declared.value.Value.TheVariants.{outs-Scalar, outs-Seq}
use Rattle.lq_value.specs.declared.value.Value.TheVariants as value
use Rattle.lq_language.specs.Worlds.{Binding, Scope, World, binding_of}
use Rattle.lq_language.specs.OperandMeaning.{as_value, cell_value, comparand, host_value, is_null, member_value, name_value, on_comparand, on_scalar, on_truth, same_values, scalar_of, table_value, equality_truth, truth_value}
use Rattle.lq_language.specs.RuleMeaning.{compared_meaning, rule_meaning, operated_meaning, rule_truth}
use Rattle.lq_language.specs.Members.{search_named, sole_argument}
use Rattle.lq_language.specs.Operations.{negated, of_search, on_ok, truth_of}
use Rattle.lq_language.specs.Names.{Names, table_number}
use Rattle.lq_language.specs.OperandTypes.{is_equality}
use Rattle.lq_language.specs.RuleTyping.{rule_type}
use Rattle.lq_security.specs.Visible.{rule_scope, rule_world}
use Rattle.lq_grammar.specs.declared.syntax.Argument.{Argument}
use Rattle.lq_grammar.specs.declared.syntax.Binary.{Binary}
use Rattle.lq_grammar.specs.declared.syntax.Expr.{Expr}
use Rattle.lq_grammar.specs.declared.syntax.Expr.TheVariants as expr
use Rattle.lq_grammar.specs.declared.syntax.Field.{Field}
use Rattle.lq_grammar.specs.declared.syntax.Node.TheVariants as node
use Rattle.lq_grammar.specs.declared.syntax.Picked.{Picked}
use Rattle.lq_grammar.specs.declared.syntax.Query.{Query}
use Rattle.lq_grammar.specs.declared.syntax.Unary.TheVariants as unary
use Rattle.lq_language.proofs.FormLaws.{argument_meaning, meaning_binary, meaning_both, meaning_choice, meaning_coalesce, meaning_either, meaning_host, meaning_integer, meaning_member, meaning_method, meaning_minus, meaning_name, meaning_not, meaning_null, meaning_other, meaning_query, meaning_record, meaning_text, meaning_truth}
use Rattle.lq_scalar.specs.declared.operand.Operand.{Operand}
use Rattle.lq_scalar.specs.declared.operand.Operand.TheVariants as operand
use Rattle.lq_scalar.specs.Referents.{Shape, TheRow, TheScalar, names_among, shape_at, shape_in}
use Rattle.lq_scalar.specs.Shapes.{faulting, member_of_null, member_shape, named_member, operand_part, operand_scalar, operated_scalars, same_parts, scalar_part, shown_operand, scalar_in, scalar_or_fault, scalar_shape, shape_of, shape_of_argument, equality_of_shapes, truth_in, truth_of_expression, truth_shape}

-- the row or scalar that a value is, or the fault in its place
abbrev pub viewed : {R : Type 0} → Result (Value R) Fault → Result (Shape R) Fault
viewed {R} m = on_ok m (λ v. shape_in (out-Value R v))

module _ {R : Type 0} where
  viewed_scalar : (s : Scalar) → viewed {R = R} (Ok (value.Scalar s)) ≡ Ok (TheScalar s)
  viewed_scalar s = ap shape_in (outs-Scalar s)

  viewed_as_value : (o : Result Scalar Fault) → viewed {R = R} (as_value o) ≡ scalar_shape o
  viewed_as_value (Ok s) = viewed_scalar s
  viewed_as_value (Err f) = refl

  viewed_truth : (o : Result Bool Fault) → viewed {R = R} (on_ok o (λ b. Ok (truth_value b))) ≡ truth_shape o
  viewed_truth (Ok b) = viewed_scalar (scalar.Bool b)
  viewed_truth (Err f) = refl

  -- what follows is viewed where there is something to follow
  viewed_then : {A : Type 0} (x : Result A Fault) (next : A → Result (Value R) Fault) (shown : A → Result (Shape R) Fault) → ((y : A) → viewed (next y) ≡ shown y)
      → viewed (on_ok x next) ≡ on_ok x shown
  viewed_then (Ok y) next shown h = h y
  viewed_then (Err f) next shown h = refl

module _ {R : Type 0} (world : World R) where
  -- a scalar is asked of both alike
  pub scalar_viewed : (m : Result (Value R) Fault) → on_ok m (λ v. scalar_of (faulting world) (out-Value R v)) ≡ on_ok (viewed m) scalar_in
  scalar_viewed (Err f) = refl
  scalar_viewed (Ok v) = by (out-Value R v) where
    by : (layer : Value-F R (Value R)) → scalar_of (faulting world) layer ≡ on_ok (shape_in layer) scalar_in
    by (Value-F.Scalar s) = refl
    by (Value-F.Row r) = refl
    by layer = refl

  scalar_then : (m : Result (Value R) Fault) (next : Scalar → Result (Value R) Fault) (shown : Scalar → Result (Shape R) Fault) → ((s : Scalar) → viewed (next s) ≡ shown s)
      → viewed (on_scalar (faulting world) m next) ≡ on_ok (on_ok (viewed m) scalar_in) shown
  scalar_then m next shown h =
      viewed_then (on_ok m (λ v. scalar_of (faulting world) (out-Value R v))) next shown h ∙ ap (λ (x : Result Scalar Fault). on_ok x shown) (scalar_viewed m)

  truth_by : (o : Result (Shape R) Fault) → on_ok (on_ok o scalar_in) (truth_of fault.NullReference) ≡ on_ok o truth_in
  truth_by (Ok shape) = refl
  truth_by (Err f) = refl

  pub truth_viewed : (m : Result (Value R) Fault) → on_scalar (faulting world) m (truth_of fault.NullReference) ≡ on_ok (viewed m) truth_in
  truth_viewed m = ap (λ (x : Result Scalar Fault). on_ok x (truth_of fault.NullReference)) (scalar_viewed m) ∙ truth_by (viewed m)

  truth_then : (m : Result (Value R) Fault) (next : Bool → Result (Value R) Fault) (shown : Bool → Result (Shape R) Fault) → ((b : Bool) → viewed (next b) ≡ shown b)
      → viewed (on_truth (faulting world) m next) ≡ on_ok (on_ok (viewed m) truth_in) shown
  truth_then m next shown h =
      viewed_then (on_scalar (faulting world) m (truth_of fault.NullReference)) next shown h ∙ ap (λ (x : Result Bool Fault). on_ok x shown) (truth_viewed m)

  comparand_then : (m : Result (Value R) Fault) (next : Value-F R (Value R) → Result (Value R) Fault) (shown : Shape R → Result (Shape R) Fault)
      → ((s : Scalar) → viewed (next (Value-F.Scalar s)) ≡ shown (TheScalar s)) → ((r : R) → viewed (next (Value-F.Row r)) ≡ shown (TheRow (Some r)))
      → viewed (on_comparand (faulting world) m next) ≡ on_ok (viewed m) shown
  comparand_then (Err f) next shown scalars rows = refl
  comparand_then (Ok v) next shown scalars rows = by (out-Value R v) where
    by : (layer : Value-F R (Value R)) → viewed (on_ok (comparand (faulting world) layer) next) ≡ on_ok (shape_in layer) shown
    by (Value-F.Scalar s) = scalars s
    by (Value-F.Row r) = rows r
    by layer = refl

  -- ---- names and members

  table_viewed : (o : Option (List R)) → viewed (table_value (faulting world) o) ≡ Err fault.NullReference
  table_viewed None = refl
  table_viewed (Some rows) = ap shape_in (outs-Seq (map value.Row rows) end.Done)

  name_viewed : (x : List ℕ) (o : Option (Binding R)) → viewed (name_value (faulting world) x o) ≡ shape_at o
  name_viewed x (Some b) = refl
  name_viewed x None = table_viewed (option_and_then (λ number. slice_get world.rows number) (table_number x world.schemas))

  cell_viewed : (o : Option Scalar) → viewed (cell_value (faulting world) o) ≡ scalar_shape (scalar_or_fault o)
  cell_viewed (Some s) = viewed_scalar s
  cell_viewed None = refl

  member_viewed : (t : Option Ty) (m : List ℕ) (o : Result (Value R) Fault)
      → viewed (on_ok o (λ v. member_value (faulting world) t m (out-Value R v))) ≡ on_ok (viewed o) (member_shape world t m)
  member_viewed t m (Err f) = refl
  member_viewed t m (Ok v) = by (out-Value R v) where
    by : (layer : Value-F R (Value R)) → viewed (member_value (faulting world) t m layer) ≡ on_ok (shape_in layer) (member_shape world t m)
    by (Value-F.Row r) = cell_viewed (world.cell r m)
    by (Value-F.Scalar scalar.Null) = viewed_as_value (member_of_null t m)
    by (Value-F.Scalar (scalar.Int n)) = viewed_as_value (named_member m (scalar.Int n))
    by (Value-F.Scalar (scalar.Bool b)) = viewed_as_value (named_member m (scalar.Bool b))
    by (Value-F.Scalar (scalar.Text x)) = viewed_as_value (named_member m (scalar.Text x))
    by layer = refl

  -- ---- host predicates

  host_viewed : (p : List ℕ) (columns : Picked) (o : Result (Value R) Fault)
      → viewed (on_ok o (λ v. host_value (faulting world) p columns (out-Value R v))) ≡ on_ok (viewed o) (λ shape. Err fault.NullReference)
  host_viewed p columns (Err f) = refl
  host_viewed p columns (Ok v) = by (out-Value R v) where
    by : (layer : Value-F R (Value R)) → viewed (host_value (faulting world) p columns layer) ≡ on_ok (shape_in layer) (λ shape. Err fault.NullReference)
    by (Value-F.Row r) = refl
    by (Value-F.Scalar scalar.Null) = refl
    by (Value-F.Scalar s) = refl
    by layer = refl

  -- ---- operators

  told_viewed : (sign : Binary) (o : Result Bool Fault) → viewed {R = R} (on_ok o (λ same. Ok (truth_value (equality_truth sign same)))) ≡ truth_shape (on_ok o (λ same. Ok (equality_truth sign same)))
  told_viewed sign (Ok same) = viewed_scalar (scalar.Bool (equality_truth sign same))
  told_viewed sign (Err f) = refl

  same_viewed : (sign : Binary) (v w : Value-F R (Value R)) (x y : Shape R) → same_values (faulting world) v w ≡ same_parts (scalar_part x) (scalar_part y)
      → viewed {R = R} (on_ok (same_values (faulting world) v w) (λ same. Ok (truth_value (equality_truth sign same)))) ≡ truth_shape {R = R} (equality_of_shapes sign x y)
  same_viewed sign v w x y h =
      told_viewed sign (same_values (faulting world) v w) ∙ ap (λ (o : Result Bool Fault). truth_shape {R = R} (on_ok o (λ same. Ok (equality_truth sign same)))) h

  scalar_and_row : (s : Scalar) (r : R) → same_values (faulting world) (Value-F.Scalar s) (Value-F.Row r) ≡ same_parts (Some s) None
  scalar_and_row scalar.Null r = refl
  scalar_and_row (scalar.Int n) r = refl
  scalar_and_row (scalar.Bool b) r = refl
  scalar_and_row (scalar.Text t) r = refl

  row_and_scalar : (r : R) (s : Scalar) → same_values (faulting world) (Value-F.Row r) (Value-F.Scalar s) ≡ same_parts None (Some s)
  row_and_scalar r scalar.Null = refl
  row_and_scalar r (scalar.Int n) = refl
  row_and_scalar r (scalar.Bool b) = refl
  row_and_scalar r (scalar.Text t) = refl

  compared_viewed : (sign : Binary) (m n : Result (Value R) Fault)
      → viewed (compared_meaning (faulting world) sign m n) ≡ on_ok (viewed m) (λ v. on_ok (viewed n) (λ w. truth_shape (equality_of_shapes sign v w)))
  compared_viewed sign m n =
      comparand_then m (λ v. on_comparand (faulting world) n (λ w. on_ok (same_values (faulting world) v w) (λ same. Ok (truth_value (equality_truth sign same)))))
      (λ v. on_ok (viewed n) (λ w. truth_shape (equality_of_shapes sign v w)))
      (λ s. comparand_then n _ _ (λ t. same_viewed sign (Value-F.Scalar s) (Value-F.Scalar t) (TheScalar s) (TheScalar t) refl) (λ r. same_viewed sign (Value-F.Scalar s) (Value-F.Row r) (TheScalar s) (TheRow (Some r)) (scalar_and_row s r)))
      (λ r. comparand_then n _ _ (λ t. same_viewed sign (Value-F.Row r) (Value-F.Scalar t) (TheRow (Some r)) (TheScalar t) (row_and_scalar r t)) (λ u. same_viewed sign (Value-F.Row r) (Value-F.Row u) (TheRow (Some r)) (TheRow (Some u)) refl))

  operated_viewed : (sign : Binary) (t u : Option Ty) (m n : Result (Value R) Fault)
      → viewed (operated_meaning (faulting world) sign t u m n)
      ≡ on_ok (on_ok (viewed m) scalar_in) (λ x. on_ok (on_ok (viewed n) scalar_in) (λ y. scalar_shape (operated_scalars sign t u x y)))
  operated_viewed sign t u m n = scalar_then m _ _ (λ x. scalar_then n _ _ (λ y. viewed_as_value (operated_scalars sign t u x y)))

  -- whichever of two follows
  either_viewed : (b : Bool) (m n : Result (Value R) Fault) → viewed (if b then m else n) ≡ (if b then viewed m else viewed n)
  either_viewed true m n = refl
  either_viewed false m n = refl

-- ---- the equations of the evaluation

module _ {R : Type 0} (world : World R) (scope : Scope R) where
  abbrev place : Names
  place = names_among [] world scope

  pub shape_integer : (n : ℤ) → shape_of world scope (expr.Node (node.Integer n)) ≡ Ok (TheScalar (scalar.Int n))
  unfolding shape_of
  shape_integer n = ap viewed (meaning_integer (faulting world) n scope) ∙ viewed_scalar (scalar.Int n)

  pub shape_text : (t : List ℕ) → shape_of world scope (expr.Node (node.Text t)) ≡ Ok (TheScalar (scalar.Text t))
  unfolding shape_of
  shape_text t = ap viewed (meaning_text (faulting world) t scope) ∙ viewed_scalar (scalar.Text t)

  pub shape_truth : (b : Bool) → shape_of world scope (expr.Node (node.Bool b)) ≡ Ok (TheScalar (scalar.Bool b))
  unfolding shape_of
  shape_truth b = ap viewed (meaning_truth (faulting world) b scope) ∙ viewed_scalar (scalar.Bool b)

  pub shape_null : shape_of world scope (expr.Node node.Null) ≡ Ok (TheScalar scalar.Null)
  unfolding shape_of
  shape_null = ap viewed (meaning_null (faulting world) scope) ∙ viewed_scalar scalar.Null

  pub shape_name : (x : List ℕ) → shape_of world scope (expr.Node (node.Name x)) ≡ shape_at (binding_of x scope)
  unfolding shape_of
  shape_name x = ap viewed (meaning_name (faulting world) x scope) ∙ name_viewed world x (binding_of x scope)

  pub shape_member : (a : Expr) (m : List ℕ) → shape_of world scope (expr.Node (node.Member a m)) ≡ on_ok (shape_of world scope a) (member_shape world (rule_type a place) m)
  unfolding shape_of
  shape_member a m = ap viewed (meaning_member (faulting world) a m scope) ∙ member_viewed world (rule_type a place) m (rule_meaning (faulting world) a scope)

  -- an argument that is there
  argument_viewed : (o : Option Expr) → viewed (argument_meaning (faulting world) o scope) ≡ shape_of_argument world scope o
  unfolding shape_of
  argument_viewed None = refl
  argument_viewed (Some e) = refl

  pub shape_method : (a : Expr) (m : List ℕ) (xs : List (Argument Expr)) → shape_of world scope (expr.Node (node.Method a m xs))
      ≡ on_ok (on_ok (shape_of world scope a) scalar_in)
      (λ s. on_ok (on_ok (shape_of_argument world scope (sole_argument xs)) scalar_in) (λ t. scalar_shape (of_search fault.NullReference (search_named m) s t)))
  unfolding shape_of
  shape_method a m xs =
      ap viewed (meaning_method (faulting world) a m xs scope)
      ∙ scalar_then world (rule_meaning (faulting world) a scope) _ _
      (λ s. scalar_then world (argument_meaning (faulting world) (sole_argument xs) scope) _ _ (λ t. viewed_as_value (of_search fault.NullReference (search_named m) s t))
      ∙ ap (λ (o : Result (Shape R) Fault). on_ok (on_ok o scalar_in) (λ t. scalar_shape (of_search fault.NullReference (search_named m) s t))) (argument_viewed (sole_argument xs)))

  -- `==` and `!=`, and the signs of which both operands are scalars
  abbrev pub compared_shape : Binary → Expr → Expr → Result (Shape R) Fault
  compared_shape sign a b = on_ok (shape_of world scope a) (λ v. on_ok (shape_of world scope b) (λ w. truth_shape (equality_of_shapes sign v w)))

  abbrev pub operated_shape : Binary → Expr → Expr → Result (Shape R) Fault
  operated_shape sign a b =
      on_ok (on_ok (shape_of world scope a) scalar_in)
      (λ x. on_ok (on_ok (shape_of world scope b) scalar_in) (λ y. scalar_shape (operated_scalars sign (rule_type a place) (rule_type b place) x y)))

  pub shape_binary : (sign : Binary) (a b : Expr) → shape_of world scope (expr.Node (node.Binary sign a b)) ≡ (if is_equality sign then compared_shape sign a b else operated_shape sign a b)
  unfolding shape_of
  shape_binary sign a b = ap viewed (meaning_binary (faulting world) sign a b scope) ∙ by (is_equality sign) where
    m : Result (Value R) Fault
    m = rule_meaning (faulting world) a scope

    n : Result (Value R) Fault
    n = rule_meaning (faulting world) b scope

    by : (c : Bool) → viewed (if c then compared_meaning (faulting world) sign m n else operated_meaning (faulting world) sign (rule_type a place) (rule_type b place) m n)
        ≡ (if c then compared_shape sign a b else operated_shape sign a b)
    by true = compared_viewed world sign m n
    by false = operated_viewed world sign (rule_type a place) (rule_type b place) m n

  pub shape_minus : (a : Expr) → shape_of world scope (expr.Node (node.Unary unary.Minus a)) ≡ on_ok (on_ok (shape_of world scope a) scalar_in) (λ s. scalar_shape (negated fault.NullReference s))
  unfolding shape_of
  shape_minus a = ap viewed (meaning_minus (faulting world) a scope) ∙ scalar_then world (rule_meaning (faulting world) a scope) _ _ (λ s. viewed_as_value (negated fault.NullReference s))

  pub shape_not : (a : Expr) → shape_of world scope (expr.Node (node.Unary unary.Not a)) ≡ on_ok (on_ok (shape_of world scope a) truth_in) (λ t. Ok (TheScalar (scalar.Bool (not t))))
  unfolding shape_of
  shape_not a = ap viewed (meaning_not (faulting world) a scope) ∙ truth_then world (rule_meaning (faulting world) a scope) _ _ (λ t. viewed_scalar (scalar.Bool (not t)))

  pub shape_both : (a b : Expr) → shape_of world scope (expr.Node (node.And a b))
      ≡ on_ok (on_ok (shape_of world scope a) truth_in) (λ t. if t then shape_of world scope b else Ok (TheScalar (scalar.Bool false)))
  unfolding shape_of
  shape_both a b = ap viewed (meaning_both (faulting world) a b scope) ∙ truth_then world (rule_meaning (faulting world) a scope) _ _ by where
    by : (t : Bool) → viewed (if t then rule_meaning (faulting world) b scope else Ok (truth_value false)) ≡ (if t then shape_of world scope b else Ok (TheScalar (scalar.Bool false)))
    by true = refl
    by false = viewed_scalar (scalar.Bool false)

  pub shape_either : (a b : Expr) → shape_of world scope (expr.Node (node.Or a b))
      ≡ on_ok (on_ok (shape_of world scope a) truth_in) (λ t. if t then Ok (TheScalar (scalar.Bool true)) else shape_of world scope b)
  unfolding shape_of
  shape_either a b = ap viewed (meaning_either (faulting world) a b scope) ∙ truth_then world (rule_meaning (faulting world) a scope) _ _ by where
    by : (t : Bool) → viewed (if t then Ok (truth_value true) else rule_meaning (faulting world) b scope) ≡ (if t then Ok (TheScalar (scalar.Bool true)) else shape_of world scope b)
    by true = viewed_scalar (scalar.Bool true)
    by false = refl

  pub shape_coalesce : (a b : Expr) → shape_of world scope (expr.Node (node.Coalesce a b))
      ≡ on_ok (on_ok (shape_of world scope a) scalar_in) (λ s. if is_null s then shape_of world scope b else Ok (TheScalar s))
  unfolding shape_of
  shape_coalesce a b = ap viewed (meaning_coalesce (faulting world) a b scope) ∙ scalar_then world (rule_meaning (faulting world) a scope) _ _ (λ s. by s (is_null s)) where
    by : (s : Scalar) (c : Bool) → viewed (if c then rule_meaning (faulting world) b scope else Ok (value.Scalar s)) ≡ (if c then shape_of world scope b else Ok (TheScalar s))
    by s true = refl
    by s false = viewed_scalar s

  pub shape_choice : (c a b : Expr) → shape_of world scope (expr.Node (node.Conditional c a b))
      ≡ on_ok (on_ok (shape_of world scope c) truth_in) (λ t. if t then shape_of world scope a else shape_of world scope b)
  unfolding shape_of
  shape_choice c a b =
      ap viewed (meaning_choice (faulting world) c a b scope)
      ∙ truth_then world (rule_meaning (faulting world) c scope) _ _ (λ t. either_viewed world t (rule_meaning (faulting world) a scope) (rule_meaning (faulting world) b scope))

  -- no host predicate is known here
  pub shape_host : (p : List ℕ) (row : Expr) (columns : Picked)
      → shape_of world scope (expr.Node (node.Host p row columns)) ≡ on_ok (shape_of world scope row) (λ shape. Err fault.NullReference)
  unfolding shape_of
  shape_host p row columns = ap viewed (meaning_host (faulting world) p row columns scope) ∙ host_viewed world p columns (rule_meaning (faulting world) row scope)

  pub shape_other : (p : List ℕ) (xs : List Expr) → shape_of world scope (expr.Node (node.HostOther p xs)) ≡ Err fault.NullReference
  unfolding shape_of
  shape_other p xs = ap viewed (meaning_other (faulting world) p xs scope)

  pub shape_record : (fs : List (Field Expr)) → shape_of world scope (expr.Node (node.New fs)) ≡ Err fault.NullReference
  unfolding shape_of
  shape_record fs = ap viewed (meaning_record (faulting world) fs scope)

  pub shape_query : (q : Query Expr) → shape_of world scope (expr.Query q) ≡ Err fault.NullReference
  unfolding shape_of
  shape_query q = ap viewed (meaning_query (faulting world) q scope)

-- ---- how operands are read

pub part_shown : {R : Type 0} (scope : Scope R) (found : Operand) → scalar_part (shown_operand scope found) ≡ operand_part found
part_shown scope (operand.Row x) = refl
part_shown scope (operand.Scalar s) = refl
part_shown scope (operand.Text t) = refl

pub scalar_shown : {R : Type 0} (scope : Scope R) (found : Operand) → scalar_in (shown_operand scope found) ≡ operand_scalar found
scalar_shown scope (operand.Row x) = refl
scalar_shown scope (operand.Scalar s) = refl
scalar_shown scope (operand.Text t) = refl

-- the equations, and how operands are read
pub ruleset shapes = (shape_integer, shape_text, shape_truth, shape_null, shape_name, shape_member, shape_method, shape_binary, shape_minus, shape_not, shape_both, shape_either, shape_coalesce, shape_choice, shape_host, shape_other, shape_record, shape_query, part_shown, scalar_shown)

pub ruleset operands = (part_shown, scalar_shown)

-- the truth value that a rule is, by what it is evaluated to
pub rule_is : (columns : List (List ℕ)) (cells : List Scalar) (user : List ℕ) (rule : Expr)
    → rule_truth (rule_world columns) rule (rule_scope cells user) ≡ truth_of_expression (rule_world columns) (rule_scope cells user) rule
unfolding shape_of
rule_is columns cells user rule = truth_viewed (rule_world columns) (rule_meaning (faulting (rule_world columns)) rule (rule_scope cells user))
