-- That the trees of total expressions represent them, form by form.
use Rattle.std.proofs.Common.{◌≡◌, ◌∷◌, ◌&&◌, ◌||◌, if◌then◌else◌, not, List, [], ℕ, ℤ, Bool, true, false, Option, Some, None, Result, Ok, Err, IfSome, codes, bytes_eq, ap, ◌∙◌, sym, refl, true≢false}
use Rattle.std.proofs.lemmas.Bool.{and_parts}
use Rattle.std.proofs.lemmas.Slice.Eq.{bytes_eq-Decides}
use Rattle.lq_value.specs.declared.scalar.Scalar.{Scalar}
use Rattle.lq_value.specs.declared.scalar.Scalar.TheVariants as scalar
use Rattle.lq_value.specs.declared.ty.Ty.{Ty}
use Rattle.lq_value.specs.declared.value.Fault.{Fault}
use Rattle.lq_value.specs.declared.value.Fault.TheVariants as fault
use Rattle.lq_value.specs.declared.value.Value.TheVariants.{outs-Row, outs-Scalar}
use Rattle.lq_language.specs.Worlds.{binding_of, names_at}
use Rattle.lq_language.specs.OperandMeaning.{is_null, is_row_type, equality_truth}
use Rattle.lq_language.specs.Members.{is_search, search_named, sole_argument}
use Rattle.lq_language.specs.Operations.{has_value, negated, of_search, of_two, on_ok, operation_of, same_content, searched, truth, truth_of}
use Rattle.lq_security.specs.Totality.{is_division, is_divisor, is_natural, is_row, is_sure, is_total, Strength, strength_of}
use Rattle.lq_language.specs.Names.{Names}
use Rattle.lq_language.specs.OperandTypes.{is_comparison, is_equality}
use Rattle.lq_language.specs.RuleTyping.{rule_type}
use Rattle.lq_language.specs.TableRows.{cell_named}
use Rattle.lq_security.specs.Visible.{rule_scope, rule_world}
use Rattle.lq_language.specs.declared.operation.Op.{Op}
use Rattle.lq_language.specs.declared.operation.Op.TheVariants as op
use Rattle.lq_grammar.specs.declared.syntax.Argument.{Argument}
use Rattle.lq_grammar.specs.declared.syntax.Argument.TheVariants as argument
use Rattle.lq_grammar.specs.declared.syntax.Binary.{Binary}
use Rattle.lq_grammar.specs.declared.syntax.Binary.TheVariants as binary
use Rattle.lq_grammar.specs.declared.syntax.Expr.{Expr, out-Expr}
use Rattle.lq_grammar.specs.declared.syntax.Expr.TheOpen.{Expr-F}
use Rattle.lq_grammar.specs.declared.syntax.Expr.TheVariants as expr
use Rattle.lq_grammar.specs.declared.syntax.Expr.TheVariants.{outs-Node, outs-Query}
use Rattle.lq_grammar.specs.declared.syntax.Field.{Field}
use Rattle.lq_grammar.specs.declared.syntax.Node.{Node}
use Rattle.lq_grammar.specs.declared.syntax.Node.TheVariants as node
use Rattle.lq_grammar.specs.declared.syntax.Picked.{Picked}
use Rattle.lq_grammar.specs.declared.syntax.Query.{Query}
use Rattle.lq_grammar.specs.declared.syntax.Unary.TheVariants as unary
use Rattle.lq_security.proofs.RuleTypeLaws.{total_no_row}
use Rattle.lq_security.proofs.TotalityLaws.{has_sure_argument, is_total_binary, node_with, row_name, strength_and, strength_binary, strength_coalesce, strength_conditional, strength_host, strength_other, strength_member, strength_method, strength_minus, strength_name, strength_new, strength_not, strength_or, strength_query, tells_total}
use Rattle.lq_scalar.specs.Referents.{Shape, TheRow, shape_at, shape_in}
use Rattle.lq_scalar.specs.Shapes.{member_of_scalar, member_shape, operated_scalars, scalar_in, scalar_or_fault, scalar_shape, shape_of, equality_of_parts, equality_of_shapes, truth_in, truth_shape}
use Rattle.lq_scalar.proofs.ShapeLaws.{shape_binary, shape_both, shape_choice, shape_coalesce, shape_either, shape_integer, shape_member, shape_method, shape_minus, shape_name, shape_not, shape_null, shape_text, shape_truth}
use Rattle.lq_rule.specs.Standing.{StandsFor, integer_in, known}
use Rattle.lq_rule.specs.RowMeaning.{on_truth, read}
use Rattle.lq_rule.specs.declared.prepared.Prepared.{Prepared}
use Rattle.lq_rule.specs.declared.prepared.Prepared.TheVariants as prepared
use Rattle.lq_rule.proofs.ReadingLemmas.{read_and, read_binary, read_coalesce, read_conditional, read_fault, read_has_value, read_literal, read_not, read_or, read_search, read_user}
use Rattle.lq_rule.proofs.SureLemmas.{divisor_total, sure_total}

-- ---- operands that are scalars, or faults

abbrev RuleShape : Type 0
RuleShape = Shape (List Scalar)

abbrev shown : Result Scalar Fault → Result RuleShape Fault
shown found = scalar_shape found

scalar_first : (o : Result RuleShape Fault) (r : Result Scalar Fault) (next : Scalar → Result RuleShape Fault) (after : Scalar → Result Scalar Fault)
    → o ≡ shown r → ((s : Scalar) → next s ≡ shown (after s)) → on_ok (on_ok o scalar_in) next ≡ shown (on_ok r after)
scalar_first o r next after is h = ap (λ (x : Result RuleShape Fault). on_ok (on_ok x scalar_in) next) is ∙ by r where
  by : (r : Result Scalar Fault) → on_ok (on_ok (shown r) scalar_in) next ≡ shown (on_ok r after)
  by (Ok s) = h s
  by (Err f) = refl

truth_first : (o : Result RuleShape Fault) (r : Result Scalar Fault) (next : Bool → Result RuleShape Fault) (after : Bool → Result Scalar Fault)
    → o ≡ shown r → ((b : Bool) → next b ≡ shown (after b)) → on_ok (on_ok o truth_in) next ≡ shown (on_truth r after)
truth_first o r next after is h = ap (λ (x : Result RuleShape Fault). on_ok (on_ok x truth_in) next) is ∙ by r where
  of : (t : Result Bool Fault) → on_ok t next ≡ shown (on_ok t after)
  of (Ok b) = h b
  of (Err f) = refl

  by : (r : Result Scalar Fault) → on_ok (on_ok (shown r) truth_in) next ≡ shown (on_truth r after)
  by (Ok s) = of (truth_of fault.NullReference s)
  by (Err f) = refl

-- whichever of two follows
either : (b : Bool) (o p : Result RuleShape Fault) (r q : Result Scalar Fault) → o ≡ shown r → p ≡ shown q → (if b then o else p) ≡ shown (if b then r else q)
either true o p r q h k = h
either false o p r q h k = k

-- ---- what is total

total_of : (n : Node Expr) (s : Strength) → strength_of (expr.Node n) ≡ s → is_total (expr.Node n) ≡ true → s.total ≡ true
total_of n s is total = sym (ap (λ (t : Strength). t.total) is) ∙ total

-- ---- literals

-- the literal that has this number
integer_there : (a : Expr) (n : ℤ) → integer_in (out-Expr a) ≡ Some n → a ≡ expr.Node (node.Integer n)
integer_there a n is = by (out-Expr a) refl is where
  by : (layer : Expr-F Expr) → out-Expr a ≡ layer → integer_in layer ≡ Some n → a ≡ expr.Node (node.Integer n)
  by (Expr-F.Node (node.Integer m)) here h = node_with a (node.Integer m) here ∙ ap (λ (k : ℤ). expr.Node (node.Integer k)) (cc)
  by layer here h = absurd (cc)

not_natural : (layer : Expr-F Expr) → integer_in layer ≡ None → is_natural layer ≡ false
not_natural (Expr-F.Node (node.Integer m)) h = absurd (cc)
not_natural layer h = refl

read_known : (r : Result Scalar Fault) (cells : List Scalar) (user : List ℕ) → read (known r) cells user ≡ r
read_known (Ok s) cells user = read_literal cells user s
read_known (Err f) cells user = read_fault cells user f

-- the same operator finds the same
same_op : (found o : Op) (s t : Scalar) → Some found ≡ Some o → truth fault.NullReference (searched fault.NullReference found s t) ≡ truth fault.NullReference (searched fault.NullReference o s t)
same_op found o s t is = ap (λ (x : Op). truth fault.NullReference (searched fault.NullReference x s t)) (cc)

-- the operator that a method's name gives
abbrev one_of : Bool → Bool → Bool → Option Op
one_of starts ends contains = if starts then Some op.StartsWith else (if ends then Some op.EndsWith else (if contains then Some op.Contains else None))

-- ---- the forms

module _ (columns : List (List ℕ)) where
  -- what an expression is, and what its tree is
  abbrev shape_on : List Scalar → List ℕ → Expr → Result RuleShape Fault
  shape_on cells user e = shape_of (rule_world columns) (rule_scope cells user) e

  abbrev IsLike : Expr → Prepared → List Scalar → List ℕ → Type 0
  IsLike e p cells user = shape_on cells user e ≡ shown (read p cells user)

  pub stands_integer : (n k : ℤ) → k ≡ n → StandsFor columns (expr.Node (node.Integer n)) (prepared.Literal (scalar.Int k))
  stands_integer n k is = record {
    same = λ total cells user.
        shape_integer (rule_world columns) (rule_scope cells user) n ∙ ap (λ (x : ℤ). shown (Ok (scalar.Int x))) (sym is) ∙ ap shown (sym (read_literal cells user (scalar.Int k)));
  }

  pub stands_text : (t : List ℕ) (s : Scalar) → s ≡ scalar.Text t → StandsFor columns (expr.Node (node.Text t)) (prepared.Literal s)
  stands_text t s is = record {
    same = λ total cells user.
        shape_text (rule_world columns) (rule_scope cells user) t ∙ ap (λ (x : Scalar). shown (Ok x)) (sym is) ∙ ap shown (sym (read_literal cells user s));
  }

  pub stands_truth : (b : Bool) → StandsFor columns (expr.Node (node.Bool b)) (prepared.Literal (scalar.Bool b))
  stands_truth b = record { same = λ total cells user. shape_truth (rule_world columns) (rule_scope cells user) b ∙ ap shown (sym (read_literal cells user (scalar.Bool b))) }

  pub stands_null : StandsFor columns (expr.Node node.Null) (prepared.Literal scalar.Null)
  stands_null = record { same = λ total cells user. shape_null (rule_world columns) (rule_scope cells user) ∙ ap shown (sym (read_literal cells user scalar.Null)) }

  pub stands_user : (x : List ℕ) → StandsFor columns (expr.Node (node.Name x)) prepared.User
  stands_user x = record {
    same = λ total cells user.
        shape_name (rule_world columns) (rule_scope cells user) x
        ∙ ap (λ (name : List ℕ). shape_at (binding_of name (rule_scope cells user))) ((bytes_eq-Decides x (codes "user")).0 (total_of (node.Name x) _ (strength_name x) total))
        ∙ ap shape_in (outs-Scalar (scalar.Text user))
        ∙ ap shown (sym (read_user cells user));
  }

  -- ---- members

  row_shape : (a : Expr) (cells : List Scalar) (user : List ℕ) → is_row (out-Expr a) ≡ true → shape_on cells user a ≡ Ok (TheRow (Some cells))
  row_shape a cells user is =
      ap (shape_on cells user) (row_name a is) ∙ shape_name (rule_world columns) (rule_scope cells user) (codes "row") ∙ ap shape_in (outs-Row cells)

  pub stands_column : (a : Expr) (m : List ℕ) (p : Prepared) → is_row (out-Expr a) ≡ true
      → ((cells : List Scalar) (user : List ℕ) → read p cells user ≡ scalar_or_fault (cell_named columns cells m)) → StandsFor columns (expr.Node (node.Member a m)) p
  stands_column a m p is h = record {
    same = λ total cells user.
        shape_member (rule_world columns) (rule_scope cells user) a m
        ∙ ap (λ (o : Result RuleShape Fault). on_ok o (member_shape (rule_world columns) (rule_type a (names_at (rule_world columns) (rule_scope cells user))) m)) (row_shape a cells user is)
        ∙ ap shown (sym (h cells user));
  }

  -- the member of a scalar
  has_value_of : (t : Option Ty) → is_row_type t ≡ false → (s : Scalar) → member_of_scalar t (codes "HasValue") s ≡ truth fault.NullReference (has_value fault.NullReference s)
  has_value_of t none scalar.Null =
      ap (λ (b : Bool). if b then Err fault.NullReference else truth fault.NullReference (has_value fault.NullReference scalar.Null)) none
  has_value_of t none (scalar.Int n) = refl
  has_value_of t none (scalar.Bool b) = refl
  has_value_of t none (scalar.Text x) = refl

  member_first : (t : Option Ty) → is_row_type t ≡ false → (o : Result RuleShape Fault) (r : Result Scalar Fault) → o ≡ shown r
      → on_ok o (member_shape (rule_world columns) t (codes "HasValue")) ≡ shown (on_ok r (λ x. truth fault.NullReference (has_value fault.NullReference x)))
  member_first t none o r is = ap (λ (x : Result RuleShape Fault). on_ok x (member_shape (rule_world columns) t (codes "HasValue"))) is ∙ by r where
    by : (r : Result Scalar Fault)
        → on_ok (shown r) (member_shape (rule_world columns) t (codes "HasValue")) ≡ shown (on_ok r (λ x. truth fault.NullReference (has_value fault.NullReference x)))
    by (Ok s) = ap shown (has_value_of t none s)
    by (Err f) = refl

  -- what a member that isn't a column's is total by
  member_total : (a : Expr) (m : List ℕ) → is_row (out-Expr a) ≡ false → is_total (expr.Node (node.Member a m)) ≡ true → (m ≡ codes "HasValue") × (is_total a ≡ true)
  member_total a m none total =
      let has : (bytes_eq m (codes "HasValue") && is_total a) ≡ true =
      sym (ap (λ (b : Bool). b || (bytes_eq m (codes "HasValue") && is_total a)) none) ∙ total_of (node.Member a m) _ (strength_member a m) total in
      let parts = and_parts (bytes_eq m (codes "HasValue")) (is_total a) has in
      ((bytes_eq-Decides m (codes "HasValue")).0 parts.0, parts.1)

  pub stands_has_value : (a : Expr) (m : List ℕ) (p : Prepared) → is_row (out-Expr a) ≡ false → StandsFor columns a p
      → StandsFor columns (expr.Node (node.Member a m)) (prepared.HasValue p)
  stands_has_value a m p none operand = record {
    same = λ total cells user.
        let parts = member_total a m none total in
        ap (λ (name : List ℕ). shape_on cells user (expr.Node (node.Member a name))) parts.0
        ∙ shape_member (rule_world columns) (rule_scope cells user) a (codes "HasValue")
        ∙ member_first (rule_type a (names_at (rule_world columns) (rule_scope cells user))) (total_no_row [] ((tells_total a).0 parts.1)) (shape_on cells user a) (read p cells user) (operand.same parts.1 cells user)
        ∙ ap shown (sym (read_has_value cells user p));
  }

  -- ---- signs with one operand

  pub stands_not : (a : Expr) (p : Prepared) → StandsFor columns a p → StandsFor columns (expr.Node (node.Unary unary.Not a)) (prepared.Not p)
  stands_not a p operand = record {
    same = λ total cells user.
        shape_not (rule_world columns) (rule_scope cells user) a
        ∙ truth_first (shape_on cells user a) (read p cells user) _ (λ b. Ok (scalar.Bool (not b))) (operand.same (total_of (node.Unary unary.Not a) _ (strength_not a) total) cells user) (λ b. refl)
        ∙ ap shown (sym (read_not cells user p));
  }

  -- ---- `&&`, `||`, `?:` and `??`

  pub stands_and : (a b : Expr) (p q : Prepared) → StandsFor columns a p → StandsFor columns b q → StandsFor columns (expr.Node (node.And a b)) (prepared.And p q)
  stands_and a b p q left right = record {
    same = λ total cells user.
        let parts = and_parts (is_total a) (is_total b) (total_of (node.And a b) _ (strength_and a b) total) in
        shape_both (rule_world columns) (rule_scope cells user) a b
        ∙ truth_first (shape_on cells user a) (read p cells user) _ (λ t. if t then read q cells user else Ok (scalar.Bool false)) (left.same parts.0 cells user)
        (λ t. either t _ _ (read q cells user) (Ok (scalar.Bool false)) (right.same parts.1 cells user) refl)
        ∙ ap shown (sym (read_and cells user p q));
  }

  pub stands_or : (a b : Expr) (p q : Prepared) → StandsFor columns a p → StandsFor columns b q → StandsFor columns (expr.Node (node.Or a b)) (prepared.Or p q)
  stands_or a b p q left right = record {
    same = λ total cells user.
        let parts = and_parts (is_total a) (is_total b) (total_of (node.Or a b) _ (strength_or a b) total) in
        shape_either (rule_world columns) (rule_scope cells user) a b
        ∙ truth_first (shape_on cells user a) (read p cells user) _ (λ t. if t then Ok (scalar.Bool true) else read q cells user) (left.same parts.0 cells user)
        (λ t. either t _ _ (Ok (scalar.Bool true)) (read q cells user) refl (right.same parts.1 cells user))
        ∙ ap shown (sym (read_or cells user p q));
  }

  pub stands_coalesce : (a b : Expr) (p q : Prepared) → StandsFor columns a p → StandsFor columns b q → StandsFor columns (expr.Node (node.Coalesce a b)) (prepared.Coalesce p q)
  stands_coalesce a b p q left right = record {
    same = λ total cells user.
        let parts = and_parts (is_total a) (is_total b) (total_of (node.Coalesce a b) _ (strength_coalesce a b) total) in
        shape_coalesce (rule_world columns) (rule_scope cells user) a b
        ∙ scalar_first (shape_on cells user a) (read p cells user) _ (λ s. if is_null s then read q cells user else Ok s) (left.same parts.0 cells user)
        (λ s. either (is_null s) _ _ (read q cells user) (Ok s) (right.same parts.1 cells user) refl)
        ∙ ap shown (sym (read_coalesce cells user p q));
  }

  pub stands_conditional : (c a b : Expr) (o p q : Prepared) → StandsFor columns c o → StandsFor columns a p → StandsFor columns b q
      → StandsFor columns (expr.Node (node.Conditional c a b)) (prepared.Conditional o p q)
  stands_conditional c a b o p q test left right = record {
    same = λ total cells user.
        let outer = and_parts (is_total c && is_total a) (is_total b) (total_of (node.Conditional c a b) _ (strength_conditional c a b) total) in
        let inner = and_parts (is_total c) (is_total a) outer.0 in
        shape_choice (rule_world columns) (rule_scope cells user) c a b
        ∙ truth_first (shape_on cells user c) (read o cells user) _ (λ t. if t then read p cells user else read q cells user) (test.same inner.0 cells user)
        (λ t. either t _ _ (read p cells user) (read q cells user) (left.same inner.1 cells user) (right.same outer.1 cells user))
        ∙ ap shown (sym (read_conditional cells user o p q));
  }

  -- ---- signs between two operands

  -- `==` and `!=`, of operands that aren't rows
  compared_first : (sign : Binary) (o p : Result RuleShape Fault) (r q : Result Scalar Fault) → o ≡ shown r → p ≡ shown q
      → ((x y : Scalar) → truth_shape (equality_of_parts sign (Some x) (Some y)) ≡ shown (of_two fault.NullReference (operation_of sign) x y))
      → on_ok o (λ v. on_ok p (λ w. truth_shape (equality_of_shapes sign v w))) ≡ shown (on_ok r (λ x. on_ok q (λ y. of_two fault.NullReference (operation_of sign) x y)))
  compared_first sign o p r q left right h =
      ap (λ (u : Result RuleShape Fault). on_ok u (λ v. on_ok p (λ w. truth_shape (equality_of_shapes sign v w)))) left
      ∙ ap (λ (u : Result RuleShape Fault). on_ok (shown r) (λ v. on_ok u (λ w. truth_shape (equality_of_shapes sign v w)))) right
      ∙ by r q
    where
      by : (r q : Result Scalar Fault) → on_ok (shown r) (λ v. on_ok (shown q) (λ w. truth_shape (equality_of_shapes sign v w)))
          ≡ shown (on_ok r (λ x. on_ok q (λ y. of_two fault.NullReference (operation_of sign) x y)))
      by (Ok x) (Ok y) = h x y
      by (Ok x) (Err f) = refl
      by (Err f) q = refl

  equal_shape : (o : Result Bool Fault) → truth_shape (on_ok o (λ same. Ok (equality_truth binary.Equal same))) ≡ shown (truth fault.NullReference o)
  equal_shape (Ok same) = refl
  equal_shape (Err f) = refl

  unequal_shape : (o : Result Bool Fault)
      → truth_shape (on_ok o (λ same. Ok (equality_truth binary.NotEqual same))) ≡ shown (truth fault.NullReference (on_ok o (λ same. Ok (not same))))
  unequal_shape (Ok same) = refl
  unequal_shape (Err f) = refl

  -- the others, of two scalars
  operated_first : (sign : Binary) (t u : Option Ty) (o p : Result RuleShape Fault) (r q : Result Scalar Fault) → o ≡ shown r → p ≡ shown q
      → ((x y : Scalar) → operated_scalars sign t u x y ≡ of_two fault.NullReference (operation_of sign) x y)
      → on_ok (on_ok o scalar_in) (λ x. on_ok (on_ok p scalar_in) (λ y. shown (operated_scalars sign t u x y)))
      ≡ shown (on_ok r (λ x. on_ok q (λ y. of_two fault.NullReference (operation_of sign) x y)))
  operated_first sign t u o p r q left right h =
      scalar_first o r _ (λ x. on_ok q (λ y. of_two fault.NullReference (operation_of sign) x y)) left
      (λ x. scalar_first p q _ (λ y. of_two fault.NullReference (operation_of sign) x y) right (λ y. ap shown (h x y)))

  -- what a sign gives to operands of which nothing is asked but that they are alike
  sign_first : (sign : Binary) (a b : Expr) (p q : Prepared) (cells : List Scalar) (user : List ℕ) → is_total_binary sign a b ≡ true
      → IsLike a p cells user → IsLike b q cells user → IsLike (expr.Node (node.Binary sign a b)) (prepared.Binary sign p q) cells user
  sign_first sign a b p q cells user total left right =
      shape_binary (rule_world columns) (rule_scope cells user) sign a b ∙ by sign total ∙ ap shown (sym (read_binary cells user sign p q))
    where
      place : Names
      place = names_at (rule_world columns) (rule_scope cells user)

      compared_signs : Binary → Result RuleShape Fault
      compared_signs s = on_ok (shape_on cells user a) (λ v. on_ok (shape_on cells user b) (λ w. truth_shape (equality_of_shapes s v w)))

      operated_signs : Binary → Result RuleShape Fault
      operated_signs s =
          on_ok (on_ok (shape_on cells user a) scalar_in)
          (λ x. on_ok (on_ok (shape_on cells user b) scalar_in) (λ y. shown (operated_scalars s (rule_type a place) (rule_type b place) x y)))

      found : Binary → Result RuleShape Fault
      found s = shown (on_ok (read p cells user) (λ x. on_ok (read q cells user) (λ y. of_two fault.NullReference (operation_of s) x y)))

      compared : (s : Binary) → ((x y : Scalar) → truth_shape (equality_of_parts s (Some x) (Some y)) ≡ shown (of_two fault.NullReference (operation_of s) x y))
          → compared_signs s ≡ found s
      compared s h = compared_first s (shape_on cells user a) (shape_on cells user b) (read p cells user) (read q cells user) left right h

      operated : (s : Binary) → ((x y : Scalar) → operated_scalars s (rule_type a place) (rule_type b place) x y ≡ of_two fault.NullReference (operation_of s) x y)
          → operated_signs s ≡ found s
      operated s h =
          operated_first s (rule_type a place) (rule_type b place) (shape_on cells user a) (shape_on cells user b) (read p cells user) (read q cells user) left right h

      by : (s : Binary) → is_total_binary s a b ≡ true
          → (if is_equality s then compared_signs s else operated_signs s) ≡ found s
      by binary.Equal h = compared binary.Equal (λ x y. equal_shape (same_content fault.NullReference x y))
      by binary.NotEqual h = compared binary.NotEqual (λ x y. unequal_shape (same_content fault.NullReference x y))
      by binary.Less h = operated binary.Less (λ x y. refl)
      by binary.Greater h = operated binary.Greater (λ x y. refl)
      by binary.LessOrEqual h = operated binary.LessOrEqual (λ x y. refl)
      by binary.GreaterOrEqual h = operated binary.GreaterOrEqual (λ x y. refl)
      by binary.Divide h = operated binary.Divide (λ x y. refl)
      by binary.Remainder h = operated binary.Remainder (λ x y. refl)
      by s h = absurd (true≢false (sym h))

  -- both operands are total
  operands_total : (sign : Binary) (a b : Expr) → is_total_binary sign a b ≡ true → (is_total a ≡ true) × (is_total b ≡ true)
  operands_total sign a b h = by (is_comparison sign) h where
    by : (c : Bool) → (if c then is_total a && is_total b else is_division sign && is_total a && is_divisor (out-Expr b)) ≡ true → (is_total a ≡ true) × (is_total b ≡ true)
    by true k = and_parts (is_total a) (is_total b) k
    by false k =
        let outer = and_parts (is_division sign && is_total a) (is_divisor (out-Expr b)) k in
        ((and_parts (is_division sign) (is_total a) outer.0).1, divisor_total b outer.1)

  stands_binary : (sign : Binary) (a b : Expr) (p q : Prepared) → StandsFor columns a p → StandsFor columns b q
      → StandsFor columns (expr.Node (node.Binary sign a b)) (prepared.Binary sign p q)
  stands_binary sign a b p q left right = record {
    same = λ total cells user.
        let given = total_of (node.Binary sign a b) _ (strength_binary sign a b) total in
        let parts = operands_total sign a b given in
        sign_first sign a b p q cells user given (left.same parts.0 cells user) (right.same parts.1 cells user);
  }

  -- what is like the tree of such a sign represents what it does
  pub stands_operation : (sign : Binary) (a b : Expr) (p q o : Prepared) → StandsFor columns a p → StandsFor columns b q
      → ((cells : List Scalar) (user : List ℕ) → read o cells user ≡ read (prepared.Binary sign p q) cells user)
      → StandsFor columns (expr.Node (node.Binary sign a b)) o
  stands_operation sign a b p q o left right like = record {
    same = λ total cells user. (stands_binary sign a b p q left right).same total cells user ∙ ap shown (sym (like cells user));
  }

  -- ---- the minus sign of a literal

  pub stands_negative : (a : Expr) (n k : ℤ) (p : Prepared) → integer_in (out-Expr a) ≡ Some n → k ≡ n → p ≡ known (negated fault.NullReference (scalar.Int k))
      → StandsFor columns (expr.Node (node.Unary unary.Minus a)) p
  stands_negative a n k p is number tree = record {
    same = λ total cells user.
        shape_minus (rule_world columns) (rule_scope cells user) a
        ∙ scalar_first (shape_on cells user a) (Ok (scalar.Int n)) _ (λ s. negated fault.NullReference s)
        (ap (shape_on cells user) (integer_there a n is) ∙ shape_integer (rule_world columns) (rule_scope cells user) n) (λ s. refl)
        ∙ ap (λ (z : ℤ). shown (negated fault.NullReference (scalar.Int z))) (sym number)
        ∙ ap shown (sym (ap (λ (t : Prepared). read t cells user) tree ∙ read_known (negated fault.NullReference (scalar.Int k)) cells user));
  }

  -- no other has one
  pub stands_no_negative : (a : Expr) (p : Prepared) → integer_in (out-Expr a) ≡ None → StandsFor columns (expr.Node (node.Unary unary.Minus a)) p
  stands_no_negative a p is = record { same = λ total cells user. absurd (true≢false (sym (total_of (node.Unary unary.Minus a) _ (strength_minus a) total) ∙ not_natural (out-Expr a) is)) }

  -- ---- methods

  -- what a method finds, where it is one that looks for a text
  search_is : (o : Op) (m : List ℕ) → is_search m ≡ true → (is_search m ≡ true → search_named m ≡ Some o) → (s t : Scalar)
      → of_search fault.NullReference (search_named m) s t ≡ truth fault.NullReference (searched fault.NullReference o s t)
  search_is o m looks named s t = by (bytes_eq m (codes "StartsWith")) (bytes_eq m (codes "EndsWith")) (bytes_eq m (codes "Contains")) looks (named looks) where
    by : (starts ends contains : Bool) → (starts || ends || contains) ≡ true → one_of starts ends contains ≡ Some o
        → of_search fault.NullReference (one_of starts ends contains) s t ≡ truth fault.NullReference (searched fault.NullReference o s t)
    by true ends contains h is = same_op op.StartsWith o s t is
    by false true contains h is = same_op op.EndsWith o s t is
    by false false true h is = same_op op.Contains o s t is
    by false false false h is = absurd (true≢false (sym h))

  sole_search : (a b : Expr) (m : List ℕ) (o : Op) (p q : Prepared) → (is_search m ≡ true → search_named m ≡ Some o) → StandsFor columns a p → StandsFor columns b q
      → StandsFor columns (expr.Node (node.Method a m (argument.Value b ∷ []))) (prepared.Search o p q)
  sole_search a b m o p q named left right = record {
    same = λ total cells user.
        let outer = and_parts (is_search m && is_sure a) (is_sure b) (total_of (node.Method a m (argument.Value b ∷ [])) _ (strength_method a m (argument.Value b ∷ [])) total) in
        let inner = and_parts (is_search m) (is_sure a) outer.0 in
        shape_method (rule_world columns) (rule_scope cells user) a m (argument.Value b ∷ [])
        ∙ scalar_first (shape_on cells user a) (read p cells user) _ (λ s. on_ok (read q cells user) (λ t. truth fault.NullReference (searched fault.NullReference o s t)))
        (left.same (sure_total a inner.1) cells user)
        (λ s. scalar_first (shape_on cells user b) (read q cells user) _ (λ t. truth fault.NullReference (searched fault.NullReference o s t))
        (right.same (sure_total b outer.1) cells user) (λ t. ap shown (search_is o m inner.0 named s t)))
        ∙ ap shown (sym (read_search cells user o p q));
  }

  -- other arguments than one
  no_search : (a : Expr) (m : List ℕ) (xs : List (Argument Expr)) (p : Prepared) → has_sure_argument xs ≡ false → StandsFor columns (expr.Node (node.Method a m xs)) p
  no_search a m xs p none = record {
    same = λ total cells user.
        let parts = and_parts (is_search m && is_sure a) (has_sure_argument xs) (total_of (node.Method a m xs) _ (strength_method a m xs) total) in
        absurd (true≢false (sym parts.1 ∙ none));
  }

  pub stands_search : (a : Expr) (m : List ℕ) (xs : List (Argument Expr)) (o : Op) (p q : Prepared) → (is_search m ≡ true → search_named m ≡ Some o)
      → StandsFor columns a p → IfSome (sole_argument xs) (λ e. StandsFor columns e q) → StandsFor columns (expr.Node (node.Method a m xs)) (prepared.Search o p q)
  stands_search a m (argument.Value b ∷ []) o p q named left right = sole_search a b m o p q named left right
  stands_search a m xs o p q named left right = no_search a m xs (prepared.Search o p q) refl

  -- ---- forms that no total expression has

  not_total : (n : Node Expr) (p : Prepared) (s : Strength) → strength_of (expr.Node n) ≡ s → s.total ≡ false → StandsFor columns (expr.Node n) p
  not_total n p s is none = record { same = λ total cells user. absurd (true≢false (sym (total_of n s is total) ∙ none)) }

  pub stands_host : (h : List ℕ) (row : Expr) (named : Picked) (p : Prepared) → StandsFor columns (expr.Node (node.Host h row named)) p
  stands_host h row named p = not_total (node.Host h row named) p _ (strength_host h row named) refl

  pub stands_other : (h : List ℕ) (xs : List Expr) (p : Prepared) → StandsFor columns (expr.Node (node.HostOther h xs)) p
  stands_other h xs p = not_total (node.HostOther h xs) p _ (strength_other h xs) refl

  pub stands_new : (fs : List (Field Expr)) (p : Prepared) → StandsFor columns (expr.Node (node.New fs)) p
  stands_new fs p = not_total (node.New fs) p _ (strength_new fs) refl

  pub stands_query : (x : Query Expr) (p : Prepared) → StandsFor columns (expr.Query x) p
  stands_query x p = record { same = λ total cells user. absurd (true≢false (sym total ∙ ap (λ (s : Strength). s.total) (strength_query x))) }

-- how the trees of parts give that of the whole
pub ruleset forms = (stands_integer, stands_text, stands_truth, stands_null, stands_user, stands_not, stands_and, stands_or, stands_coalesce, stands_conditional, stands_operation, stands_host, stands_other, stands_new, stands_query)

-- how a layer is found in an expression
pub ruleset layers = (outs-Node, outs-Query)
