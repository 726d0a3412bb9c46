-- What an expression is where it is evaluated, a row or a scalar, and what forms make of operands that are.
use Rattle.std.specs.Prelude.{◌≡◌, ◌<◌, if◌then◌else◌, List, [], ℕ, Bool, false, Option, Some, None, Result, Ok, Err}
use Rattle.lq_value.specs.declared.scalar.Scalar.{Scalar}
use Rattle.lq_value.specs.declared.scalar.Scalar.TheVariants as scalar
use Rattle.lq_value.specs.declared.ty.Ty.{Ty}
use Rattle.lq_value.specs.declared.value.Fault.{Fault}
use Rattle.lq_value.specs.declared.value.Fault.TheVariants as fault
use Rattle.lq_value.specs.declared.value.Value.{out-Value}
use Rattle.lq_language.specs.Worlds.{Scope, World, binding_of}
use Rattle.lq_language.specs.OperandMeaning.{is_row_type, operation_on, equality_truth}
use Rattle.lq_language.specs.RuleMeaning.{rule_meaning}
use Rattle.lq_language.specs.Members.{member_named}
use Rattle.lq_language.specs.Operations.{of_member, of_two, on_ok, same_content, truth_of}
use Rattle.lq_grammar.specs.declared.syntax.Binary.{Binary}
use Rattle.lq_grammar.specs.declared.syntax.Expr.{Expr}
use Rattle.lq_scalar.specs.Referents.{Shape, TheRow, TheScalar, cell_in, row_at, shape_in}
use Rattle.lq_scalar.specs.Operands.{shown_scalar}
use Rattle.lq_scalar.specs.Sums.{sums_in}
use Rattle.lq_scalar.specs.declared.error.ScalarError.{ScalarError}
use Rattle.lq_scalar.specs.declared.error.ScalarError.TheVariants as error
use Rattle.lq_scalar.specs.declared.evaluated.EvaluatedScalar.{EvaluatedScalar}
use Rattle.lq_scalar.specs.declared.evaluated.EvaluatedScalar.TheVariants as evaluated
use Rattle.lq_scalar.specs.declared.operand.Operand.{Operand}
use Rattle.lq_scalar.specs.declared.operand.Operand.TheVariants as operand

-- the same world without host predicates, in which what has no meaning faults as a null row does
abbrev pub faulting : {R : Type 0} → World R → World R
faulting world = record {
  schemas = world.schemas;
  rows = world.rows;
  predicates = [];
  session = world.session;
  cell = world.cell;
  table = world.table;
  unknown = fault.NullReference;
}

-- ---- what forms make of operands

-- the scalar that a shape is
abbrev pub scalar_in : {R : Type 0} → Shape R → Result Scalar Fault
scalar_in (TheScalar s) = Ok s
scalar_in (TheRow r) = Err fault.NullReference

-- the truth value that a shape is
abbrev pub truth_in : {R : Type 0} → Shape R → Result Bool Fault
truth_in shape = on_ok (scalar_in shape) (truth_of fault.NullReference)

abbrev pub scalar_shape : {R : Type 0} → Result Scalar Fault → Result (Shape R) Fault
scalar_shape found = on_ok found (λ s. Ok (TheScalar s))

abbrev pub truth_shape : {R : Type 0} → Result Bool Fault → Result (Shape R) Fault
truth_shape found = on_ok found (λ b. Ok (TheScalar (scalar.Bool b)))

-- a scalar that is there
abbrev pub scalar_or_fault : Option Scalar → Result Scalar Fault
scalar_or_fault (Some s) = Ok s
scalar_or_fault None = Err fault.NullReference

-- the member of this name of a scalar
abbrev pub named_member : List ℕ → Scalar → Result Scalar Fault
named_member m s = of_member fault.NullReference (member_named m) s

-- a member of a null of this type, and of any scalar
abbrev pub member_of_null : Option Ty → List ℕ → Result Scalar Fault
member_of_null t m = if is_row_type t then Err fault.NullReference else named_member m scalar.Null

abbrev pub member_of_scalar : Option Ty → List ℕ → Scalar → Result Scalar Fault
member_of_scalar t m scalar.Null = member_of_null t m
member_of_scalar t m s = named_member m s

abbrev pub member_shape : {R : Type 0} → World R → Option Ty → List ℕ → Shape R → Result (Shape R) Fault
member_shape world t m (TheRow r) = scalar_shape (scalar_or_fault (cell_in world m r))
member_shape world t m (TheScalar s) = scalar_shape (member_of_scalar t m s)

-- the scalar that a shape is, if it isn't a row
abbrev pub scalar_part : {R : Type 0} → Shape R → Option Scalar
scalar_part (TheScalar s) = Some s
scalar_part (TheRow r) = None

-- whether two are the same: scalars by their contents, and a row isn't null
abbrev pub same_parts : Option Scalar → Option Scalar → Result Bool Fault
same_parts (Some s) (Some t) = same_content fault.NullReference s t
same_parts (Some scalar.Null) None = Ok false
same_parts None (Some scalar.Null) = Ok false
same_parts v w = Err fault.NullReference

abbrev pub equality_of_parts : Binary → Option Scalar → Option Scalar → Result Bool Fault
equality_of_parts sign v w = on_ok (same_parts v w) (λ same. Ok (equality_truth sign same))

-- what `==` or `!=` gives for two
abbrev pub equality_of_shapes : {R : Type 0} → Binary → Shape R → Shape R → Result Bool Fault
equality_of_shapes sign v w = equality_of_parts sign (scalar_part v) (scalar_part w)

-- an operator that evaluates two scalars, which are where expressions of these types are
abbrev pub operated_scalars : Binary → Option Ty → Option Ty → Scalar → Scalar → Result Scalar Fault
operated_scalars sign t u x y = of_two fault.NullReference (operation_on sign t u x y) x y

-- ---- expressions

-- the row or scalar that an expression is, or its first fault
unfoldable pub shape_of : {R : Type 0} → World R → Scope R → Expr → Result (Shape R) Fault
shape_of {R} world scope e = on_ok (rule_meaning (faulting world) e scope) (λ v. shape_in (out-Value R v))

-- what an argument is that is there
abbrev pub shape_of_argument : {R : Type 0} → World R → Scope R → Option Expr → Result (Shape R) Fault
shape_of_argument world scope None = Err fault.NullReference
shape_of_argument world scope (Some e) = shape_of world scope e

-- the scalar and the truth value that an expression is
abbrev pub scalar_of_expression : {R : Type 0} → World R → Scope R → Expr → Result Scalar Fault
scalar_of_expression world scope e = on_ok (shape_of world scope e) scalar_in

abbrev pub truth_of_expression : {R : Type 0} → World R → Scope R → Expr → Result Bool Fault
truth_of_expression world scope e = on_ok (shape_of world scope e) truth_in

-- ---- what the evaluation answers

-- an operand, by the row that a name refers to
abbrev pub shown_operand : {R : Type 0} → Scope R → Operand → Shape R
shown_operand scope (operand.Row x) = TheRow (row_at (binding_of x.now scope))
shown_operand scope (operand.Scalar s) = TheScalar (shown_scalar s)
shown_operand scope (operand.Text t) = TheScalar (scalar.Text t)

-- The answer is the row or scalar that is meant, or its fault; or memory was refused for a text, where there are so many `+`.
abbrev pub IsOperand : {R : Type 0} → Scope R → ℕ → Result (Shape R) Fault → Result Operand ScalarError → Type 0
IsOperand scope sums meant (Ok found) = meant ≡ Ok (shown_operand scope found)
IsOperand scope sums meant (Err (error.Fault f)) = meant ≡ Err f
IsOperand scope sums meant (Err error.Memory) = 0 < sums

abbrev pub evaluated_scalar : EvaluatedScalar → Scalar
evaluated_scalar (evaluated.Borrowed s) = shown_scalar s
evaluated_scalar (evaluated.Text t) = scalar.Text t

-- the same of a scalar
abbrev pub IsEvaluatedScalar : Result Scalar Fault → Result EvaluatedScalar ScalarError → Type 0
IsEvaluatedScalar meant (Ok s) = meant ≡ Ok (evaluated_scalar s)
IsEvaluatedScalar meant (Err (error.Fault f)) = meant ≡ Err f
IsEvaluatedScalar meant (Err error.Memory) = Unit {0}

-- the same of a truth value
abbrev pub IsTruth : Result Bool Fault → Result Bool ScalarError → Type 0
IsTruth meant (Ok b) = meant ≡ Ok b
IsTruth meant (Err (error.Fault f)) = meant ≡ Err f
IsTruth meant (Err error.Memory) = Unit {0}

-- Memory was refused only where there are so many `+`, if any.
abbrev pub IsSparing : {A : Type 0} → ℕ → Result A ScalarError → Type 0
IsSparing sums (Err error.Memory) = 0 < sums
IsSparing sums answer = Unit {0}

-- What was evaluated is what the expression means.
abbrev pub IsEvaluated : {R : Type 0} → World R → Scope R → Expr → Result Operand ScalarError → Type 0
IsEvaluated world scope e found = IsOperand scope (sums_in e) (shape_of world scope e) found

-- an operand that isn't a fault
abbrev pub shown_operands : {R : Type 0} → Scope R → Result Operand Fault → Result (Shape R) Fault
shown_operands scope (Ok found) = Ok (shown_operand scope found)
shown_operands scope (Err f) = Err f

-- the scalar that an operand is, if it isn't a row
abbrev pub operand_part : Operand → Option Scalar
operand_part (operand.Row x) = None
operand_part (operand.Scalar s) = Some (shown_scalar s)
operand_part (operand.Text t) = Some (scalar.Text t)

abbrev pub operand_scalar : Operand → Result Scalar Fault
operand_scalar found = scalar_or_fault (operand_part found)
