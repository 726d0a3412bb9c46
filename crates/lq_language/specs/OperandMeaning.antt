-- What operands mean: scalars, rows and truth values, and the stream of what is enumerated (ECMA-334, expressions).
use Rattle.std.specs.Prelude.{◌||◌, if◌then◌else◌, not, List, [], map, ℕ, Bool, true, false, Option, Some, None, Result, Ok, Err, slice_get, option_and_then, option_map, is_some}
use Rattle.lq_value.specs.declared.scalar.Scalar.{Scalar}
use Rattle.lq_value.specs.declared.scalar.Scalar.TheVariants as scalar
use Rattle.lq_value.specs.declared.ty.Ty.{Ty, out-Ty}
use Rattle.lq_value.specs.declared.value.End.TheVariants as end
use Rattle.lq_value.specs.declared.value.Fault.{Fault}
use Rattle.lq_value.specs.declared.value.Fault.TheVariants as fault
use Rattle.lq_value.specs.declared.value.Value.{Value, out-Value}
use Rattle.lq_value.specs.declared.value.Value.TheOpen.{Value-F}
use Rattle.lq_value.specs.declared.value.Value.TheVariants as value
use Rattle.lq_host.specs.Calls.{number_of}
use Rattle.lq_host.specs.Predicates.{answer_in}
use Rattle.lq_host.specs.declared.call.Pick2.{Pick2}
use Rattle.lq_host.specs.declared.call.Pick2.TheVariants as arguments
use Rattle.lq_language.specs.HostNames.{predicate_number}
use Rattle.lq_language.specs.Members.{member_named}
use Rattle.lq_language.specs.Operations.{of_member, on_ok, operation_of, same_content, truth_of}
use Rattle.lq_language.specs.Stream.{Stream}
use Rattle.lq_language.specs.Names.{table_number}
use Rattle.lq_language.specs.OperandTypes.{is_text_type, row_table}
use Rattle.lq_language.specs.declared.operation.Op.{Op}
use Rattle.lq_language.specs.declared.operation.Op.TheVariants as op
use Rattle.lq_grammar.specs.declared.syntax.Binary.{Binary}
use Rattle.lq_grammar.specs.declared.syntax.Binary.TheVariants as binary
use Rattle.lq_grammar.specs.declared.syntax.Picked.{Picked}
use Rattle.lq_grammar.specs.declared.syntax.Picked.TheVariants as picked
use Rattle.lq_language.specs.Worlds.{Binding, World, known_predicates}

-- a scalar, or the fault in its place, as a value
abbrev pub as_value : {R : Type 0} → Result Scalar Fault → Result (Value R) Fault
as_value found = on_ok found (λ s. Ok (value.Scalar s))

abbrev pub truth_value : {R : Type 0} → Bool → Value R
truth_value b = value.Scalar (scalar.Bool b)

-- whether the type is that of a row
abbrev pub is_row_type : Option Ty → Bool
is_row_type None = false
is_row_type (Some t) = is_some (row_table (out-Ty t))

-- What a sign does between two scalars. `+` joins texts: where an operand is one, and of two nulls where one has the type of texts.
abbrev pub operation_on : Binary → Option Ty → Option Ty → Scalar → Scalar → Op
operation_on binary.Add s t (scalar.Text x) b = op.Concat
operation_on binary.Add s t a (scalar.Text y) = op.Concat
operation_on binary.Add s t scalar.Null scalar.Null = if is_text_type s || is_text_type t then op.Concat else op.Add
operation_on sign s t a b = operation_of sign

-- what `==` or `!=` says of operands that are the same, or aren't
abbrev pub equality_truth : Binary → Bool → Bool
equality_truth binary.NotEqual same = not same
equality_truth sign same = same

abbrev pub is_null : Scalar → Bool
is_null scalar.Null = true
is_null s = false

module _ {R : Type 0} (world : World R) where
  -- a table means the sequence of its rows
  abbrev pub table_value : Option (List R) → Result (Value R) Fault
  table_value (Some rows) = Ok (value.Seq (map value.Row rows) end.Done)
  table_value None = Err world.unknown

  -- a local name's value, else a table's rows
  abbrev pub name_value : List ℕ → Option (Binding R) → Result (Value R) Fault
  name_value name (Some b) = Ok b.value
  name_value name None = table_value (option_and_then (λ number. slice_get world.rows number) (table_number name world.schemas))

  abbrev pub cell_value : Option Scalar → Result (Value R) Fault
  cell_value (Some s) = Ok (value.Scalar s)
  cell_value None = Err world.unknown

  -- a member of a null, by the type of what is null: a row has none
  abbrev pub null_member : Option Ty → List ℕ → Result Scalar Fault
  null_member t m = if is_row_type t then Err fault.NullReference else of_member world.unknown (member_named m) scalar.Null

  -- a column of a row, or a member of a scalar, which is used where an expression of this type is
  abbrev pub member_value : Option Ty → List ℕ → Value-F R (Value R) → Result (Value R) Fault
  member_value t m (Value-F.Row r) = cell_value (world.cell r m)
  member_value t m (Value-F.Scalar scalar.Null) = as_value (null_member t m)
  member_value t m (Value-F.Scalar s) = as_value (of_member world.unknown (member_named m) s)
  member_value t m layer = Err world.unknown

  -- an operand that `==` compares: a scalar, or a row, which isn't null
  abbrev pub comparand : Value-F R (Value R) → Result (Value-F R (Value R)) Fault
  comparand (Value-F.Scalar s) = Ok (Value-F.Scalar s)
  comparand (Value-F.Row r) = Ok (Value-F.Row r)
  comparand layer = Err world.unknown

  abbrev pub on_comparand : {B : Type 0} → Result (Value R) Fault → (Value-F R (Value R) → Result B Fault) → Result B Fault
  on_comparand operand next = on_ok (on_ok operand (λ v. comparand (out-Value R v))) next

  -- whether two operands are the same: scalars by their contents
  abbrev pub same_values : Value-F R (Value R) → Value-F R (Value R) → Result Bool Fault
  same_values (Value-F.Scalar s) (Value-F.Scalar t) = same_content world.unknown s t
  same_values (Value-F.Scalar scalar.Null) (Value-F.Row r) = Ok false
  same_values (Value-F.Row r) (Value-F.Scalar scalar.Null) = Ok false
  same_values v w = Err world.unknown

  -- an operand that is a scalar
  abbrev pub scalar_of : Value-F R (Value R) → Result Scalar Fault
  scalar_of (Value-F.Scalar s) = Ok s
  scalar_of layer = Err world.unknown

  abbrev pub on_scalar : {B : Type 0} → Result (Value R) Fault → (Scalar → Result B Fault) → Result B Fault
  on_scalar operand next = on_ok (on_ok operand (λ v. scalar_of (out-Value R v))) next

  -- an operand that is a truth value
  abbrev pub on_truth : {B : Type 0} → Result (Value R) Fault → (Bool → Result B Fault) → Result B Fault
  on_truth operand next = on_ok (on_scalar operand (truth_of world.unknown)) next

  -- the stream that a value is enumerated as; a fault met in making it is its ending
  abbrev pub items_of : Value-F R (Value R) → Stream (Value R)
  items_of (Value-F.Seq xs e) = (xs, e)
  items_of (Value-F.Group key xs) = (xs, end.Done)
  items_of layer = ([], end.Fault world.unknown)

  abbrev pub stream_of : Result (Value R) Fault → Stream (Value R)
  stream_of (Ok v) = items_of (out-Value R v)
  stream_of (Err f) = ([], end.Fault f)

-- ---- host predicates

-- the arguments that cells are, if they are integers
abbrev pub one_argument : Option Scalar → Option Pick2
one_argument cell = option_map arguments.One (number_of cell)

abbrev pub two_arguments : Option Scalar → Option Scalar → Option Pick2
two_arguments first second = option_and_then (λ x. option_map (arguments.Two x) (number_of second)) (number_of first)

module _ {R : Type 0} (world : World R) where
  -- the arguments that a row has in columns of these names
  abbrev pub arguments_named : Picked → R → Option Pick2
  arguments_named (picked.One c) r = one_argument (world.cell r c)
  arguments_named (picked.Two c d) r = two_arguments (world.cell r c) (world.cell r d)

  -- the answer to arguments in the range; there is none to others
  abbrev pub answer_value : Option Bool → Result (Value R) Fault
  answer_value (Some answer) = Ok (truth_value answer)
  answer_value None = Err fault.ArgumentOutOfRange

  -- what a predicate answers
  abbrev pub host_answer : Option ℕ → Option Pick2 → Result (Value R) Fault
  host_answer (Some p) (Some xs) = answer_value (answer_in world.predicates p xs)
  host_answer p xs = Err world.unknown

  -- what it answers about a row, which gives it its arguments; a null row has no columns
  abbrev pub answer_about : Option ℕ → (R → Option Pick2) → Value-F R (Value R) → Result (Value R) Fault
  answer_about p arguments (Value-F.Row r) = host_answer p (arguments r)
  answer_about p arguments (Value-F.Scalar scalar.Null) = Err fault.NullReference
  answer_about p arguments layer = Err world.unknown

  -- what the predicate of this name answers about columns of a row
  abbrev pub host_value : List ℕ → Picked → Value-F R (Value R) → Result (Value R) Fault
  host_value p columns layer = answer_about (predicate_number (known_predicates world.predicates) p columns) (arguments_named columns) layer

-- a query is the sequence of its stream
abbrev pub sequence : {R : Type 0} → Stream (Value R) → Value R
sequence items = value.Seq items.0 items.1
