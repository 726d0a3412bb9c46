-- What names refer to, as an evaluation finds it.
use Rattle.std.specs.Prelude.{List, ℕ, Option, Some, None, Result, Ok, Err}
use Rattle.lq_value.specs.declared.scalar.Scalar.{Scalar}
use Rattle.lq_value.specs.declared.ty.Ty.{Ty}
use Rattle.lq_value.specs.declared.ty.Ty.TheOpen.{Ty-F}
use Rattle.lq_value.specs.declared.ty.Ty.TheVariants as ty
use Rattle.lq_value.specs.declared.value.Fault.{Fault}
use Rattle.lq_value.specs.declared.value.Fault.TheVariants as fault
use Rattle.lq_value.specs.declared.value.Value.{Value, out-Value}
use Rattle.lq_value.specs.declared.value.Value.TheOpen.{Value-F}
use Rattle.lq_language.specs.Names.{Names}
use Rattle.lq_language.specs.Worlds.{Binding, Scope, World, session_names, typed_locals}
use Rattle.lq_language.specs.declared.host_name.HostName.{HostName}
use Rattle.lq_scalar.specs.Operands.{shown_scalar}
use Rattle.lq_scalar.specs.declared.names.ExprType.{ExprType}
use Rattle.lq_scalar.specs.declared.names.ExprType.TheVariants as kind
use Rattle.lq_scalar.specs.declared.names.Referent.{Referent}
use Rattle.lq_scalar.specs.declared.names.Referent.TheVariants as referent

abbrev pub shown_type : ExprType → Ty
shown_type kind.Int = ty.Int
shown_type kind.IntN = ty.IntN
shown_type kind.Bool = ty.Bool
shown_type kind.Str = ty.Str
shown_type kind.Null = ty.Null
shown_type (kind.Row n) = ty.Row n
shown_type (kind.Rows n) = ty.Seq (ty.Row n)

-- the layer of a type
abbrev pub layer_of : ExprType → Ty-F Ty
layer_of kind.Int = Ty-F.Int
layer_of kind.IntN = Ty-F.IntN
layer_of kind.Bool = Ty-F.Bool
layer_of kind.Str = Ty-F.Str
layer_of kind.Null = Ty-F.Null
layer_of (kind.Row n) = Ty-F.Row n
layer_of (kind.Rows n) = Ty-F.Seq (ty.Row n)

-- ---- names

-- the names of a scope, where these host predicates are known
abbrev pub names_among : {R : Type 0} → List HostName → World R → Scope R → Names
names_among known world scope =
    record { tables = world.schemas; predicates = known; session = session_names world.session; locals = typed_locals scope }

-- ---- rows and scalars

-- the row that a value is
abbrev pub row_in : {R : Type 0} → Value-F R (Value R) → Option R
row_in (Value-F.Row r) = Some r
row_in layer = None

-- the row that a local name refers to
abbrev pub row_at : {R : Type 0} → Option (Binding R) → Option R
row_at None = None
row_at {R} (Some b) = row_in (out-Value R b.value)

-- the cell of a row under the column of this name
abbrev pub cell_in : {R : Type 0} → World R → List ℕ → Option R → Option Scalar
cell_in world column None = None
cell_in world column (Some r) = world.cell r column

-- What an operand is: a row, or a scalar.
pub data Shape (R : Type 0) : Type 0 where
  TheRow : Option R → Shape R
  TheScalar : Scalar → Shape R

-- the row or scalar that a value is; anything else isn't one
abbrev pub shape_in : {R : Type 0} → Value-F R (Value R) → Result (Shape R) Fault
shape_in (Value-F.Row r) = Ok (TheRow (Some r))
shape_in (Value-F.Scalar s) = Ok (TheScalar s)
shape_in layer = Err fault.NullReference

-- the row or scalar that a local name refers to
abbrev pub shape_at : {R : Type 0} → Option (Binding R) → Result (Shape R) Fault
shape_at None = Err fault.NullReference
shape_at {R} (Some b) = shape_in (out-Value R b.value)

-- what is named, where the name refers to this row if to one
abbrev pub shown_referent : {R : Type 0} → Option R → Option Referent → Result (Shape R) Fault
shown_referent row None = Err fault.NullReference
shown_referent row (Some referent.Row) = Ok (TheRow row)
shown_referent row (Some (referent.Scalar s)) = Ok (TheScalar (shown_scalar s))
