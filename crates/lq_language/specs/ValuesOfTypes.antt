-- Which values are of a type: scalars, rows with their cells, and sequences; and scopes, worlds and tables that hold such values.
use Rattle.std.specs.Prelude.{◌≡◌, ◌∷◌, List, [], ℕ, Some, slice_get}
use Rattle.lq_value.specs.Tables.{Table}
use Rattle.lq_value.specs.declared.scalar.Scalar.{Scalar}
use Rattle.lq_value.specs.declared.scalar.Scalar.TheVariants as scalar
use Rattle.lq_value.specs.declared.table.Column.{Column}
use Rattle.lq_value.specs.declared.table.Schema.{Schema}
use Rattle.lq_value.specs.declared.ty.Ty.{Ty, out-Ty}
use Rattle.lq_value.specs.declared.ty.Ty.TheOpen.{Ty-F}
use Rattle.lq_value.specs.declared.value.End.{End}
use Rattle.lq_value.specs.declared.value.Fault.{Fault}
use Rattle.lq_value.specs.declared.value.Value.{Value}
use Rattle.lq_value.specs.declared.value.Value.TheVariants as value
use Rattle.lq_language.specs.Worlds.{Scope, World}
use Rattle.lq_language.specs.Names.{column_type, type_of_column}
use Rattle.lq_language.specs.OperandTypes.{item_of, row_table}

-- each item of a list passes the test
abbrev pub Every : {A : Type 0} → (A → Type 0) → List A → Type 0
Every {A} P xs = (k : ℕ) (x : A) → slice_get xs k ≡ Some x → P x

-- ---- values of a type

-- A scalar may be used where a type has this layer. An int may be null where its type says so, a text always, and so may a row.
abbrev pub IsScalarOf : Ty-F Ty → Scalar → Type 0
IsScalarOf Ty-F.Int (scalar.Int n) = Unit {0}
IsScalarOf Ty-F.IntN (scalar.Int n) = Unit {0}
IsScalarOf Ty-F.IntN scalar.Null = Unit {0}
IsScalarOf Ty-F.Bool (scalar.Bool b) = Unit {0}
IsScalarOf Ty-F.Str (scalar.Text s) = Unit {0}
IsScalarOf Ty-F.Str scalar.Null = Unit {0}
IsScalarOf Ty-F.Null scalar.Null = Unit {0}
IsScalarOf (Ty-F.Row n) scalar.Null = Unit {0}
IsScalarOf layer s = ⊥

module _ {R : Type 0} (world : World R) where
  -- A row is of the table with this number, and has a cell of its type under each of its columns.
  abbrev pub HasCells : ℕ → R → Type 0
  HasCells n r =
      (world.table r ≡ n)
      × ((c : List ℕ) (t : Ty) → column_type world.schemas n c ≡ Some t → (s : Scalar) × (world.cell r c ≡ Some s) × IsScalarOf (out-Ty t) s)

  -- A value is of a type.
  pub data IsOf : Ty → Value R → Type 0 where
    is_scalar : (t : Ty) (s : Scalar) → IsScalarOf (out-Ty t) s → IsOf t (value.Scalar s)
    is_row : (t : Ty) (n : ℕ) (r : R) → row_table (out-Ty t) ≡ Some n → HasCells n r → IsOf t (value.Row r)
    is_sequence : (t item : Ty) (xs : List (Value R)) (e : End) → item_of (out-Ty t) ≡ Some item
        → ((k : ℕ) (v : Value R) → slice_get xs k ≡ Some v → IsOf item v) → IsOf t (value.Seq xs e)

  -- Each local name has a value of its type.
  abbrev pub IsOfScope : Scope R → Type 0
  IsOfScope scope = Every (λ b. IsOf b.ty b.value) scope

  -- Each table has its rows, and these have their cells.
  abbrev pub HoldsRows : Type 0
  HoldsRows = (n : ℕ) (schema : Schema) → slice_get world.schemas n ≡ Some schema → (rows : List R) × (slice_get world.rows n ≡ Some rows) × Every (HasCells n) rows

-- the same world with this fault where an expression has no meaning
abbrev pub assuming : {R : Type 0} → Fault → World R → World R
assuming unknown world = record {
  schemas = world.schemas;
  rows = world.rows;
  predicates = world.predicates;
  session = world.session;
  cell = world.cell;
  table = world.table;
  unknown = unknown;
}

-- ---- what the machine serves

-- There is one cell a column, of its type.
abbrev pub HaveTypes : List Column → List Scalar → Type 0
HaveTypes [] cells = Unit {0}
HaveTypes (column ∷ columns) [] = ⊥
HaveTypes (column ∷ columns) (cell ∷ cells) = IsScalarOf (out-Ty (type_of_column column.ty)) cell × HaveTypes columns cells

abbrev pub IsTypedTable : Table → Type 0
IsTypedTable table = Every (λ row. HaveTypes table.schema.columns row.cells) table.rows
