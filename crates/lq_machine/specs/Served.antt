-- «Served bytes»: the line of a reply, which is the compact text of its JSON value and a line feed. The members of each object are ordered
-- by the bytes of their names, which `put` keeps.
use Rattle.std.specs.Prelude.{◌∷◌, ◌++◌, List, [], map, ℕ, Option, Some, None, Result, Ok, Err, codes, slice_get, pos}
use Rattle.serde_json.specs.Data.{Data, Members, array, boolean, no_members, null, number, object, put, string}
use Rattle.serde_json.specs.Find.{of_integer}
use Rattle.serde_json.specs.View.{items_of}
use Rattle.serde_json.specs.Written.{compact_text}
use Rattle.lq_value.specs.declared.scalar.Scalar.{Scalar}
use Rattle.lq_value.specs.declared.scalar.Scalar.TheVariants as scalar
use Rattle.lq_value.specs.declared.table.Schema.{Schema}
use Rattle.lq_value.specs.declared.ty.Ty.{Ty, fold-Ty}
use Rattle.lq_value.specs.declared.ty.Ty.TheOpen.{Ty-F}
use Rattle.lq_value.specs.declared.value.End.{End}
use Rattle.lq_value.specs.declared.value.End.TheVariants as end
use Rattle.lq_value.specs.declared.value.Fault.{Fault}
use Rattle.lq_value.specs.declared.value.Fault.TheVariants as fault
use Rattle.lq_value.specs.declared.value.Value.{Value, fold-Value, out-Value}
use Rattle.lq_value.specs.declared.value.Value.TheOpen.{Value-F}
use Rattle.lq_language.specs.Operations.{on_ok}
use Rattle.lq_language.specs.Stream.{Stream, select_each}
use Rattle.lq_language.specs.declared.host_name.HostName.{HostName}
use Rattle.lq_language.specs.declared.rights.Use.{Use}
use Rattle.lq_language.specs.declared.rights.Use.TheVariants as of

-- ---- the data of a value of a type

abbrev pub scalar_data : Scalar → Data
scalar_data scalar.Null = null
scalar_data (scalar.Int n) = number (of_integer n)
scalar_data (scalar.Bool b) = boolean b
scalar_data (scalar.Text s) = string s

-- the names of the columns of a table
abbrev pub columns_in : Option Schema → List (List ℕ)
columns_in None = []
columns_in (Some schema) = map (λ column. column.name) schema.columns

-- a row by the names of its columns; a cell that isn't there counts as null, and a row of the table lacks none
abbrev pub row_members : List (List ℕ) → List Scalar → Members
row_members [] cells = no_members
row_members (name ∷ names) [] = put name null (row_members names [])
row_members (name ∷ names) (cell ∷ cells) = put name (scalar_data cell) (row_members names cells)

-- a group: its key and its elements
abbrev pub group_members : Data → List Data → Members
group_members key items = put (codes "Key") key (put (codes "items") (array (items_of items)) no_members)

module _ {R : Type 0} where
  -- a record by the names of its members, each by its type; a member that isn't there counts as null, and a record of the type lacks none
  abbrev pub record_members : List (List ℕ × (Value R → Data)) → List (List ℕ × Value R) → Members
  record_members [] members = no_members
  record_members (t ∷ ts) [] = put t.0 null (record_members ts [])
  record_members (t ∷ ts) (m ∷ ms) = put t.0 (t.1 m.1) (record_members ts ms)

  -- rows, records, groups and sequences, each by the type of such; what isn't of the type counts as null
  abbrev pub row_data : List Schema → List Scalar → Ty-F (Value R → Data) → Data
  row_data schemas cells (Ty-F.Row t) = object (row_members (columns_in (slice_get schemas t)) cells)
  row_data schemas cells layer = null

  abbrev pub record_data : List (List ℕ × Value R) → Ty-F (Value R → Data) → Data
  record_data members (Ty-F.Rec ts) = object (record_members ts members)
  record_data members layer = null

  abbrev pub group_data : Value R → List (Value R) → Ty-F (Value R → Data) → Data
  group_data key items (Ty-F.Group of_key of_item) = object (group_members (of_key key) (map of_item items))
  group_data key items layer = null

  abbrev pub sequence_data : List (Value R) → Ty-F (Value R → Data) → Data
  sequence_data items (Ty-F.Seq of_item) = array (items_of (map of_item items))
  sequence_data items layer = null

module _ {R : Type 0} (schemas : List Schema) (cells_of : R → List Scalar) where
  -- One layer of a value, by one layer of its type in which each type has become what it makes of its values. A scalar may be of any
  -- type, since a null row or record is one.
  abbrev pub layer_data : Ty-F (Value R → Data) → Value-F R (Value R) → Data
  layer_data layer (Value-F.Scalar s) = scalar_data s
  layer_data layer (Value-F.Row r) = row_data schemas (cells_of r) layer
  layer_data layer (Value-F.Rec members) = record_data members layer
  layer_data layer (Value-F.Group key items) = group_data key items layer
  layer_data layer (Value-F.Seq items e) = sequence_data items layer

  abbrev pub data_step : Ty-F (Value R → Data) → Value R → Data
  data_step layer v = layer_data layer (out-Value R v)

  -- a value of a type in JSON
  unfoldable pub item_data : Ty → Value R → Data
  item_data = fold-Ty (Value R → Data) data_step

-- ---- faults inside of a value

-- the first of two faults
abbrev pub or_next : Option Fault → Option Fault → Option Fault
or_next None next = next
or_next (Some f) next = Some f

-- the first of several
abbrev pub first_of : List (Option Fault) → Option Fault
first_of [] = None
first_of (found ∷ others) = or_next found (first_of others)

abbrev pub first_member : List (List ℕ × Option Fault) → Option Fault
first_member [] = None
first_member (m ∷ ms) = or_next m.1 (first_member ms)

abbrev pub fault_at : End → Option Fault
fault_at end.Done = None
fault_at (end.Fault f) = Some f

module _ {R : Type 0} where
  -- members as written, a group's key before its elements, and in a sequence its items before its end
  abbrev pub fault_step : Value-F R (Option Fault) → Option Fault
  fault_step (Value-F.Scalar s) = None
  fault_step (Value-F.Row r) = None
  fault_step (Value-F.Rec members) = first_member members
  fault_step (Value-F.Group key items) = or_next key (first_of items)
  fault_step (Value-F.Seq items e) = or_next (first_of items) (fault_at e)

  -- the fault that ends a sequence in a value, of several the first, depth first
  unfoldable pub nested_fault : Value R → Option Fault
  nested_fault = fold-Value R (Option Fault) fault_step

-- ---- replies

abbrev pub fault_name : Fault → List ℕ
fault_name fault.DivideByZero = codes "DivideByZero"
fault_name fault.Overflow = codes "Overflow"
fault_name fault.NullReference = codes "NullReference"
fault_name fault.InvalidOperation = codes "InvalidOperation"
fault_name fault.ArgumentOutOfRange = codes "ArgumentOutOfRange"

-- the members of a stream's reply
abbrev pub stream_members : List Data → End → Members
stream_members items end.Done = put (codes "items") (array (items_of items)) no_members
stream_members items (end.Fault f) = put (codes "items") (array (items_of items)) (put (codes "fault") (string (fault_name f)) no_members)

-- the members of a value's reply
abbrev pub value_members : Result Data Fault → Members
value_members (Ok d) = put (codes "value") d no_members
value_members (Err f) = put (codes "fault") (string (fault_name f)) no_members

-- a nested fault takes the place of the value
abbrev pub unless_fault : Option Fault → Data → Result Data Fault
unless_fault None d = Ok d
unless_fault (Some f) d = Err f

module _ {R : Type 0} (schemas : List Schema) (cells_of : R → List Scalar) (t : Ty) where
  abbrev pub served_item : Value R → Result Data Fault
  served_item v = unless_fault (nested_fault v) (item_data schemas cells_of t v)

  -- a stream of values of a type, which ends before the first one that holds a fault, with that fault
  abbrev pub served_stream : Stream (Value R) → Stream Data
  served_stream s = select_each served_item s

  abbrev pub stream_data : Stream (Value R) → Data
  stream_data s = object (stream_members (served_stream s).0 (served_stream s).1)

  -- a value of a type, or the fault in its place
  abbrev pub value_data : Result (Value R) Fault → Data
  value_data found = object (value_members (on_ok found served_item))

-- a fault in place of a value
abbrev pub fault_data : Fault → Data
fault_data f = object (value_members (Err f))

-- a refusal's reply
abbrev pub error_data : List ℕ → Data
error_data word = object (put (codes "error") (string word) no_members)

-- ---- denials

abbrev pub name_of_table : Option Schema → List ℕ
name_of_table None = []
name_of_table (Some schema) = schema.name

-- the name of the column with this number
abbrev pub name_at : Option (List ℕ) → List ℕ
name_at None = []
name_at (Some name) = name

abbrev pub name_of_predicate : Option HostName → List ℕ
name_of_predicate None = []
name_of_predicate (Some predicate) = predicate.name

-- a use as it is named: `T`, `T.c`, `T insert`, `T delete`, `Host.p`
abbrev pub use_name : List Schema → List HostName → Use → List ℕ
use_name schemas predicates (of.Table t) = name_of_table (slice_get schemas t)
use_name schemas predicates (of.Column t c) =
    let table = slice_get schemas t in
    name_of_table table ++ (codes "." ++ name_at (slice_get (columns_in table) c))
use_name schemas predicates (of.Insert t) = name_of_table (slice_get schemas t) ++ codes " insert"
use_name schemas predicates (of.Delete t) = name_of_table (slice_get schemas t) ++ codes " delete"
use_name schemas predicates (of.Host p) = codes "Host." ++ name_of_predicate (slice_get predicates p)

-- a denial's reply: the rule that denies, and the use that it denies
abbrev pub denied_data : List Schema → List HostName → List ℕ → Use → Data
denied_data schemas predicates rule used =
    object (put (codes "denied") (string rule) (put (codes "use") (string (use_name schemas predicates used)) no_members))

-- ---- other statements

-- a reply of one member
abbrev pub sole_member : List ℕ → Data → Data
sole_member name d = object (put name d no_members)

-- the name that was defined, the variable that was assigned to, and the role from now on
abbrev pub defined_data : List ℕ → Data
defined_data name = sole_member (codes "defined") (string name)

abbrev pub assigned_data : List ℕ → Data
assigned_data name = sole_member (codes "assigned") (string name)

abbrev pub role_data : List ℕ → Data
role_data name = sole_member (codes "role") (string name)

-- how many rows were put in and removed
abbrev pub inserted_data : Data
inserted_data = sole_member (codes "inserted") (number (of_integer (pos 1)))

abbrev pub deleted_data : ℕ → Data
deleted_data n = sole_member (codes "deleted") (number (of_integer (pos n)))

-- the line of a reply
abbrev pub line_of : Data → List ℕ
line_of reply = compact_text reply ++ 10 ∷ []
