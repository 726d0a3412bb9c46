-- What is served of a tree: its type decides how its value is written.
use Rattle.std.specs.Prelude.{List, [], Result, codes}
use Rattle.serde_json.specs.Data.{Data}
use Rattle.lq_value.specs.declared.scalar.Scalar.{Scalar}
use Rattle.lq_value.specs.declared.table.Schema.{Schema}
use Rattle.lq_value.specs.declared.ty.Ty.{Ty, out-Ty}
use Rattle.lq_value.specs.declared.ty.Ty.TheOpen.{Ty-F}
use Rattle.lq_value.specs.declared.value.Fault.{Fault}
use Rattle.lq_value.specs.declared.value.Value.{Value}
use Rattle.lq_language.specs.Worlds.{World}
use Rattle.lq_language.specs.OperandMeaning.{stream_of}
use Rattle.lq_machine.specs.Served.{error_data, stream_data, value_data}
use Rattle.lq_tree.specs.FormMeaning.{form_meaning}
use Rattle.lq_tree.specs.declared.tree.Tree.{Tree}

module _ {R : Type 0} (cells_of : R → List Scalar) (schemas : List Schema) (world : World R) where
  -- a sequence item by item, and any other value as one; null by its type isn't allowed there
  abbrev pub data_by : Ty → Ty-F Ty → Result (Value R) Fault → Data
  data_by t Ty-F.Null found = error_data (codes "type")
  data_by t (Ty-F.Seq item) found = stream_data schemas cells_of item (stream_of world found)
  data_by t layer found = value_data schemas cells_of t found

  abbrev pub tree_data : Tree → Data
  tree_data tree = data_by tree.ty (out-Ty tree.ty) (form_meaning world tree.form [])
