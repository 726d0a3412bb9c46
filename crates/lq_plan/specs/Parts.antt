-- What is read of a value: a part of a pair, a cell, what a host predicate answers about it, a member, a key, or whether it is null.
use Rattle.std.specs.Prelude.{if◌then◌else◌, not, Some, Result, Ok}
use Rattle.lq_value.specs.declared.value.Fault.{Fault}
use Rattle.lq_value.specs.declared.value.Value.{Value, out-Value}
use Rattle.lq_language.specs.OperandMeaning.{answer_about, truth_value}
use Rattle.lq_language.specs.Operators.{first, second}
use Rattle.lq_language.specs.Worlds.{World}
use Rattle.lq_tree.specs.FormMeaning.{arguments_at, cell_in, is_null_value, key_in, member_at}
use Rattle.lq_plan.specs.declared.parts.Part.{Part}
use Rattle.lq_plan.specs.declared.parts.Part.TheVariants as part

module _ {R : Type 0} (world : World R) where
  abbrev pub part_of : Part → Value R → Result (Value R) Fault
  part_of part.First v = Ok (first v)
  part_of part.Second v = Ok (second v)
  part_of (part.Cell table column) v = cell_in world table column (out-Value R v)
  part_of (part.Host predicate table columns) v = answer_about world (Some predicate) (arguments_at world table columns) (out-Value R v)
  part_of (part.Member place) v = member_at world place (out-Value R v)
  part_of part.Key v = key_in world (out-Value R v)
  part_of (part.IsNull wanted) v =
      Ok (truth_value (if wanted then is_null_value world (out-Value R v) else not (is_null_value world (out-Value R v))))
