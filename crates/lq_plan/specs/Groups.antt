-- The groups of elements by their keys (.NET, Enumerable.GroupBy).
use Rattle.std.specs.Prelude.{List, map}
use Rattle.lq_value.specs.SameAndOrder.{same_values as same_keys}
use Rattle.lq_value.specs.declared.value.End.TheVariants as end
use Rattle.lq_value.specs.declared.value.Value.{Value}
use Rattle.lq_language.specs.ClauseMeaning.{as_group}
use Rattle.lq_language.specs.Stream.{Stream, groups_of}

module _ {R : Type 0} where
  abbrev pub groups_in : List (Value R × Value R) → Stream (Value R)
  groups_in qs = (map as_group (groups_of same_keys qs), end.Done)
