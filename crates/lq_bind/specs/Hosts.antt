-- Which columns host predicates may be asked of, by the types of their cells.
use Rattle.std.specs.Prelude.{Bool, true, false, Option, Some}
use Rattle.lq_value.specs.declared.table.ColumnType.{ColumnType}
use Rattle.lq_value.specs.declared.table.ColumnType.TheVariants as column

-- whether there is a column, with an int in each cell
abbrev pub holds_ints : Option ColumnType → Bool
holds_ints (Some column.Int) = true
holds_ints t = false
