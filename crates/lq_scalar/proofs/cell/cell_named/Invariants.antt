use Rattle.std.proofs.Common.{◌≡◌, length, map}
use Rattle.lq_language.specs.TableRows.{cell_named}
use Rattle.lq_scalar.proofs.cell.cell_named.Given as goal

-- the column is sought among those that are left
abbrev pub invariant-loop-columns_left : goal.invariant-loop-columns_left
invariant-loop-columns_left g l =
    cell_named (map g.C.ColumnName.name_of l.columns_left) l.cells_left l.name ≡ cell_named (map g.C.ColumnName.name_of l.columns) l.cells l.name

abbrev pub decreases-loop-columns_left : goal.decreases-loop-columns_left
decreases-loop-columns_left g l = length l.columns_left
