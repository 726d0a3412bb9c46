use Rattle.std.proofs.Common.{◌≡◌, [], drop, length}
use Rattle.csv.specs.Records.{fields_of}
use Rattle.lq_load.specs.TableFile.{cells_from}
use Rattle.lq_load.proofs.cells.cells_of.Given as goal

-- the cells so far are those of the columns so far
abbrev pub invariant-loop-column : goal.invariant-loop-column
invariant-loop-column l =
    (length l.cells ≡ l.column-index)
    × (cells_from l.place (drop l.column-index l.columns) (drop l.column-index (fields_of l.row)) l.cells ≡ cells_from l.place l.columns (fields_of l.row) [])
