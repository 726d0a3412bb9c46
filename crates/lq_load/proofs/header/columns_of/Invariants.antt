use Rattle.std.proofs.Common.{◌≡◌, [], drop}
use Rattle.csv.specs.Records.{fields_of}
use Rattle.lq_load.specs.Headers.{columns_from}
use Rattle.lq_load.proofs.header.columns_of.Given as goal

-- the columns so far are those of the fields so far
abbrev pub invariant-loop-cell : goal.invariant-loop-cell
invariant-loop-cell l =
    (l.cell-iterator.row.now ≡ l.header) × (columns_from (drop l.cell-iterator.at (fields_of l.header)) l.columns ≡ columns_from (fields_of l.header) [])
