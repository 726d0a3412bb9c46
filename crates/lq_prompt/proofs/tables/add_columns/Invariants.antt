use Rattle.std.proofs.Common.{◌≡◌, ◌++◌, map, take}
use Rattle.lq_prompt.specs.Tables.{column_row}
use Rattle.lq_prompt.proofs.tables.add_columns.Given as goal

-- the first ones are done
abbrev pub invariant-loop-column : goal.invariant-loop-column
invariant-loop-column l = l.grid ≡ l.initial.grid ++ map column_row (take l.column-index l.columns)
