use Rattle.std.proofs.Common.{◌≡◌, ◌++◌, drop}
use Rattle.lq_prompt.specs.Rights.{column_rows}
use Rattle.lq_prompt.proofs.rights.add_columns.Given as goal

-- the columns so far, and those to come
abbrev pub invariant-loop-place : goal.invariant-loop-place
invariant-loop-place l =
    l.grid ++ column_rows l.state l.name l.table l.place (drop l.place l.columns)
    ≡ l.initial.grid ++ column_rows l.state l.name l.table 0 l.columns
