use Rattle.std.proofs.Common.{◌≡◌, ◌++◌, drop}
use Rattle.lq_prompt.specs.Tables.{tables_rows}
use Rattle.lq_prompt.proofs.tables.tables_rows.Given as goal

-- the first ones are done
abbrev pub invariant-loop-table : goal.invariant-loop-table
invariant-loop-table l = l.grid ++ tables_rows l.state l.table (drop l.table l.state.tables) ≡ tables_rows l.state 0 l.state.tables
