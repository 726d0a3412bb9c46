use Rattle.std.proofs.Common.{◌≡◌, ◌++◌, drop}
use Rattle.lq_prompt.specs.Rights.{rights_rows}
use Rattle.lq_prompt.proofs.rights.rights_rows.Given as goal

-- the first ones are done
abbrev pub invariant-loop-table : goal.invariant-loop-table
invariant-loop-table l = l.grid ++ rights_rows l.state l.table (drop l.table l.state.tables) ≡ rights_rows l.state 0 l.state.tables
