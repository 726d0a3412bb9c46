use Rattle.std.proofs.Common.{◌≡◌, ◌≤◌, take}
use Rattle.lq_prompt.specs.Tables.{count_seen}
use Rattle.lq_prompt.proofs.tables.count_seen.Given as goal

-- the first ones are counted
abbrev pub invariant-loop-row : goal.invariant-loop-row
invariant-loop-row l = (l.count ≡ count_seen l.state l.table (take l.row-index l.rows)) × (l.count ≤ l.row-index)
