use Rattle.std.proofs.Common.{◌≡◌, ◌++◌, drop}
use Rattle.lq_language.specs.Uses.{columns_from}
use Rattle.lq_use.proofs.shown.add_each.Given as goal

-- the columns so far, and those to come
abbrev pub invariant-loop-number : goal.invariant-loop-number
invariant-loop-number l = l.uses.items ++ columns_from l.table l.number (drop l.number l.columns) ≡ l.initial.uses.items ++ columns_from l.table 0 l.columns
