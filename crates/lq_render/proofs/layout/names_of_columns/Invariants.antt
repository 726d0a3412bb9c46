use Rattle.std.proofs.Common.{◌≡◌, map, take}
use Rattle.lq_render.proofs.layout.names_of_columns.Given as goal

-- the first ones are done
abbrev pub invariant-loop-column : goal.invariant-loop-column
invariant-loop-column l = l.names ≡ map (λ column. column.name) (take l.column-index l.columns)
