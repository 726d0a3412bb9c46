use Rattle.std.proofs.Common.{◌≡◌, ◌++◌, drop, false}
use Rattle.serde_json.specs.Written.{members_text}
use Rattle.lq_json.specs.Shapes.{cells_in}
use Rattle.lq_json.proofs.row.write_row.Given as goal

-- the columns so far are written
abbrev pub invariant-loop-name : goal.invariant-loop-name
invariant-loop-name l = l.out ++ members_text l.later (cells_in (drop l.name-index l.columns) l.cells) ≡ l.initial.out ++ members_text false (cells_in l.columns l.cells)
