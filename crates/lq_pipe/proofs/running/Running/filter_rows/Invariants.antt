use Rattle.std.proofs.Common.{◌≡◌, List, length, true}
use Rattle.std.specs.List.{list_all}
use Rattle.lq_host.specs.declared.call.Call.{Call}
use Rattle.lq_tree.specs.Watches.{Watch}
use Rattle.lq_pipe.specs.Conditions.{holds_on}
use Rattle.lq_pipe.specs.Runs.{Grown, covers, world}
use Rattle.lq_pipe.proofs.RowLemmas.{KeepsNumbers}
use Rattle.lq_pipe.proofs.running.Running.filter_rows.Given as goal

-- the numbers so far, with those of the rows that are left; and the calls so far, where the rows that are left pass
abbrev pub invariant-loop-row : goal.invariant-loop-row
invariant-loop-row g l =
    record {
      meant : KeepsNumbers (holds_on (world l.fn.self) l.fn.condition) g.R.TableRow.number_of (g.S.Rows.left l.fn.rows) l.numbers.items (g.S.Rows.left l.rows);
      grows : ((w : Watch _) (start : List Call) → covers l.fn.self w l.fn.condition ≡ true → list_all w.row (g.S.Rows.left l.fn.rows) ≡ true → Grown l.fn.self w start l.fn.log → Grown l.fn.self w start l.log);
      pass : ((w : Watch _) → list_all w.row (g.S.Rows.left l.fn.rows) ≡ true → list_all w.row (g.S.Rows.left l.rows) ≡ true);
    }

abbrev pub decreases-loop-row : goal.decreases-loop-row
decreases-loop-row g l = length (g.S.Rows.left l.rows)
