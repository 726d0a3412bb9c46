-- By a plan for the table the cells alone are asked; by one for another table the first row is found.
use Rattle.std.proofs.Common.{◌≡◌, ◌∷◌, ◌==◌, false, true, rules}
use Rattle.lq_guard.specs.SeenRows.{rows_left}
use Rattle.lq_plan.proofs.FindingLemmas.{found_by_cells, found_first}
use Rattle.lq_plan.proofs.rows.ScanReadsVisibleRow.next_passing.Goals as goal

pub returns-then-table-plan : goal.returns-then-table-plan
returns-then-table-plan c =
    let is : (c.table.result == c.args.plan.now.table) ≡ true = search rules in
    found_by_cells c.args.plan.now c.table.result (rows_left c.args.self.now) c.table.ensures.rows _ _ _ _ is c.find_passing.ensures

pub returns : goal.returns
returns c =
    let is : (c.table.result == c.args.plan.now.table) ≡ false = search rules in
    let there : rows_left c.args.self.now ≡ c.in_ok-row.row ∷ rows_left c.next.new.self = search rules in
    found_first c.args.plan.now c.table.result (rows_left c.args.self.now) c.table.ensures.rows _ _ _ _ is there c.saturating_add.ensures
