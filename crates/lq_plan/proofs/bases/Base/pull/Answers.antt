-- What is kept of the rows that are left is what was kept, but for the row that is found.
use Rattle.std.proofs.Common.{◌≡◌, [], Bool, true, false, IfErr, IfOk, Option, Some, None, rules, subst, sym}
use Rattle.lq_language.specs.Enumerable.{in_front}
use Rattle.lq_guard.specs.Handing.{Finds}
use Rattle.lq_plan.specs.PlannedRows.{kept_stream, pulled_value, row_verdict}
use Rattle.lq_plan.proofs.BaseLemmas.{found_none, found_open, found_passing}
use Rattle.lq_plan.proofs.bases.Base.pull.Goals as goal

pub returns-in-Some-default-true-clause-item : goal.returns-in-Some-default-true-clause-item
returns-in-Some-default-true-clause-item g c =
    let is : c.next_passing.result ≡ Some (c.in-Some-default-true.row, true) = search rules in
    found_passing g.R.TableRow.table_of g.R.RowRef.shown c.args.plan.now c.args.self.now.rows c.args.self.now.handed c.in-Some-default-true.row c.next_passing.new.self c.next_passing.new.handed c.args.self.now.items.items c.args.self.now.end
    (subst (λ (found : Option (_ × Bool)). Finds (row_verdict g.R.TableRow.table_of g.R.RowRef.shown c.args.plan.now) c.args.self.now.rows c.args.self.now.handed found c.next_passing.new.self c.next_passing.new.handed) is c.next_passing.ensures)

pub returns-in-Some-default-false-clause-item : goal.returns-in-Some-default-false-clause-item
returns-in-Some-default-false-clause-item g c =
    let is : c.next_passing.result ≡ Some (c.in-Some-default-false.row, false) = search rules in
    found_open g.R.TableRow.table_of g.R.RowRef.shown c.args.plan.now c.args.self.now.rows c.args.self.now.handed c.in-Some-default-false.row c.next_passing.new.self c.next_passing.new.handed c.args.self.now.items.items c.args.self.now.end
    (subst (λ (found : Option (_ × Bool)). Finds (row_verdict g.R.TableRow.table_of g.R.RowRef.shown c.args.plan.now) c.args.self.now.rows c.args.self.now.handed found c.next_passing.new.self c.next_passing.new.handed) is c.next_passing.ensures)

pub returns-in-None-clause-item : goal.returns-in-None-clause-item
returns-in-None-clause-item g c =
    let is : c.next_passing.result ≡ None = search rules in
    let same = found_none g.R.TableRow.table_of g.R.RowRef.shown c.args.plan.now c.args.self.now.rows c.args.self.now.handed c.next_passing.new.self c.next_passing.new.handed c.args.self.now.items.items c.args.self.now.end
    (subst (λ (found : Option (_ × Bool)). Finds (row_verdict g.R.TableRow.table_of g.R.RowRef.shown c.args.plan.now) c.args.self.now.rows c.args.self.now.handed found c.next_passing.new.self c.next_passing.new.handed) is c.next_passing.ensures) in
    subst (λ s. IfOk c.pull_item.result (λ p. s ≡ in_front (pulled_value p) (kept_stream g.R.TableRow.table_of g.R.RowRef.shown c.args.plan.now c.pull_item.new.self)))
    (sym same) c.pull_item.ensures.item

pub returns-in-None-clause-end : goal.returns-in-None-clause-end
returns-in-None-clause-end g c =
    let is : c.next_passing.result ≡ None = search rules in
    let same = found_none g.R.TableRow.table_of g.R.RowRef.shown c.args.plan.now c.args.self.now.rows c.args.self.now.handed c.next_passing.new.self c.next_passing.new.handed c.args.self.now.items.items c.args.self.now.end
    (subst (λ (found : Option (_ × Bool)). Finds (row_verdict g.R.TableRow.table_of g.R.RowRef.shown c.args.plan.now) c.args.self.now.rows c.args.self.now.handed found c.next_passing.new.self c.next_passing.new.handed) is c.next_passing.ensures) in
    subst (λ s. IfErr c.pull_item.result (λ e. s ≡ ([], e))) (sym same) c.pull_item.ensures.end
