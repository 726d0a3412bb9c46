-- The rows that are left are one less, and that one has been asked, since it passes as all of them do.
use Rattle.std.proofs.Common.{◌∙◌, ap, sym}
use Rattle.lq_pipe.specs.Conditions.{holds_on, selection_with}
use Rattle.lq_pipe.specs.Runs.{world}
use Rattle.lq_pipe.proofs.RowLemmas.{next_passed, number_kept, numbers_stopped, others_passed}
use Rattle.lq_pipe.proofs.running.Running.filter_rows.Goals as goal

pub returns-in-Err-clause-meant : goal.returns-in-Err-clause-meant
returns-in-Err-clause-meant g c =
    numbers_stopped (holds_on (world c.args.self.now) c.args.condition.now) g.R.TableRow.number_of (g.S.Rows.left c.args.rows.now) _ _ _ _ _
    c.in-Some.ensures (sym c.in-Err.is ∙ c.in_ok-is_true.ensures.meant) c.loop-row.invariant.meant

pub returns-in_err-is_true-clause-grows : goal.returns-in_err-is_true-clause-grows
returns-in_err-is_true-clause-grows g c =
    λ w start h r gr.
    c.holds_on.ensures.grows w start h
    (next_passed w.row (g.S.Rows.left c.loop-row.rows) (g.S.Rows.left c.next_row.new.self) c.in-Some.row c.in-Some.ensures (c.loop-row.invariant.pass w r))
    (c.loop-row.invariant.grows w start h r gr)

pub returns-in_err-select_if-in-Ok-clause-grows : goal.returns-in_err-select_if-in-Ok-clause-grows
returns-in_err-select_if-in-Ok-clause-grows g c =
    λ w start h r gr.
    c.holds_on.ensures.grows w start h
    (next_passed w.row (g.S.Rows.left c.loop-row.rows) (g.S.Rows.left c.next_row.new.self) c.in-Some.row c.in-Some.ensures (c.loop-row.invariant.pass w r))
    (c.loop-row.invariant.grows w start h r gr)

pub returns-in-Err-clause-grows : goal.returns-in-Err-clause-grows
returns-in-Err-clause-grows g c =
    λ w start h r gr.
    c.holds_on.ensures.grows w start h
    (next_passed w.row (g.S.Rows.left c.loop-row.rows) (g.S.Rows.left c.next_row.new.self) c.in-Some.row c.in-Some.ensures (c.loop-row.invariant.pass w r))
    (c.loop-row.invariant.grows w start h r gr)

pub loop-row-preserved : goal.loop-row-preserved
loop-row-preserved g c =
    let left = g.S.Rows.left c.loop-row.rows in
    let further = g.S.Rows.left c.next_row.new.self in
    record {
      meant = number_kept (holds_on (world c.args.self.now) c.args.condition.now) g.R.TableRow.number_of (g.S.Rows.left c.args.rows.now) left further
          c.loop-row.numbers.items c.select_if.new.selection.items c.in-Some.row c.in-Ok.is_true c.in-Some.ensures
          (sym c.in-Ok.is ∙ c.in_ok-is_true.ensures.meant)
          (c.in_ok-select_if-in-Ok.ensures ∙ ap (λ n. selection_with c.in-Ok.is_true n c.loop-row.numbers.items) c.number.ensures)
          c.loop-row.invariant.meant;
      grows = λ w start h r gr.
          c.holds_on.ensures.grows w start h (next_passed w.row left further c.in-Some.row c.in-Some.ensures (c.loop-row.invariant.pass w r))
          (c.loop-row.invariant.grows w start h r gr);
      pass = λ w r. others_passed w.row left further c.in-Some.row c.in-Some.ensures (c.loop-row.invariant.pass w r);
    }
