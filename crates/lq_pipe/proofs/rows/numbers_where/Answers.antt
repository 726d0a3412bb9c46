use Rattle.std.proofs.Common.{◌≡◌, IfOk, ap, subst, ◌∙◌}
use Rattle.lq_tree.specs.AllowedCalls.{AddsOwnCalls, watch_of}
use Rattle.lq_tree.specs.Watches.{is_covered}
use Rattle.lq_tree.proofs.LogLaws.{grown_none}
use Rattle.lq_tree.proofs.OwnWatchLaws.{covered_by_own}
use Rattle.lq_plan.specs.Plans as plans
use Rattle.lq_plan.specs.Watching.{facts_of}
use Rattle.lq_pipe.specs.Conditions.{numbers_true}
use Rattle.lq_pipe.proofs.rows.numbers_where.Goals as goal

pub returns-clause-meant : goal.returns-clause-meant
returns-clause-meant g c =
    let rows = g.S.Rows.left c.args.rows.now in
    let number = g.R.TableRow.number_of in
    subst (λ w. IfOk c.filter_rows.result (λ found. (found.0.items, found.1) ≡ numbers_true w number c.args.condition.now.form rows)) c.new-sources.ensures
    (subst (λ form. IfOk c.filter_rows.result (λ found. (found.0.items, found.1) ≡ numbers_true (plans.world c.new-sources.result) number form rows)) c.get.ensures c.filter_rows.ensures.meant)

pub returns-clause-calls : goal.returns-clause-calls
returns-clause-calls g c =
    let f = c.args.condition.now.form in
    let facts = facts_of g.R.TableRow.table_of g.R.TableRow.number_of g.R.RowRef.shown in
    let known = plans.world c.new-sources.result in
    subst (λ w. AddsOwnCalls w facts f (g.S.Rows.left c.args.rows.now) c.args.log.now c.filter_rows.new.log) c.new-sources.ensures
    (λ seen tables rows.
    c.filter_rows.ensures.grows (watch_of seen f) c.args.log.now
    (ap (is_covered known (watch_of seen f)) c.get.ensures ∙ covered_by_own known seen f tables)
    rows (grown_none known facts (watch_of seen f) c.args.log.now))
