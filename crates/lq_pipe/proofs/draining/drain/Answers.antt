-- The items of the pipe are those that the tree means over these tables.
use Rattle.std.proofs.Common.{◌∙◌, [], IfOk, ap, subst}
use Rattle.lq_language.specs.OperandMeaning.{stream_of}
use Rattle.lq_tree.specs.AllowedCalls.{AddsOwnCalls, watch_of}
use Rattle.lq_tree.specs.FormMeaning.{form_meaning}
use Rattle.lq_tree.specs.Watches.{is_covered}
use Rattle.lq_tree.proofs.LogLaws.{grown_none}
use Rattle.lq_tree.proofs.OwnWatchLaws.{covered_by_own}
use Rattle.lq_plan.specs.Plans as plans
use Rattle.lq_plan.specs.Slots.{values_in}
use Rattle.lq_plan.specs.Watching.{facts_of}
use Rattle.lq_plan.specs.declared.slots.Slots.TheVariants as slots
use Rattle.lq_plan.proofs.SlotLaws.{no_values}
use Rattle.lq_pipe.proofs.DrainLemmas.{Drained}
use Rattle.lq_pipe.proofs.draining.drain.Goals as goal

pub returns-clause-calls : goal.returns-clause-calls
returns-clause-calls g c =
    let f = c.args.tree.now.form in
    let facts = facts_of g.R.TableRow.table_of g.R.TableRow.number_of g.R.RowRef.shown in
    let known = plans.world c.new-sources.result in
    subst (λ w. AddsOwnCalls w facts f [] c.args.log.now c.drain_pipe.new.log) c.new-sources.ensures
    (λ seen tables rows.
    let covered = c.in_ok-pipe.ensures.covered (watch_of seen f) (ap (is_covered known (watch_of seen f)) c.get-form.ensures ∙ covered_by_own known seen f tables) in
    c.drain_pipe.ensures.grows (watch_of seen f) c.args.log.now covered.0 covered.1 (grown_none known facts (watch_of seen f) c.args.log.now))

pub returns-clause-meant : goal.returns-clause-meant
returns-clause-meant g c =
    let f = c.args.tree.now.form in
    let known = plans.world c.new-sources.result in
    subst (λ w. IfOk c.drain_pipe.result (λ e. Drained g.K.Sink.takes (stream_of w (form_meaning w f [])) c.args.sink.now e c.drain_pipe.new.sink)) c.new-sources.ensures
    (subst (λ vs. IfOk c.drain_pipe.result (λ e. Drained g.K.Sink.takes (stream_of known (form_meaning known f vs)) c.args.sink.now e c.drain_pipe.new.sink)) no_values
    (subst (λ h. IfOk c.drain_pipe.result (λ e. Drained g.K.Sink.takes (stream_of known (form_meaning known h (values_in slots.Empty))) c.args.sink.now e c.drain_pipe.new.sink)) c.get-form.ensures
    (subst (λ s. IfOk c.drain_pipe.result (λ e. Drained g.K.Sink.takes s c.args.sink.now e c.drain_pipe.new.sink)) c.in_ok-pipe.ensures.items c.drain_pipe.ensures.meant)))
