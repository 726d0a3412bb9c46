-- The rule that keeps the row out.
use Rattle.std.proofs.Common.{◌≡◌, ◌∙◌, Some, rules, sym}
use Rattle.lq_language.specs.declared.rights.Use.TheVariants as used
use Rattle.lq_machine.specs.Served.{denied_data}
use Rattle.lq_machine.specs.States.{schemas_of}
use Rattle.lq_security.specs.Visible.{refuser_of}
use Rattle.lq_run.specs.States.{state_with}
use Rattle.lq_run.proofs.StopLaws.{stops_as}
use Rattle.lq_session.proofs.InsertLemmas.{keeps_out}
use Rattle.lq_session.proofs.rows.check_row.Goals as goal

pub returns-in-Err : goal.returns-in-Err
returns-in-Err c = λ predicates known.
    let kept : refuser_of c.args.state.now.policies c.args.state.now.role c.args.table c.args.cells.now ≡ Some c.in-Err.rule.now = search rules in
    keeps_out (state_with predicates c.args.state.now) c.args.table c.args.cells.now c.in-Err.rule.now c.denial.result kept
    (stops_as _ _ c.denial.result
    (λ i. denied_data (schemas_of (c.store.ensures.value i)) ((c.hosts.ensures ∙ sym known) i) c.in-Err.rule.now (used.Insert c.args.table)) c.denial.ensures)
