-- The reply to a `run` leaves the state, and what is defined is the expression in its box; the calls of a statement are those that it may make.
use Rattle.std.proofs.Common.{◌∙◌, ap, subst, sym}
use Rattle.lq_machine.specs.HostCalls.{evaluated_named}
use Rattle.lq_machine.specs.Machine.{perform}
use Rattle.lq_grammar.specs.declared.syntax.Statement.{Statement}
use Rattle.lq_grammar.specs.declared.syntax.Statement.TheVariants as statement
use Rattle.lq_run.specs.States.{state_with}
use Rattle.lq_session.specs.Performed.{PerformsWith}
use Rattle.lq_run.proofs.CallLaws.{none_called}
use Rattle.lq_session.proofs.CallLemmas.{statement_called}
use Rattle.lq_session.proofs.Outcomes.{performs_run}
use Rattle.lq_session.proofs.statements.perform.Goals as goal

pub returns-in-Run-clause-performs : goal.returns-in-Run-clause-performs
returns-in-Run-clause-performs g c =
    let predicates = g.H.Asks.known c.args.hosts.now in
    let s = state_with predicates c.args.state.now in
    subst (λ (given : Statement). PerformsWith predicates (perform s c.args.opened given) c.args.state.now c.run_line-answer.result c.args.state.now)
    (sym c.in-Run.is) (performs_run predicates c.args.state.now c.in-Run.expr c.run_line-answer.result c.run_line-answer.ensures.answered)

pub returns-in_ok-holder-in-Define-clause-performs : goal.returns-in_ok-holder-in-Define-clause-performs
returns-in_ok-holder-in-Define-clause-performs g c =
    let predicates = g.H.Asks.known c.args.hosts.now in
    let s = state_with predicates c.args.state.now in
    let is = c.in-Define.is ∙ ap (statement.Define c.in-Define.name) (sym c.in_ok-holder-in-Define.ensures) in
    subst (λ (given : Statement). PerformsWith predicates (perform s c.args.opened given) c.args.state.now c.define.result c.define.new.state) (sym is)
    c.define.ensures.performs

-- ---- the log

pub returns-in-Run-clause-calls : goal.returns-in-Run-clause-calls
returns-in-Run-clause-calls g c =
    let s = state_with (g.H.Asks.known c.args.hosts.now) c.args.state.now in
    statement_called s c.args.statement (statement.Run c.in-Run.expr) c.args.log.now c.run_line-answer.new.log c.in-Run.is c.run_line-answer.ensures.calls

pub returns-in_err-holder-in-Define-clause-calls : goal.returns-in_err-holder-in-Define-clause-calls
returns-in_err-holder-in-Define-clause-calls g c =
    let s = state_with (g.H.Asks.known c.args.hosts.now) c.args.state.now in
    none_called s (evaluated_named s c.args.statement) c.args.log.now

pub returns-in_ok-holder-in-Define-clause-calls : goal.returns-in_ok-holder-in-Define-clause-calls
returns-in_ok-holder-in-Define-clause-calls g c =
    let s = state_with (g.H.Asks.known c.args.hosts.now) c.args.state.now in
    let is = c.in-Define.is ∙ ap (statement.Define c.in-Define.name) (sym c.in_ok-holder-in-Define.ensures) in
    statement_called s c.args.statement (statement.Define c.in-Define.name c.in_ok-holder-in-Define.holder) c.args.log.now c.define.new.log is
    c.define.ensures.calls

pub returns-in-Assign-clause-calls : goal.returns-in-Assign-clause-calls
returns-in-Assign-clause-calls g c =
    let s = state_with (g.H.Asks.known c.args.hosts.now) c.args.state.now in
    statement_called s c.args.statement (statement.Assign c.as_str.result.now c.in-Assign.value) c.args.log.now c.assign-answer.new.log
    (c.in-Assign.is ∙ (λ i. statement.Assign (sym c.as_str.ensures i) c.in-Assign.value)) c.assign-answer.ensures.calls

pub returns-in-Delete-clause-calls : goal.returns-in-Delete-clause-calls
returns-in-Delete-clause-calls g c =
    let s = state_with (g.H.Asks.known c.args.hosts.now) c.args.state.now in
    statement_called s c.args.statement (statement.Delete c.as_str-name.result.now c.in-Delete.row c.in-Delete.condition) c.args.log.now c.delete-answer.new.log
    (c.in-Delete.is ∙ (λ i. statement.Delete (sym c.as_str-name.ensures i) c.in-Delete.row c.in-Delete.condition)) c.delete-answer.ensures.calls

pub returns-in-As-clause-calls : goal.returns-in-As-clause-calls
returns-in-As-clause-calls g c =
    let s = state_with (g.H.Asks.known c.args.hosts.now) c.args.state.now in
    none_called s (evaluated_named s c.args.statement) c.args.log.now

pub returns-in-Insert-clause-calls : goal.returns-in-Insert-clause-calls
returns-in-Insert-clause-calls g c =
    let s = state_with (g.H.Asks.known c.args.hosts.now) c.args.state.now in
    none_called s (evaluated_named s c.args.statement) c.args.log.now
