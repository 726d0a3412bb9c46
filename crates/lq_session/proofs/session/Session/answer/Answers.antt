-- Each step of an answer is the machine's, or stops with its reply; its calls are those of the statement.
use Rattle.std.proofs.Common.{◌≡◌, ◌∙◌, List, Err, Ok, Some, ap, rules, subst, sym}
use Rattle.lq_grammar.specs.Reading.{Says, Nothing, reading_of}
use Rattle.lq_host.specs.Hosts.{hosts_of}
use Rattle.lq_host.specs.Predicates.{Predicate}
use Rattle.lq_language.specs.Worlds.{known_predicates}
use Rattle.lq_machine.specs.HostCalls.{line_named}
use Rattle.lq_machine.specs.Machine.{step}
use Rattle.lq_run.specs.States.{state_with}
use Rattle.lq_session.specs.Performed.{Steps}
use Rattle.lq_session.specs.States.{hosts_in, predicates_in, state_of}
use Rattle.lq_run.proofs.CallLaws.{none_called}
use Rattle.lq_session.proofs.CallLemmas.{line_called}
use Rattle.lq_session.proofs.StepLemmas.{says_nothing, steps_performed, stops_past, stops_performed, stops_unread}
use Rattle.lq_session.proofs.session.Session.answer.Goals as goal

pub returns-in_err-tokens-clause-steps : goal.returns-in_err-tokens-clause-steps
returns-in_err-tokens-clause-steps g c =
    let same : c.from_residual.result ≡ Err c.in_err-tokens.field-0.0 = search rules in
    rw same (stops_unread (state_of c.args.self.now) c.args.line.now c.in_err-tokens.field-0.0 c.in_err-tokens.ensures)

pub returns-in_err-statement-clause-steps : goal.returns-in_err-statement-clause-steps
returns-in_err-statement-clause-steps g c =
    let same : c.from_residual-in_err-statement.result ≡ Err c.in_err-statement.field-0.0 = search rules in
    rw same (stops_unread (state_of c.args.self.now) c.args.line.now c.in_err-statement.field-0.0 c.in_err-statement.ensures)

pub returns-in_default-clause-steps : goal.returns-in_default-clause-steps
returns-in_default-clause-steps g c =
    let read : reading_of c.args.line.now ≡ Nothing = search rules in says_nothing (state_of c.args.self.now) c.args.line.now read

pub returns-in_err-opened-clause-steps : goal.returns-in_err-opened-clause-steps
returns-in_err-opened-clause-steps g c =
    let read : reading_of c.args.line.now ≡ Says c.in-Some.statement = search rules in
    let same : c.from_residual-in_err-opened.result ≡ Err c.in_err-opened.field-0.0 = search rules in
    rw same (stops_past (state_of c.args.self.now) c.args.line.now c.in-Some.statement read c.in_err-opened.field-0.0 c.in_err-opened.ensures)

pub work-requires : goal.work-requires
work-requires g c = (c.in_ok-opened.ensures.1, c.args.self.now.known)

-- the policies know the predicates that stayed
pub invariant_of-self : goal.invariant_of-self
invariant_of-self g c = record {
  known = ap known_predicates c.work.ensures.predicates ∙ c.args.self.now.known ∙ sym c.work.ensures.does.1;
}

pub returns-in_err-work-clause-steps : goal.returns-in_err-work-clause-steps
returns-in_err-work-clause-steps g c =
    let read : reading_of c.args.line.now ≡ Says c.in-Some.statement = search rules in
    let taken = read ∙ ap Says (sym c.into_inner-statement.ensures) in
    let same : c.from_residual-in_err-work.result ≡ Err c.in_err-work.field-0.0 = search rules in
    let performs = c.in_err-work.ensures.does.0 in
    let old = state_of c.args.self.now in
    rw same (subst (λ (predicates : List Predicate). Steps (step old c.args.line.now) old (Err c.in_err-work.field-0.0)
    (state_with predicates c.work.new.state)) (sym c.in_err-work.ensures.predicates)
    (stops_performed old c.args.line.now c.into_inner-statement.result taken c.in_ok-opened.opened c.in_ok-opened.ensures c.in_err-work.field-0.0
    (state_with (predicates_in c.args.self.now) c.work.new.state) (performs.0, ap (state_with (predicates_in c.args.self.now)) performs.1)))

pub returns-clause-steps : goal.returns-clause-steps
returns-clause-steps g c =
    let read : reading_of c.args.line.now ≡ Says c.in-Some.statement = search rules in
    let taken = read ∙ ap Says (sym c.into_inner-statement.ensures) in
    let old = state_of c.args.self.now in
    subst (λ (predicates : List Predicate). Steps (step old c.args.line.now) old (Ok (Some c.in_ok-work.field-0))
    (state_with predicates c.work.new.state)) (sym c.in_ok-work.ensures.predicates)
    (steps_performed old c.args.line.now c.into_inner-statement.result taken c.in_ok-opened.opened c.in_ok-opened.ensures c.in_ok-work.field-0
    (state_with (predicates_in c.args.self.now) c.work.new.state) c.in_ok-work.ensures.does.0)

-- ---- the log

pub returns-in_err-tokens-clause-calls : goal.returns-in_err-tokens-clause-calls
returns-in_err-tokens-clause-calls g c =
    let s = state_of c.args.self.now in none_called s (line_named s c.args.line.now) (hosts_in c.args.self.now).calls

pub returns-in_err-statement-clause-calls : goal.returns-in_err-statement-clause-calls
returns-in_err-statement-clause-calls g c =
    let s = state_of c.args.self.now in none_called s (line_named s c.args.line.now) (hosts_in c.args.self.now).calls

pub returns-in_default-clause-calls : goal.returns-in_default-clause-calls
returns-in_default-clause-calls g c =
    let s = state_of c.args.self.now in none_called s (line_named s c.args.line.now) (hosts_in c.args.self.now).calls

pub returns-in_err-opened-clause-calls : goal.returns-in_err-opened-clause-calls
returns-in_err-opened-clause-calls g c =
    let s = state_of c.args.self.now in none_called s (line_named s c.args.line.now) (hosts_in c.args.self.now).calls

pub returns-in_err-work-clause-calls : goal.returns-in_err-work-clause-calls
returns-in_err-work-clause-calls g c =
    let read : reading_of c.args.line.now ≡ Says c.in-Some.statement = search rules in
    let taken = read ∙ ap Says (sym c.into_inner-statement.ensures) in
    line_called (state_of c.args.self.now) c.args.line.now c.into_inner-statement.result taken c.in_ok-opened.opened c.in_ok-opened.ensures
    (hosts_in c.args.self.now).calls (hosts_of c.work.new.self).calls c.work.ensures.does.2

pub returns-clause-calls : goal.returns-clause-calls
returns-clause-calls g c =
    let read : reading_of c.args.line.now ≡ Says c.in-Some.statement = search rules in
    let taken = read ∙ ap Says (sym c.into_inner-statement.ensures) in
    line_called (state_of c.args.self.now) c.args.line.now c.into_inner-statement.result taken c.in_ok-opened.opened c.in_ok-opened.ensures
    (hosts_in c.args.self.now).calls (hosts_of c.work.new.self).calls c.work.ensures.does.2
