-- The first denial is answered, and what comes of the expression where there is none.
use Rattle.std.proofs.Common.{◌≡◌, ◌∙◌, Err, append-nil, refl, rules}
use Rattle.lq_machine.specs.HostCalls.{named_now}
use Rattle.lq_use.specs.FormRights.{form_rights}
use Rattle.lq_run.specs.States.{state_with}
use Rattle.lq_run.proofs.CallLaws.{none_called}
use Rattle.lq_run.proofs.CallLemmas.{scalar_called}
use Rattle.lq_run.proofs.KnownLaws.{defined_with}
use Rattle.lq_run.proofs.ScalarLemmas.{allowed_evaluated, denied_evaluated}
use Rattle.lq_run.proofs.scalars.evaluate_scalar.Goals as goal

pub returns-in_err-check_rights-clause-evaluates : goal.returns-in_err-check_rights-clause-evaluates
returns-in_err-check_rights-clause-evaluates g c =
    let predicates = g.H.Asks.known c.args.hosts.now in
    let defined = defined_with predicates c.args.state.now c.requires.known c.store.ensures.defined in
    let same : c.from_residual-in_err-check_rights.result ≡ Err c.in_err-check_rights.field-0.0 = search rules in
    rw same (denied_evaluated (state_with predicates c.args.state.now) defined c.args.tree.now c.as_slice.result.now
    (c.as_slice.ensures.value ∙ c.in_ok-used.ensures) c.in_err-check_rights.field-0.0 (c.in_err-check_rights.ensures predicates c.requires.known))

pub returns-clause-evaluates : goal.returns-clause-evaluates
returns-clause-evaluates g c =
    let predicates = g.H.Asks.known c.args.hosts.now in
    let defined = defined_with predicates c.args.state.now c.requires.known c.store.ensures.defined in
    allowed_evaluated (state_with predicates c.args.state.now) defined c.args.tree.now c.as_slice.result.now
    (c.as_slice.ensures.value ∙ c.in_ok-used.ensures) c.evaluate_seen.result (c.in_ok-check_rights.ensures predicates c.requires.known)
    c.evaluate_seen.ensures.yields

pub returns-clause-calls : goal.returns-clause-calls
returns-clause-calls g c =
    let predicates = g.H.Asks.known c.args.hosts.now in
    let defined = defined_with predicates c.args.state.now c.requires.known c.store.ensures.defined in
    λ e is.
    scalar_called (state_with predicates c.args.state.now) defined c.args.tree.now e is c.args.log.now c.evaluate_seen.new.log c.as_slice.result.now
    (c.as_slice.ensures.value ∙ c.in_ok-used.ensures ∙ append-nil (form_rights c.args.tree.now.form))
    (c.in_ok-check_rights.ensures predicates c.requires.known) c.evaluate_seen.ensures.calls

pub returns-in_err-used-clause-calls : goal.returns-in_err-used-clause-calls
returns-in_err-used-clause-calls g c =
    let s = state_with (g.H.Asks.known c.args.hosts.now) c.args.state.now in
    λ e is. none_called s (named_now s e) c.args.log.now

pub returns-in_err-check_rights-clause-calls : goal.returns-in_err-check_rights-clause-calls
returns-in_err-check_rights-clause-calls g c =
    let s = state_with (g.H.Asks.known c.args.hosts.now) c.args.state.now in
    λ e is. none_called s (named_now s e) c.args.log.now
