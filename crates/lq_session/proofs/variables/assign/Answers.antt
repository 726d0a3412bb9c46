-- Each refusal of an assignment is the machine's, in its turn, and the variable has its value where there is none.
use Rattle.std.proofs.Common.{◌≡◌, ◌∙◌, Err, Some, ap, refl, rules, sym}
use Rattle.lq_grammar.specs.declared.syntax.Statement.TheVariants as statement
use Rattle.lq_language.specs.Typing.{converts}
use Rattle.lq_machine.specs.HostCalls.{evaluated_named}
use Rattle.lq_run.specs.States.{state_with}
use Rattle.lq_run.proofs.CallLaws.{none_called}
use Rattle.lq_session.proofs.CallLemmas.{assignment_called}
use Rattle.lq_session.proofs.VariableLemmas.{assigns_scalar, assigns_value, no_value, other_value, unassigned, untyped_value, value_for, variable_found}
use Rattle.lq_session.proofs.variables.assign.Goals as goal

pub returns-in_default-clause-performs : goal.returns-in_default-clause-performs
returns-in_default-clause-performs g c =
    let s = state_with (g.H.Asks.known c.args.hosts.now) c.args.state.now in
    (unassigned s c.args.name.now c.args.expr.now c.refusal.result (sym c.in_default.ensures.value) c.refusal.ensures, refl)

pub returns-in_err-tree-clause-performs : goal.returns-in_err-tree-clause-performs
returns-in_err-tree-clause-performs g c =
    let predicates = g.H.Asks.known c.args.hosts.now in
    let s = state_with predicates c.args.state.now in
    let same : c.from_residual.result ≡ Err c.in_err-tree.field-0.0 = search rules in
    rw same (
      untyped_value s c.args.name.now c.args.expr.now c.in-Some.place.now (sym c.in-Some.ensures.value) c.in_err-tree.field-0.0
          (c.in_err-tree.ensures predicates c.requires.known),
      refl,
    )

pub returns-then-not-is_convertible-clause-performs : goal.returns-then-not-is_convertible-clause-performs
returns-then-not-is_convertible-clause-performs g c =
    let predicates = g.H.Asks.known c.args.hosts.now in
    let s = state_with predicates c.args.state.now in
    let bound = c.in_ok-tree.ensures predicates c.requires.known ∙ ap Some (sym (c.get-tree.ensures ∙ c.in_ok-holder.ensures)) in (
      other_value s c.args.name.now c.args.expr.now c.in-Some.place.now (sym c.in-Some.ensures.value) c.get-tree.result.now bound
          c.refusal-then-not-is_convertible.result ((λ i. converts (sym c.ty.ensures i) c.in-Some.place.now) ∙ sym c.is_convertible.ensures ∙ c.if-not-is_convertible.true)
          c.refusal-then-not-is_convertible.ensures,
      refl,
    )

pub evaluate_scalar-requires-clause-scalar : goal.evaluate_scalar-requires-clause-scalar
evaluate_scalar-requires-clause-scalar g c =
    let predicates = g.H.Asks.known c.args.hosts.now in
    let s = state_with predicates c.args.state.now in
    let bound = c.in_ok-tree.ensures predicates c.requires.known ∙ ap Some (sym (c.get-tree.ensures ∙ c.in_ok-holder.ensures)) in
    assigns_scalar s c.args.name.now c.args.expr.now c.in-Some.place.now (sym c.in-Some.ensures.value) c.get-tree.result.now bound
    ((λ i. converts (sym c.ty.ensures i) c.in-Some.place.now) ∙ sym c.is_convertible.ensures ∙ c.if-not-is_convertible.false) c.in-Some.ensures.scalar

pub returns-in_err-value-clause-performs : goal.returns-in_err-value-clause-performs
returns-in_err-value-clause-performs g c =
    let predicates = g.H.Asks.known c.args.hosts.now in
    let s = state_with predicates c.args.state.now in
    let bound = c.in_ok-tree.ensures predicates c.requires.known ∙ ap Some (sym (c.get-tree.ensures ∙ c.in_ok-holder.ensures)) in
    let same : c.from_residual-in_err-value.result ≡ Err c.in_err-value.field-0.0 = search rules in
    rw same (
      no_value s c.args.name.now c.args.expr.now c.in-Some.place.now (sym c.in-Some.ensures.value) c.get-tree.result.now bound
          ((λ i. converts (sym c.ty.ensures i) c.in-Some.place.now) ∙ sym c.is_convertible.ensures ∙ c.if-not-is_convertible.false) c.in_err-value.field-0.0
          c.in_err-value.ensures.evaluates,
      refl,
    )

pub assign-requires : goal.assign-requires
assign-requires g c =
    let predicates = g.H.Asks.known c.args.hosts.now in
    let s = state_with predicates c.args.state.now in
    let bound = c.in_ok-tree.ensures predicates c.requires.known ∙ ap Some (sym (c.get-tree.ensures ∙ c.in_ok-holder.ensures)) in
    value_for s c.args.name.now c.args.expr.now c.in-Some.place.now (sym c.in-Some.ensures.value) c.get-tree.result.now bound
    ((λ i. converts (sym c.ty.ensures i) c.in-Some.place.now) ∙ sym c.is_convertible.ensures ∙ c.if-not-is_convertible.false) c.in-Some.ensures.scalar c.in_ok-value.value
    c.in_ok-value.ensures.evaluates

pub returns-clause-performs : goal.returns-clause-performs
returns-clause-performs g c =
    let predicates = g.H.Asks.known c.args.hosts.now in
    let s = state_with predicates c.args.state.now in
    let bound = c.in_ok-tree.ensures predicates c.requires.known ∙ ap Some (sym (c.get-tree.ensures ∙ c.in_ok-holder.ensures)) in
    let before = variable_found s c.args.name.now c.in-Some.place.now (sym c.in-Some.ensures.value) in
    assigns_value s c.args.name.now c.args.expr.now c.in-Some.place.now (sym c.in-Some.ensures.value) c.get-tree.result.now bound
    ((λ i. converts (sym c.ty.ensures i) c.in-Some.place.now) ∙ sym c.is_convertible.ensures ∙ c.if-not-is_convertible.false) c.in-Some.ensures.scalar c.in_ok-value.value
    c.in_ok-value.ensures.evaluates c.in_ok-line.line (state_with predicates c.assign.new.self) c.in_ok-line.ensures
    (ap (state_with predicates) (c.assign.ensures c.in-Some.place.now before.0 before.1))

pub returns-clause-hosts : goal.returns-clause-hosts
returns-clause-hosts g c =
    let s = state_with (g.H.Asks.known c.args.hosts.now) c.args.state.now in
    let before = variable_found s c.args.name.now c.in-Some.place.now (sym c.in-Some.ensures.value) in
    ap (λ t. t.policies.predicates) (c.assign.ensures c.in-Some.place.now before.0 before.1)

-- ---- the log

pub returns-in_default-clause-calls : goal.returns-in_default-clause-calls
returns-in_default-clause-calls g c =
    let s = state_with (g.H.Asks.known c.args.hosts.now) c.args.state.now in
    none_called s (evaluated_named s (statement.Assign c.args.name.now c.args.expr.now)) c.args.log.now

pub returns-in_err-tree-clause-calls : goal.returns-in_err-tree-clause-calls
returns-in_err-tree-clause-calls g c =
    let s = state_with (g.H.Asks.known c.args.hosts.now) c.args.state.now in
    none_called s (evaluated_named s (statement.Assign c.args.name.now c.args.expr.now)) c.args.log.now

pub returns-in_err-holder-clause-calls : goal.returns-in_err-holder-clause-calls
returns-in_err-holder-clause-calls g c =
    let s = state_with (g.H.Asks.known c.args.hosts.now) c.args.state.now in
    none_called s (evaluated_named s (statement.Assign c.args.name.now c.args.expr.now)) c.args.log.now

pub returns-then-not-is_convertible-clause-calls : goal.returns-then-not-is_convertible-clause-calls
returns-then-not-is_convertible-clause-calls g c =
    let s = state_with (g.H.Asks.known c.args.hosts.now) c.args.state.now in
    none_called s (evaluated_named s (statement.Assign c.args.name.now c.args.expr.now)) c.args.log.now

pub returns-in_err-value-clause-calls : goal.returns-in_err-value-clause-calls
returns-in_err-value-clause-calls g c =
    let predicates = g.H.Asks.known c.args.hosts.now in
    let s = state_with predicates c.args.state.now in
    let bound = c.in_ok-tree.ensures predicates c.requires.known ∙ ap Some (sym (c.get-tree.ensures ∙ c.in_ok-holder.ensures)) in
    assignment_called s c.args.expr.now c.args.log.now c.evaluate_scalar.new.log c.get-tree.result.now bound c.args.name.now c.in-Some.place.now
    (sym c.in-Some.ensures.value) ((λ i. converts (sym c.ty.ensures i) c.in-Some.place.now) ∙ sym c.is_convertible.ensures ∙ c.if-not-is_convertible.false)
    (c.evaluate_scalar.ensures.calls c.args.expr.now bound)

pub returns-in_err-line-clause-calls : goal.returns-in_err-line-clause-calls
returns-in_err-line-clause-calls g c =
    let predicates = g.H.Asks.known c.args.hosts.now in
    let s = state_with predicates c.args.state.now in
    let bound = c.in_ok-tree.ensures predicates c.requires.known ∙ ap Some (sym (c.get-tree.ensures ∙ c.in_ok-holder.ensures)) in
    assignment_called s c.args.expr.now c.args.log.now c.evaluate_scalar.new.log c.get-tree.result.now bound c.args.name.now c.in-Some.place.now
    (sym c.in-Some.ensures.value) ((λ i. converts (sym c.ty.ensures i) c.in-Some.place.now) ∙ sym c.is_convertible.ensures ∙ c.if-not-is_convertible.false)
    (c.evaluate_scalar.ensures.calls c.args.expr.now bound)

pub returns-clause-calls : goal.returns-clause-calls
returns-clause-calls g c =
    let predicates = g.H.Asks.known c.args.hosts.now in
    let s = state_with predicates c.args.state.now in
    let bound = c.in_ok-tree.ensures predicates c.requires.known ∙ ap Some (sym (c.get-tree.ensures ∙ c.in_ok-holder.ensures)) in
    assignment_called s c.args.expr.now c.args.log.now c.evaluate_scalar.new.log c.get-tree.result.now bound c.args.name.now c.in-Some.place.now
    (sym c.in-Some.ensures.value) ((λ i. converts (sym c.ty.ensures i) c.in-Some.place.now) ∙ sym c.is_convertible.ensures ∙ c.if-not-is_convertible.false)
    (c.evaluate_scalar.ensures.calls c.args.expr.now bound)
