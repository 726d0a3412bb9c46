-- A role that there is is taken, and another name is refused.
use Rattle.std.proofs.Common.{◌≡◌, ◌∙◌, Err, None, Some, ap, codes, option_map, refl, rules, sym}
use Rattle.lq_machine.specs.Served.{error_data, line_of}
use Rattle.lq_machine.specs.Statements.{Outcome, taking_role}
use Rattle.lq_machine.proofs.StatementLaws.{role_taken, role_unknown}
use Rattle.lq_policy.specs.Roles.{number_of, role_number}
use Rattle.lq_security.specs.declared.policy.PolicyParts.{PolicyParts}
use Rattle.lq_run.specs.States.{state_with}
use Rattle.lq_run.specs.declared.stop.Stop.TheVariants as stop
use Rattle.lq_run.proofs.StopLaws.{stops_with}
use Rattle.lq_session.proofs.statements.take_role.Goals as goal

pub returns-in_default-clause-performs : goal.returns-in_default-clause-performs
returns-in_default-clause-performs c = λ predicates known.
    let s = state_with predicates c.args.state.now in
    let none : role_number c.args.state.now.policies c.args.name.now ≡ None =
    sym (c.role.ensures ∙ ap (λ (parts : PolicyParts). role_number parts c.args.name.now) c.policies.ensures)
    ∙ ap (option_map number_of) c.in_default.is in (
      stops_with s (error_data (codes "role")) (taking_role s c.args.name.now) c.refusal.result (role_unknown s c.args.name.now none) c.refusal.ensures,
      refl,
    )

pub returns-in_err-take_role-clause-performs : goal.returns-in_err-take_role-clause-performs
returns-in_err-take_role-clause-performs c = λ predicates known.
    let same : c.from_residual-in_err-take_role.result ≡ Err stop.Memory = search rules in
    rw same (tt, c.in_err-take_role.ensures.err)

pub returns-in_err-take_role-clause-hosts : goal.returns-in_err-take_role-clause-hosts
returns-in_err-take_role-clause-hosts c = ap (λ s. s.policies.predicates) c.in_err-take_role.ensures.err

pub returns-clause-performs : goal.returns-clause-performs
returns-clause-performs c = λ predicates known.
    let s = state_with predicates c.args.state.now in
    let some : role_number c.args.state.now.policies c.args.name.now ≡ Some (number_of c.in-Some.role) =
    sym (c.role.ensures ∙ ap (λ (parts : PolicyParts). role_number parts c.args.name.now) c.policies.ensures)
    ∙ ap (option_map number_of) c.in-Some.is in
    let taken = role_taken s c.args.name.now (number_of c.in-Some.role) some in (
      c.in_ok-line.ensures ∙ ap (λ (o : Outcome). line_of o.0) (sym taken),
      ap (state_with predicates) c.in_ok-take_role.ensures.ok ∙ ap (λ (o : Outcome). o.1) (sym taken),
    )

pub returns-clause-hosts : goal.returns-clause-hosts
returns-clause-hosts c = ap (λ s. s.policies.predicates) c.in_ok-take_role.ensures.ok
