-- The first denial of the uses, and its line.
use Rattle.std.proofs.Common.{◌≡◌, ◌∙◌, Some, subst, sym}
use Rattle.std.proofs.lemmas.Option.{get_or_from_slice_get}
use Rattle.serde_json.specs.Data.{Data}
use Rattle.lq_machine.specs.States.{schemas_of}
use Rattle.lq_security.specs.Rights.{Denied, denial}
use Rattle.lq_machine.specs.Served.{denied_data}
use Rattle.lq_policy.specs.Roles.{number_of}
use Rattle.lq_use.specs.Decisions.{Tells}
use Rattle.lq_run.specs.States.{state_with}
use Rattle.lq_run.specs.Stops.{StopsWith}
use Rattle.lq_run.proofs.StopLaws.{denies}
use Rattle.lq_run.proofs.denials.check_rights.Goals as goal

pub returns-in-Err : goal.returns-in-Err
returns-in-Err c = λ predicates known.
    let tells : Tells c.policies.result.now (number_of c.role.result) c.args.used.now c.in-Err.denied.place c.in-Err.denied.rule.now = c.in-Err.ensures in
    let first : Denied = record { used = tells.used; rule = c.in-Err.denied.rule.now } in
    let some : denial c.args.state.now.policies c.args.state.now.role c.args.used.now ≡ Some first =
    (λ i. denial (sym c.policies.ensures i) (sym c.role.ensures i) c.args.used.now) ∙ tells.denied in
    let read = get_or_from_slice_get c.args.used.now c.in-Err.denied.place tells.used _ tells.at in
    denies (state_with predicates c.args.state.now) c.args.used.now first c.denial.result some
    (subst (λ (reply : Data). StopsWith reply c.denial.result)
    (λ i. denied_data (schemas_of (c.store.ensures.value i)) ((c.hosts.ensures ∙ sym known) i) c.in-Err.denied.rule.now (read i)) c.denial.ensures)
