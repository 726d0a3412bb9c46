-- What the tree gives over the rows that the role sees is what the machine makes of the expression.
use Rattle.std.proofs.Common.{[], ap, ◌∙◌, subst, sym}
use Rattle.lq_language.specs.ValuesOfTypes.{Every}
use Rattle.lq_store.specs.Rules.{IsTable}
use Rattle.lq_tree.specs.AllowedCalls.{AddsOwnCalls}
use Rattle.lq_tree.specs.FormMeaning.{form_meaning}
use Rattle.lq_pull.specs.Views.{Sight, row_facts, world_seen}
use Rattle.lq_run.specs.States.{state_with}
use Rattle.lq_run.proofs.CallLemmas.{seen_called}
use Rattle.lq_run.proofs.KnownLaws.{defined_with}
use Rattle.lq_run.proofs.ScalarLemmas.{yields_fault, yields_other, yields_scalar}
use Rattle.lq_run.proofs.scalars.evaluate_seen.Goals as goal

pub returns-in-Some-clause-yields : goal.returns-in-Some-clause-yields
returns-in-Some-clause-yields g c =
    let predicates = g.H.Asks.known c.args.hosts.now in
    let tree = c.args.tree.now in
    let kept = subst (λ (s : Sight). Every IsTable s.tables) c.view.ensures.value c.in_ok-found.ensures.rules in
    yields_scalar (state_with predicates c.args.state.now) kept (defined_with predicates c.args.state.now c.requires.known c.view.ensures.defined) tree
    c.requires.scalar c.in-Ok.found c.in-Some.scalar
    (ap (λ (s : Sight). form_meaning (world_seen s predicates) tree.form []) (sym c.view.ensures.value) ∙ sym (sym c.in-Ok.is ∙ c.in_ok-found.ensures.meant))
    c.in-Some.ensures

pub returns-in-None-clause-yields : goal.returns-in-None-clause-yields
returns-in-None-clause-yields g c =
    let predicates = g.H.Asks.known c.args.hosts.now in
    let tree = c.args.tree.now in
    let kept = subst (λ (s : Sight). Every IsTable s.tables) c.view.ensures.value c.in_ok-found.ensures.rules in
    yields_other (state_with predicates c.args.state.now) kept (defined_with predicates c.args.state.now c.requires.known c.view.ensures.defined) tree
    c.in-Ok.found c.refusal.result
    (ap (λ (s : Sight). form_meaning (world_seen s predicates) tree.form []) (sym c.view.ensures.value) ∙ sym (sym c.in-Ok.is ∙ c.in_ok-found.ensures.meant))
    c.in-None.ensures c.refusal.ensures

pub returns-in-Err-clause-yields : goal.returns-in-Err-clause-yields
returns-in-Err-clause-yields g c =
    let predicates = g.H.Asks.known c.args.hosts.now in
    let tree = c.args.tree.now in
    let kept = subst (λ (s : Sight). Every IsTable s.tables) c.view.ensures.value c.in_ok-found.ensures.rules in
    yields_fault (state_with predicates c.args.state.now) kept (defined_with predicates c.args.state.now c.requires.known c.view.ensures.defined) tree
    c.in-Err.met c.fault.result
    (ap (λ (s : Sight). form_meaning (world_seen s predicates) tree.form []) (sym c.view.ensures.value) ∙ sym (sym c.in-Err.is ∙ c.in_ok-found.ensures.meant))
    c.fault.ensures

pub returns-in-Some-clause-calls : goal.returns-in-Some-clause-calls
returns-in-Some-clause-calls g c =
    let predicates = g.H.Asks.known c.args.hosts.now in
    let form = c.args.tree.now.form in
    seen_called (state_with predicates c.args.state.now) form c.args.log.now c.value_seen.new.log
    (subst (λ (s : Sight). AddsOwnCalls (world_seen s predicates) row_facts form [] c.args.log.now c.value_seen.new.log) c.view.ensures.value c.value_seen.ensures.calls)

pub returns-in-None-clause-calls : goal.returns-in-None-clause-calls
returns-in-None-clause-calls g c =
    let predicates = g.H.Asks.known c.args.hosts.now in
    let form = c.args.tree.now.form in
    seen_called (state_with predicates c.args.state.now) form c.args.log.now c.value_seen.new.log
    (subst (λ (s : Sight). AddsOwnCalls (world_seen s predicates) row_facts form [] c.args.log.now c.value_seen.new.log) c.view.ensures.value c.value_seen.ensures.calls)

pub returns-in-Err-clause-calls : goal.returns-in-Err-clause-calls
returns-in-Err-clause-calls g c =
    let predicates = g.H.Asks.known c.args.hosts.now in
    let form = c.args.tree.now.form in
    seen_called (state_with predicates c.args.state.now) form c.args.log.now c.value_seen.new.log
    (subst (λ (s : Sight). AddsOwnCalls (world_seen s predicates) row_facts form [] c.args.log.now c.value_seen.new.log) c.view.ensures.value c.value_seen.ensures.calls)

pub returns-in_err-found-clause-calls : goal.returns-in_err-found-clause-calls
returns-in_err-found-clause-calls g c =
    let predicates = g.H.Asks.known c.args.hosts.now in
    let form = c.args.tree.now.form in
    seen_called (state_with predicates c.args.state.now) form c.args.log.now c.value_seen.new.log
    (subst (λ (s : Sight). AddsOwnCalls (world_seen s predicates) row_facts form [] c.args.log.now c.value_seen.new.log) c.view.ensures.value c.value_seen.ensures.calls)
