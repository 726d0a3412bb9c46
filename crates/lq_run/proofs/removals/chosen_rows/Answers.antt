-- The numbers are those of the rows that the machine chooses, and the calls that are made are those that the statement may make.
use Rattle.std.proofs.Common.{◌≡◌, ◌<◌, IfOk, length, refl, slice_get, subst, sym}
use Rattle.lq_language.specs.ValuesOfTypes.{Every}
use Rattle.lq_security.specs.declared.policy.Action.TheVariants as action
use Rattle.lq_store.specs.Rules.{IsTable}
use Rattle.lq_tree.specs.AllowedCalls.{AddsOwnCalls}
use Rattle.lq_guard.specs.SeenRows.{number_of_row}
use Rattle.lq_pipe.specs.Conditions.{numbers_true}
use Rattle.lq_pull.specs.Views.{Sight, row_facts, rows_for, world_seen}
use Rattle.lq_run.specs.States.{sight, state_with}
use Rattle.lq_run.proofs.CallLemmas.{deletion_called, rows_called}
use Rattle.lq_run.proofs.KnownLaws.{defined_with}
use Rattle.lq_run.proofs.RemovalCallLemmas.{removable_seen}
use Rattle.lq_run.proofs.RemovalLemmas.{chooses}
use Rattle.lq_run.proofs.removals.chosen_rows.Goals as goal

pub removable_numbers-requires : goal.removable_numbers-requires
removable_numbers-requires g c = subst (λ (s : Sight). c.args.table < length s.tables) (sym c.view.ensures.value) c.requires.within

pub returns-clause-chosen : goal.returns-clause-chosen
returns-clause-chosen g c =
    let predicates = g.H.Asks.known c.args.hosts.now in
    let form = c.args.condition.now.form in
    let found = c.removable_numbers.result in
    chooses (state_with predicates c.args.state.now) (defined_with predicates c.args.state.now c.requires.known c.view.ensures.defined) c.args.table
    c.args.condition.now found
    (subst (λ (s : Sight). IfOk found (λ f. (f.0.items, f.1) ≡ numbers_true (world_seen s predicates) number_of_row form (rows_for s action.Delete c.args.table)))
    c.view.ensures.value c.removable_numbers.ensures.meant)
    (subst (λ (s : Sight). IfOk found (λ f. Every IsTable s.tables)) c.view.ensures.value c.removable_numbers.ensures.rules)

pub returns-clause-calls : goal.returns-clause-calls
returns-clause-calls g c =
    let predicates = g.H.Asks.known c.args.hosts.now in
    let s = state_with predicates c.args.state.now in
    let form = c.args.condition.now.form in
    let seen = sight c.args.state.now in
    λ x e is may.
    deletion_called s (defined_with predicates c.args.state.now c.requires.known c.view.ensures.defined) c.args.table c.args.condition.now x e is may
    c.args.log.now c.removable_numbers.new.log
    (rows_called s form (rows_for seen action.Delete c.args.table) (removable_seen s c.args.table (slice_get s.tables c.args.table) refl)
    c.args.log.now c.removable_numbers.new.log
    (subst (λ (v : Sight). AddsOwnCalls (world_seen v predicates) row_facts form (rows_for v action.Delete c.args.table) c.args.log.now c.removable_numbers.new.log)
    c.view.ensures.value c.removable_numbers.ensures.calls))
