-- What has no type, or that of null, is refused; of any other tree the first denial is answered, or it is served where nothing of it is denied.
use Rattle.std.proofs.Common.{◌≡◌, ◌∙◌, ◌++◌, Err, List, ap, false, refl, rules, true}
use Rattle.lq_value.specs.Tables.{Table}
use Rattle.lq_machine.specs.HostCalls.{run_named}
use Rattle.lq_machine.specs.States.{names_in, schemas_of}
use Rattle.lq_machine.specs.Serving.{run_in, served_type}
use Rattle.lq_language.specs.Uses.{shown_columns}
use Rattle.lq_use.specs.FormRights.{form_rights}
use Rattle.lq_run.specs.States.{state_with}
use Rattle.lq_run.proofs.CallLaws.{none_called}
use Rattle.lq_run.proofs.CallLemmas.{run_called}
use Rattle.lq_run.proofs.KnownLaws.{defined_with}
use Rattle.lq_run.proofs.ReplyLemmas.{allowed_served, denied_answered, null_refused, told_of, untyped_refused}
use Rattle.lq_run.proofs.StopLaws.{stops_as}
use Rattle.lq_run.proofs.run.run_line.Goals as goal

pub returns-in_err-tree-clause-answered : goal.returns-in_err-tree-clause-answered
returns-in_err-tree-clause-answered g c =
    let predicates = g.H.Asks.known c.args.hosts.now in
    let same : c.from_residual.result ≡ Err c.in_err-tree.field-0.0 = search rules in
    rw same (untyped_refused (state_with predicates c.args.state.now) c.args.expr.now c.in_err-tree.field-0.0
    (c.in_err-tree.ensures predicates c.requires.known))

pub returns-then-not-has_place-clause-answered : goal.returns-then-not-has_place-clause-answered
returns-then-not-has_place-clause-answered g c =
    let predicates = g.H.Asks.known c.args.hosts.now in
    let s = state_with predicates c.args.state.now in
    let null = told_of c.has_place.result false c.ty.result.now c.in_ok-tree.tree.ty c.has_place.ensures c.ty.ensures c.if-not-has_place.true in
    stops_as _ (run_in s c.args.expr.now) c.refusal.result
    (null_refused s c.args.expr.now c.in_ok-tree.tree (c.in_ok-tree.ensures predicates c.requires.known) null) c.refusal.ensures

pub returns-in_err-check_rights-clause-answered : goal.returns-in_err-check_rights-clause-answered
returns-in_err-check_rights-clause-answered g c =
    let predicates = g.H.Asks.known c.args.hosts.now in
    let defined = defined_with predicates c.args.state.now c.requires.known c.store.ensures.defined in
    let there = told_of c.has_place.result true c.ty.result.now c.in_ok-tree.tree.ty c.has_place.ensures c.ty.ensures c.if-not-has_place.false in
    let uses = c.as_slice.ensures.value ∙ c.in_ok-used.ensures
    ∙ ap (λ (tables : List Table). form_rights c.in_ok-tree.tree.form ++ shown_columns (schemas_of tables) c.in_ok-tree.tree.ty) c.store.ensures.value in
    let same : c.from_residual-in_err-check_rights.result ≡ Err c.in_err-check_rights.field-0.0 = search rules in
    rw same (denied_answered (state_with predicates c.args.state.now) defined c.in_ok-tree.tree there c.as_slice.result.now uses c.args.expr.now
    (c.in_ok-tree.ensures predicates c.requires.known) c.in_err-check_rights.field-0.0 (c.in_err-check_rights.ensures predicates c.requires.known))

pub returns-clause-answered : goal.returns-clause-answered
returns-clause-answered g c =
    let predicates = g.H.Asks.known c.args.hosts.now in
    let defined = defined_with predicates c.args.state.now c.requires.known c.store.ensures.defined in
    let there = told_of c.has_place.result true c.ty.result.now c.in_ok-tree.tree.ty c.has_place.ensures c.ty.ensures c.if-not-has_place.false in
    let uses = c.as_slice.ensures.value ∙ c.in_ok-used.ensures
    ∙ ap (λ (tables : List Table). form_rights c.in_ok-tree.tree.form ++ shown_columns (schemas_of tables) c.in_ok-tree.tree.ty) c.store.ensures.value in
    allowed_served (state_with predicates c.args.state.now) defined c.in_ok-tree.tree there c.as_slice.result.now uses c.args.expr.now
    (c.in_ok-tree.ensures predicates c.requires.known) c.in_ok-seen_line.field-0 (c.in_ok-check_rights.ensures predicates c.requires.known)
    c.in_ok-seen_line.ensures.served

pub seen_line-requires-clause-placed : goal.seen_line-requires-clause-placed
seen_line-requires-clause-placed g c =
    told_of c.has_place.result true c.ty.result.now c.in_ok-tree.tree.ty c.has_place.ensures c.ty.ensures c.if-not-has_place.false

pub returns-in_err-tree-clause-calls : goal.returns-in_err-tree-clause-calls
returns-in_err-tree-clause-calls g c =
    let predicates = g.H.Asks.known c.args.hosts.now in
    let s = state_with predicates c.args.state.now in
    none_called s (run_named s c.args.expr.now (served_type (names_in s) c.args.expr.now)) c.args.log.now

pub returns-then-not-has_place-clause-calls : goal.returns-then-not-has_place-clause-calls
returns-then-not-has_place-clause-calls g c =
    let predicates = g.H.Asks.known c.args.hosts.now in
    let s = state_with predicates c.args.state.now in
    none_called s (run_named s c.args.expr.now (served_type (names_in s) c.args.expr.now)) c.args.log.now

pub returns-in_err-used-clause-calls : goal.returns-in_err-used-clause-calls
returns-in_err-used-clause-calls g c =
    let predicates = g.H.Asks.known c.args.hosts.now in
    let s = state_with predicates c.args.state.now in
    none_called s (run_named s c.args.expr.now (served_type (names_in s) c.args.expr.now)) c.args.log.now

pub returns-in_err-check_rights-clause-calls : goal.returns-in_err-check_rights-clause-calls
returns-in_err-check_rights-clause-calls g c =
    let predicates = g.H.Asks.known c.args.hosts.now in
    let s = state_with predicates c.args.state.now in
    none_called s (run_named s c.args.expr.now (served_type (names_in s) c.args.expr.now)) c.args.log.now

pub returns-clause-calls : goal.returns-clause-calls
returns-clause-calls g c =
    let predicates = g.H.Asks.known c.args.hosts.now in
    let s = state_with predicates c.args.state.now in
    let defined = defined_with predicates c.args.state.now c.requires.known c.store.ensures.defined in
    let there = told_of c.has_place.result true c.ty.result.now c.in_ok-tree.tree.ty c.has_place.ensures c.ty.ensures c.if-not-has_place.false in
    let uses = c.as_slice.ensures.value ∙ c.in_ok-used.ensures
    ∙ ap (λ (tables : List Table). form_rights c.in_ok-tree.tree.form ++ shown_columns (schemas_of tables) c.in_ok-tree.tree.ty) c.store.ensures.value in
    run_called s defined c.in_ok-tree.tree c.args.expr.now (c.in_ok-tree.ensures predicates c.requires.known) c.args.log.now c.seen_line.new.log there c.as_slice.result.now uses
    (c.in_ok-check_rights.ensures predicates c.requires.known) c.seen_line.ensures.calls

pub returns-in_err-seen_line-clause-calls : goal.returns-in_err-seen_line-clause-calls
returns-in_err-seen_line-clause-calls g c =
    let predicates = g.H.Asks.known c.args.hosts.now in
    let s = state_with predicates c.args.state.now in
    let defined = defined_with predicates c.args.state.now c.requires.known c.store.ensures.defined in
    let there = told_of c.has_place.result true c.ty.result.now c.in_ok-tree.tree.ty c.has_place.ensures c.ty.ensures c.if-not-has_place.false in
    let uses = c.as_slice.ensures.value ∙ c.in_ok-used.ensures
    ∙ ap (λ (tables : List Table). form_rights c.in_ok-tree.tree.form ++ shown_columns (schemas_of tables) c.in_ok-tree.tree.ty) c.store.ensures.value in
    run_called s defined c.in_ok-tree.tree c.args.expr.now (c.in_ok-tree.ensures predicates c.requires.known) c.args.log.now c.seen_line.new.log there c.as_slice.result.now uses
    (c.in_ok-check_rights.ensures predicates c.requires.known) c.seen_line.ensures.calls
