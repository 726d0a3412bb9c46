-- Each refusal of a row is the machine's, in its turn, and the row is put in where there is none.
use Rattle.std.proofs.Common.{◌≡◌, ◌∙◌, Err, List, ap, refl, rules, subst, sym}
use Rattle.lq_value.specs.Tables.{Table}
use Rattle.lq_value.specs.declared.scalar.Scalar.{Scalar}
use Rattle.lq_machine.specs.Statements.{inserted}
use Rattle.lq_machine.proofs.StatementLaws.{inserted_nowhere}
use Rattle.lq_store.specs.Calls.{insertion_refusal_of}
use Rattle.lq_security.specs.Visible.{refuser_of}
use Rattle.lq_run.specs.States.{SessionState, state_with}
use Rattle.lq_run.proofs.StopLaws.{stops_with}
use Rattle.lq_session.specs.Rows.{ChecksRow}
use Rattle.lq_session.proofs.InsertLemmas.{full, kept_out, outside, put, stays, unallowed, untyped}
use Rattle.lq_session.proofs.TableLemmas.{number_same, table_there}
use Rattle.lq_session.proofs.rows.insert.Goals as goal

pub returns-in_default-clause-performs : goal.returns-in_default-clause-performs
returns-in_default-clause-performs c = λ predicates known.
    let s = state_with predicates c.args.state.now in
    let number = number_same s c.store.result.now c.store.ensures.value c.args.name.now c.find.result c.find.ensures.value in (
      stops_with s _ (inserted s c.args.name.now c.args.cells.items) c.refusal.result
          (inserted_nowhere s c.args.name.now c.args.cells.items (sym number ∙ c.in_default.is)) c.refusal.ensures,
      refl,
    )

pub returns-then-not-is_typed-clause-performs : goal.returns-then-not-is_typed-clause-performs
returns-then-not-is_typed-clause-performs c = λ predicates known.
    let s = state_with predicates c.args.state.now in
    let number = number_same s c.store.result.now c.store.ensures.value c.args.name.now c.find.result c.find.ensures.value in
    let found = table_there s c.store.result.now c.store.ensures.value c.in-Some.table c.in-Some.ensures.bound in
    let says = c.refusal-verdict.ensures ∙ (λ i. insertion_refusal_of (c.store-2.ensures.value i) c.in-Some.table (c.as_slice.ensures.value i)) in
    (untyped s c.args.name.now c.args.cells.items c.in-Some.table found.0 (sym number ∙ c.in-Some.is) found.1 c.refusal-verdict.result says c.refusal-then-not-is_typed.result (sym c.is_typed.ensures ∙ c.if-not-is_typed.true) c.refusal-then-not-is_typed.ensures, refl)

pub returns-in_err-check_rights-clause-performs : goal.returns-in_err-check_rights-clause-performs
returns-in_err-check_rights-clause-performs c = λ predicates known.
    let s = state_with predicates c.args.state.now in
    let number = number_same s c.store.result.now c.store.ensures.value c.args.name.now c.find.result c.find.ensures.value in
    let found = table_there s c.store.result.now c.store.ensures.value c.in-Some.table c.in-Some.ensures.bound in
    let says = c.refusal-verdict.ensures ∙ (λ i. insertion_refusal_of (c.store-2.ensures.value i) c.in-Some.table (c.as_slice.ensures.value i)) in
    let same : c.from_residual.result ≡ Err c.in_err-check_rights.field-0.0 = search rules in
    rw same (
      unallowed s c.args.name.now c.args.cells.items c.in-Some.table found.0 (sym number ∙ c.in-Some.is) found.1 c.refusal-verdict.result says (sym c.is_typed.ensures ∙ c.if-not-is_typed.false) c.in_err-check_rights.field-0.0 (c.in_err-check_rights.ensures predicates known),
      refl,
    )

pub returns-then-not-is_within-clause-performs : goal.returns-then-not-is_within-clause-performs
returns-then-not-is_within-clause-performs c = λ predicates known.
    let s = state_with predicates c.args.state.now in
    let number = number_same s c.store.result.now c.store.ensures.value c.args.name.now c.find.result c.find.ensures.value in
    let found = table_there s c.store.result.now c.store.ensures.value c.in-Some.table c.in-Some.ensures.bound in
    let says = c.refusal-verdict.ensures ∙ (λ i. insertion_refusal_of (c.store-2.ensures.value i) c.in-Some.table (c.as_slice.ensures.value i)) in (
      outside s c.args.name.now c.args.cells.items c.in-Some.table found.0 (sym number ∙ c.in-Some.is) found.1 c.refusal-verdict.result says (sym c.is_typed.ensures ∙ c.if-not-is_typed.false) (c.in_ok-check_rights.ensures predicates known) c.refusal-then-not-is_within.result
          (sym c.is_within.ensures ∙ c.if-not-is_within.true) c.refusal-then-not-is_within.ensures,
      refl,
    )

pub returns-in_err-check_row-clause-performs : goal.returns-in_err-check_row-clause-performs
returns-in_err-check_row-clause-performs c = λ predicates known.
    let s = state_with predicates c.args.state.now in
    let number = number_same s c.store.result.now c.store.ensures.value c.args.name.now c.find.result c.find.ensures.value in
    let found = table_there s c.store.result.now c.store.ensures.value c.in-Some.table c.in-Some.ensures.bound in
    let says = c.refusal-verdict.ensures ∙ (λ i. insertion_refusal_of (c.store-2.ensures.value i) c.in-Some.table (c.as_slice.ensures.value i)) in
    let same : c.from_residual-in_err-check_row.result ≡ Err c.in_err-check_row.field-0.0 = search rules in
    rw same (
      kept_out s c.args.name.now c.args.cells.items c.in-Some.table found.0 (sym number ∙ c.in-Some.is) found.1 c.refusal-verdict.result says (sym c.is_typed.ensures ∙ c.if-not-is_typed.false) (c.in_ok-check_rights.ensures predicates known)
          (sym c.is_within.ensures ∙ c.if-not-is_within.false) c.in_err-check_row.field-0.0
          (subst (λ (given : List Scalar). ChecksRow s c.in-Some.table given (Err c.in_err-check_row.field-0.0)) c.as_slice-2.ensures.value
          (c.in_err-check_row.ensures predicates known)),
      refl,
    )

pub returns-then-is_full-clause-performs : goal.returns-then-is_full-clause-performs
returns-then-is_full-clause-performs c = λ predicates known.
    let s = state_with predicates c.args.state.now in
    let number = number_same s c.store.result.now c.store.ensures.value c.args.name.now c.find.result c.find.ensures.value in
    let found = table_there s c.store.result.now c.store.ensures.value c.in-Some.table c.in-Some.ensures.bound in
    let says = c.refusal-verdict.ensures ∙ (λ i. insertion_refusal_of (c.store-2.ensures.value i) c.in-Some.table (c.as_slice.ensures.value i)) in (
      full s c.args.name.now c.args.cells.items c.in-Some.table found.0 (sym number ∙ c.in-Some.is) found.1 c.refusal-verdict.result says (sym c.is_typed.ensures ∙ c.if-not-is_typed.false) (c.in_ok-check_rights.ensures predicates known)
          (sym c.is_within.ensures ∙ c.if-not-is_within.false) ((λ i. refuser_of c.args.state.now.policies c.args.state.now.role c.in-Some.table (sym c.as_slice-2.ensures.value i)) ∙ c.in_ok-check_row.ensures predicates known) c.refusal-then-is_full.result
          (sym c.is_full.ensures ∙ c.if-is_full.true) c.refusal-then-is_full.ensures,
      refl,
    )

pub returns-in-Ok-clause-performs : goal.returns-in-Ok-clause-performs
returns-in-Ok-clause-performs c = λ predicates known.
    let s = state_with predicates c.args.state.now in
    let number = number_same s c.store.result.now c.store.ensures.value c.args.name.now c.find.result c.find.ensures.value in
    let found = table_there s c.store.result.now c.store.ensures.value c.in-Some.table c.in-Some.ensures.bound in
    let says = c.refusal-verdict.ensures ∙ (λ i. insertion_refusal_of (c.store-2.ensures.value i) c.in-Some.table (c.as_slice.ensures.value i)) in
    put s c.args.name.now c.args.cells.items c.in-Some.table found.0 (sym number ∙ c.in-Some.is) found.1 c.refusal-verdict.result says (sym c.is_typed.ensures ∙ c.if-not-is_typed.false) (c.in_ok-check_rights.ensures predicates known)
    (sym c.is_within.ensures ∙ c.if-not-is_within.false) ((λ i. refuser_of c.args.state.now.policies c.args.state.now.role c.in-Some.table (sym c.as_slice-2.ensures.value i)) ∙ c.in_ok-check_row.ensures predicates known) c.in_ok-line.line c.in-Ok.field-0 c.insert.new.self.tables
    (state_with predicates c.insert.new.self) (sym c.is_full.ensures ∙ c.if-is_full.false) c.in_ok-line.ensures c.in-Ok.ensures.tables
    (ap (state_with predicates) c.in-Ok.ensures.rest)

pub returns-in-Err-clause-performs : goal.returns-in-Err-clause-performs
returns-in-Err-clause-performs c = λ predicates known.
    let s = state_with predicates c.args.state.now in
    let found = table_there s c.store.result.now c.store.ensures.value c.in-Some.table c.in-Some.ensures.bound in (
      tt,
      c.in-Err.ensures.rest
          ∙ ap (λ (tables : List Table). let there : SessionState = record c.args.state.now { tables = tables } in there)
          (stays c.args.state.now.tables c.insert.new.self.tables c.in-Some.table c.args.cells.items _ found.0 found.1 c.in-Err.ensures.tables),
    )

pub returns-in-Ok-clause-hosts : goal.returns-in-Ok-clause-hosts
returns-in-Ok-clause-hosts c = ap (λ s. s.policies.predicates) c.in-Ok.ensures.rest

pub returns-in-Err-clause-hosts : goal.returns-in-Err-clause-hosts
returns-in-Err-clause-hosts c = ap (λ s. s.policies.predicates) c.in-Err.ensures.rest
