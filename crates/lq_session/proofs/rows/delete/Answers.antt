-- Each refusal of a deletion is the machine's, in its turn; a fault removes nothing, and the rows that are removed are those that the machine chooses.
use Rattle.std.proofs.Common.{◌≡◌, ◌∙◌, ◌∷◌, Err, List, Some, ap, refl, rules, slice_get, sym}
use Rattle.lq_grammar.specs.declared.syntax.Statement.TheVariants as statement
use Rattle.lq_language.specs.declared.rights.Use.{Use}
use Rattle.lq_language.specs.declared.rights.Use.TheVariants as used
use Rattle.lq_machine.specs.HostCalls.{evaluated_named}
use Rattle.lq_machine.specs.Statements.{deleted}
use Rattle.lq_machine.proofs.StatementLaws.{deleted_nowhere}
use Rattle.lq_run.specs.States.{state_with}
use Rattle.lq_run.proofs.KnownLaws.{defined_with}
use Rattle.lq_run.proofs.StopLaws.{stops_with}
use Rattle.lq_run.proofs.CallLaws.{none_called}
use Rattle.lq_session.proofs.CallLemmas.{deletion_called}
use Rattle.lq_session.proofs.DeletionLemmas.{faults, kept_hosts, no_condition, removed, removed_with, unallowed, untyped}
use Rattle.lq_session.proofs.TableLemmas.{number_same, table_there}
use Rattle.lq_session.proofs.rows.delete.Goals as goal

pub returns-in_default-clause-performs : goal.returns-in_default-clause-performs
returns-in_default-clause-performs g c =
    let predicates = g.H.Asks.known c.args.hosts.now in
    let s = state_with predicates c.args.state.now in
    let number = number_same s c.store.result.now c.store.ensures.value c.args.name.now c.find.result c.find.ensures.value in (
      stops_with s _ (deleted s c.args.name.now c.args.row.now c.args.condition.now) c.refusal.result
          (deleted_nowhere s c.args.name.now c.args.row.now c.args.condition.now (sym number ∙ c.in_default.is)) c.refusal.ensures,
      refl,
    )

pub returns-in_err-tree-clause-performs : goal.returns-in_err-tree-clause-performs
returns-in_err-tree-clause-performs g c =
    let predicates = g.H.Asks.known c.args.hosts.now in
    let s = state_with predicates c.args.state.now in
    let number = number_same s c.store.result.now c.store.ensures.value c.args.name.now c.find.result c.find.ensures.value in
    let found = table_there s c.store.result.now c.store.ensures.value c.in-Some.table c.in-Some.ensures.bound in
    let same : c.from_residual.result ≡ Err c.in_err-tree.field-0.0 = search rules in
    rw same (untyped s c.args.name.now c.args.row.now c.args.condition.now c.in-Some.table found.0 (sym number ∙ c.in-Some.is) found.1 c.in_err-tree.field-0.0 (c.in_err-tree.ensures predicates c.requires.known), refl)

pub returns-then-not-is_bool-clause-performs : goal.returns-then-not-is_bool-clause-performs
returns-then-not-is_bool-clause-performs g c =
    let predicates = g.H.Asks.known c.args.hosts.now in
    let s = state_with predicates c.args.state.now in
    let number = number_same s c.store.result.now c.store.ensures.value c.args.name.now c.find.result c.find.ensures.value in
    let found = table_there s c.store.result.now c.store.ensures.value c.in-Some.table c.in-Some.ensures.bound in
    let bound = c.in_ok-tree.ensures predicates c.requires.known ∙ ap Some (sym (c.get-tree.ensures ∙ c.in_ok-holder.ensures)) in
    (no_condition s c.args.name.now c.args.row.now c.args.condition.now c.in-Some.table found.0 (sym number ∙ c.in-Some.is) found.1 c.get-tree.result.now bound c.is_bool.result c.ty.result.now c.ty.ensures c.is_bool.ensures c.refusal-then-not-is_bool.result c.if-not-is_bool.true c.refusal-then-not-is_bool.ensures, refl)

pub returns-in_err-check_rights-clause-performs : goal.returns-in_err-check_rights-clause-performs
returns-in_err-check_rights-clause-performs g c =
    let predicates = g.H.Asks.known c.args.hosts.now in
    let s = state_with predicates c.args.state.now in
    let number = number_same s c.store.result.now c.store.ensures.value c.args.name.now c.find.result c.find.ensures.value in
    let found = table_there s c.store.result.now c.store.ensures.value c.in-Some.table c.in-Some.ensures.bound in
    let bound = c.in_ok-tree.ensures predicates c.requires.known ∙ ap Some (sym (c.get-tree.ensures ∙ c.in_ok-holder.ensures)) in
    let uses = c.as_slice.ensures.value ∙ c.in_ok-insert.ensures.items ∙ ap (λ (us : List Use). used.Delete c.in-Some.table ∷ us) c.in_ok-used.ensures in
    let same : c.from_residual-in_err-check_rights.result ≡ Err c.in_err-check_rights.field-0.0 = search rules in
    rw same (
      unallowed s c.args.name.now c.args.row.now c.args.condition.now c.in-Some.table found.0 (sym number ∙ c.in-Some.is) found.1 c.get-tree.result.now bound c.is_bool.result c.ty.result.now c.ty.ensures c.is_bool.ensures c.if-not-is_bool.false (defined_with predicates c.args.state.now c.requires.known c.store-2.ensures.defined) c.as_slice.result.now uses c.in_err-check_rights.field-0.0 (c.in_err-check_rights.ensures predicates c.requires.known),
      refl,
    )

pub returns-in-Fault-clause-performs : goal.returns-in-Fault-clause-performs
returns-in-Fault-clause-performs g c =
    let predicates = g.H.Asks.known c.args.hosts.now in
    let s = state_with predicates c.args.state.now in
    let number = number_same s c.store.result.now c.store.ensures.value c.args.name.now c.find.result c.find.ensures.value in
    let found = table_there s c.store.result.now c.store.ensures.value c.in-Some.table c.in-Some.ensures.bound in
    let bound = c.in_ok-tree.ensures predicates c.requires.known ∙ ap Some (sym (c.get-tree.ensures ∙ c.in_ok-holder.ensures)) in
    let uses = c.as_slice.ensures.value ∙ c.in_ok-insert.ensures.items ∙ ap (λ (us : List Use). used.Delete c.in-Some.table ∷ us) c.in_ok-used.ensures in
    let chose = c.in_ok-numbers.ensures.chosen c.args.row.now c.args.condition.now found.0 found.1 bound in (
      faults s c.args.name.now c.args.row.now c.args.condition.now c.in-Some.table found.0 (sym number ∙ c.in-Some.is) found.1 c.get-tree.result.now bound c.is_bool.result c.ty.result.now c.ty.ensures c.is_bool.ensures c.if-not-is_bool.false (defined_with predicates c.args.state.now c.requires.known c.store-2.ensures.defined) c.as_slice.result.now uses (c.in_ok-check_rights.ensures predicates c.requires.known) c.in-Fault.met c.fault.result (sym chose.1 ∙ c.in-Fault.is) c.fault.ensures,
      refl,
    )

pub returns-clause-performs : goal.returns-clause-performs
returns-clause-performs g c =
    let predicates = g.H.Asks.known c.args.hosts.now in
    let s = state_with predicates c.args.state.now in
    let number = number_same s c.store.result.now c.store.ensures.value c.args.name.now c.find.result c.find.ensures.value in
    let found = table_there s c.store.result.now c.store.ensures.value c.in-Some.table c.in-Some.ensures.bound in
    let bound = c.in_ok-tree.ensures predicates c.requires.known ∙ ap Some (sym (c.get-tree.ensures ∙ c.in_ok-holder.ensures)) in
    let uses = c.as_slice.ensures.value ∙ c.in_ok-insert.ensures.items ∙ ap (λ (us : List Use). used.Delete c.in-Some.table ∷ us) c.in_ok-used.ensures in
    let chose = c.in_ok-numbers.ensures.chosen c.args.row.now c.args.condition.now found.0 found.1 bound in
    removed s c.args.name.now c.args.row.now c.args.condition.now c.in-Some.table found.0 (sym number ∙ c.in-Some.is) found.1 c.get-tree.result.now bound c.is_bool.result c.ty.result.now c.ty.ensures c.is_bool.ensures c.if-not-is_bool.false (defined_with predicates c.args.state.now c.requires.known c.store-2.ensures.defined) c.as_slice.result.now uses (c.in_ok-check_rights.ensures predicates c.requires.known) c.in_ok-line-in-Done.line c.deref.result.now c.len.result c.delete_rows.result
    (state_with predicates c.delete_rows.new.self) (sym chose.1 ∙ c.in-Done.is) (c.deref.ensures.value ∙ chose.0) (c.len.ensures ∙ sym c.deref.ensures.len)
    c.in_ok-line-in-Done.ensures
    (removed_with predicates c.args.state.now c.delete_rows.new.self c.in-Some.table c.delete_rows.result c.deref.result.now
    (slice_get c.args.state.now.tables c.in-Some.table) c.delete_rows.ensures)

pub returns-clause-hosts : goal.returns-clause-hosts
returns-clause-hosts g c =
    let s = state_with (g.H.Asks.known c.args.hosts.now) c.args.state.now in
    let found = table_there s c.store.result.now c.store.ensures.value c.in-Some.table c.in-Some.ensures.bound in
    kept_hosts c.args.state.now c.delete_rows.new.self c.in-Some.table c.delete_rows.result c.deref.result.now found.0 found.1 c.delete_rows.ensures

-- ---- the log

pub returns-in_default-clause-calls : goal.returns-in_default-clause-calls
returns-in_default-clause-calls g c =
    let s = state_with (g.H.Asks.known c.args.hosts.now) c.args.state.now in
    none_called s (evaluated_named s (statement.Delete c.args.name.now c.args.row.now c.args.condition.now)) c.args.log.now

pub returns-in_err-tree-clause-calls : goal.returns-in_err-tree-clause-calls
returns-in_err-tree-clause-calls g c =
    let s = state_with (g.H.Asks.known c.args.hosts.now) c.args.state.now in
    none_called s (evaluated_named s (statement.Delete c.args.name.now c.args.row.now c.args.condition.now)) c.args.log.now

pub returns-in_err-holder-clause-calls : goal.returns-in_err-holder-clause-calls
returns-in_err-holder-clause-calls g c =
    let s = state_with (g.H.Asks.known c.args.hosts.now) c.args.state.now in
    none_called s (evaluated_named s (statement.Delete c.args.name.now c.args.row.now c.args.condition.now)) c.args.log.now

pub returns-then-not-is_bool-clause-calls : goal.returns-then-not-is_bool-clause-calls
returns-then-not-is_bool-clause-calls g c =
    let s = state_with (g.H.Asks.known c.args.hosts.now) c.args.state.now in
    none_called s (evaluated_named s (statement.Delete c.args.name.now c.args.row.now c.args.condition.now)) c.args.log.now

pub returns-in_err-used-clause-calls : goal.returns-in_err-used-clause-calls
returns-in_err-used-clause-calls g c =
    let s = state_with (g.H.Asks.known c.args.hosts.now) c.args.state.now in
    none_called s (evaluated_named s (statement.Delete c.args.name.now c.args.row.now c.args.condition.now)) c.args.log.now

pub returns-in_err-insert-clause-calls : goal.returns-in_err-insert-clause-calls
returns-in_err-insert-clause-calls g c =
    let s = state_with (g.H.Asks.known c.args.hosts.now) c.args.state.now in
    none_called s (evaluated_named s (statement.Delete c.args.name.now c.args.row.now c.args.condition.now)) c.args.log.now

pub returns-in_err-check_rights-clause-calls : goal.returns-in_err-check_rights-clause-calls
returns-in_err-check_rights-clause-calls g c =
    let s = state_with (g.H.Asks.known c.args.hosts.now) c.args.state.now in
    none_called s (evaluated_named s (statement.Delete c.args.name.now c.args.row.now c.args.condition.now)) c.args.log.now

pub returns-in_err-numbers-clause-calls : goal.returns-in_err-numbers-clause-calls
returns-in_err-numbers-clause-calls g c =
    let predicates = g.H.Asks.known c.args.hosts.now in
    let s = state_with predicates c.args.state.now in
    let n = c.in-Some.table in
    let number = number_same s c.store.result.now c.store.ensures.value c.args.name.now c.find.result c.find.ensures.value in
    let bound = c.in_ok-tree.ensures predicates c.requires.known ∙ ap Some (sym (c.get-tree.ensures ∙ c.in_ok-holder.ensures)) in
    let uses = c.as_slice.ensures.value ∙ c.in_ok-insert.ensures.items ∙ ap (λ (us : List Use). used.Delete n ∷ us) c.in_ok-used.ensures in
    deletion_called s c.args.condition.now c.args.log.now c.chosen_rows.new.log c.args.name.now c.args.row.now n (sym number ∙ c.in-Some.is) c.get-tree.result.now
    bound c.is_bool.result c.ty.result.now c.ty.ensures c.is_bool.ensures c.if-not-is_bool.false
    (defined_with predicates c.args.state.now c.requires.known c.store-2.ensures.defined) c.as_slice.result.now uses
    (c.in_ok-check_rights.ensures predicates c.requires.known) c.chosen_rows.ensures.calls

pub returns-in-Fault-clause-calls : goal.returns-in-Fault-clause-calls
returns-in-Fault-clause-calls g c =
    let predicates = g.H.Asks.known c.args.hosts.now in
    let s = state_with predicates c.args.state.now in
    let n = c.in-Some.table in
    let number = number_same s c.store.result.now c.store.ensures.value c.args.name.now c.find.result c.find.ensures.value in
    let bound = c.in_ok-tree.ensures predicates c.requires.known ∙ ap Some (sym (c.get-tree.ensures ∙ c.in_ok-holder.ensures)) in
    let uses = c.as_slice.ensures.value ∙ c.in_ok-insert.ensures.items ∙ ap (λ (us : List Use). used.Delete n ∷ us) c.in_ok-used.ensures in
    deletion_called s c.args.condition.now c.args.log.now c.chosen_rows.new.log c.args.name.now c.args.row.now n (sym number ∙ c.in-Some.is) c.get-tree.result.now
    bound c.is_bool.result c.ty.result.now c.ty.ensures c.is_bool.ensures c.if-not-is_bool.false
    (defined_with predicates c.args.state.now c.requires.known c.store-2.ensures.defined) c.as_slice.result.now uses
    (c.in_ok-check_rights.ensures predicates c.requires.known) c.chosen_rows.ensures.calls

pub returns-in_err-line-in-Done-clause-calls : goal.returns-in_err-line-in-Done-clause-calls
returns-in_err-line-in-Done-clause-calls g c =
    let predicates = g.H.Asks.known c.args.hosts.now in
    let s = state_with predicates c.args.state.now in
    let n = c.in-Some.table in
    let number = number_same s c.store.result.now c.store.ensures.value c.args.name.now c.find.result c.find.ensures.value in
    let bound = c.in_ok-tree.ensures predicates c.requires.known ∙ ap Some (sym (c.get-tree.ensures ∙ c.in_ok-holder.ensures)) in
    let uses = c.as_slice.ensures.value ∙ c.in_ok-insert.ensures.items ∙ ap (λ (us : List Use). used.Delete n ∷ us) c.in_ok-used.ensures in
    deletion_called s c.args.condition.now c.args.log.now c.chosen_rows.new.log c.args.name.now c.args.row.now n (sym number ∙ c.in-Some.is) c.get-tree.result.now
    bound c.is_bool.result c.ty.result.now c.ty.ensures c.is_bool.ensures c.if-not-is_bool.false
    (defined_with predicates c.args.state.now c.requires.known c.store-2.ensures.defined) c.as_slice.result.now uses
    (c.in_ok-check_rights.ensures predicates c.requires.known) c.chosen_rows.ensures.calls

pub returns-clause-calls : goal.returns-clause-calls
returns-clause-calls g c =
    let predicates = g.H.Asks.known c.args.hosts.now in
    let s = state_with predicates c.args.state.now in
    let n = c.in-Some.table in
    let number = number_same s c.store.result.now c.store.ensures.value c.args.name.now c.find.result c.find.ensures.value in
    let bound = c.in_ok-tree.ensures predicates c.requires.known ∙ ap Some (sym (c.get-tree.ensures ∙ c.in_ok-holder.ensures)) in
    let uses = c.as_slice.ensures.value ∙ c.in_ok-insert.ensures.items ∙ ap (λ (us : List Use). used.Delete n ∷ us) c.in_ok-used.ensures in
    deletion_called s c.args.condition.now c.args.log.now c.chosen_rows.new.log c.args.name.now c.args.row.now n (sym number ∙ c.in-Some.is) c.get-tree.result.now
    bound c.is_bool.result c.ty.result.now c.ty.ensures c.is_bool.ensures c.if-not-is_bool.false
    (defined_with predicates c.args.state.now c.requires.known c.store-2.ensures.defined) c.as_slice.result.now uses
    (c.in_ok-check_rights.ensures predicates c.requires.known) c.chosen_rows.ensures.calls
