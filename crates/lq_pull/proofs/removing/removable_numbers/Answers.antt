-- The scan hands out the rows that may be removed, and the tables are those that the role sees.
use Rattle.std.proofs.Common.{◌≡◌, List, IfOk, subst, sym, slice_get}
use Rattle.lq_language.specs.TableRows.{TableRow}
use Rattle.lq_language.specs.Worlds.{World}
use Rattle.lq_security.specs.declared.policy.Action.TheVariants as action
use Rattle.lq_tree.specs.AllowedCalls.{AddsOwnCalls}
use Rattle.lq_guard.specs.SeenRows as seen_rows
use Rattle.lq_pipe.specs.Conditions.{numbers_true}
use Rattle.lq_plan.specs.declared.tables.TableRows.{TableRows}
use Rattle.lq_pull.specs.Readers.{AreSeen}
use Rattle.lq_pull.specs.Views.{row_facts, rows_for, sight_of}
use Rattle.lq_pull.specs.declared.readers.Reader.{Reader}
use Rattle.lq_pull.proofs.WholeLemmas.{are_those, calls_seen, is_seen, read}
use Rattle.lq_pull.proofs.removing.removable_numbers.Goals as goal

pub returns-clause-meant : goal.returns-clause-meant
returns-clause-meant g c =
    let predicates = g.H.Asks.known c.args.hosts.now in
    let s = sight_of c.args.view.now in
    let form = c.args.condition.now.form in
    let seen = subst (λ (ts : List (TableRows Reader)). AreSeen s ts) (sym c.as_slice-3.ensures.value) c.in_ok-tables.ensures.seen in
    let those = are_those s action.Delete c.args.table (slice_get s.tables c.args.table) (seen_rows.rows_left c.scan.result) c.scan.ensures in
    subst (λ (w : World TableRow). IfOk c.numbers_where.result
    (λ found. (found.0.items, found.1) ≡ numbers_true w seen_rows.number_of_row form (rows_for s action.Delete c.args.table)))
    (is_seen s predicates c.as_slice-3.result.now seen)
    (subst (λ (rows : List TableRow). IfOk c.numbers_where.result
    (λ found. (found.0.items, found.1) ≡ numbers_true (read s predicates c.as_slice-3.result.now seen) seen_rows.number_of_row form rows))
    those c.numbers_where.ensures.meant)

pub returns-clause-calls : goal.returns-clause-calls
returns-clause-calls g c =
    let predicates = g.H.Asks.known c.args.hosts.now in
    let s = sight_of c.args.view.now in
    let form = c.args.condition.now.form in
    let seen = subst (λ (ts : List (TableRows Reader)). AreSeen s ts) (sym c.as_slice-3.ensures.value) c.in_ok-tables.ensures.seen in
    let those = are_those s action.Delete c.args.table (slice_get s.tables c.args.table) (seen_rows.rows_left c.scan.result) c.scan.ensures in
    calls_seen s predicates c.as_slice-3.result.now seen form (rows_for s action.Delete c.args.table) c.args.log.now c.numbers_where.new.log
    (subst (λ (rows : List TableRow). AddsOwnCalls (read s predicates c.as_slice-3.result.now seen) row_facts form rows c.args.log.now c.numbers_where.new.log)
    those c.numbers_where.ensures.calls)
