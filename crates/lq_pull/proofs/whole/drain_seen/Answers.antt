-- The tables are those that the role sees.
use Rattle.std.proofs.Common.{List, [], IfOk, subst, sym}
use Rattle.lq_language.specs.OperandMeaning.{stream_of}
use Rattle.lq_language.specs.TableRows.{TableRow}
use Rattle.lq_language.specs.Worlds.{World}
use Rattle.lq_tree.specs.FormMeaning.{form_meaning}
use Rattle.lq_plan.specs.declared.tables.TableRows.{TableRows}
use Rattle.lq_sink.specs.Draining.{Drains}
use Rattle.lq_pull.specs.Readers.{AreSeen}
use Rattle.lq_pull.specs.Views.{sight_of}
use Rattle.lq_pull.specs.declared.readers.Reader.{Reader}
use Rattle.lq_pull.proofs.WholeLemmas.{calls_seen, is_seen}
use Rattle.lq_pull.proofs.whole.drain_seen.Goals as goal

pub returns-clause-meant : goal.returns-clause-meant
returns-clause-meant g c =
    let predicates = g.H.Asks.known c.args.hosts.now in
    let s = sight_of c.args.view.now in
    let form = c.args.tree.now.form in
    let seen = subst (λ (ts : List (TableRows Reader)). AreSeen s ts) (sym c.as_slice-2.ensures.value) c.in_ok-tables.ensures.seen in
    subst (λ (w : World TableRow). IfOk c.drain.result (λ answer. Drains g.K.Sink.takes (stream_of w (form_meaning w form [])).0 (stream_of w (form_meaning w form [])).1 c.args.sink.now answer c.drain.new.sink))
    (is_seen s predicates c.as_slice-2.result.now seen) c.drain.ensures.meant

pub returns-clause-calls : goal.returns-clause-calls
returns-clause-calls g c =
    let predicates = g.H.Asks.known c.args.hosts.now in
    let s = sight_of c.args.view.now in
    let seen = subst (λ (ts : List (TableRows Reader)). AreSeen s ts) (sym c.as_slice-2.ensures.value) c.in_ok-tables.ensures.seen in
    calls_seen s predicates c.as_slice-2.result.now seen c.args.tree.now.form [] c.args.log.now c.drain.new.log c.drain.ensures.calls
