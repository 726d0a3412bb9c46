-- The tables are those that the role sees.
use Rattle.std.proofs.Common.{List, [], subst, sym}
use Rattle.lq_plan.specs.declared.tables.TableRows.{TableRows}
use Rattle.lq_pull.specs.Readers.{AreSeen}
use Rattle.lq_pull.specs.Views.{sight_of}
use Rattle.lq_pull.specs.declared.readers.Reader.{Reader}
use Rattle.lq_pull.proofs.WholeLemmas.{calls_seen, found_seen}
use Rattle.lq_pull.proofs.whole.value_seen.Goals as goal

pub returns-clause-meant : goal.returns-clause-meant
returns-clause-meant g c =
    let predicates = g.H.Asks.known c.args.hosts.now in
    let s = sight_of c.args.view.now in
    let form = c.args.tree.now.form in
    let seen = subst (λ (ts : List (TableRows Reader)). AreSeen s ts) (sym c.as_slice-2.ensures.value) c.in_ok-tables.ensures.seen in
    found_seen s predicates c.as_slice-2.result.now seen form c.value.result c.found.result c.value.ensures.meant c.found.ensures

pub returns-clause-calls : goal.returns-clause-calls
returns-clause-calls g c =
    let predicates = g.H.Asks.known c.args.hosts.now in
    let s = sight_of c.args.view.now in
    let seen = subst (λ (ts : List (TableRows Reader)). AreSeen s ts) (sym c.as_slice-2.ensures.value) c.in_ok-tables.ensures.seen in
    calls_seen s predicates c.as_slice-2.result.now seen c.args.tree.now.form [] c.args.log.now c.value.new.log c.value.ensures.calls
