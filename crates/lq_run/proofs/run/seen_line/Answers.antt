-- What is served of the tree over the rows that the role sees is the machine's reply.
use Rattle.std.proofs.Common.{◌≡◌, [], IfOk, subst}
use Rattle.lq_language.specs.ValuesOfTypes.{Every}
use Rattle.lq_machine.specs.States.{cells_of, schemas_of}
use Rattle.lq_machine.specs.Served.{line_of}
use Rattle.lq_store.specs.Rules.{IsTable}
use Rattle.lq_tree.specs.AllowedCalls.{AddsOwnCalls}
use Rattle.lq_pull.specs.Views.{Sight, row_facts, world_seen}
use Rattle.lq_run.specs.States.{state_with}
use Rattle.lq_run.specs.TreeReply.{tree_data}
use Rattle.lq_run.proofs.CallLemmas.{seen_called}
use Rattle.lq_run.proofs.KnownLaws.{defined_with}
use Rattle.lq_run.proofs.ReplyLemmas.{serves_result}
use Rattle.lq_run.proofs.run.seen_line.Goals as goal

pub returns-clause-served : goal.returns-clause-served
returns-clause-served g c =
    let predicates = g.H.Asks.known c.args.hosts.now in
    let tree = c.args.tree.now in
    serves_result (state_with predicates c.args.state.now) (defined_with predicates c.args.state.now c.requires.known c.view.ensures.defined) tree
    c.tree_line.result
    (subst (λ (s : Sight). IfOk c.tree_line.result (λ line. line ≡ line_of (tree_data cells_of (schemas_of s.tables) (world_seen s predicates) tree)))
    c.view.ensures.value c.tree_line.ensures.line)
    (subst (λ (s : Sight). IfOk c.tree_line.result (λ line. Every IsTable s.tables)) c.view.ensures.value c.tree_line.ensures.rules)

pub returns-clause-calls : goal.returns-clause-calls
returns-clause-calls g c =
    let predicates = g.H.Asks.known c.args.hosts.now in
    let form = c.args.tree.now.form in
    seen_called (state_with predicates c.args.state.now) form c.args.log.now c.tree_line.new.log
    (subst (λ (s : Sight). AddsOwnCalls (world_seen s predicates) row_facts form [] c.args.log.now c.tree_line.new.log) c.view.ensures.value c.tree_line.ensures.calls)
