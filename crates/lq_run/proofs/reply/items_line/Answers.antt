-- The items are written until the reply stops, which comes to the reply of all of them.
use Rattle.std.proofs.Common.{[]}
use Rattle.lq_language.specs.OperandMeaning.{stream_of}
use Rattle.lq_machine.specs.States.{cells_of, schemas_of}
use Rattle.lq_tree.specs.FormMeaning.{form_meaning}
use Rattle.lq_pull.specs.Views.{sight_of, world_seen}
use Rattle.lq_json.proofs.PushLaws.{drained_line}
use Rattle.lq_run.proofs.reply.items_line.Goals as goal

pub returns-clause-line : goal.returns-clause-line
returns-clause-line g c =
    let seen = world_seen (sight_of c.args.view.now) (g.H.Asks.known c.args.hosts.now) in
    drained_line cells_of (schemas_of c.args.view.now.store.now) c.args.item.now (stream_of seen (form_meaning seen c.args.tree.now.form []))
    c.in_ok-end.end c.new-items.result c.drain_seen.new.sink c.in_ok-line.line
    (record { holds = c.new-items.ensures.none; goes_on = c.new-items.ensures.open; of = c.new-items.ensures.of })
    c.in_ok-end.ensures.meant c.in_ok-line.ensures.whole c.in_ok-line.ensures.line
