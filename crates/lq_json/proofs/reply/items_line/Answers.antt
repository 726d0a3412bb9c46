-- Items are written by the shape of their type.
use Rattle.std.proofs.Common.{◌≡◌, ◌∙◌, List, ℕ, IfOk, ap, subst}
use Rattle.lq_machine.specs.States.{schemas_of}
use Rattle.lq_machine.specs.Served.{line_of}
use Rattle.lq_json.specs.Replies.{served_by, stream_reply}
use Rattle.lq_json.proofs.ShapeLemmas.{stream_made}
use Rattle.lq_json.proofs.reply.items_line.Goals as goal

pub returns : goal.returns
returns g c =
    subst (λ (x : List ℕ). IfOk c.shaped_items_line.result (λ line. line ≡ x))
    (ap (λ shape. line_of (stream_reply (served_by g.R.RowRef.shown shape (c.args.items.now, c.args.end)))) c.in_ok-shape.ensures
    ∙ ap line_of (stream_made (schemas_of c.args.store.now) g.R.RowRef.shown c.args.ty.now (c.args.items.now, c.args.end)))
    c.shaped_items_line.ensures
