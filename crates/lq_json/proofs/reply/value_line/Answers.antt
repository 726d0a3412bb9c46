-- A value without a fault is written by the shape of its type.
use Rattle.std.proofs.Common.{◌≡◌, ◌∙◌, List, ℕ, IfOk, ap, codes, subst, sym}
use Rattle.serde_json.specs.Data.{no_members, object, put}
use Rattle.lq_machine.specs.States.{schemas_of}
use Rattle.lq_machine.specs.Served.{line_of}
use Rattle.lq_json.specs.Shapes.{data_by}
use Rattle.lq_json.specs.declared.shape.Shape.{Shape}
use Rattle.lq_json.proofs.ShapeLemmas.{value_made}
use Rattle.lq_json.proofs.reply.value_line.Goals as goal

pub returns : goal.returns
returns g c =
    subst (λ (x : List ℕ). IfOk c.shaped_value_line.result (λ line. line ≡ x))
    (ap (λ (shape : Shape). line_of (object (put (codes "value") (data_by g.R.RowRef.shown shape c.args.value.now) no_members))) c.in_ok-shape.ensures
    ∙ ap line_of (value_made (schemas_of c.args.store.now) g.R.RowRef.shown c.args.ty.now c.args.value.now (sym c.nested_fault.ensures ∙ c.in_default.is)))
    c.shaped_value_line.ensures
