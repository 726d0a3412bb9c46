use Rattle.std.proofs.Common.{◌≡◌, ◌++◌, ◌-◌, ◌∙◌, List, ℕ, OnOk, ap₂, map, refl, string_bytes, subst, sym}
use Rattle.lq_machine.specs.States.{schemas_of}
use Rattle.lq_render.specs.Layouts.{shown_by_type}
use Rattle.serde_json.specs.View.{view}
use Rattle.lq_render.proofs.Lists.{first_and_rest}
use Rattle.lq_render.proofs.ShownTypes.{plain_out, plain_shown}
use Rattle.lq_render.proofs.nested.+nested.Goals as goal

-- The first items are before the number of those that are left out.
pub push_first-returns : goal.push_first-returns
push_first-returns t c =
    first_and_rest c.push_left_out.result _ _ _ c.args.indent.now _ _
    (shown_by_type (schemas_of c.args.layout.now.store.now) c.args.layout.now.most_rows c.args.ty.now c.args.indent.now) _ _
    c.in_ok-push_shown.ensures c.first_items-first.ensures
    (c.saturating_sub-left_out.ensures ∙ ap₂ (λ n m. n - m) c.count_of.ensures refl)
    c.push_left_out.ensures

-- Items of another type than a sequence or a group are shown by the members of the type.
pub push_shown-returns-in-Int : goal.push_shown-returns-in-Int
push_shown-returns-in-Int t c =
    let schemas = schemas_of c.args.layout.now.store.now in
    subst (λ (text : List ℕ). OnOk c.push_plain.result (string_bytes c.push_plain.new.out ≡ string_bytes c.args.out.now ++ text))
    (sym (plain_shown schemas c.args.layout.now.most_rows c.args.ty.now c.args.indent.now (map view c.args.items.now) (plain_out c.args.ty.now c.in-Int.is)))
    c.push_plain.ensures
