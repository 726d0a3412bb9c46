-- The first items are before the number of those that are left out.
use Rattle.std.proofs.Common.{◌-◌, ◌∙◌, [], ap₂, refl}
use Rattle.lq_render.specs.Parts.{shown_by_columns}
use Rattle.lq_render.proofs.Lists.{first_and_rest}
use Rattle.lq_render.proofs.served.push_first_untyped.Goals as goal

pub returns : goal.returns
returns c =
    first_and_rest c.push_left_out.result _ _ _ [] _ _ (shown_by_columns [] []) _ _
    c.in_ok-push_by_columns.ensures c.first_items-first.ensures
    (c.saturating_sub-left_out.ensures ∙ ap₂ (λ n m. n - m) c.count_of.ensures refl)
    c.push_left_out.ensures
