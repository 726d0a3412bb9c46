use Rattle.std.proofs.Common.{◌≡◌, drop}
use Rattle.serde_json.specs.View.{items_view, members_view}
use Rattle.serde_json.specs.Written.{items_have_float, members_have_float}
use Rattle.lq_render.proofs.floats.+floats.Given as goal

-- whether one of those to come has a float tells whether one of all has
abbrev pub invariant-has_float_item-loop-item : goal.invariant-has_float_item-loop-item
invariant-has_float_item-loop-item l = items_have_float (items_view (drop l.item-index l.item-items)) ≡ items_have_float (items_view l.item-items)

abbrev pub invariant-has_float_member-loop-member : goal.invariant-has_float_member-loop-member
invariant-has_float_member-loop-member l = members_have_float (members_view l.member-iterator) ≡ members_have_float (members_view l.members.entries)
