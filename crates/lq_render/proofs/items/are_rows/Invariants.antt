use Rattle.std.proofs.Common.{◌≡◌, drop, map}
use Rattle.std.specs.List.{list_all}
use Rattle.serde_json.specs.View.{view}
use Rattle.lq_render.specs.Parts.{is_row}
use Rattle.lq_render.proofs.items.are_rows.Given as goal

-- whether those to come are rows tells whether all are
abbrev pub invariant-loop-item : goal.invariant-loop-item
invariant-loop-item l = list_all is_row (map view (drop l.item-index l.items)) ≡ list_all is_row (map view l.items)
