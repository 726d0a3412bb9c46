use Rattle.std.proofs.Common.{◌≡◌, drop, fold, map}
use Rattle.serde_json.specs.View.{view}
use Rattle.lq_render.specs.Parts.{with_names}
use Rattle.lq_render.proofs.columns.columns_of.Given as goal

-- the names so far, with those of the items to come
abbrev pub invariant-loop-item : goal.invariant-loop-item
invariant-loop-item l = fold with_names l.found.items (map view (drop l.item-index l.items)) ≡ fold with_names l.names (map view l.items)
