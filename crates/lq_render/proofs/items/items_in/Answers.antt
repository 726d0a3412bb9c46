-- The items of an array are the data of its values.
use Rattle.std.proofs.Common.{◌∙◌, Some, ap, map, option_map, sym}
use Rattle.serde_json.specs.View.{view}
use Rattle.lq_render.specs.Parts.{data_list}
use Rattle.lq_render.proofs.Lists.{data_list_view}
use Rattle.lq_render.proofs.items.items_in.Goals as goal

pub returns-in-Some : goal.returns-in-Some
returns-in-Some c =
    ap (λ vs. Some (map view vs)) c.as_slice.ensures.value
    ∙ ap Some (sym (data_list_view c.in-Some.items.now.items))
    ∙ ap (option_map data_list) c.in-Some.ensures
