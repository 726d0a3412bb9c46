-- The data of the first values are the first data.
use Rattle.std.proofs.Common.{◌∙◌, ap, map, sym}
use Rattle.serde_json.specs.View.{view}
use Rattle.lq_render.proofs.Lists.{shown_first}
use Rattle.lq_render.proofs.items.first_items.Goals as goal

pub returns : goal.returns
returns c = ap (map view) c.front.ensures ∙ sym (shown_first c.args.most c.args.items.now)
