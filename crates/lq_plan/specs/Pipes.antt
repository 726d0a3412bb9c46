-- The items of a pipe: all of them, and those that are still to come.
use Rattle.lq_value.specs.declared.value.Value.{Value}
use Rattle.lq_language.specs.Stream.{Stream}
use Rattle.lq_language.specs.Worlds.{World}
use Rattle.lq_tree.specs.FormMeaning.{Slots}
use Rattle.lq_plan.specs.declared.bases.Base.{Base}
use Rattle.lq_plan.specs.Pulling.{rest_behind, stream_behind}
use Rattle.lq_plan.specs.declared.pipes.Pipe.{Pipe}

module _ {R : Type 0} (world : World R) (slots : Slots R) (pipe : Pipe) where
  -- all items of a pipe, and how they end
  abbrev pub all_items : Stream (Value R)
  all_items = stream_behind world slots pipe.stage pipe.source.now

  -- those that come of what a base has left
  abbrev pub items_left : {S : Type 0} → Base R S → Stream (Value R)
  items_left base = rest_behind world slots pipe.stage pipe.source.now base
