-- The first items of an order, as the items that are ordered are pulled; and how many items of a source are read for those of a stage.
use Rattle.std.specs.Prelude.{◌≡◌, List, [], map, ℕ, Bool, Option, Some, None}
use Rattle.lq_value.specs.declared.value.End.{End}
use Rattle.lq_value.specs.declared.value.End.TheVariants as end
use Rattle.lq_value.specs.declared.value.RowRef as Cells
use Rattle.lq_value.specs.declared.value.Value.{Value}
use Rattle.lq_host.specs.declared.asks.Asks as Hosts
use Rattle.lq_language.specs.Arrangement.{Keyed}
use Rattle.lq_language.specs.Stream.{Stream, then_ending, then_stream}
use Rattle.lq_language.specs.Worlds.{World}
use Rattle.lq_operators.specs.Leading.{HasLeading}
use Rattle.lq_operators.specs.declared.leading.Leading.{Leading}
use Rattle.lq_tree.specs.FormMeaning as tree
use Rattle.lq_tree.specs.declared.tree.Form.{Form}
use Rattle.lq_plan.specs.Leading as plans
use Rattle.lq_plan.specs.declared.lambdas.Lambda.{Lambda}
use Rattle.lq_plan.specs.declared.rows.Rows as Readers
use Rattle.lq_plan.specs.declared.slots.Slots.{Slots}
use Rattle.lq_plan.specs.declared.stages.Stage.{Stage}
use Rattle.lq_plan.specs.declared.stages.Stage.TheVariants as stage
use Rattle.lq_plan.specs.declared.tables.TableRow as Rows
use Rattle.lq_pipe.specs.declared.running.Running.{Running}

-- As many items of the source are read as are read behind the stage; all of them, where a condition may drop some.
abbrev pub limit_below : Stage → Option ℕ → Option ℕ
limit_below stage.Plain limit = limit
limit_below (stage.Where f) limit = None
limit_below (stage.Select f) limit = limit

module _ {R : Type 0} (world : World R) (slots : tree.Slots R) (keys : List Form) where
  -- Of all items these are left, and the first ones are those of the items before, each of which has its keys.
  pub record Leads (directions : List Bool) (wanted : ℕ) (leading : Leading (Value R)) (left all : Stream (Value R)) : Type 0 where
    pub rows : List (Keyed (Value R))
    pub have : plans.HaveKeys world slots keys rows
    pub are : HasLeading directions wanted rows leading
    pub goes : then_ending (map (λ row. row.1) rows) end.Done left ≡ all

  -- With what came of an item the first ones go on, or it is a fault that ends them; where it is none, nothing is said.
  abbrev pub LeadsOn : Leading (Value R) → Stream (Value R) → Option End → Leading (Value R) → Type 0
  LeadsOn old made (Some end.Done) new =
      (directions : List Bool) (wanted : ℕ) (left all : Stream (Value R)) → Leads directions wanted old (then_stream made left) all
      → Leads directions wanted new left all
  LeadsOn old made (Some (end.Fault f)) new =
      (directions : List Bool) (wanted : ℕ) (left all : Stream (Value R)) → Leads directions wanted old (then_stream made left) all
      → Leads directions wanted new ([], end.Fault f) all
  LeadsOn old made None new = Unit {0}

module _ {R S H : Type 0} {t : Rows.Ghosts R} {r : Cells.Ghosts R} {s : Readers.Ghosts S R} {h : Hosts.Ghosts H} (run : Running R S H t r s h) where
  -- where lambdas are known to give cells of rows in the next slot, they give these
  abbrev pub GiveCells : Slots R → List Lambda → Type 0
  GiveCells = plans.GiveCells run.sources
