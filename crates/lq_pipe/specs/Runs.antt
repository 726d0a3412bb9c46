-- What a run is over: the world of its tables and host predicates, and what is planned for rows in this world.
use Rattle.std.specs.Prelude.{List, Bool, Option}
use Rattle.std.specs.Borrow.{Bor}
use Rattle.lq_value.specs.declared.value.RowRef as Cells
use Rattle.lq_host.specs.declared.asks.Asks as Hosts
use Rattle.lq_host.specs.declared.call.Call.{Call}
use Rattle.lq_language.specs.Worlds.{World}
use Rattle.lq_tree.specs.Watches.{Watch}
use Rattle.lq_tree.specs.declared.tree.Form.{Form}
use Rattle.lq_plan.specs.declared.bases.Base.{Base}
use Rattle.lq_plan.specs.declared.lambdas.Lambda.{Lambda}
use Rattle.lq_plan.specs.Plans as plans
use Rattle.lq_plan.specs.Watching as watching
use Rattle.lq_plan.specs.declared.pipes.Pipe.{Pipe}
use Rattle.lq_plan.specs.declared.plans.Plan.{Plan}
use Rattle.lq_plan.specs.declared.rows.Rows as Readers
use Rattle.lq_plan.specs.declared.slots.Slots.{Slots}
use Rattle.lq_plan.specs.declared.stages.Stage.{Stage}
use Rattle.lq_plan.specs.declared.tables.TableRow as Rows
use Rattle.lq_pipe.specs.declared.running.Running.{Running}

module _ {R S H : Type 0} {t : Rows.Ghosts R} {r : Cells.Ghosts R} {s : Readers.Ghosts S R} {h : Hosts.Ghosts H} (run : Running R S H t r s h) where
  -- the world of the tables that are read, and of the predicates that are asked
  abbrev pub world : World R
  world = plans.world run.sources

  -- what the plan of a pipe says of rows is so where these slots are filled
  abbrev pub IsPlanned : Slots R → Pipe → Type 0
  IsPlanned = plans.IsPlanned run.sources

  -- a cell that a lambda is known to give of rows of a table in the next slot is what it gives of them
  abbrev pub GivesCell : Slots R → Lambda → Type 0
  GivesCell = plans.GivesCell run.sources

  -- the same of a lambda with one slot more before the next one, whatever stands in it
  abbrev pub GivesCellBehind : Slots R → Lambda → Type 0
  GivesCellBehind = plans.GivesCellBehind run.sources

  -- what a plan says of rows in the first slot is what a condition means there
  abbrev pub PlansRows : Form → Plan → Type 0
  PlansRows = plans.PlansRows run.sources

  -- the log has grown by watched calls alone, and a pull has taken items from the front for which it has
  abbrev pub Grown : Watch R → List Call → List Call → Type 0
  Grown = watching.Grown run.sources

  abbrev pub HasTaken : Slots R → Pipe → Base R S → List Call → Base R S → List Call → Type 0
  HasTaken = watching.Pulled run.sources

  -- a watch covers a form, what stands above its base, and a stage
  abbrev pub covers : Watch R → Form → Bool
  covers = watching.covers run.sources

  abbrev pub covers_above : Watch R → Form → Bool
  covers_above = watching.covers_above run.sources

  abbrev pub covers_stage : Watch R → Stage → Bool
  covers_stage = watching.covers_stage run.sources
