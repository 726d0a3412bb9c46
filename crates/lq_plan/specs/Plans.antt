-- The world of the tables and host predicates that forms are run over, and what is prepared of forms in this world.
use Rattle.std.specs.Prelude.{◌∷◌, ◌++◌, [], ℕ}
use Rattle.lq_value.specs.declared.scalar.Scalar.{Scalar}
use Rattle.lq_value.specs.declared.value.RowRef as Cells
use Rattle.lq_value.specs.declared.value.Value.{Value}
use Rattle.lq_host.specs.declared.asks.Asks as Hosts
use Rattle.lq_language.specs.Worlds.{World}
use Rattle.lq_condition.specs.declared.condition.Condition.{Condition}
use Rattle.lq_tree.specs.declared.tree.Form.{Form}
use Rattle.lq_plan.specs.Prepared as prepared
use Rattle.lq_plan.specs.Slots.{values_in}
use Rattle.lq_plan.specs.Worlds.{world_of}
use Rattle.lq_plan.specs.declared.lambdas.Lambda.{Lambda}
use Rattle.lq_plan.specs.declared.pipes.Pipe.{Pipe}
use Rattle.lq_plan.specs.declared.plans.Plan.{Plan}
use Rattle.lq_plan.specs.declared.rows.Rows as Readers
use Rattle.lq_plan.specs.declared.sources.Sources.{Sources}
use Rattle.lq_plan.specs.declared.slots.Slots.{Slots}
use Rattle.lq_plan.specs.declared.stages.Stage.{Stage}
use Rattle.lq_plan.specs.declared.tables.TableRow as Rows

module _ {R S H : Type 0} {t : Rows.Ghosts R} {r : Cells.Ghosts R} {s : Readers.Ghosts S R} {h : Hosts.Ghosts H} (sources : Sources R S H t r s h) where
  -- the world of the tables that are read, and of the predicates that are asked
  abbrev pub world : World R
  world = world_of t.table_of r.shown s.left (h.known sources.hosts.now) sources.tables.now

  -- what a plan says of a row of its table is what a condition means there, where the row stands in the first slot
  abbrev pub PlansRows : Form → Plan → Type 0
  PlansRows condition p = prepared.Decides t.table_of r.shown world [] p.table condition p.condition

  module _ (slots : Slots R) where
    -- on each row of a table a form is the cell at this place, if there is one
    abbrev pub IsCell : ℕ → Form → ℕ → Type 0
    IsCell = prepared.IsCell t.table_of r.shown world (values_in slots)

    -- whatever stands in the next slot, a form is that itself
    abbrev pub IsItem : Form → Type 0
    IsItem = prepared.IsItem world (values_in slots)

    -- where a lambda is known to give a cell of rows, it gives that cell, and where it is known to give the item itself, it gives that
    abbrev pub GivesCell : Lambda → Type 0
    GivesCell = prepared.GivesCell t.table_of r.shown world (values_in slots)

    -- the same where one slot more is filled before the next one, whatever stands in it
    abbrev pub GivesCellBehind : Lambda → Type 0
    GivesCellBehind lambda = (v : Value R) → prepared.GivesCell t.table_of r.shown world (values_in slots ++ v ∷ []) lambda

    -- whatever stands in the next slot, a form is this scalar
    abbrev pub IsConstant : Form → Scalar → Type 0
    IsConstant = prepared.IsConstant t.table_of r.shown world (values_in slots)

    -- what a condition says of a row of a table is what a form means there
    abbrev pub Decides : ℕ → Form → Condition → Type 0
    Decides = prepared.Decides t.table_of r.shown world (values_in slots)

    -- it is whether the row passes the conditions of a source above the table
    abbrev pub DecidesPassing : ℕ → Form → Condition → Type 0
    DecidesPassing = prepared.DecidesPassing t.table_of r.shown world (values_in slots)

    -- and those of the stage after the source
    abbrev pub DecidesStage : Stage → Form → ℕ → Condition → Type 0
    DecidesStage = prepared.DecidesStage t.table_of r.shown world (values_in slots)

    -- a stage is a lambda that gives the cell at this place of each row of the table
    abbrev pub SelectsCell : Stage → ℕ → ℕ → Type 0
    SelectsCell = prepared.SelectsCell t.table_of r.shown world (values_in slots)

    -- a stage is a lambda that gives the item itself
    abbrev pub SelectsItem : Stage → Type 0
    SelectsItem = prepared.SelectsItem world (values_in slots)

    -- what a plan says of rows is so: whether they pass, and which cell the stage gives of them, or that it gives the row itself
    abbrev pub IsPlan : Stage → Form → Plan → Type 0
    IsPlan = prepared.IsPlanned t.table_of r.shown world (values_in slots)

    abbrev pub IsPlanned : Pipe → Type 0
    IsPlanned pipe = IsPlan pipe.stage pipe.source.now pipe.plan
