-- What may be read and asked while forms are run: of the forms in a pipe, of what is read of a value, and of items that keys match.
use Rattle.std.specs.Prelude.{◌&&◌, List, ℕ, Bool, true, Option, Some, None}
use Rattle.std.specs.List.{list_all}
use Rattle.std.specs.Borrow.{Bor}
use Rattle.lq_value.specs.declared.scalar.Scalar.{Scalar}
use Rattle.lq_value.specs.declared.value.RowRef as Cells
use Rattle.lq_value.specs.declared.value.Value.{Value}
use Rattle.lq_host.specs.declared.asks.Asks as Hosts
use Rattle.lq_host.specs.declared.call.Call.{Call}
use Rattle.lq_language.specs.Worlds.{World}
use Rattle.lq_tree.specs.Watches.{HasGrown, HasPulled, RowFacts, Watch, has_watched_rows, have_watched_rows, is_covered, is_covered_above}
use Rattle.lq_tree.specs.declared.tree.Form.{Form}
use Rattle.lq_plan.specs.declared.bases.Base.{Base}
use Rattle.lq_plan.specs.PlannedRows.{kept_stream}
use Rattle.lq_plan.specs.Plans as plans
use Rattle.lq_plan.specs.Slots.{values_in}
use Rattle.lq_plan.specs.declared.parts.Part.{Part}
use Rattle.lq_plan.specs.declared.parts.Part.TheVariants as part
use Rattle.lq_plan.specs.declared.pipes.Pipe.{Pipe}
use Rattle.lq_plan.specs.declared.rows.Rows as Readers
use Rattle.lq_plan.specs.declared.slots.Slots.{Slots}
use Rattle.lq_plan.specs.declared.sources.Sources.{Sources}
use Rattle.lq_plan.specs.declared.stages.Stage.{Stage}
use Rattle.lq_plan.specs.declared.stages.Stage.TheVariants as stage
use Rattle.lq_plan.specs.declared.tables.TableRow as Rows

module _ {R : Type 0} where
  -- the rows in the slots pass
  abbrev pub watches : Watch R → Slots R → Bool
  watches w slots = have_watched_rows w (values_in slots)

  -- what is read of a value asks nobody, but for the answer of a host predicate about a row
  abbrev pub covers_part : Watch R → Part → Bool
  covers_part w (part.Host p table columns) = w.host p table columns
  covers_part w other = true

  -- the rows in the items that keys match pass
  abbrev pub matches_pass : Watch R → List (Value R × Value R) → Bool
  matches_pass w pairs = list_all (λ (pair : Value R × Value R). has_watched_rows w pair.1) pairs

-- what rows tell, by three functions of them
abbrev pub facts_of : {R : Type 0} → (R → ℕ) → (R → ℕ) → (R → List Scalar) → RowFacts R
facts_of table number cells = record { table = table; number = number; cells = cells }

module _ {R : Type 0} (world : World R) (w : Watch R) where
  -- the condition or the lambda of a stage is covered, and the element of a group, if there is one
  abbrev pub is_covered_stage : Stage → Bool
  is_covered_stage stage.Plain = true
  is_covered_stage (stage.Where f) = is_covered world w f.now
  is_covered_stage (stage.Select f) = is_covered world w f.now

  abbrev pub is_covered_element : Option (Bor Form) → Bool
  is_covered_element None = true
  is_covered_element (Some body) = is_covered world w body.now

  -- and what the items of a pipe's base go through, in slots whose rows pass
  abbrev pub is_covered_pipe : List (Value R) → Pipe → Bool
  is_covered_pipe slots pipe = is_covered_stage pipe.stage && (is_covered_above world w pipe.source.now && have_watched_rows w slots)

module _ {R S H : Type 0} {t : Rows.Ghosts R} {r : Cells.Ghosts R} {s : Readers.Ghosts S R} {h : Hosts.Ghosts H} (sources : Sources R S H t r s h) where
  -- what rows tell
  abbrev pub facts : RowFacts R
  facts = facts_of t.table_of t.number_of r.shown

  -- the log has grown by watched calls alone
  abbrev pub Grown : Watch R → List Call → List Call → Type 0
  Grown w start log = HasGrown (plans.world sources) facts w start log

  abbrev pub covers : Watch R → Form → Bool
  covers w f = is_covered (plans.world sources) w f

  abbrev pub covers_above : Watch R → Form → Bool
  covers_above w f = is_covered_above (plans.world sources) w f

  abbrev pub covers_stage : Watch R → Stage → Bool
  covers_stage w st = is_covered_stage (plans.world sources) w st

  abbrev pub covers_element : Watch R → Option (Bor Form) → Bool
  covers_element w element = is_covered_element (plans.world sources) w element

  -- a pull from a base by the plan of a pipe, in these slots
  abbrev pub Pulled : Slots R → Pipe → Base R S → List Call → Base R S → List Call → Type 0
  Pulled slots pipe old log new more =
      HasPulled (plans.world sources) facts (λ w. is_covered_pipe (plans.world sources) w (values_in slots) pipe)
      (kept_stream t.table_of r.shown pipe.plan old).0 log (kept_stream t.table_of r.shown pipe.plan new).0 more
