-- What a pull from the base of a pipe, with nothing in its slots, answers, and which calls it adds.
use Rattle.std.specs.Prelude.{◌≡◌, List, [], ℕ, true, Result}
use Rattle.lq_value.specs.declared.scalar.Scalar.{Scalar}
use Rattle.lq_value.specs.declared.value.End.{End}
use Rattle.lq_value.specs.declared.value.Value.{Value}
use Rattle.lq_host.specs.declared.call.Call.{Call}
use Rattle.lq_language.specs.Worlds.{World}
use Rattle.lq_tree.specs.Watches.{HasGrown, HasPulled, RowFacts, Watch, is_covered}
use Rattle.lq_tree.specs.declared.tree.Form.{Form}
use Rattle.lq_plan.specs.Handing.{handed_out, rows_to_come}
use Rattle.lq_plan.specs.Pipes.{items_left}
use Rattle.lq_plan.specs.PlannedRows.{kept_stream}
use Rattle.lq_plan.specs.Prepared as prepared
use Rattle.lq_plan.specs.Watching.{is_covered_pipe}
use Rattle.lq_plan.specs.declared.bases.Base.{Base}
use Rattle.lq_plan.specs.declared.pipes.Pipe.{Pipe}
use Rattle.lq_pipe.specs.Handing.{HandsAtMost, HandsUpTo}
use Rattle.lq_pipe.specs.Steps.{Steps}

module _ {R : Type 0} (table_of : R → ℕ) (shown : R → List Scalar) (world : World R) (pipe : Pipe) where
  -- what the plan of the pipe says of rows is so
  abbrev pub IsPlanned : Type 0
  IsPlanned = prepared.IsPlanned table_of shown world [] pipe.stage pipe.source.now pipe.plan

  -- the step through the items that are left
  abbrev pub StepsOn : {S : Type 0} → Base R S → Result (Value R) End → Base R S → Type 0
  StepsOn old step new = Steps (items_left world [] pipe old) step (items_left world [] pipe new)

  -- the calls are about rows in items that were taken
  abbrev pub CallsOnTaken : {S : Type 0} → RowFacts R → Base R S → List Call → Base R S → List Call → Type 0
  CallsOnTaken facts old log new more =
      HasPulled world facts (λ w. is_covered_pipe world w [] pipe) (kept_stream table_of shown pipe.plan old).0 log (kept_stream table_of shown pipe.plan new).0 more

  -- and the rows that are handed out
  abbrev pub HandsOn : {S : Type 0} → Base R S → Result (Value R) End → Base R S → Type 0
  HandsOn old step new = HandsUpTo world [] pipe (rows_to_come old) (handed_out old) step (rows_to_come new) (handed_out new)

-- what a form asks where no slot is filled is watched, by each watch that covers the form
abbrev pub AddsCovered : {R : Type 0} → World R → RowFacts R → Form → List Call → List Call → Type 0
AddsCovered {R} world facts f old new =
    (w : Watch R) (start : List Call) → is_covered world w f ≡ true → HasGrown world facts w start old → HasGrown world facts w start new

module _ {R : Type 0} (world : World R) (pipe : Pipe) where
  -- and where a growth is refused, no more than these
  abbrev pub HandsWithin : {S : Type 0} → Base R S → Base R S → Type 0
  HandsWithin old new = HandsAtMost world [] pipe (rows_to_come old) (handed_out old) (rows_to_come new) (handed_out new)
