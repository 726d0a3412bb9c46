-- What is read of the rows of a base: which are handed out, how they are counted, which calls are added, and what part they are of what is needed.
use Rattle.std.specs.Prelude.{◌≡◌, ◌∷◌, ◌++◌, ◌&&◌, List, [], ℕ, Bool, true, false, Result, Ok, Err}
use Rattle.std.specs.List.{list_all}
use Rattle.std.specs.declared.alloc.AllocError.{AllocError}
use Rattle.lq_value.specs.declared.value.End.{End}
use Rattle.lq_value.specs.declared.value.Value.{Value}
use Rattle.lq_host.specs.declared.call.Call.{Call}
use Rattle.lq_language.specs.Stream.{Stream}
use Rattle.lq_language.specs.Worlds.{World}
use Rattle.lq_tree.specs.Watches.{HasGrown, RowFacts, Watch, is_covered, is_covered_above}
use Rattle.lq_tree.specs.declared.tree.Form.{Form}
use Rattle.lq_guard.specs.Handing.{counted}
use Rattle.lq_plan.specs.Watching.{is_covered_pipe}
use Rattle.lq_plan.specs.declared.pipes.Pipe.{Pipe}
use Rattle.lq_pipeline.specs.Settling.{needed}

module _ {R : Type 0} (world : World R) (facts : RowFacts R) (test : Watch R → Bool) where
  -- Rows were handed out from the front, and counted. The log has grown by watched calls alone for each watch that passes the test and these rows.
  pub record Handed (rows : List R) (n : ℕ) (log : List Call) (left : List R) (m : ℕ) (more : List Call) : Type 0 where
    pub front : List R
    pub is : rows ≡ front ++ left
    pub count : m ≡ counted n front
    pub grows : (w : Watch R) (start : List Call) → test w ≡ true → list_all w.row front ≡ true → HasGrown world facts w start log
        → HasGrown world facts w start more

module _ {R : Type 0} (come : R → Stream (Value R)) where
  -- whether the rows that were handed out are what was needed for one item; and all of it at the end, and a part where a growth was refused
  abbrev pub AreNeededFor : (List (Value R) → Bool) → List R → List R → Result (Result (Value R) End) AllocError → List R → Type 0
  AreNeededFor decide rows front (Ok (Ok x)) left = needed come decide rows ≡ front ++ needed come (λ xs. decide (x ∷ xs)) left
  AreNeededFor decide rows front (Ok (Err e)) left = needed come decide rows ≡ front
  AreNeededFor decide rows front (Err e) left = (others : List R) × (needed come decide rows ≡ front ++ others)

  -- the rows that were handed out are what was needed for a decision, or a part of it where a growth was refused
  abbrev pub AreNeeded : {A : Type 0} → (List (Value R) → Bool) → List R → List R → Result A AllocError → Type 0
  AreNeeded decide rows front (Ok a) = needed come decide rows ≡ front
  AreNeeded decide rows front (Err e) = (others : List R) × (needed come decide rows ≡ front ++ others)

module _ {R : Type 0} (world : World R) (facts : RowFacts R) (test : Watch R → Bool) (come : R → Stream (Value R)) where
  -- a pull hands out what is needed for its item, whatever is decided by the items
  abbrev pub Takes : List R → ℕ → List Call → Result (Result (Value R) End) AllocError → List R → ℕ → List Call → Type 0
  Takes rows n log result left m more =
      (handed : Handed world facts test rows n log left m more) × ((decide : List (Value R) → Bool) → decide [] ≡ false → AreNeededFor come decide rows handed.front result left)

  -- a reading hands out what is needed for its decision
  abbrev pub Reads : {A : Type 0} → (List (Value R) → Bool) → List R → ℕ → List Call → Result A AllocError → List R → ℕ → List Call → Type 0
  Reads decide rows n log result left m more = (handed : Handed world facts test rows n log left m more) × AreNeeded come decide rows handed.front result

-- what the rows of a base go through in a pipe is covered
abbrev pub covered_by : {R : Type 0} → World R → Pipe → Watch R → Bool
covered_by world pipe w = is_covered_pipe world w [] pipe

module _ {R : Type 0} (world : World R) where
  -- what they go through in a chain is covered, and with it a condition
  abbrev pub covers_chain : Form → Watch R → Bool
  covers_chain chain w = is_covered_above world w chain

  abbrev pub covers_all : Form → Form → Watch R → Bool
  covers_all chain condition w = is_covered_above world w chain && is_covered world w condition
