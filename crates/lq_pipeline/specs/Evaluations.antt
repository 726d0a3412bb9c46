-- What the run of a tree over the tables that a role sees comes to, with the calls of host predicates that it adds.
use Rattle.std.specs.Prelude.{◌≡◌, List, [], Result, IfOk}
use Rattle.std.specs.declared.alloc.AllocError.{AllocError}
use Rattle.lq_value.specs.declared.value.Fault.{Fault}
use Rattle.lq_value.specs.declared.value.Value.{Value}
use Rattle.lq_host.specs.Predicates.{Predicate}
use Rattle.lq_host.specs.declared.call.Call.{Call}
use Rattle.lq_language.specs.OperandMeaning.{stream_of}
use Rattle.lq_language.specs.Stream.{Stream}
use Rattle.lq_language.specs.TableRows.{TableRow}
use Rattle.lq_tree.specs.AllowedCalls.{AddsOwnCalls}
use Rattle.lq_tree.specs.FormMeaning.{form_meaning}
use Rattle.lq_tree.specs.declared.tree.Form.{Form}
use Rattle.lq_pull.specs.Views.{Sight, row_facts, world_seen}

module _ (s : Sight) (f : Form) (predicates : List Predicate) where
  -- what the form means there
  abbrev pub meaning_seen : Result (Value TableRow) Fault
  meaning_seen = form_meaning (world_seen s predicates) f []

  -- the log has calls more that the form may make
  abbrev pub AddsCallsSeen : List Call → List Call → Type 0
  AddsCallsSeen = AddsOwnCalls (world_seen s predicates) row_facts f []

  -- its value or its fault is found, or memory was refused
  abbrev pub Evaluates : List Call → Result (Result (Value TableRow) Fault) AllocError → List Call → Type 0
  Evaluates old result new = AddsCallsSeen old new × IfOk result (λ found. found ≡ meaning_seen)

  -- and so its items, and how they end
  abbrev pub Enumerates : List Call → Result (Stream (Value TableRow)) AllocError → List Call → Type 0
  Enumerates old result new = AddsCallsSeen old new × IfOk result (λ found. found ≡ stream_of (world_seen s predicates) meaning_seen)
