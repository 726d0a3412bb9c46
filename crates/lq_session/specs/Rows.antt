-- What is answered to rows that are put into a table.
use Rattle.std.specs.Prelude.{◌≡◌, List, ℕ, Bool, true, false, Option, Some, None, Result, Ok, Err}
use Rattle.lq_value.specs.Tables.{Table}
use Rattle.lq_value.specs.declared.scalar.Scalar.{Scalar}
use Rattle.lq_store.specs.declared.error.StoreError.{StoreError}
use Rattle.lq_store.specs.declared.error.StoreError.TheVariants as error
use Rattle.lq_machine.specs.States.{State}
use Rattle.lq_machine.specs.Statements.{row_checked}
use Rattle.lq_security.specs.Visible.{refuser_of}
use Rattle.lq_run.specs.Stops.{Stops}
use Rattle.lq_run.specs.declared.stop.Stop.{Stop}

-- no rule keeps a new row from the role; or the machine answers this, whatever the table is
abbrev pub ChecksRow : State → ℕ → List Scalar → Result (Unit {0}) Stop → Type 0
ChecksRow s n cells (Ok all) = refuser_of s.policies s.role n cells ≡ None
ChecksRow s n cells (Err why) = (table : Table) → Stops s (row_checked s n table cells (refuser_of s.policies s.role n cells)) why

-- what a table answers to a row decides whether it has one cell a column, of its type; whether each number is in its range; and whether the
-- table is full
abbrev pub is_typed : Option StoreError → Bool
is_typed (Some error.Arity) = false
is_typed (Some error.CellType) = false
is_typed verdict = true

abbrev pub is_within : Option StoreError → Bool
is_within (Some error.CellRange) = false
is_within verdict = true

abbrev pub is_full : Option StoreError → Bool
is_full (Some error.Full) = true
is_full verdict = false
