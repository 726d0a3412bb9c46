-- What a plan says of rows, and what is left of a base once the rows are passed over that the plan drops.
use Rattle.std.specs.Prelude.{◌≡◌, ◌==◌, ◌++◌, if◌then◌else◌, List, ℕ, Bool, true, Option, Some, None, filter, map, reverse, option_and_then, slice_get}
use Rattle.lq_value.specs.declared.scalar.Scalar.{Scalar}
use Rattle.lq_value.specs.declared.value.Value.{Value}
use Rattle.lq_value.specs.declared.value.Value.TheVariants as value
use Rattle.lq_language.specs.Stream.{Stream}
use Rattle.lq_condition.specs.Verdicts.{verdict}
use Rattle.lq_plan.specs.declared.bases.Base.{Base}
use Rattle.lq_plan.specs.declared.bases.Pulled.{Pulled}
use Rattle.lq_plan.specs.declared.bases.Pulled.TheVariants as pulled
use Rattle.lq_plan.specs.declared.plans.Plan.{Plan}

-- whether a row is kept of which this is said
abbrev pub is_kept_by : Option Bool → Bool
is_kept_by (Some b) = b
is_kept_by None = true

-- what is pulled, as a value
abbrev pub pulled_value : {R : Type 0} → Pulled R → Value R
pulled_value (pulled.Row r) = value.Row r
pulled_value (pulled.Item x) = x

module _ {R : Type 0} (table_of : R → ℕ) (shown : R → List Scalar) (plan : Plan) where
  -- whether a row passes the conditions above the plan's table, or nothing
  abbrev pub row_verdict : R → Option Bool
  row_verdict r = if table_of r == plan.table then verdict plan.condition (shown r) else None

  -- the cell that the last lambda gives of a row of the plan's table, where it gives one
  abbrev pub row_cell : R → Option Scalar
  row_cell r = option_and_then (slice_get (shown r)) plan.place

  -- the items that a base has left, but for the rows that don't pass
  abbrev pub kept_stream : {S : Type 0} → Base R S → Stream (Value R)
  kept_stream base =
      (map value.Row (filter (λ r. is_kept_by (row_verdict r)) base.rows) ++ reverse base.items.items, base.end)

  -- a row that is pulled as one is one that passes
  abbrev pub IsPulled : Pulled R → Type 0
  IsPulled (pulled.Row r) = row_verdict r ≡ Some true
  IsPulled (pulled.Item x) = Unit {0}
