-- What a range of numbers says of the cell that it is about.
use Rattle.std.specs.Prelude.{◌&&◌, if◌then◌else◌, List, Bool, Option, Some, None, int_le, slice_get}
use Rattle.lq_value.specs.declared.scalar.Scalar.{Scalar}
use Rattle.lq_value.specs.declared.scalar.Scalar.TheVariants as scalar
use Rattle.lq_language.specs.Operations.{is_int}
use Rattle.lq_rule.specs.declared.ranges.Range.{Range}

-- whether the int in a cell, if it is there, is in the range
abbrev pub within : Range → Option Scalar → Option Bool
within range (Some (scalar.Int n)) = if is_int n then Some (int_le range.ends.least n && int_le n range.ends.greatest) else None
within range cell = None

abbrev pub range_verdict : Range → List Scalar → Option Bool
range_verdict range cells = within range (slice_get cells range.place)
