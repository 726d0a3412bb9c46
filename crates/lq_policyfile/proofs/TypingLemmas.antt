-- What the names of a rule mean.
use Rattle.std.proofs.Common.{◌≡◌, List, ℕ, Option, Some, None, refl}
use Rattle.lq_value.specs.declared.table.Column.{Column}
use Rattle.lq_value.specs.declared.value.Value.TheVariants.{outs-Row, outs-Scalar}
use Rattle.lq_scalar.specs.Referents.{cell_in}
use Rattle.lq_policyfile.specs.TypedNames.{typed_world}

pub ruleset values = (outs-Row, outs-Scalar)

-- no row has a cell
pub no_cell : (columns : List Column) (column : List ℕ) (row : Option (Unit {0})) → cell_in (typed_world columns) column row ≡ None
no_cell columns column None = refl
no_cell columns column (Some row) = refl
